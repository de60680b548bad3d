-- Lemmas on masks of images: the mask of a report, and facts about members.
use Rattle.std.proofs.Common.{◌≡◌, ◌≢◌, ℕ, zero, suc, ◌+◌, ◌<◌, ◌≤◌, Bool, true, false, Option, Some, None, List, length, map, take, take_all, option_map, unwrap_or, sym, ◌∙◌, ap, subst, refl, arith, slice_get, get_or, ⊎_elim}
use Rattle.std.specs.Option.{option_map_or}
use Rattle.std.proofs.lemmas.Bool.{cases_eq, cases_lt}
use Rattle.std.proofs.lemmas.Option.{slice_get-map, unwrap_or-slice_get}
use Rattle.common.specs.Masks.{is_member}
use Rattle.reports.specs.declared.report.Report.{Report}
use Rattle.reports.specs.declared.report.ReportedImage.{ReportedImage}
use Rattle.reports.specs.Rightness.{taken_in}
use Rattle.flash_model.specs.Chip.{Chip}
use Rattle.sector_map.specs.declared.layout.SectorMap.{SectorMap}
use Rattle.trailer.specs.Standing.{standing_of}
use Rattle.swap_scratch.specs.Swap.{share, sum_over}
use Rattle.common.specs.declared.kind.Kind.TheVariants.{Permanent}
use Rattle.machine.specs.Device.{DeviceState, Wanted}
use Rattle.upload.specs.View.{view}
use Rattle.machine.specs.Boots.{AsksForGood}
use Rattle.flash_contents.specs.Reading.{IsAsking}
use Rattle.flash_contents.specs.Wear.{IsSetIn}

-- The numbers of the images up to one of a map are no more than those of all its images.
pub sum_before : (mask : ℕ) (f : ℕ → ℕ) (n m : ℕ) → n < m → sum_over mask f n + share mask f n ≤ sum_over mask f m
unfolding sum_over
sum_before mask f n zero lt = absurd (omega arith)
sum_before mask f n (suc m) lt = ⊎_elim
    (λ (below : n < m). let before = sum_before mask f n m below in omega (arith, before))
    (λ (last : m ≤ n).
    let is : n ≡ m = omega (arith, lt, last) in
    subst (λ k. sum_over mask f n + share mask f n ≤ sum_over mask f k + share mask f k) is (omega arith))
    (cases_lt n m)

-- A mask that has the images of a report is its set.
pub set_found : (mask given : ℕ) (report : Report) → given ≡ mask
    → ((i : ℕ) → is_member given i ≡ taken_in report i) → IsSetIn mask report
set_found mask given report same each = record { each = λ i. ap (λ m. is_member m i) (sym same) ∙ each i }

-- A fact about the members below n extends to n + 1.
pub members_more : (P : ℕ → Type 0) (mask n : ℕ) → ((i : ℕ) → i < n → is_member mask i ≡ true → P i)
    → (is_member mask n ≡ true → P n) → (i : ℕ) → i < n + 1 → is_member mask i ≡ true → P i
members_more P mask n before here i lt member = ⊎_elim
    (λ (is : i ≡ n). subst P (sym is) (here (subst (λ j. is_member mask j ≡ true) is member)))
    (λ (other : i ≢ n). before i (omega arith) member)
    (cases_eq i n)

-- If each image of a set asks to be permanent, the pending request of each is permanent.
pub asked_for_good : (map : SectorMap) (chip : Chip) (s : DeviceState) (mask i : ℕ) → i < map.images
    → is_member mask i ≡ true → IsAsking (view map chip) s mask → AsksForGood s mask
    → standing_of map chip i ≡ Some Permanent
asked_for_good map chip s mask i there member asking good =
    let lt : i < s.images = subst (λ n. i < n) asking.images there in
    let wanted = asking.wanted i member in
    (asking.at i member lt).request.kind ∙ ap (option_map (λ (w : Wanted). w.kind)) wanted.1
    ∙ ap (λ kind. Some kind) (good.each i wanted.0 lt member wanted.1)
