-- Lemmas for the wear of a swap that begins, by the sizes in the trailers of its set.
use Rattle.std.proofs.Common.{◌≡◌, ◌≢◌, ℕ, zero, suc, ◌+◌, ◌*◌, ◌<◌, ◌≤◌, Bool, List, max, true, false, Some}
use Rattle.std.proofs.Common.{◌==◌, arith, if◌then◌else◌, refl, sym, ◌∙◌, ap, subst}
use Rattle.std.proofs.lemmas.Bool.Decides.{nat_tests}
use Rattle.flash_model.specs.Chip.{Chip}
use Rattle.sector_map.specs.declared.layout.SectorMap.{SectorMap}
use Rattle.sector_map.specs.declared.layout.Side.{Side}
use Rattle.sector_map.specs.Part.{Log, only, trailers_on}
use Rattle.common.specs.Masks.{is_member}
use Rattle.sector_map.specs.Map.{Keeps, slot_sectors}
use Rattle.trailer.specs.Fields.{Fields}
use Rattle.image_reading.specs.declared.desc.Desc.{Desc}
use Rattle.image_reading.specs.Image.{BeginsIntact}
use Rattle.swap_scratch.specs.Used.{sectors_for, used_of}
use Rattle.swap_scratch.specs.Swap.{share, steps_in_all, sum_over}
use Rattle.upload.specs.View.{View, view}
use Rattle.upload.proofs.Views.{view_kept}
use Rattle.flash_contents.specs.Wear.{members, IsResumed}
use Rattle.machine.specs.declared.reply.Reply.{Reply}
use Rattle.boot_core.specs.SwapSize.{IsReady, IsSwapSize, IsUsed}
use Rattle.boot_core.specs.Wear.{AreMeasured, IsAfresh, IsFreshWear, sectors_moved, IsSetMoved}
use Rattle.boot_core.proofs.SwapSizes.{moves_kept}

-- ---- there is one size

-- One number of bytes of a slot is used. If there were two, the slot would begin with no image, and
-- all of it would be used.
used_cases : (slot : List ℕ) (n m : ℕ) → IsUsed slot n → IsUsed slot m → (same : Bool) → (n == m) ≡ same → n ≡ m
used_cases slot n m one other true is = grind (arith, nat_tests, is)
used_cases slot n m one other false is =
    let apart : n ≢ m = grind (arith, nat_tests, is) in
    let none : (d : Desc) → BeginsIntact slot d → ⊥ =
    λ d begins. apart (one.intact d begins ∙ sym (other.intact d begins)) in
    absurd (apart (one.damaged none ∙ sym (other.damaged none)))

used_once : (slot : List ℕ) (n m : ℕ) → IsUsed slot n → IsUsed slot m → n ≡ m
used_once slot n m one other = used_cases slot n m one other (n == m) refl

size_once : (w : View) (i n m : ℕ) → IsSwapSize w i n → IsSwapSize w i m → n ≡ m
size_once w i n m one other =
    let first : one.primary ≡ other.primary =
    used_once _ one.primary other.primary one.of_primary other.of_primary in
    let second : one.secondary ≡ other.secondary =
    used_once _ one.secondary other.secondary one.of_secondary other.of_secondary in
    one.larger ∙ ap (λ k. max k one.secondary) first ∙ ap (λ k. max other.primary k) second ∙ sym other.larger

-- ---- the trailers of a set say it

pub measured : (map : SectorMap) (old mid new : Chip) (side : Side) (mask : ℕ)
    → Keeps map (trailers_on mask side) old mid
    → ((i : ℕ) → i < map.images → is_member mask i ≡ true → IsReady (view map mid) side i)
    → Keeps map (only Log) mid new → AreMeasured (view map old) (view map new) side mask
measured map old mid new side mask prepares ready records = λ i lt member.
    let here : IsReady (view map mid) side i = ready i lt member in
    let same : (view map new).trailer i side ≡ (view map mid).trailer i side =
    (view_kept map _ _ _ records).trailers i side refl in (
      here.size,
      ap (λ (t : Fields). t.size) same ∙ here.written,
      moves_kept (view map mid) (view map old) i here.size
          (λ on. sym ((view_kept map _ _ _ prepares).slots i on refl)) here.moves,
    )

-- ---- a swap has three steps for each sector that it moves

share_same : (member : Bool) (a b : ℕ) → (member ≡ true → a ≡ b)
    → (if member then 3 * a else 0) ≤ 3 * (if member then b else 0)
share_same true a b same = let is : a ≡ b = same refl in omega arith
share_same false a b same = omega arith

steps_sum : (mask : ℕ) (f g : ℕ → ℕ) (n : ℕ) → ((i : ℕ) → i < n → is_member mask i ≡ true → f i ≡ g i)
    → sum_over mask (λ i. 3 * f i) n ≤ 3 * sum_over mask g n
unfolding sum_over
steps_sum mask f g zero same = omega arith
steps_sum mask f g (suc n) same =
    let before : sum_over mask (λ i. 3 * f i) n ≤ 3 * sum_over mask g n =
    steps_sum mask f g n (λ i lt member. same i (omega arith) member) in
    let here : share mask (λ i. 3 * f i) n ≤ 3 * share mask g n =
    share_same (is_member mask n) (f n) (g n) (λ member. same n (omega arith) member) in
    omega arith

used_moved : (map : SectorMap) (old new : Chip) (side : Side) (i size n : ℕ)
    → ((view map new).trailer i side).size ≡ Some size → IsSwapSize (view map old) i size
    → IsSwapSize (view map old) i n
    → used_of map new side i ≡ sectors_for (slot_sectors map i) map.sector_size (Some n)
unfolding used_of
used_moved map old new side i size n written moves is =
    ap (λ given. sectors_for (slot_sectors map i) map.sector_size given)
    (written ∙ ap (λ k. Some k) (size_once (view map old) i size n moves is))

moved_steps : (map : SectorMap) (old new : Chip) (side : Side) (mask : ℕ) (sizes : ℕ → ℕ)
    → AreMeasured (view map old) (view map new) side mask
    → ((i : ℕ) → is_member mask i ≡ true → IsSwapSize (view map old) i (sizes i))
    → steps_in_all map new side mask ≤ 3 * sum_over mask (sectors_moved map sizes) map.images
moved_steps map old new side mask sizes says moves =
    steps_sum mask (used_of map new side) (sectors_moved map sizes) map.images (λ i lt member.
    let at = says i lt member in
    used_moved map old new side i at.0 (sizes i) at.1 at.2 (moves i member))

-- ---- the wear of a swap that is begun

-- The trailers are prepared, the swap is recorded, and then carried out.
pub fresh_wear : (map : SectorMap) (old first mid new : Chip) (side : Side) (mask : ℕ) → first ≡ old
    → mid.erases ≤ first.erases + members map mask + 1
    → AreMeasured (view map first) (view map mid) side mask → IsResumed map mid new side mask
    → IsFreshWear map old new mask 3
fresh_wear map old first mid new side mask same begun says carried =
    subst (λ chip. IsFreshWear map chip new mask 3) same (λ sizes moves.
    let few : steps_in_all map mid side mask ≤ 3 * sum_over mask (sectors_moved map sizes) map.images =
    moved_steps map first mid side mask sizes says moves in
    omega arith)

pub fresh_of : (map : SectorMap) (old new : Chip) (mask : ℕ) (reply : Reply)
    → IsSetMoved mask reply → IsFreshWear map old new mask 3 → IsAfresh map old new 3 reply
fresh_of map old new mask reply is wear = (mask, is, wear)

pub fresh_more : (map : SectorMap) (old new : Chip) (mask : ℕ) (reply : Reply)
    → IsSetMoved mask reply → IsFreshWear map old new mask 3 → IsAfresh map old new 4 reply
fresh_more map old new mask reply is wear = (mask, is, λ sizes moves. let few = wear sizes moves in omega arith)

pub fresh_same : (map : SectorMap) (old first new : Chip) (more : ℕ) (reply : Reply) → first ≡ old
    → IsAfresh map first new more reply → IsAfresh map old new more reply
fresh_same map old first new more reply same wear = subst (λ chip. IsAfresh map chip new more reply) same wear

-- Nothing was erased.
pub fresh_none : (map : SectorMap) (old new : Chip) (mask : ℕ) (reply : Reply) → new ≡ old
    → IsSetMoved mask reply → IsAfresh map old new 3 reply
fresh_none map old new mask reply same is = (
  mask,
  is,
  λ sizes moves. let erases : new.erases ≡ old.erases = ap (λ (chip : Chip). chip.erases) same in omega arith,
)

-- A record is written first. It moves no image.
pub fresh_after : (map : SectorMap) (old first mid new : Chip) (reply : Reply) → first ≡ old
    → mid.erases ≤ first.erases + 1 → Keeps map (only Log) first mid → IsAfresh map mid new 3 reply
    → IsAfresh map old new 4 reply
fresh_after map old first mid new reply same one keeps (mask, is, wear) = (
  mask,
  is,
  subst (λ chip. IsFreshWear map chip new mask 4) same (λ sizes moves.
      let few = wear sizes (λ i member. moves_kept (view map first) (view map mid) i (sizes i)
      (λ on. (view_kept map _ _ _ keeps).slots i on refl) (moves i member)) in
      omega arith),
)
