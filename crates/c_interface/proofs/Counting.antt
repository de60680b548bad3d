-- Laws of the number of writes that a call makes, and of whether one of them was to be cut.
use Rattle.std.proofs.Common.{◌≡◌, ◌<◌, ◌≤◌, ◌+◌, ℕ, List, [], Result, Ok, Err, length, map, take, get_or, sym, ◌∙◌, ap, subst, arith}
use Rattle.std.proofs.lemmas.List.{ext_get_or, get_or-take, length-map, length-take-le, take-map}
use Rattle.std.proofs.lemmas.Option.{get_or_from_slice_get, slice_get-get_or, slice_get-map}
use Rattle.std.specs.Prelude.{option_map}
use Rattle.flash_model.specs.Chip.{Chip, Fixed, reached}
use Rattle.flash_model.specs.Memory.{new_chip}
use Rattle.flash_model.specs.declared.error.FlashError.TheVariants as flash
use Rattle.sector_map.specs.declared.layout.SectorMap.{SectorMap}
use Rattle.manifest.specs.declared.identity.Identity.{Identity}
use Rattle.flash_contents.specs.Holding.{DeviceView}
use Rattle.machine.specs.Steps.{cut_of}
use Rattle.machine.specs.declared.error.Fault.{Fault}
use Rattle.machine.specs.declared.error.Fault.TheVariants as no
use Rattle.machine.specs.declared.reply.Reply.{Reply}
use Rattle.boot_core.specs.Answers.{reply_of_result}
use Rattle.boot_core.specs.Provisions.{Provisions}
use Rattle.slice_flash.specs.Rows.{numbers_in}
use Rattle.slice_flash.specs.declared.table.ArmedCut.{ArmedCut}
use Rattle.c_interface.specs.DeviceCall.{DeviceCall, Accept, Piece, Finish, Withdraw, Confirm, Boot}
use Rattle.c_interface.specs.declared.cuts.CutRow.{CutRow}
use Rattle.c_interface.specs.Calls.{IsCallOf}
use Rattle.c_interface.specs.Cuts.{AreCutsOf, IsCutAsAsked, numbers_of}

-- ---- the numbers of rows

abbrev no_row : CutRow
no_row = record { write = 0; residue = 0; pattern_length = 0; pattern = [] }

numbers_at : (rows : List CutRow) (table : List ArmedCut) → AreCutsOf rows table → (k : ℕ) → k < length rows
    → get_or (numbers_in table) k 0 ≡ get_or (numbers_of rows) k 0
numbers_at rows table are k below =
    let row = get_or rows k no_row in
    let there = slice_get-get_or rows k no_row below in
    let is = are.each k row there in
    let first = get_or_from_slice_get (numbers_in table) k is.0.write 0
    (slice_get-map (λ (cut : ArmedCut). cut.write) table k ∙ ap (option_map (λ (cut : ArmedCut). cut.write)) is.1) in
    let second = get_or_from_slice_get (numbers_of rows) k row.write 0
    (slice_get-map (λ (r : CutRow). r.write) rows k ∙ ap (option_map (λ (r : CutRow). r.write)) there) in
    first ∙ is.2.write ∙ sym second

pub same_numbers : (rows : List CutRow) (table : List ArmedCut) → AreCutsOf rows table → length rows ≤ length table
    → numbers_in (take (length rows) table) ≡ numbers_of rows
same_numbers rows table are few =
    let long : length (numbers_in (take (length rows) table)) ≡ length rows =
    length-map (take (length rows) table) (λ (cut : ArmedCut). cut.write) ∙ length-take-le (length rows) table few in
    ext_get_or 0 (numbers_in (take (length rows) table)) (numbers_of rows)
    (long ∙ sym (length-map rows (λ (r : CutRow). r.write)))
    (λ k below. let inside : k < length rows = subst (λ n. k < n) long below in
    ap (λ (l : List ℕ). get_or l k 0) (sym (take-map (λ (cut : ArmedCut). cut.write) (length rows) table))
    ∙ get_or-take (length rows) (numbers_in table) k 0 inside
    ∙ numbers_at rows table are k inside)

-- ---- cuts

-- A call counts a cut if its reply is `Cut`.
pub cuts_of : (map : SectorMap) (identity : Identity) (boots : ℕ) (call : DeviceCall) (a b : DeviceView) (reply : Reply)
    → IsCallOf map identity boots call a b reply → b.flash.cuts ≡ a.flash.cuts + cut_of reply
cuts_of map identity boots (Accept manifest) a b reply (result, same, is) =
    subst (λ r. b.flash.cuts ≡ a.flash.cuts + cut_of r) (sym same) is.ends.cuts
cuts_of map identity boots (Piece image more) a b reply (result, same, is) =
    subst (λ r. b.flash.cuts ≡ a.flash.cuts + cut_of r) (sym same) is.ends.cuts
cuts_of map identity boots (Finish image) a b reply (result, same, is) =
    subst (λ r. b.flash.cuts ≡ a.flash.cuts + cut_of r) (sym same) is.ends.cuts
cuts_of map identity boots (Withdraw image) a b reply (result, same, is) =
    subst (λ r. b.flash.cuts ≡ a.flash.cuts + cut_of r) (sym same) is.ends.cuts
cuts_of map identity boots (Confirm image) a b reply (result, same, is) =
    subst (λ r. b.flash.cuts ≡ a.flash.cuts + cut_of r) (sym same) is.ends.cuts
cuts_of map identity boots Boot a b reply (left, last, result, same, is) =
    subst (λ r. b.flash.cuts ≡ a.flash.cuts + cut_of r) (sym same) is.ends.cuts

same_cuts : (a b : Chip) → b ≡ a → b.cuts ≡ a.cuts + 0
same_cuts a b is = omega (arith, ap (λ (chip : Chip). chip.cuts) is)

cuts_made : (map : SectorMap) (a b : Chip) (result : Result Unit Fault) → Provisions map a b result
    → b.cuts ≡ a.cuts + cut_of (reply_of_result result)
cuts_made map a b (Ok done) is = omega (arith, is.ends.uncut.cuts)
cuts_made map a b (Err (no.RunningDamaged image)) is = same_cuts a b is.refused.1
cuts_made map a b (Err no.InvalidSet) is = same_cuts a b is.refused.1
cuts_made map a b (Err (no.Flash flash.Cut)) is = is.refused.1.cuts
cuts_made map a b (Err (no.Flash flash.Off)) is = same_cuts a b is.refused.1
cuts_made map a b (Err no.NotBooted) is = absurd is.refused
cuts_made map a b (Err no.OnTrial) is = absurd is.refused
cuts_made map a b (Err no.NotOnTrial) is = absurd is.refused
cuts_made map a b (Err no.NotProvisioned) is = absurd is.refused
cuts_made map a b (Err no.NoMemory) is = absurd is.refused
cuts_made map a b (Err (no.Manifest error)) is = absurd is.refused
cuts_made map a b (Err (no.Upload error)) is = absurd is.refused

pub cuts_provided : (map : SectorMap) (a b : Chip) (result : Result Unit Fault) (reply : Reply)
    → Provisions map a b result → reply ≡ reply_of_result result → b.cuts ≡ a.cuts + cut_of reply
cuts_provided map a b result reply is same =
    subst (λ r. b.cuts ≡ a.cuts + cut_of r) (sym same) (cuts_made map a b result is)

-- On a flash that was just made, the number of reached cuts is the number of counted ones.
pub cut_as_asked : (before left : Chip) (reply : Reply) (writes size count : ℕ) (all : List ℕ) (fixed : Fixed)
    → before ≡ record (new_chip size count all) { fixed = fixed } → left.fixed ≡ before.fixed
    → left.cuts ≡ before.cuts + cut_of reply → left.cuts ≡ reached left.fixed.numbers left.writes
    → writes ≡ left.writes → IsCutAsAsked fixed.numbers before left reply writes
cut_as_asked before left reply writes size count all fixed is keeps counts law known =
    let none = ap (λ (c : Chip). c.cuts) is in
    let armed = ap (λ (c : Chip). c.fixed.numbers) is in
    let still = ap (λ (f : Fixed). f.numbers) keeps ∙ armed in
    let counted : cut_of reply ≡ left.cuts = omega (arith, counts, none) in
    record {
      unwritten = ap (λ (c : Chip). c.writes) is;
      uncut = none;
      armed = armed;
      still = still;
      counted = sym known;
      cut = counted ∙ law ∙ ap (λ l. reached l left.writes) still ∙ ap (λ n. reached fixed.numbers n) (sym known);
    }
