-- When saved uploads match a flash.
use Rattle.std.proofs.Common.{◌≡◌, ℕ, ◌+◌, ◌<◌, ◌≤◌, ◌↔◌, ◌&&◌, Bool, false, IsTrue, Option, Some, Ok, List, ◌++◌, length, take, drop, replicate, arith, refl, sym, ◌∙◌, ap, subst, length-drop}
use Rattle.std.proofs.lemmas.Bool.{and_parts}
use Rattle.std.proofs.lemmas.List.{ext_get_or, get_or-drop, get_or-replicate, length-replicate, length-take-le, take-append-drop}
use Rattle.std.proofs.Math.Seq.{take-append_seam}
use Rattle.std.proofs.lemmas.Option.{same_Some}
use Rattle.flash_model.specs.Chip.{Chip, IsErased, size_of}
use Rattle.sector_map.specs.declared.layout.SectorMap.{SectorMap}
use Rattle.sector_map.specs.declared.layout.Side.TheVariants.{Secondary}
use Rattle.sector_map.specs.Part.{Slot}
use Rattle.sector_map.specs.Map.{HasImage, IsLaidOut, length_of, start_of}
use Rattle.sector_map.proofs.PartBytes.{length_part, part_erased_at, part_inside}
use Rattle.trailer.proofs.Places.{some_slot}
use Rattle.trailer.specs.Fields.{erased_fields, fields_at}
use Rattle.trailer.specs.Standing.{incoming_slot}
use Rattle.upload.specs.View.{View, view}
use Rattle.upload.specs.Sessions.{AllOpenAt, IsOpenAt, IsUploadAt, IsWritten}
use Rattle.upload.specs.Standing.{HasCounts, IsFirstOpen, TellsOpen, TellsStand}
use Rattle.upload.specs.declared.sessions.Upload.{Upload}
use Rattle.upload.proofs.Ends.{decides}
use Rattle.upload.proofs.Writing.{behind_erased}

-- The secondary slot of an image lies inside the flash.
pub incoming_inside : (map : SectorMap) (chip : Chip) (image : ℕ) → HasImage map image chip
    → start_of map (Slot image Secondary) + length_of map (Slot image Secondary) ≤ size_of chip
incoming_inside map chip image has =
    part_inside map chip (Slot image Secondary) has.laid_out
    (some_slot map image Secondary has.laid_out.is_map has.there)

-- So does the secondary slot of an image that the map has by an upload's counts.
pub counted_inside : (map : SectorMap) (chip : Chip) (image written : ℕ) (upload : Upload) → IsLaidOut map chip
    → HasCounts map image written upload
    → start_of map (Slot image Secondary) + length_of map (Slot image Secondary) ≤ size_of chip
counted_inside map chip image written upload laid counts =
    incoming_inside map chip image (record { laid_out = laid; there = counts.there })

-- A slot that is erased from a place on holds its first bytes, and is erased after them.
pub erased_is_written : (map : SectorMap) (chip : Chip) (image at n : ℕ) → IsLaidOut map chip
    → at + n ≡ length_of map (Slot image Secondary)
    → IsErased chip (start_of map (Slot image Secondary) + at) n
    → IsWritten (incoming_slot map chip image) (take at (incoming_slot map chip image))
erased_is_written map chip image at n laid whole erased =
    let slot = incoming_slot map chip image in
    let long : length slot ≡ length_of map (Slot image Secondary) = length_part map chip (Slot image Secondary) laid in
    let tail_long : length (drop at slot) ≡ length (replicate n 0xff) =
    length-drop at slot ∙ omega (arith, long, length-replicate {A = ℕ} n 0xff) in
    let tail : drop at slot ≡ replicate n 0xff = ext_get_or 0 (drop at slot) (replicate n 0xff) tail_long (λ k lt.
    let below : k < n = omega (arith, tail_long, length-replicate {A = ℕ} n 0xff) in
    get_or-drop at slot k 0
    ∙ part_erased_at map chip (Slot image Secondary) (start_of map (Slot image Secondary) + at) n (at + k) erased
    (omega arith) (omega arith) (omega arith)
    ∙ sym (get_or-replicate n k 0xff 0 below)) in
    record { left = n; is = sym (take-append-drop at slot) ∙ ap (λ l. take at slot ++ l) tail }

-- Testing whether the slot is erased from a place on tests what the slot holds.
pub tells_written : (map : SectorMap) (chip : Chip) (image at n : ℕ) (told : Bool) → IsLaidOut map chip
    → at + n ≡ length_of map (Slot image Secondary)
    → (IsTrue told ↔ IsErased chip (start_of map (Slot image Secondary) + at) n)
    → IsTrue told ↔ IsWritten (incoming_slot map chip image) (take at (incoming_slot map chip image))
tells_written map chip image at n told laid whole tells =
    let slot = incoming_slot map chip image in
    let long : length slot ≡ length_of map (Slot image Secondary) = length_part map chip (Slot image Secondary) laid in (
      λ yes. erased_is_written map chip image at n laid whole (tells.0 yes),
      λ written. tells.1 (behind_erased map chip image at n (take at slot) laid
          (length-take-le at slot (omega (arith, long))) written (omega arith)),
    )

-- An upload with such counts matches the flash if the slot does and the trailer reads as erased.
pub counts_open : (map : SectorMap) (chip : Chip) (image written : ℕ) (upload : Upload) → IsLaidOut map chip
    → HasCounts map image written upload
    → IsWritten (incoming_slot map chip image) (take written (incoming_slot map chip image))
    → fields_at map chip image Secondary ≡ erased_fields → IsOpenAt (view map chip) image upload
counts_open map chip image written upload laid counts slot blank =
    let bytes = incoming_slot map chip image in
    let long : length bytes ≡ length_of map (Slot image Secondary) = length_part map chip (Slot image Secondary) laid in
    let front : length (take written bytes) ≡ written =
    length-take-le written bytes (omega (arith, long, counts.count, counts.fits, counts.room)) in (
      take written bytes,
      record {
        there = counts.there;
        units = (counts.units.0, front ∙ counts.units.1);
        slot = slot;
        trailer = blank;
        few = counts.few;
        count = counts.count ∙ ap (λ n. n + length upload.held.items) (sym front);
        fits = counts.fits;
        room = omega (arith, long, counts.room);
      },
    )

-- An upload that matches the flash has such counts.
pub open_counts : (map : SectorMap) (chip : Chip) (image : ℕ) (upload : Upload) (written : List ℕ) → IsLaidOut map chip
    → IsUploadAt (view map chip) image upload written → HasCounts map image (length written) upload
open_counts map chip image upload written laid stands = record {
  there = stands.there;
  few = stands.few;
  count = stands.count;
  units = stands.units;
  fits = stands.fits;
  room = omega (arith, stands.room, length_part map chip (Slot image Secondary) laid);
}

-- The number of written bytes is unique.
pub one_count : (map : SectorMap) (image a b : ℕ) (upload : Upload) → HasCounts map image a upload
    → HasCounts map image b upload → a ≡ b
one_count map image a b upload first second = omega (arith, first.count, second.count)

-- The written bytes are the first bytes of the slot.
pub written_front : (slot written : List ℕ) → IsWritten slot written → IsWritten slot (take (length written) slot)
written_front slot written was =
    let front : take (length written) slot ≡ written =
    ap (λ l. take (length written) l) was.is ∙ take-append_seam written (replicate was.left 0xff) in
    subst (λ l. IsWritten slot l) (sym front) was

-- An upload matches the flash exactly if its counts, slot and trailer do.
tells_open : (map : SectorMap) (chip : Chip) (image written : ℕ) (upload : Upload) (erased blank : Bool)
    → IsLaidOut map chip → HasCounts map image written upload
    → (IsTrue erased ↔ IsWritten (incoming_slot map chip image) (take written (incoming_slot map chip image)))
    → (IsTrue blank ↔ (fields_at map chip image Secondary ≡ erased_fields))
    → (IsTrue erased → IsTrue blank → IsOpenAt (view map chip) image upload)
    × (IsOpenAt (view map chip) image upload → IsTrue erased × IsTrue blank)
tells_open map chip image written upload erased blank laid counts slot trailer = (
  λ yes also. counts_open map chip image written upload laid counts (slot.0 yes) (trailer.0 also),
  λ stands.
      let same = one_count map image (length stands.0) written upload
      (open_counts map chip image upload stands.0 laid stands.1) counts in (
        slot.1 (subst (λ n. IsWritten (incoming_slot map chip image) (take n (incoming_slot map chip image))) same
            (written_front (incoming_slot map chip image) stands.0 stands.1.slot)),
        trailer.1 stands.1.trailer,
      ),
)

-- An upload without such counts doesn't match the flash.
pub no_counts : (map : SectorMap) (chip : Chip) (image : ℕ) (upload : Upload) → IsLaidOut map chip
    → ((written : ℕ) → HasCounts map image written upload → ⊥) → IsOpenAt (view map chip) image upload → ⊥
no_counts map chip image upload laid never stands =
    never (length stands.0) (open_counts map chip image upload stands.0 laid stands.1)

-- A result for an open upload is a result for the table's entry.
pub tells_one : (w : View) (image : ℕ) (told : Option Upload) (upload : Upload) (answer : Bool) → told ≡ Some upload
    → (IsTrue answer ↔ IsOpenAt w image upload)
    → IsTrue answer ↔ ((u : Upload) → told ≡ Some u → IsOpenAt w image u)
tells_one w image told upload answer is tells = (
  λ said u same. subst (λ v. IsOpenAt w image v) (let e : Some upload ≡ Some u = sym is ∙ same in cc) (tells.0 said),
  λ all. tells.1 (all upload is),
)

-- A result for an upload, from a flash that is on, or for one whose counts don't fit.
pub open_told : (map : SectorMap) (image : ℕ) (upload : Upload) (answer : Bool) (old new : Chip) → new ≡ old
    → (IsTrue answer ↔ IsOpenAt (view map old) image upload)
    → (old.is_on ≡ false → (written : ℕ) → HasCounts map image written upload → ⊥)
    → TellsOpen map image (Some upload) old new (Ok answer)
open_told map image upload answer old new same tells asked =
    let told = decides answer (IsOpenAt (view map old) image upload) old new same tells in
    record {
      same = same;
      ok = tells_one (view map old) image (Some upload) upload answer refl tells;
      erases = told.erases;
      off = λ off u written is counts. absurd (asked off written
          (subst (λ (v : Upload). HasCounts map image written v) (sym (same_Some upload u is)) counts));
      ends = told.ends;
    }

-- A result for an upload whose slot and trailer were both tested on a flash that is on.
pub counts_told : (map : SectorMap) (image written : ℕ) (upload : Upload) (erased blank answer : Bool) (old new : Chip)
    → IsLaidOut map old → HasCounts map image written upload
    → (IsTrue erased ↔ IsWritten (incoming_slot map old image) (take written (incoming_slot map old image)))
    → (IsTrue blank ↔ (fields_at map old image Secondary ≡ erased_fields)) → new ≡ old
    → (old.is_on ≡ false → ⊥) → answer ≡ (erased && blank) → TellsOpen map image (Some upload) old new (Ok answer)
counts_told map image written upload erased blank answer old new laid counts slot trailer same on both =
    let tells = tells_open map old image written upload erased blank laid counts slot trailer in
    open_told map image upload answer old new same (
      λ yes.
          let passed = and_parts erased blank (sym both ∙ yes) in
          tells.0 passed.0 passed.1,
      λ stands.
          let passed = tells.1 stands in
          both ∙ ap (λ b. b && blank) passed.0 ∙ passed.1,
    ) (λ off. absurd (on off))

-- A result for a complete table.
pub table_told : (map : SectorMap) (sessions : List (Option Upload)) (answer : Bool) (old new : Chip) → new ≡ old
    → (IsTrue answer ↔ AllOpenAt (view map old) sessions)
    → (old.is_on ≡ false → (image : ℕ) (upload : Upload) → IsFirstOpen map sessions image upload → ⊥)
    → TellsStand map sessions old new (Ok answer)
table_told map sessions answer old new same tells asked =
    let told = decides answer (AllOpenAt (view map old) sessions) old new same tells in
    record {
      same = same;
      ok = tells;
      erases = told.erases;
      off = λ off image upload first. absurd (asked off image upload first);
      ends = told.ends;
    }
