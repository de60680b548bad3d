-- Raising floors to the security counters of what runs.
use Rattle.std.proofs.Common.{◌≡◌, ℕ, ◌<◌, ◌≤◌, Bool, true, false, List, length, Option, Some, None, refl, sym, ◌∙◌}
use Rattle.std.proofs.Common.{ap, subst, slice_index, max, if◌then◌else◌}
use Rattle.std.proofs.lemmas.Option.{none-some}
use Rattle.common.specs.Masks.{is_member}
use Rattle.image_reading.specs.declared.desc.Desc.{Desc}
use Rattle.image_reading.specs.Image.{IsIntact}
use Rattle.machine.specs.Device.{DeviceState, Wanted}
use Rattle.reports.specs.declared.table.Table.{Table}
use Rattle.reports.specs.declared.table.Image.{Image}
use Rattle.reports.specs.declared.table.Entry.{Entry}
use Rattle.reports.specs.declared.table.Request.{Request}
use Rattle.reports.specs.Combination.{entry_in}
use Rattle.machine.specs.States.{wanted_bytes, IsRaised, running_after}
use Rattle.machine.specs.Boots.{IsEntryOf, IsRequestOf, IsRowOf, IsTableOf, IsDecision}
use Rattle.flash_contents.specs.Reading.{AreRaisedBy}
use Rattle.machine.proofs.Tables.{row_at, running_bytes, member_bytes}
use Rattle.machine.proofs.Unique.{one_description}
use Rattle.reports.specs.declared.table.Request.TheVariants as request

pub entry_counter : (held : Option (List ℕ)) (entry : Entry) (bytes : List ℕ) (d : Desc)
    → IsEntryOf held entry → held ≡ Some bytes → IsIntact bytes d → entry.counter ≡ d.counter
entry_counter None entry bytes d is e image = absurd is
entry_counter (Some given) entry bytes d (own, intact, same) e image =
    let at : given ≡ bytes = cc in
    ap (λ (x : Entry). x.counter) (sym same) ∙ ap (λ (x : Desc). x.counter)
    (one_description bytes own d (subst (λ b. IsIntact b own) at intact) image)

request_counter : (wanted : Option Wanted) (row : Image) (bytes : List ℕ) (d : Desc)
    → IsRequestOf wanted row.request → wanted_bytes wanted ≡ Some bytes → IsIntact bytes d
    → (entry_in row true).counter ≡ d.counter
request_counter None row bytes d is e image = absurd (none-some bytes e)
request_counter (Some w) row bytes d is e image = at_request row.request row.running is where
  at_request : (asked : Request) (running : Entry) → IsRequestOf (Some w) asked
      → (entry_in (record { running = running; request = asked; floor = 0 }) true).counter ≡ d.counter
  at_request request.None running is = absurd is
  at_request request.Damaged running is = absurd (none-some bytes (sym is ∙ e))
  at_request (request.Entry entry) running is = entry_counter w.bytes entry bytes d is e image

row_counter : (s : DeviceState) (mask i : ℕ) (row : Image) (least : ℕ) (bytes : List ℕ) (d : Desc) (b : Bool)
    → IsRowOf (s.running i) (s.request i) least row
    → (if b then wanted_bytes (s.request i) else s.running i) ≡ Some bytes → IsIntact bytes d
    → (entry_in row b).counter ≡ d.counter
row_counter s mask i row least bytes d true is e image = request_counter (s.request i) row bytes d is.request e image
row_counter s mask i row least bytes d false is e image = entry_counter
    (s.running i) row.running bytes d is.running e image

whole_after : (s : DeviceState) (table : Table) (mask : ℕ) (permanent : Bool) (i : ℕ) (b : Bool)
    → is_member mask i ≡ b → IsDecision s table mask permanent → i < s.images
    → (if b then wanted_bytes (s.request i) else s.running i) ≡ None → ⊥
whole_after s table mask permanent i true member decision lt e =
    let found = member_bytes s table mask permanent i decision member in none-some found.1
    (sym e ∙ ap wanted_bytes found.2 ∙ found.3)
whole_after s table mask permanent i false member decision lt e =
    let bytes = running_bytes s table i decision.chosen.rows lt in none-some bytes.0 (sym e ∙ bytes.1)

pub raised_is : (s : DeviceState) (table found : Table) (mask : ℕ) (permanent : Bool) (n : ℕ)
    (floors new : List ℕ) → IsDecision s table mask permanent → IsTableOf s found → s.floors ≡ floors
    → n ≡ length found.images.items → AreRaisedBy found.images.items mask n floors new
    → IsRaised s.images (running_after s mask) s.floors new
raised_is s table found mask permanent n floors new decision rows same all raised =
    let count : n ≡ s.images = all ∙ rows.count in
    record {
      size = raised.size ∙ ap length (sym same);
      raised = λ i bytes d lt e image.
          let row = row_at s found i rows lt in
          raised.each i row.0 (subst (λ m. i < m) (sym count) lt) row.1
          ∙ ap (λ m. max (slice_index floors i) m)
          (row_counter s mask i row.0 (slice_index s.floors i) bytes d (is_member mask i)
          (rows.rows i row.0 row.1) e image)
          ∙ ap (λ l. max (slice_index l i) d.counter) (sym same);
      damaged = λ i lt e. absurd (whole_after s table mask permanent i (is_member mask i) refl decision lt e);
      rest = λ i le. raised.rest i (subst (λ m. m ≤ i) (sym count) le) ∙ ap (λ l. slice_index l i) (sym same);
    }
