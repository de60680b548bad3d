-- The bytes of the images that the rows of a table are about.
use Rattle.std.proofs.Common.{◌≡◌, ℕ, ◌<◌, ◌≤◌, Bool, true, List, length, Option, Some, None, refl}
use Rattle.std.proofs.Common.{sym, ◌∙◌, ap, arith, slice_get, IsSomeAnd, ⊎_elim, get_or}
use Rattle.std.proofs.lemmas.Option.{slice_get_cases, none-some}
use Rattle.common.specs.Masks.{is_member}
use Rattle.machine.specs.Device.{DeviceState, Wanted}
use Rattle.reports.specs.declared.table.Table.{Table}
use Rattle.reports.specs.declared.table.Image.{Image}
use Rattle.reports.specs.declared.table.Entry.{Entry}
use Rattle.reports.specs.declared.table.Request.{Request}
use Rattle.reports.specs.Combination.{IsValid, image_at, intact_entry}
use Rattle.version_order.specs.Order.{IsAtLeast}
use Rattle.machine.specs.Boots.{IsEntryOf, IsRequestOf, IsTableOf, IsDecision}
use Rattle.reports.specs.declared.table.Request.TheVariants as request

entry_bytes : (held : Option (List ℕ)) (entry : Entry) → IsEntryOf held entry → (bytes : List ℕ) × (held ≡ Some bytes)
entry_bytes None entry is = absurd is
entry_bytes (Some bytes) entry is = (bytes, refl)

pub some_of : {X : Type 0} (o : Option X) (P : X → Type 0) → IsSomeAnd o P → (x : X) × (o ≡ Some x) × P x
some_of None P h = absurd h
some_of (Some x) P h = (x, refl, h)

-- A table has a row for each image.
pub row_at : (s : DeviceState) (table : Table) (i : ℕ) → IsTableOf s table → i < s.images → (row : Image)
    × (slice_get table.images.items i ≡ Some row)
row_at s table i rows lt = ⊎_elim
    (λ (found : (x : Image) × (i < length table.images.items) × (slice_get table.images.items i ≡ Some x)
    × (get_or table.images.items i x ≡ x)). (found.0, found.2))
    (λ (past : (length table.images.items ≤ i) × (slice_get table.images.items i ≡ None)).
    let long : length table.images.items ≡ s.images = rows.count in
    let le : length table.images.items ≤ i = past.0 in absurd (omega arith))
    (slice_get_cases table.images.items i).1

pub running_bytes : (s : DeviceState) (table : Table) (i : ℕ) → IsTableOf s table → i < s.images
    → (bytes : List ℕ) × (s.running i ≡ Some bytes)
running_bytes s table i rows lt =
    let row = row_at s table i rows lt in
    entry_bytes (s.running i) row.0.running (rows.rows i row.0 row.1).running

request_bytes : (wanted : Option Wanted) (asked : Request) (entry : Entry) → IsRequestOf wanted asked
    → intact_entry asked ≡ Some entry
    → (w : Wanted) × (bytes : List ℕ) × (wanted ≡ Some w) × (w.bytes ≡ Some bytes)
request_bytes None asked entry is intact = absurd (none-some entry (sym (ap intact_entry is) ∙ intact))
request_bytes (Some w) request.None entry is intact = absurd is
request_bytes (Some w) request.Damaged entry is intact = absurd (none-some entry intact)
request_bytes (Some w) (request.Entry given) entry is intact = let found = entry_bytes w.bytes given is in
    (w, found.0, refl, found.1)

-- A member of a valid combination has an intact request.
pub valid_bytes : (s : DeviceState) (table : Table) (taken : ℕ → Bool) (i : ℕ) → IsTableOf s table
    → IsValid table taken → taken i ≡ true
    → (w : Wanted) × (bytes : List ℕ) × (s.request i ≡ Some w) × (w.bytes ≡ Some bytes)
valid_bytes s table taken i rows valid member =
    let there = some_of (image_at table i)
    (λ image. IsSomeAnd (intact_entry image.request)
    (λ entry. IsAtLeast entry.version image.running.version × (image.floor ≤ entry.counter)))
    (valid.members i member) in
    let asked = some_of (intact_entry there.0.request)
    (λ entry. IsAtLeast entry.version there.0.running.version × (there.0.floor ≤ entry.counter)) there.2 in
    request_bytes (s.request i) there.0.request asked.0 (rows.rows i there.0 there.1).request asked.1

pub member_bytes : (s : DeviceState) (table : Table) (mask : ℕ) (permanent : Bool) (i : ℕ)
    → IsDecision s table mask permanent → is_member mask i ≡ true
    → (w : Wanted) × (bytes : List ℕ) × (s.request i ≡ Some w) × (w.bytes ≡ Some bytes)
member_bytes s table mask permanent i decision member = valid_bytes s table
    (is_member mask) i decision.chosen.rows decision.chosen.greatest.valid member
