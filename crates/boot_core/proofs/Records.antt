-- Each next record keeps the table of records, as the old record does.
use Rattle.std.proofs.Common.{◌≡◌, ◌≢◌, ℕ, ◌+◌, if◌then◌else◌, ◌^◌, ◌<◌, ◌≤◌, ◌==◌, ◌&&◌, Bool, true, false, not, nat_le, nat_lt, List, Option, Some, None, IsSome, slice_index, arith, refl, sym, ◌∙◌, subst, ⊎_elim}
use Rattle.std.proofs.lemmas.Bool.{and_from, and_parts}
use Rattle.std.proofs.lemmas.Bool.Decides.{leb_tells}
use Rattle.std.proofs.Math.Nat.{div-le_self}
use Rattle.std.proofs.lemmas.Option.{none-some}
use Rattle.flash_model.specs.Chip.{Chip}
use Rattle.sector_map.specs.declared.layout.SectorMap.{SectorMap}
use Rattle.sector_map.specs.Map.{IsWithin, Keeps}
use Rattle.sector_map.specs.Part.{Part, Log}
use Rattle.common.proofs.Masks.{below_shift}
use Rattle.set_log.specs.declared.state.State.{State}
use Rattle.set_log.specs.declared.state.RecordKind.{RecordKind}
use Rattle.set_log.specs.declared.state.RecordKind.TheVariants.{Steady, Swap, Settle, Trial, Back, BackSettle}
use Rattle.set_log.specs.Record.{fits, kind_fits}
use Rattle.set_log.specs.Log.{record_of, state_of, state_said}
use Rattle.set_log.proofs.Spelled.{spells_of}
use Rattle.set_log.proofs.Table.{fits_floors, fits_of, fits_within}
use Rattle.upload.proofs.Views.{view_kept}
use Rattle.flash_contents.proofs.Preparing.{eqb_no}

said_fits : (images : ℕ) (found : Option (List ℕ)) (s : State) → state_said images found ≡ Some s
    → fits images s ≡ true
said_fits images None s is = absurd (none-some s is)
said_fits images (Some body) s is = (spells_of images body s is).kept

-- The state of the log keeps the table.
pub stands_fits : (map : SectorMap) (chip : Chip) (s : State) → state_of map chip ≡ Some s
    → fits map.images s ≡ true
unfolding state_of
stands_fits map chip s read = said_fits map.images (record_of map chip) s read

-- Its set has only images of the map.
pub stands_within : (map : SectorMap) (chip : Chip) (s : State) → state_of map chip ≡ Some s
    → IsWithin map s.mask
stands_within map chip s read = fits_within map s (stands_fits map chip s read)

-- The state of the log stays if the log isn't touched.
pub read_kept : (map : SectorMap) (touched : Part → Bool) (old new : Chip) (s : State)
    → Keeps map touched old new → touched Log ≡ false → state_of map old ≡ Some s → state_of map new ≡ Some s
read_kept map touched old new s keeps off read = (view_kept map touched old new keeps).log off ∙ read

pub has_state : (map : SectorMap) (chip : Chip) (s : State) → state_of map chip ≡ Some s
    → IsSome (state_of map chip)
has_state map chip s read = subst (λ state. IsSome state) (sym read) refl

-- The log still has a state if it isn't touched.
pub state_kept : (map : SectorMap) (touched : Part → Bool) (old new : Chip) (s : State)
    → Keeps map touched old new → touched Log ≡ false → state_of map old ≡ Some s → IsSome (state_of map new)
state_kept map touched old new s keeps off read = has_state map new s (read_kept map touched old new s keeps off read)

-- The same set and floors, of another kind.
pub fits_next : (map : SectorMap) (chip : Chip) (s : State) (kind : RecordKind) (permanent : Bool) (left : ℕ)
    → state_of map chip ≡ Some s → kind_fits kind s.mask permanent left ≡ true
    → fits map.images (record s { kind = kind; permanent = permanent; left = left }) ≡ true
fits_next map chip s kind permanent left read asked =
    let was = and_parts (nat_lt s.mask (2 ^ map.images)) _ (stands_fits map chip s read) in
    let floors = (and_parts (kind_fits s.kind s.mask s.permanent s.left) _ was.1).1 in
    and_from (nat_lt s.mask (2 ^ map.images)) _ was.0
    (and_from (kind_fits kind s.mask permanent left) _ asked floors)

-- What the kind of the record asks for.
pub kind_of_read : (map : SectorMap) (chip : Chip) (s : State) (kind : RecordKind) → state_of map chip ≡ Some s
    → s.kind ≡ kind → kind_fits kind s.mask s.permanent s.left ≡ true
kind_of_read map chip s kind read is =
    let was = and_parts (nat_lt s.mask (2 ^ map.images)) _ (stands_fits map chip s read) in
    subst (λ k. kind_fits k s.mask s.permanent s.left ≡ true) is
    (and_parts (kind_fits s.kind s.mask s.permanent s.left) _ was.1).0

pub none_within : (map : SectorMap) → IsWithin map 0
none_within map i member = below_shift 0 map.images i (omega (arith, div-le_self 0 (2 ^ map.images))) member

-- The record Steady, with floors that are the same past the last image.
pub fits_steady : (map : SectorMap) (chip : Chip) (s : State) (floors : List ℕ) → state_of map chip ≡ Some s
    → ((i : ℕ) → map.images ≤ i → slice_index floors i ≡ slice_index s.floors i)
    → fits map.images
    (record s { kind = Steady; mask = 0; permanent = false; left = 0; floors = floors }) ≡ true
fits_steady map chip s floors read rest = fits_of map
    (record s { kind = Steady; mask = 0; permanent = false; left = 0; floors = floors })
    (omega arith) (none_within map) refl
    (λ i le. rest i le ∙ fits_floors map.images s (stands_fits map chip s read) i le)

some_asked : (mask : ℕ) → mask ≢ 0 → kind_fits Swap mask false 0 ≡ true
some_asked mask some = subst (λ b. (not b && true) ≡ true) (sym (eqb_no mask 0 (mask == 0) refl some)) refl

-- The record Swap of a set of images of the map.
pub fits_swap : (map : SectorMap) (chip : Chip) (s : State) (mask : ℕ) (permanent : Bool)
    → state_of map chip ≡ Some s → mask < 2 ^ 8 → mask ≢ 0 → IsWithin map mask
    → fits map.images (record s { kind = Swap; mask = mask; permanent = permanent; left = 0 }) ≡ true
fits_swap map chip s mask permanent read small some within = fits_of map
    (record s { kind = Swap; mask = mask; permanent = permanent; left = 0 }) small within
    (some_asked mask some) (λ i le. fits_floors map.images s (stands_fits map chip s read) i le)

nat_le_of : (a b : ℕ) → a ≤ b → nat_le a b ≡ true
nat_le_of a b le = ⊎_elim (λ (h : (nat_le a b ≡ true) × (a ≤ b)). h.0)
    (λ (h : (nat_le a b ≡ false) × (b < a)). absurd (omega (arith, h.1, le))) (leb_tells a b)

-- The record Trial with at most 6 more boots, after Settle.
pub fits_trial : (map : SectorMap) (chip : Chip) (s : State) (left : ℕ) → state_of map chip ≡ Some s
    → s.kind ≡ Settle → left ≤ 6
    → fits map.images (record s { kind = Trial; permanent = false; left = left }) ≡ true
fits_trial map chip s left read is few =
    let asked = kind_of_read map chip s Settle read is in
    fits_next map chip s Trial false left read
    (and_from (not (s.mask == 0)) _ (and_parts (not (s.mask == 0)) (s.left == 0) asked).0 (nat_le_of left 6 few))

-- The record Back, after Trial.
pub fits_back : (map : SectorMap) (chip : Chip) (s : State) → state_of map chip ≡ Some s → s.kind ≡ Trial
    → fits map.images (record s { kind = Back; permanent = false; left = 0 }) ≡ true
fits_back map chip s read is =
    let asked = kind_of_read map chip s Trial read is in
    fits_next map chip s Back false 0 read
    (and_from (not (s.mask == 0)) _ (and_parts (not (s.mask == 0)) (nat_le s.left 6) asked).0 refl)

-- At most one sector is erased, if no place is free.
pub one_erase : (free : Bool) (old new : ℕ) → new ≡ old + (if free then 0 else 1) → new ≤ old + 1
one_erase true old new erased = omega (arith, erased)
one_erase false old new erased = omega (arith, erased)

-- The record BackSettle, after Back.
pub fits_back_settle : (map : SectorMap) (chip : Chip) (s : State) → state_of map chip ≡ Some s → s.kind ≡ Back
    → fits map.images (record s { kind = BackSettle; permanent = false }) ≡ true
fits_back_settle map chip s read is =
    fits_next map chip s BackSettle false s.left read (kind_of_read map chip s Back read is)
