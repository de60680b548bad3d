-- The number of sectors that accepting a manifest erases.
use Rattle.std.proofs.Common.{◌≡◌, ℕ, zero, suc, ◌+◌, ◌*◌, ◌<◌, ◌≤◌, ◌==◌, ◌&&◌, Bool, true, false, not, List, [], ◌∷◌, length, drop, get_or, slice_index, slice_range, IsTrue, ◌↔◌, arith, add-one, refl, sym, ◌∙◌, ap, subst, Option, Some, None, if◌then◌else◌}
use Rattle.std.proofs.lemmas.Bool.{eqb-true}
use Rattle.std.proofs.lemmas.List.{drop_all, drop_more}
use Rattle.flash_model.specs.Chip.{Chip, IsErased}
use Rattle.flash_model.proofs.Ranges.{range_same}
use Rattle.sector_map.specs.declared.layout.SectorMap.{SectorMap}
use Rattle.sector_map.specs.declared.layout.Side.TheVariants.{Secondary}
use Rattle.sector_map.specs.Part.{Part, Slot, TrailerOf, Log, incoming_of, only}
use Rattle.sector_map.specs.Map.{IsLaidOut, Keeps, first_of, length_of, slot_sectors, start_of}
use Rattle.sector_map.proofs.PartBytes.{length_part, range_of_part}
use Rattle.sector_map.proofs.Products.{mul_le}
use Rattle.flash_model.specs.Units.{are_erased}
use Rattle.trailer.specs.Fields.{trailer_bytes}
use Rattle.trailer.specs.Standing.{KeepsBehindFirst, first_is_set, first_sector, incoming_slot}
use Rattle.flash_model.proofs.Erased.{each_erased}
use Rattle.trailer.proofs.Erased.{erased_range, range_erased, range_is_erased, tells_range}
use Rattle.manifest.specs.declared.manifest.Component.{Component}
use Rattle.set_log.specs.declared.state.State.{State}
use Rattle.set_log.specs.Log.{state_of}
use Rattle.upload.specs.View.{view}
use Rattle.upload.specs.Sessions.{IsWritten}
use Rattle.std.specs.Option.{option_or}
use Rattle.std.specs.Prelude.{is_some}
use Rattle.upload.specs.Accepted.{AreBlank, IsBlank}
use Rattle.machine.specs.Accepted.{is_named, latest}
use Rattle.upload.specs.Wear.{ErasesWorn, erases_of_record, journal_of_components, one_unless_erased, sector_in, worn, worn_in, worn_of, worn_slot}
use Rattle.upload.proofs.AcceptRow.{same_state}
use Rattle.upload.proofs.Writing.{behind_at, next_sector, sector_place}

-- A sector of a slot ends inside the slot.
sector_ends : (map : SectorMap) (image index : ℕ) → index < slot_sectors map image
    → (index + 1) * map.sector_size ≤ length_of map (Slot image Secondary)
sector_ends map image index lt = mul_le (index + 1) (slot_sectors map image) map.sector_size (omega arith)

-- A test of a sector of the flash is a test of the slot's sector.
pub sector_told : (map : SectorMap) (chip : Chip) (image index at : ℕ) (told : Bool)
    → (IsTrue told ↔ IsErased chip at map.sector_size) → IsLaidOut map chip → index < slot_sectors map image
    → at ≡ (first_of map (Slot image Secondary) + index) * map.sector_size
    → told ≡ are_erased (sector_in map.sector_size (incoming_slot map chip image) index)
sector_told map chip image index at told tells laid lt is =
    tells_range map chip (Slot image Secondary) at map.sector_size (index * map.sector_size)
    ((index + 1) * map.sector_size) told tells laid (sector_ends map image index lt)
    (is ∙ sector_place map image index) (sym (next_sector map index))

-- A sector of a slot is unchanged if the flash is unchanged from its start on.
pub sector_same : (map : SectorMap) (old new : Chip) (image index : ℕ) → IsLaidOut map old → IsLaidOut map new
    → index < slot_sectors map image → length new.bytes ≡ length old.bytes
    → ((k : ℕ) → start_of map (Slot image Secondary) + index * map.sector_size ≤ k
    → slice_index new.bytes k ≡ slice_index old.bytes k)
    → sector_in map.sector_size (incoming_slot map new image) index
    ≡ sector_in map.sector_size (incoming_slot map old image) index
sector_same map old new image index before after lt long same =
    let part = Slot image Secondary in
    let ends = sector_ends map image index lt in
    let low = index * map.sector_size in
    let high = (index + 1) * map.sector_size in
    range_of_part map new part low high after ends
    ∙ range_same (start_of map part + low) (start_of map part + high) old.bytes new.bytes long (λ k at below. same k at)
    ∙ sym (range_of_part map old part low high before ends)

-- The count after one sector more.
pub worn_more : (map : SectorMap) (old mid : Chip) (image index : ℕ) (count now : ℕ) → IsLaidOut map old
    → IsLaidOut map mid → index < slot_sectors map image → length mid.bytes ≡ length old.bytes
    → ((k : ℕ) → start_of map (Slot image Secondary) + index * map.sector_size ≤ k
    → slice_index mid.bytes k ≡ slice_index old.bytes k)
    → count ≡ old.erases + worn_in map.sector_size (incoming_slot map old image) index
    → now ≡ count + one_unless_erased (sector_in map.sector_size (incoming_slot map mid image) index)
    → now ≡ old.erases + worn_in map.sector_size (incoming_slot map old image) (index + 1)
worn_more map old mid image index count now before after lt long same counted more =
    let size = map.sector_size in
    let slot = incoming_slot map old image in
    let here = ap one_unless_erased (sector_same map old mid image index before after lt long same) in
    omega (arith, counted, more, here, ap (λ n. worn_in size slot n) (add-one index))

-- ---- a request is withdrawn, then the slot is erased

at_most_one : (bytes : List ℕ) → one_unless_erased bytes ≤ 1
at_most_one bytes = by (are_erased bytes) where
  by : (yes : Bool) → (if yes then 0 else 1) ≤ 1
  by true = omega arith
  by false = omega arith

-- If a slot is unchanged after its first sector, so are its later sectors.
behind_first : (size : ℕ) (old new : List ℕ) (index : ℕ) → length new ≡ length old
    → ((k : ℕ) → size ≤ k → slice_index new k ≡ slice_index old k)
    → sector_in size new (suc index) ≡ sector_in size old (suc index)
behind_first size old new index long same =
    let low = mul_le 1 (suc index) size (omega arith) in
    range_same (suc index * size) ((suc index + 1) * size) old new long (λ k at below. same k (omega (arith, low, at)))

-- So the counts differ by the first sector only.
worn_behind : (size : ℕ) (old new : List ℕ) (n : ℕ) → length new ≡ length old
    → ((k : ℕ) → size ≤ k → slice_index new k ≡ slice_index old k)
    → worn_in size new (suc n) + one_unless_erased (sector_in size old 0)
    ≡ worn_in size old (suc n) + one_unless_erased (sector_in size new 0)
worn_behind size old new zero long same = omega arith
worn_behind size old new (suc n) long same =
    omega (arith, worn_behind size old new n long same, ap one_unless_erased (behind_first size old new n long same))

-- If the first unit of a slot is set, its first sector isn't erased.
first_worn : (map : SectorMap) (chip : Chip) (image : ℕ) → IsLaidOut map chip → 0 < slot_sectors map image
    → (if first_is_set (incoming_slot map chip image) then 1 else 0)
    ≤ one_unless_erased (sector_in map.sector_size (incoming_slot map chip image) 0)
first_worn map chip image laid some = by (are_erased first) refl where
  slot : List ℕ
  slot = incoming_slot map chip image

  first : List ℕ
  first = sector_in map.sector_size slot 0

  part : Part
  part = Slot image Secondary

  small : (yes : Bool) → (if yes then 1 else 0) ≤ 1
  small true = omega arith
  small false = omega arith

  by : (yes : Bool) → are_erased first ≡ yes → (if first_is_set slot then 1 else 0) ≤ (if are_erased first then 0 else 1)
  by true e =
      let ends = sector_ends map image 0 some in
      let none : 0 * map.sector_size ≡ 0 = omega arith in
      let one : (0 + 1) * map.sector_size ≡ map.sector_size = omega arith in
      let blank = range_is_erased map chip part (start_of map part) map.sector_size (0 * map.sector_size)
      ((0 + 1) * map.sector_size) e laid ends (omega (arith, none)) (omega (arith, none, one)) in
      let unit = range_erased map chip part (start_of map part) map.sector_size 0 8 blank laid
      (omega (arith, ends, one, laid.is_map.sector.least)) (omega arith) (omega (arith, laid.is_map.sector.least)) in
      omega (arith, ap {B = ℕ} (λ t. if not t then 1 else 0) unit)
  by false e = omega (arith, small (first_is_set slot), ap {B = ℕ} (λ t. if t then 0 else 1) e)

-- The first sector of a slot, as `trailer` defines it.
first_is : (size : ℕ) (bytes : List ℕ) → sector_in size bytes 0 ≡ first_sector size bytes
first_is size bytes =
    let none : 0 * size ≡ 0 = omega arith in
    let one : (0 + 1) * size ≡ size = omega arith in
    ap (λ k. slice_range bytes k ((0 + 1) * size)) none ∙ ap (λ k. slice_range bytes 0 k) one

-- The number of erased sectors after a slot is opened.
pub open_erases : (map : SectorMap) (old mid : Chip) (image now : ℕ) → IsLaidOut map old → IsLaidOut map mid
    → image < map.images → KeepsBehindFirst map image Secondary old mid
    → (first_is_set (incoming_slot map old image) ≡ true
    → are_erased (first_sector map.sector_size (incoming_slot map mid image)) ≡ true)
    → (first_is_set (incoming_slot map old image) ≡ false → incoming_slot map mid image ≡ incoming_slot map old image)
    → mid.erases ≡ old.erases + (if first_is_set (incoming_slot map old image) then 1 else 0)
    + one_unless_erased (trailer_bytes map old image Secondary)
    → now ≡ mid.erases + worn_slot map mid image → now ≡ old.erases + worn map old image
open_erases map old mid image now before after there rest gone kept first slot =
    by (first_is_set (incoming_slot map old image)) refl where
      size : ℕ
      size = map.sector_size

      was : List ℕ
      was = incoming_slot map old image

      is : List ℕ
      is = incoming_slot map mid image

      more : (n : ℕ) → slot_sectors map image ≡ n → 0 < n → first_is_set was ≡ true
          → now ≡ old.erases + worn map old image
      more zero count some set = absurd (omega arith)
      more (suc n) count some set =
          let part = Slot image Secondary in
          let same = worn_behind size was is n
          (length_part map mid part after ∙ sym (length_part map old part before)) rest.each in
          let none = ap one_unless_erased (first_is size is) ∙ ap {B = ℕ} (λ t. if t then 0 else 1) (gone set) in
          omega (
            arith,
            first,
            slot,
            same,
            none,
            ap (λ k. worn_in size was k) count,
            ap (λ k. worn_in size is k) count,
            first_worn map old image before (before.is_map.counts.some image there),
            at_most_one (sector_in size was 0),
            ap {B = ℕ} (λ t. if t then 1 else 0) set,
          )

      by : (set : Bool) → first_is_set was ≡ set → now ≡ old.erases + worn map old image
      by true e = more (slot_sectors map image) refl (before.is_map.counts.some image there) e
      by false e = omega (
        arith,
        first,
        slot,
        ap (λ bytes. worn_in size bytes (slot_sectors map image)) (kept e),
        ap {B = ℕ} (λ t. if t then 1 else 0) e,
      )

-- The journal after a slot is opened: if the slot's first unit was set, then the withdrawal has erased its first sector.
pub open_journal : (map : SectorMap) (old mid : Chip) (image now : ℕ) → IsLaidOut map mid → 0 < slot_sectors map image
    → (first_is_set (incoming_slot map old image) ≡ true
    → are_erased (first_sector map.sector_size (incoming_slot map mid image)) ≡ true)
    → mid.journaled ≤ old.journaled + 44
    → (first_is_set (incoming_slot map old image) ≡ false → mid.journaled ≤ old.journaled + 12)
    → now ≤ mid.journaled + 12 * slot_sectors map image
    → (IsErased mid (start_of map (Slot image Secondary)) map.sector_size
    → now + 12 ≤ mid.journaled + 12 * slot_sectors map image)
    → now ≤ old.journaled + (32 + 12 * slot_sectors map image)
open_journal map old mid image now after some gone most unset all but_first =
    by (first_is_set (incoming_slot map old image)) refl where
      by : (set : Bool) → first_is_set (incoming_slot map old image) ≡ set
          → now ≤ old.journaled + (32 + 12 * slot_sectors map image)
      by true e =
          let none : 0 * map.sector_size ≡ 0 = omega arith in
          let one : (0 + 1) * map.sector_size ≡ map.sector_size = omega arith in
          let blank = range_is_erased map mid (Slot image Secondary) (start_of map (Slot image Secondary)) map.sector_size
          (0 * map.sector_size) ((0 + 1) * map.sector_size)
          (ap are_erased (first_is map.sector_size (incoming_slot map mid image)) ∙ gone e) after
          (sector_ends map image 0 some) (omega (arith, none)) (omega (arith, none, one)) in
          omega (arith, most, but_first blank)
      by false e = omega (arith, unset e, all)

-- ---- the sectors that are erased

none_in : (size : ℕ) (bytes : List ℕ) (n : ℕ) → are_erased bytes ≡ true → worn_in size bytes n ≡ 0
none_in size bytes zero all = refl
none_in size bytes (suc n) all =
    omega (
      arith,
      none_in size bytes n all,
      ap {B = ℕ} (λ t. if t then 0 else 1)
          (erased_range bytes (n * size) ((n + 1) * size) all),
    )

-- An erased slot and trailer have no sector that isn't erased.
pub none_worn : (map : SectorMap) (chip : Chip) (image : ℕ) → IsWritten (incoming_slot map chip image) []
    → are_erased (trailer_bytes map chip image Secondary) ≡ true → worn map chip image ≡ 0
none_worn map chip image was trailer =
    let slot = incoming_slot map chip image in
    let all = each_erased slot (λ k lt. behind_at slot [] was k (omega arith) lt) in
    omega (arith, none_in map.sector_size slot (slot_sectors map image) all, ap {B = ℕ} (λ t. if t then 0 else 1) trailer)

-- ---- one component after the other

-- An image whose slot and trailer are kept has the same count.
worn_kept : (map : SectorMap) (touched : Part → Bool) (old new : Chip) (image : ℕ) → Keeps map touched old new
    → touched (Slot image Secondary) ≡ false → touched (TrailerOf image Secondary) ≡ false
    → worn map new image ≡ worn map old image
worn_kept map touched old new image keeps slot trailer =
    let here = ap (λ l. worn_in map.sector_size l (slot_sectors map image))
    (keeps.parts (Slot image Secondary) slot) in
    omega (arith, here, ap one_unless_erased (keeps.parts (TrailerOf image Secondary) trailer))

-- The first component names its image.
named_here : (cs : List Component) (c : Component) (i : ℕ) → (c.image == i) ≡ true → is_named (c ∷ cs) i ≡ true
named_here cs c i e =
    ap (λ t. is_some (option_or (latest cs i) (if t then Some c else None))) e ∙ by (latest cs i) where
      by : (other : Option Component) → is_some (option_or other (Some c)) ≡ true
      by None = refl
      by (Some d) = refl

named_besides : (cs : List Component) (c : Component) (i : ℕ) → (c.image == i) ≡ false
    → is_named (c ∷ cs) i ≡ is_named cs i
named_besides cs c i e =
    ap (λ t. is_some (option_or (latest cs i) (if t then Some c else None))) e ∙ by (latest cs i) where
      by : (other : Option Component) → is_some (option_or other None) ≡ is_some other
      by None = refl
      by (Some d) = refl

one_of : (named : Bool) (n : ℕ) → (if named then 0 else n) + (if named then n else 0) ≡ n
one_of true n = omega arith
one_of false n = omega arith

no_more : (named : Bool) (n : ℕ) → n ≡ 0 → ◌≡◌ {A = ℕ} (if named then 0 else n) 0
no_more true n none = refl
no_more false n none = none

-- After an image is erased, the other images have the same count, and it has 0.
worn_less : (map : SectorMap) (old new : Chip) (image : ℕ) (cs : List Component) → Keeps map (incoming_of image) old new
    → worn map new image ≡ 0
    → worn_of map old cs ≡ worn_of map new cs + (if is_named cs image then worn map old image else 0)
worn_less map old new image [] keeps none = omega arith
worn_less map old new image (c ∷ cs) keeps none =
    by (worn_less map old new image cs keeps none) (c.image == image) refl where
      by : worn_of map old cs ≡ worn_of map new cs + (if is_named cs image then worn map old image else 0) → (b : Bool)
          → (c.image == image) ≡ b
          → worn_of map old (c ∷ cs)
          ≡ worn_of map new (c ∷ cs) + (if is_named (c ∷ cs) image then worn map old image else 0)
      by rest true e =
          let here = eqb-true c.image image e in
          omega (
            arith,
            rest,
            ap {B = ℕ} (λ i. if is_named cs i then 0 else worn map old i) here,
            no_more (is_named cs c.image) (worn map new c.image) (ap (λ i. worn map new i) here ∙ none),
            one_of (is_named cs image) (worn map old image),
            ap {B = ℕ} (λ t. if t then worn map old image else 0) (named_here cs c image e),
          )
      by rest false e =
          let not_here : ((c.image == image) && true) ≡ false = ap (λ t. t && true) e in
          let same = worn_kept map (incoming_of image) old new c.image keeps not_here not_here in
          omega (
            arith,
            rest,
            ap {B = ℕ} (λ n. if is_named cs c.image then 0 else n) same,
            ap {B = ℕ} (λ t. if t then worn map old image else 0) (named_besides cs c image e),
          )

-- The count after one component more.
pub worn_next : (map : SectorMap) (old mid new : Chip) (cs : List Component) (i : ℕ) (d : Component) → i < length cs
    → Keeps map (incoming_of (get_or cs i d).image) mid new → worn map new (get_or cs i d).image ≡ 0
    → new.erases ≡ mid.erases + worn map mid (get_or cs i d).image
    → mid.erases + worn_of map mid (drop i cs) ≡ old.erases + worn_of map old cs
    → new.erases + worn_of map new (drop (i + 1) cs) ≡ old.erases + worn_of map old cs
worn_next map old mid new cs i d lt keeps none one before =
    let image = (get_or cs i d).image in
    let later = drop (i + 1) cs in
    omega (
      arith,
      one,
      before,
      ap (λ l. worn_of map mid l) (drop_more cs i d lt),
      worn_less map mid new image later keeps none,
      one_of (is_named later image) (worn map mid image),
    )

-- What opening the slots of the next component and those after it asks a journal for.
journal_next : (map : SectorMap) (cs : List Component) (i : ℕ) (d : Component) → i < length cs
    → journal_of_components map (drop i cs)
    ≡ (32 + 12 * slot_sectors map (get_or cs i d).image) + journal_of_components map (drop (i + 1) cs)
journal_next map cs i d lt = ap (λ l. journal_of_components map l) (drop_more cs i d lt)

-- What opening the slots of one component more asks a journal for.
pub journal_more : (map : SectorMap) (old mid new : ℕ) (cs : List Component) (i : ℕ) (d : Component) → i < length cs
    → new ≤ mid + (32 + 12 * slot_sectors map (get_or cs i d).image)
    → mid + journal_of_components map (drop i cs) ≤ old + journal_of_components map cs
    → new + journal_of_components map (drop (i + 1) cs) ≤ old + journal_of_components map cs
journal_more map old mid new cs i d lt one before = omega (arith, journal_next map cs i d lt, one, before)

-- Opening the slot of one component more changes nothing if all slots were blank.
pub idle_more : (map : SectorMap) (old mid new : Chip) (cs : List Component) (i : ℕ) (d : Component) → i < length cs
    → (IsBlank map mid (get_or cs i d).image → new ≡ mid) → (AreBlank map old cs → mid ≡ old) → AreBlank map old cs
    → new ≡ old
idle_more map old mid new cs i d lt one before blank =
    let same = before blank in
    one (subst (λ chip. IsBlank map chip (get_or cs i d).image) (sym same) (blank i d lt)) ∙ same

-- No component is left to count.
pub worn_last : (map : SectorMap) (chip : Chip) (cs : List Component) (i : ℕ) → length cs ≤ i
    → worn_of map chip (drop i cs) ≡ 0
worn_last map chip cs i le = ap (λ l. worn_of map chip l) (drop_all i cs le)

-- Recording a sequence number doesn't change the count.
worn_as : (map : SectorMap) (old new : Chip) (cs : List Component) → Keeps map (only Log) old new
    → worn_of map new cs ≡ worn_of map old cs
worn_as map old new [] keeps = refl
worn_as map old new (c ∷ cs) keeps =
    omega (
      arith,
      ap {B = ℕ} (λ n. if is_named cs c.image then 0 else n)
          (worn_kept map (only Log) old new c.image keeps refl refl),
      worn_as map old new cs keeps,
    )

-- The count if the sequence number is recorded first.
pub worn_erased : (map : SectorMap) (old mid new : Chip) (recorded sequence : ℕ) (cs : List Component)
    → Keeps map (only Log) old mid → mid.erases ≡ old.erases + erases_of_record map old recorded sequence
    → new.erases ≡ mid.erases + worn_of map mid cs → ErasesWorn map old new recorded sequence cs
worn_erased map old mid new recorded sequence cs keeps first rest =
    omega (arith, first, rest, worn_as map old mid cs keeps)

-- The same for the log's state, which two calls read.
pub worn_of_state : (map : SectorMap) (old mid new : Chip) (state found : State) (sequence : ℕ)
    (named cs : List Component) → mid ≡ old → named ≡ cs → state_of map old ≡ Some state
    → (view map old).log ≡ Some found → ErasesWorn map mid new found.sequence sequence named
    → ErasesWorn map old new state.sequence sequence cs
worn_of_state map old mid new state found sequence named cs same are read is worn =
    let one = same_state (view map old) state found read is in
    subst (λ (st : State). ErasesWorn map old new st.sequence sequence cs) (sym one)
    (subst (λ xs. ErasesWorn map old new found.sequence sequence xs) are
    (subst (λ chip. ErasesWorn map chip new found.sequence sequence named) same worn))
