-- Lemmas for provisioning: what its result says of the flash before and after.
use Rattle.std.proofs.Common.{◌≡◌, ◌⊎◌, ℕ, ◌+◌, ◌<◌, ◌≤◌, ◌==◌, Bool, true, false, List, [], ◌∷◌, ◌++◌, length, Option, Some, None, Result, Ok, Err}
use Rattle.std.proofs.Common.{refl, sym, ◌∙◌, ap, subst, arith, slice_get, slice_index, get_or, ⊎_elim, inl, inr, zero, suc, replicate, length-append}
use Rattle.std.proofs.Common.{◌≢◌, map as list_map, set, length-set, get_or-set_same, get_or-set_other, true≢false}
use Rattle.std.specs.Option.{option_map}
use Rattle.std.proofs.Math.Bool.{and-false}
use Rattle.std.proofs.lemmas.Bool.{cases_eq, cases_lt}
use Rattle.std.proofs.lemmas.List.{length-map, map-append, same_lists}
use Rattle.std.proofs.lemmas.Option.{get_or_from_slice_get, slice_get-get_or, slice_get-map}
use Rattle.std.proofs.lemmas.Option.{slice_get_cases, slice_get_within, none-some}
use Rattle.flash_model.specs.Chip.{Chip}
use Rattle.flash_model.specs.declared.error.FlashError.TheVariants as flash
use Rattle.sector_map.specs.declared.layout.SectorMap.{SectorMap}
use Rattle.sector_map.specs.declared.layout.Side.{Side}
use Rattle.sector_map.specs.declared.layout.Side.TheVariants.{Primary, Secondary}
use Rattle.sector_map.specs.Part.{Part, Slot, TrailerOf, Scratch, Log, only, trailers_of}
use Rattle.sector_map.specs.Map.{Keeps}
use Rattle.sector_map.proofs.Parts.{keeps_trans, keeps_wider}
use Rattle.flash_model.specs.Units.{are_erased}
use Rattle.set_log.specs.Log.{state_of}
use Rattle.set_log.specs.Record.{fits}
use Rattle.set_log.proofs.Table.{fits_of}
use Rattle.image_reading.specs.declared.desc.Desc.{Desc}
use Rattle.image_reading.specs.Image.{BeginsIntact, IsIntact}
use Rattle.image_reading.proofs.Descriptions.{front-unique}
use Rattle.reports.specs.declared.table.Table.{Table}
use Rattle.reports.specs.declared.table.Image.{Image}
use Rattle.reports.specs.declared.table.Entry.{Entry}
use Rattle.reports.specs.declared.table.Request.{Request}
use Rattle.reports.specs.declared.table.Request.TheVariants as request
use Rattle.reports.specs.Combination.{IsValid, running_set}
use Rattle.validity.specs.Running.{running_row}
use Rattle.upload.specs.View.{view}
use Rattle.upload.proofs.Views.{view_kept}
use Rattle.machine.specs.Device.{DeviceState}
use Rattle.common.specs.Bytes.{Starts}
use Rattle.upload.specs.Steady.{IsFront, IsSteadyAt}
use Rattle.machine.specs.States.{entry_of}
use Rattle.machine.specs.Boots.{IsEntryOf, IsSound, IsTableOf}
use Rattle.machine.specs.declared.error.Fault.{Fault}
use Rattle.machine.specs.declared.error.Fault.TheVariants as no
use Rattle.flash_contents.proofs.Ending.{none_asked}
use Rattle.flash_contents.proofs.Preparing.{eqb_no}
use Rattle.machine.proofs.SoundBoots.{all_sound}
use Rattle.machine.proofs.Unique.{one_description}
use Rattle.boot_core.proofs.Records.{none_within}
use Rattle.boot_core.specs.Provisioned.{AnswersMaking, AreCleared, AreCounters, AreRunningRows, HasCounters}
use Rattle.boot_core.specs.Provisioned.{HoldsImage, IsBegunAfresh, IsDoneOrCut, IsFirstDamaged, IsFirstState}
use Rattle.boot_core.specs.Provisioned.{IsInvalidThere, IsProvisioned, IsRunningRow, IsRunningTable, IsTrailerErased}
use Rattle.boot_core.specs.Provisioned.{IsValidThere, any_trailer, first_record, provided, running_bytes}

the_one : {X : Type 0} (x y : X) → Some x ≡ Some y → x ≡ y
the_one x y e = cc

-- ---- rows are read

pub rows_none : (map : SectorMap) (chip : Chip) → AreRunningRows map chip 0 []
rows_none map chip = record { count = refl; each = λ i row e. absurd (none-some row e) }

push_cases : {X : Type 0} (xs : List X) (y : X) (k : ℕ) (x : X) → slice_get (xs ++ y ∷ []) k ≡ Some x
    → (slice_get xs k ≡ Some x) ⊎ ((k ≡ length xs) × (y ≡ x))
push_cases [] y zero x e = inr (refl, the_one y x e)
push_cases [] y (suc k) x e = absurd (none-some x e)
push_cases (z ∷ zs) y zero x e = inl e
push_cases (z ∷ zs) y (suc k) x e = ⊎_elim (λ (at : slice_get zs k ≡ Some x). inl at)
    (λ (last : (k ≡ length zs) × (y ≡ x)). inr (ap suc last.0, last.1)) (push_cases zs y k x e)

pub rows_more : (map : SectorMap) (chip : Chip) (n : ℕ) (rows : List Image) (row : Image)
    → AreRunningRows map chip n rows → IsRunningRow (running_bytes map chip n) row
    → AreRunningRows map chip (n + 1) (rows ++ row ∷ [])
rows_more map chip n rows row before next = record {
  count = length-append rows (row ∷ []) ∙ ap (λ m. m + 1) before.count;
  each = λ k found e. ⊎_elim
      (λ (at : slice_get rows k ≡ Some found). before.each k found at)
      (λ (last : (k ≡ length rows) × (row ≡ found)).
      let here : n ≡ k = sym (last.0 ∙ before.count) in
      subst (λ r. IsRunningRow (running_bytes map chip k) r) last.1
      (subst (λ m. IsRunningRow (running_bytes map chip m) row) here next))
      (push_cases rows row k found e);
}

-- What is read of an image is its row.
pub read_entry_is : (whole : List ℕ) (entry : Entry) (description : Desc) → BeginsIntact whole description
    → entry ≡ entry_of description → IsRunningRow whole (running_row entry)
read_entry_is whole entry description begins is = record {
  description = description;
  begins = begins;
  running = is;
  request = refl;
  floor = ap (λ (e : Entry). e.counter) is;
}

pub entries_more : (map : SectorMap) (chip : Chip) (n : ℕ) (entries : List Entry) (entry : Entry)
    → AreRunningRows map chip n (list_map running_row entries)
    → IsRunningRow (running_bytes map chip n) (running_row entry)
    → AreRunningRows map chip (n + 1) (list_map running_row (entries ++ entry ∷ []))
entries_more map chip n entries entry before next =
    subst (λ rows. AreRunningRows map chip (n + 1) rows) (sym (map-append running_row entries (entry ∷ [])))
    (rows_more map chip n (list_map running_row entries) (running_row entry) before next)

-- Each image below n has a row.
pub row_there : (map : SectorMap) (chip : Chip) (n : ℕ) (rows : List Image) (i : ℕ)
    → AreRunningRows map chip n rows → i < n
    → (row : Image) × (slice_get rows i ≡ Some row) × IsRunningRow (running_bytes map chip i) row
row_there map chip n rows i there lt = ⊎_elim
    (λ (found : (x : Image) × (i < length rows) × (slice_get rows i ≡ Some x) × (get_or rows i x ≡ x)).
    (found.0, found.2, there.each i found.0 found.2))
    (λ (past : (length rows ≤ i) × (slice_get rows i ≡ None)). absurd (too_far past.0))
    (slice_get_cases rows i).1
  where
    too_far : length rows ≤ i → ⊥
    too_far le = omega (arith, le, lt, there.count)

pub first_damaged : (map : SectorMap) (chip : Chip) (i : ℕ) (rows : List Image) → AreRunningRows map chip i rows
    → i < map.images → (HoldsImage (running_bytes map chip i) → ⊥) → IsFirstDamaged map chip i
first_damaged map chip i rows before lt damaged = record {
  there = lt;
  damaged = damaged;
  lower = λ j less.
      let row = (row_there map chip i rows j before less).2 in
      (row.description, row.begins);
}

-- ---- the counters

pub zeros_at : (i : ℕ) → slice_index (replicate 8 0) i ≡ 0
zeros_at i = zeros 8 i where
  zeros : (n i : ℕ) → get_or {A = ℕ} (replicate n 0) i 0 ≡ 0
  zeros zero i = refl
  zeros (suc n) zero = refl
  zeros (suc n) (suc i) = zeros n i

-- The counters of the entries below n are written.
pub record AreWritten (entries : List Entry) (n : ℕ) (counters : List ℕ) : Type 0 where
  pub size : length counters ≡ 8
  pub each : (i : ℕ) (entry : Entry) → i < n → slice_get entries i ≡ Some entry → slice_index counters i ≡ entry.counter
  pub rest : (i : ℕ) → n ≤ i → slice_index counters i ≡ 0

pub none_written : (entries : List Entry) → AreWritten entries 0 (replicate 8 0)
none_written entries = record {
  size = refl;
  each = λ i entry below at. absurd (omega (arith, below));
  rest = λ i past. zeros_at i;
}

pub one_written : (entries : List Entry) (n : ℕ) (counters : List ℕ) (entry : Entry) → n < 8
    → entry ≡ get_or entries n entry → AreWritten entries n counters
    → AreWritten entries (n + 1) (set counters n entry.counter)
one_written entries n counters entry few at was = record {
  size = length-set counters n entry.counter ∙ was.size;
  each = λ i found below there. ⊎_elim
      (λ (here : i ≡ n). written i found here there)
      (λ (away : i ≢ n). get_or-set_other counters n i entry.counter 0 away ∙ was.each i found (omega (arith, below, away)) there)
      (cases_eq i n);
  rest = λ i past.
      let away : i ≢ n = omega (arith, past) in
      get_or-set_other counters n i entry.counter 0 away ∙ was.rest i (omega (arith, past));
} where
  within : n < length counters
  within = omega (arith, few, was.size)

  written : (i : ℕ) (found : Entry) → i ≡ n → slice_get entries i ≡ Some found
      → slice_index (set counters n entry.counter) i ≡ found.counter
  written i found here there =
      ap (λ k. slice_index (set counters n entry.counter) k) here
      ∙ get_or-set_same counters n entry.counter 0 within
      ∙ ap (λ (e : Entry). e.counter) (at ∙ get_or_from_slice_get entries n found entry (ap (λ k. slice_get entries k) (sym here) ∙ there))

-- All written, they are the counters of the images that run.
pub all_written : (entries : List Entry) (counters : List ℕ) → AreWritten entries (length entries) counters
    → AreCounters (list_map running_row entries) counters
all_written entries counters written = record {
  each = λ i row at. of_row i row (slice_get entries i) refl (sym (slice_get-map running_row entries i) ∙ at);
  rest = λ i past. written.rest i (rw (← length-map entries running_row) past);
} where
  of_row : (i : ℕ) (row : Image) (found : Option Entry) → slice_get entries i ≡ found
      → option_map running_row found ≡ Some row → slice_index counters i ≡ row.running.counter
  of_row i row None is e = absurd (none-some row e)
  of_row i row (Some entry) is e =
      written.each i entry (slice_get_within entries i entry is) is
      ∙ ap (λ (r : Image). r.running.counter) (the_one (running_row entry) row e)

-- ---- trailers are erased

-- An erased trailer stays erased if it isn't touched.
erased_kept : (map : SectorMap) (touched : Part → Bool) (mid new : Chip) (i : ℕ) (side : Side)
    → touched (TrailerOf i side) ≡ false → Keeps map touched mid new → IsTrailerErased map mid i side
    → IsTrailerErased map new i side
erased_kept map touched mid new i side off keeps was = record {
  bytes = ap (λ l. are_erased l) (keeps.parts (TrailerOf i side) off) ∙ was.bytes;
  fields = (view_kept map touched mid new keeps).trailers i side off ∙ was.fields;
}

pub both_cleared : (map : SectorMap) (mid new : Chip) (i : ℕ) → IsTrailerErased map mid i Primary
    → Keeps map (only (TrailerOf i Secondary)) mid new → IsTrailerErased map new i Secondary
    → (side : Side) → IsTrailerErased map new i side
both_cleared map mid new i first keeps second Primary =
    erased_kept map (only (TrailerOf i Secondary)) mid new i Primary (and-false (i == i)) keeps first
both_cleared map mid new i first keeps second Secondary = second

trailers_among : (j : ℕ) (part : Part) → any_trailer part ≡ false → trailers_of j part ≡ false
trailers_among j (Slot i side) e = refl
trailers_among j (TrailerOf i side) e = absurd (true≢false e)
trailers_among j Scratch e = refl
trailers_among j Log e = refl

any_provided : (part : Part) → provided part ≡ false → any_trailer part ≡ false
any_provided (Slot i side) e = refl
any_provided (TrailerOf i side) e = absurd (true≢false e)
any_provided Scratch e = refl
any_provided Log e = refl

log_provided : (part : Part) → provided part ≡ false → only Log part ≡ false
log_provided (Slot i side) e = refl
log_provided (TrailerOf i side) e = refl
log_provided Scratch e = refl
log_provided Log e = absurd (true≢false e)

pub trailers_more : (map : SectorMap) (j : ℕ) (old mid new : Chip) → Keeps map any_trailer old mid
    → Keeps map (trailers_of j) mid new → Keeps map any_trailer old new
trailers_more map j old mid new first second = keeps_trans map any_trailer old mid new first
    (keeps_wider map (trailers_of j) any_trailer mid new (trailers_among j) second)

pub provided_trailers : (map : SectorMap) (old new : Chip) → Keeps map any_trailer old new
    → Keeps map provided old new
provided_trailers map old new keeps = keeps_wider map any_trailer provided old new any_provided keeps

pub provided_log : (map : SectorMap) (old mid new : Chip) → Keeps map any_trailer old mid
    → Keeps map (only Log) mid new → Keeps map provided old new
provided_log map old mid new first second =
    keeps_trans map provided old mid new (provided_trailers map old mid first)
    (keeps_wider map (only Log) provided mid new log_provided second)

-- The trailers stay erased while the log is begun.
pub cleared_kept : (map : SectorMap) (mid new : Chip) → AreCleared map mid map.images
    → Keeps map (only Log) mid new → AreCleared map new map.images
cleared_kept map mid new cleared keeps i lt side =
    erased_kept map (only Log) mid new i side refl keeps (cleared i lt side)

pub cleared_more : (map : SectorMap) (mid new : Chip) (n : ℕ) → AreCleared map mid n
    → Keeps map (trailers_of n) mid new
    → ((side : Side) → IsTrailerErased map new n side) → AreCleared map new (n + 1)
cleared_more map mid new n before keeps here i lt side = ⊎_elim
    (λ (below : i < n).
    let other : i ≡ n → ⊥ = λ e. not_below e below in
    erased_kept map (trailers_of n) mid new i side (eqb_no i n (i == n) refl other) keeps (before i below side))
    (λ (above : n ≤ i).
    let same : n ≡ i = omega (arith, lt, above) in
    subst (λ k. IsTrailerErased map new k side) same (here side))
    (cases_lt i n)
  where
    not_below : i ≡ n → i < n → ⊥
    not_below e below = omega (arith, e, below)

-- ---- the log is begun

pub first_fits : (map : SectorMap) (floors : List ℕ)
    → ((i : ℕ) → map.images ≤ i → slice_index floors i ≡ 0) → fits map.images (first_record floors) ≡ true
first_fits map floors rest = fits_of map (first_record floors) (omega arith) (none_within map) refl rest

pub begun_afresh : (map : SectorMap) (floors : List ℕ) (mid new : Chip) → AreCleared map mid map.images
    → Keeps map (only Log) mid new → state_of map new ≡ Some (first_record floors)
    → IsBegunAfresh map floors new
begun_afresh map floors mid new cleared keeps log = record {
  cleared = cleared_kept map mid new cleared keeps;
  log = log;
}

-- ---- the state that is left

-- What a row says of the bytes of its image.
record IsHeld (whole : List ℕ) (held : Option (List ℕ)) (row : Image) : Type 0 where
  bytes : List ℕ
  description : Desc
  is : held ≡ Some bytes
  starts : Starts whole bytes
  intact : IsIntact bytes description
  running : row.running ≡ entry_of description
  request : row.request ≡ request.None
  floor : row.floor ≡ description.counter

abbrev held_by : (whole : List ℕ) (found : Option Image)
    → ((row : Image) → found ≡ Some row → IsRunningRow whole row) → Option (List ℕ)
held_by whole None tells = None
held_by whole (Some row) tells = Some (tells row refl).begins.0

is_held : (whole : List ℕ) (found : Option Image)
    (tells : (row : Image) → found ≡ Some row → IsRunningRow whole row) (row : Image) → found ≡ Some row
    → IsHeld whole (held_by whole found tells) row
is_held whole None tells row e = absurd (none-some row e)
is_held whole (Some first) tells row e =
    let told = tells first refl in
    subst (λ r. IsHeld whole (held_by whole (Some first) tells) r) (the_one first row e) (record {
      bytes = told.begins.0;
      description = told.description;
      is = refl;
      starts = (told.begins.1, told.begins.2);
      intact = told.begins.3;
      running = told.running;
      request = told.request;
      floor = told.floor;
    })

held_front : (whole : List ℕ) (held : Option (List ℕ)) (row : Image) → IsHeld whole held row → IsFront whole held
held_front whole held row is = record {
  image = λ bytes e.
      let same : is.bytes ≡ bytes = the_one is.bytes bytes (sym is.is ∙ e) in (
        subst (λ l. Starts whole l) same is.starts,
        (is.description, subst (λ l. IsIntact l is.description) same is.intact),
      );
  none = λ e. absurd (none-some is.bytes (sym e ∙ is.is));
}

module _ (map : SectorMap) (old new : Chip) (floors : List ℕ) (table : Table)
    (there : IsRunningTable map old table) (counters : AreCounters table.images.items floors) where
  abbrev first_state : DeviceState
  first_state = record {
    images = map.images;
    running = λ i. held_by (running_bytes map old i) (slice_get table.images.items i) (there.each i);
    request = λ i. None;
    floors = floors;
    sequence = 0;
    trial = None;
  }

  held_at : (i : ℕ) (row : Image) → slice_get table.images.items i ≡ Some row
      → IsHeld (running_bytes map old i) (first_state.running i) row
  held_at i row at = is_held (running_bytes map old i) (slice_get table.images.items i) (there.each i) row at

  held_below : (i : ℕ) → i < map.images
      → (row : Image) × (slice_get table.images.items i ≡ Some row)
      × IsHeld (running_bytes map old i) (first_state.running i) row
  held_below i lt =
      let found = row_there map old map.images table.images.items i there lt in
      (found.0, found.1, held_at i found.0 found.1)

  is_first : IsFirstState map old first_state
  is_first = record {
    images = refl;
    running = λ i lt.
        let held = (held_below i lt).2 in
        (held.bytes, held.is, held.starts, (held.description, held.intact));
    request = λ i. refl;
    trial = refl;
    sequence = refl;
    floors = λ i bytes description lt runs intact.
        let found = held_below i lt in
        let held = found.2 in
        let same : held.bytes ≡ bytes = the_one held.bytes bytes (sym held.is ∙ runs) in
        let one : held.description ≡ description = one_description bytes held.description description
        (subst (λ l. IsIntact l held.description) same held.intact) intact in
        counters.each i found.0 found.1 ∙ ap (λ (e : Entry). e.counter) held.running
        ∙ ap (λ (d : Desc). d.counter) one;
    rest = λ i le. counters.rest i (subst (λ n. n ≤ i) (sym there.count) le);
  }

  first_table : IsTableOf first_state table
  first_table = record {
    count = there.count;
    rows = λ i row at.
        let held = held_at i row at in
        record {
          running = subst (λ h. IsEntryOf h row.running) (sym held.is)
              (held.description, held.intact, sym held.running);
          request = held.request;
          floor = held.floor ∙ sym (counters.each i row at ∙ ap (λ (e : Entry). e.counter) held.running);
        };
  }

  rests_first : Keeps map provided old new → IsBegunAfresh map floors new
      → IsSteadyAt (view map new) first_state
  rests_first keeps begun = record {
    trial = refl;
    images = refl;
    log = begun.log;
    each = λ i lt.
        let found = held_below i lt in
        record {
          running = subst (λ l. IsFront l (first_state.running i))
              (sym ((view_kept map _ _ _ keeps).slots i Primary refl))
              (held_front (running_bytes map old i) (first_state.running i) found.0 found.2);
          request = none_asked ((view map new).trailer i Secondary) ((view map new).slot i Secondary)
              (begun.cleared i lt Secondary).fields;
        };
  }

pub made_device : (map : SectorMap) (old new : Chip) (floors : List ℕ) → HasCounters map old floors
    → Keeps map provided old new → IsBegunAfresh map floors new → IsProvisioned map old new
made_device map old new floors (table, there, valid, counters) keeps begun =
    let s = first_state map old new floors table there counters in
    let sound : IsSound s = (table, first_table map old new floors table there counters, valid) in (
      s,
      is_first map old new floors table there counters,
      rests_first map old new floors table there counters keeps begun,
      sound,
      all_sound s refl sound,
    )

-- ---- each flash has one answer

one_row : (whole : List ℕ) (a b : Image) → IsRunningRow whole a → IsRunningRow whole b → a ≡ b
one_row whole a b first second =
    let same = front-unique whole first.description second.description first.begins second.begins in
    let row : Entry → Request → ℕ → Image = λ r q f. record { running = r; request = q; floor = f } in
    ap (λ r. row r a.request a.floor) (first.running ∙ ap entry_of same ∙ sym second.running)
    ∙ ap (λ q. row b.running q a.floor) (first.request ∙ sym second.request)
    ∙ ap (λ f. row b.running b.request f)
    (first.floor ∙ ap (λ (d : Desc). d.counter) same ∙ sym second.floor)

one_running : (map : SectorMap) (chip : Chip) (a b : Table) → IsRunningTable map chip a → IsRunningTable map chip b
    → a ≡ b
one_running map chip a b first second =
    let long : length a.images.items ≡ length b.images.items = first.count ∙ sym second.count in
    let rows : a.images.items ≡ b.images.items = same_lists a.images.items b.images.items long
    (λ k d lt. one_row (running_bytes map chip k) _ _
    (first.each k _ (slice_get-get_or a.images.items k d lt))
    (second.each k _ (slice_get-get_or b.images.items k d (subst (λ n. k < n) long lt)))) in
    let table : List Image → Table = λ l. record { images = record { items = l } } in
    ap table rows

valid_or_not : (map : SectorMap) (chip : Chip) → IsValidThere map chip → IsInvalidThere map chip → ⊥
valid_or_not map chip (a, first, valid) (b, second, not_valid) =
    not_valid (subst (λ t. IsValid t running_set) (one_running map chip a b first second) valid)

whole_or_not : (map : SectorMap) (chip : Chip) (i : ℕ) (table : Table) → IsRunningTable map chip table
    → IsFirstDamaged map chip i → ⊥
whole_or_not map chip i table there first =
    let row = (row_there map chip map.images table.images.items i there first.there).2 in
    first.damaged (row.description, row.begins)

one_first : (map : SectorMap) (chip : Chip) (i j : ℕ) → IsFirstDamaged map chip i → IsFirstDamaged map chip j
    → i ≡ j
one_first map chip i j first second = ⊎_elim
    (λ (below : i < j). absurd (first.damaged (second.lower i below)))
    (λ (from : j ≤ i). ⊎_elim
    (λ (below : j < i). absurd (second.damaged (first.lower j below)))
    (λ (to : i ≤ j). both from to)
    (cases_lt j i))
    (cases_lt i j)
  where
    both : j ≤ i → i ≤ j → i ≡ j
    both a b = omega (arith, a, b)

-- What holds of each possible result holds of the given one.
by_answer : (map : SectorMap) (old new : Chip) (P : Result Unit Fault → Type 0)
    → (IsValidThere map old → P (Ok tt))
    → ((j : ℕ) → IsFirstDamaged map old j × (new ≡ old) → P (Err (no.RunningDamaged j)))
    → (IsInvalidThere map old → P (Err no.InvalidSet))
    → (IsValidThere map old → P (Err (no.Flash flash.Cut)))
    → (old.is_on ≡ false → P (Err (no.Flash flash.Off)))
    → (result : Result Unit Fault) → AnswersMaking map old new result → P result
by_answer map old new P ok damaged invalid cut off (Ok done) (valid, made, uncut) = ok valid
by_answer map old new P ok damaged invalid cut off (Err (no.RunningDamaged j)) first = damaged j first
by_answer map old new P ok damaged invalid cut off (Err no.InvalidSet) (there, same) = invalid there
by_answer map old new P ok damaged invalid cut off (Err (no.Flash flash.Cut)) (valid, last) = cut valid
by_answer map old new P ok damaged invalid cut off (Err (no.Flash flash.Off)) (is, same) = off is
by_answer map old new P ok damaged invalid cut off (Err no.NotBooted) never = absurd never
by_answer map old new P ok damaged invalid cut off (Err no.OnTrial) never = absurd never
by_answer map old new P ok damaged invalid cut off (Err no.NotOnTrial) never = absurd never
by_answer map old new P ok damaged invalid cut off (Err no.NotProvisioned) never = absurd never
by_answer map old new P ok damaged invalid cut off (Err no.NoMemory) never = absurd never
by_answer map old new P ok damaged invalid cut off (Err (no.Manifest error)) never = absurd never
by_answer map old new P ok damaged invalid cut off (Err (no.Upload error)) never = absurd never

pub damaged_answer : (map : SectorMap) (old new : Chip) (result : Result Unit Fault) (i : ℕ)
    → AnswersMaking map old new result → old.is_on ≡ true → IsFirstDamaged map old i
    → result ≡ Err (no.RunningDamaged i)
damaged_answer map old new result i answers on first = by_answer map old new (λ r. r ≡ Err (no.RunningDamaged i))
    (λ valid. absurd (whole_or_not map old i valid.0 valid.1 first))
    (λ j other. ap (λ k. Err (no.RunningDamaged k)) (one_first map old j i other.0 first))
    (λ there. absurd (whole_or_not map old i there.0 there.1 first))
    (λ valid. absurd (whole_or_not map old i valid.0 valid.1 first))
    (λ off. absurd (true≢false (sym on ∙ off))) result answers

pub invalid_answer : (map : SectorMap) (old new : Chip) (result : Result Unit Fault)
    → AnswersMaking map old new result → old.is_on ≡ true → IsInvalidThere map old → result ≡ Err no.InvalidSet
invalid_answer map old new result answers on there = by_answer map old new (λ r. r ≡ Err no.InvalidSet)
    (λ valid. absurd (valid_or_not map old valid there))
    (λ j first. absurd (whole_or_not map old j there.0 there.1 first.0))
    (λ also. refl) (λ valid. absurd (valid_or_not map old valid there))
    (λ off. absurd (true≢false (sym on ∙ off))) result answers

pub whole_answer : (map : SectorMap) (old new : Chip) (result : Result Unit Fault)
    → AnswersMaking map old new result → old.is_on ≡ true → IsValidThere map old → IsDoneOrCut result
whole_answer map old new result answers on there = by_answer map old new IsDoneOrCut (λ valid. tt)
    (λ j first. absurd (whole_or_not map old j there.0 there.1 first.0))
    (λ also. absurd (valid_or_not map old there also)) (λ valid. refl)
    (λ off. absurd (true≢false (sym on ∙ off))) result answers

pub valid_there : (map : SectorMap) (chip : Chip) (floors : List ℕ) → HasCounters map chip floors
    → IsValidThere map chip
valid_there map chip floors (table, there, valid, counters) = (table, there, valid)
