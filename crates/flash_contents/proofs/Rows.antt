-- The rows of a table, as they are read.
use Rattle.std.proofs.Common.{◌≡◌, ℕ, ◌+◌, ◌<◌, ◌≤◌, Bool, List, [], ◌∷◌, ◌++◌, length, Option, Some, None, refl}
use Rattle.std.proofs.Common.{sym, ◌∙◌, ap, subst, arith, slice_get, slice_index, ⊎_elim, zero, suc, get_or}
use Rattle.std.proofs.Common.{length-append}
use Rattle.std.proofs.lemmas.Option.{slice_get_cases, none-some}
use Rattle.flash_model.specs.Chip.{Chip}
use Rattle.sector_map.specs.declared.layout.SectorMap.{SectorMap}
use Rattle.sector_map.specs.declared.layout.Side.TheVariants.{Secondary}
use Rattle.common.specs.Masks.{is_member}
use Rattle.image_reading.specs.declared.desc.Desc.{Desc}
use Rattle.image_reading.specs.Image.{IsIntact}
use Rattle.upload.specs.View.{view}
use Rattle.machine.specs.Device.{DeviceState, Wanted}
use Rattle.common.specs.Bytes.{Starts}
use Rattle.upload.specs.Steady.{IsFront, IsRequested, told_by}
use Rattle.reports.specs.declared.table.Table.{Table}
use Rattle.reports.specs.declared.table.Image.{Image}
use Rattle.reports.specs.declared.table.Entry.{Entry}
use Rattle.machine.specs.States.{entry_of}
use Rattle.machine.specs.Boots.{IsEntryOf, IsRequestOf, IsRowOf, IsTableOf, IsLowestDamaged}
use Rattle.flash_contents.specs.Reading.{IsReadOf, CanReadAt, CanRead, IsRowRead, AreRowsOf}
use Rattle.reports.specs.declared.table.Request.TheVariants as request
use Rattle.common.specs.declared.kind.Kind as request_kind
use Rattle.image_reading.proofs.Descriptions.{intact-unique}
use Rattle.upload.proofs.Images.{same_front}

-- At most one prefix is an intact image, and it has one description.
pub one_front : (whole first second : List ℕ) (a b : Desc) → Starts whole first → Starts whole second
    → IsIntact first a → IsIntact second b → (first ≡ second) × (a ≡ b)
one_front whole first second a b one two x y =
    let same = same_front whole first second a b one two x y in
    (same, intact-unique first a b x (subst (λ l. IsIntact l b) (sym same) y))

pub read_some : (whole : List ℕ) (d : Desc) (held : Option (List ℕ))
    → ((bytes : List ℕ) × Starts whole bytes × IsIntact bytes d × (length bytes ≡ d.length))
    → IsFront whole held → IsEntryOf held (entry_of d)
read_some whole d (Some bytes) (found, starts, image, long) front =
    let there = front.image bytes refl in
    let same = one_front whole found bytes d there.1.0 starts there.0 image there.1.1 in
    (there.1.0, there.1.1, ap (λ (e : Desc). entry_of e) (sym same.1))
read_some whole d None (found, starts, image, long) front = absurd (front.none refl found d starts image)

nothing : {X : Type 0} {x : X} → None ≡ Some x → ⊥
nothing e = cc

value_of : {X : Type 0} (y x : X) → Some y ≡ Some x → y ≡ x
value_of y x e = cc

pub request_read : (map : SectorMap) (old mid : Chip) (i : ℕ) (answer : Option request_kind.Kind)
    (kind : request_kind.Kind) (read : Option Entry) → answer ≡ Some kind
    → answer ≡ told_by ((view map old).trailer i Secondary) ((view map old).slot i Secondary) → mid ≡ old
    → ((held : Option (List ℕ)) → IsFront ((view map mid).slot i Secondary) held → IsReadOf held read)
    → (wanted : Option Wanted) → IsRequested ((view map old).trailer i Secondary)
    ((view map old).slot i Secondary) wanted → (w : Wanted) × (wanted ≡ Some w) × IsReadOf w.bytes read
request_read map old mid i answer kind read some is same reads None asked = absurd
    (none-some kind (sym (sym some ∙ is ∙ asked.kind)))
request_read map old mid i answer kind read some is same reads (Some w) asked = (
  w,
  refl,
  reads w.bytes (subst (λ (v : Chip). IsFront ((view map v).slot i Secondary) w.bytes) (sym same)
      (asked.front w refl)),
)

pub damaged_request : (map : SectorMap) (old mid : Chip) (i : ℕ) (answer : Option request_kind.Kind)
    (kind : request_kind.Kind) (read : Option Entry) → answer ≡ Some kind
    → answer ≡ told_by ((view map old).trailer i Secondary) ((view map old).slot i Secondary) → mid ≡ old
    → ((held : Option (List ℕ)) → IsFront ((view map mid).slot i Secondary) held → IsReadOf held read) → read ≡ None
    → (wanted : Option Wanted) → IsRequested ((view map old).trailer i Secondary)
    ((view map old).slot i Secondary) wanted → IsRequestOf wanted request.Damaged
damaged_request map old mid i answer kind read some is same reads none wanted asked =
    let found = request_read map old mid i answer kind read some is same reads wanted asked in
    let damaged : found.0.bytes ≡ None = subst (λ r. IsReadOf found.0.bytes r) none found.2 in
    subst (λ w. IsRequestOf w request.Damaged) (sym found.1) damaged

pub intact_request : (map : SectorMap) (old mid : Chip) (i : ℕ) (answer : Option request_kind.Kind)
    (kind : request_kind.Kind) (read : Option Entry) (entry : Entry) → answer ≡ Some kind
    → answer ≡ told_by ((view map old).trailer i Secondary) ((view map old).slot i Secondary) → mid ≡ old
    → ((held : Option (List ℕ)) → IsFront ((view map mid).slot i Secondary) held → IsReadOf held read)
    → read ≡ Some entry
    → (wanted : Option Wanted) → IsRequested ((view map old).trailer i Secondary)
    ((view map old).slot i Secondary) wanted → IsRequestOf wanted (request.Entry entry)
intact_request map old mid i answer kind read entry some is same reads given wanted asked =
    let found = request_read map old mid i answer kind read some is same reads wanted asked in
    let intact : IsEntryOf found.0.bytes entry = subst (λ r. IsReadOf found.0.bytes r) given found.2 in
    subst (λ w. IsRequestOf w (request.Entry entry)) (sym found.1) intact

-- A property of each element by its place lasts when one more element has it at the end.
pub each_pushed : {X : Type 0} (P : ℕ → X → Type 0) (xs : List X) (y : X)
    → ((k : ℕ) (x : X) → slice_get xs k ≡ Some x → P k x) → P (length xs) y
    → (k : ℕ) (x : X) → slice_get (xs ++ y ∷ []) k ≡ Some x → P k x
each_pushed P [] y each last zero x e = subst (λ w. P 0 w) (value_of y x e) last
each_pushed P [] y each last (suc k) x e = absurd (nothing e)
each_pushed P (z ∷ xs) y each last zero x e = each zero x e
each_pushed P (z ∷ xs) y each last (suc k) x e =
    each_pushed (λ j w. P (suc j) w) xs y (λ j w at. each (suc j) w at) last k x e

pub rows_none : (s : DeviceState) (floors : List ℕ) → AreRowsOf s floors 0 []
rows_none s floors = record { count = refl; each = λ k row e. absurd (nothing e) }

pub rows_more : (s : DeviceState) (floors : List ℕ) (n : ℕ) (rows : List Image) (row : Image)
    → AreRowsOf s floors n rows
    → IsRowOf (s.running n) (s.request n) (slice_index floors n) row → AreRowsOf s floors (n + 1) (rows ++ row ∷ [])
rows_more s floors n rows row before next = record {
  count = length-append rows (row ∷ []) ∙ ap (λ m. m + 1) before.count;
  each = each_pushed (λ k found. IsRowOf (s.running k) (s.request k) (slice_index floors k) found) rows row before.each
      (subst (λ m. IsRowOf (s.running m) (s.request m) (slice_index floors m) row) (sym before.count) next);
}

no_entry : (held : Option (List ℕ)) (entry : Entry) → held ≡ None → IsEntryOf held entry → ⊥
no_entry None entry e is = is
no_entry (Some bytes) entry e is = none-some bytes (sym e)

pub lowest_damaged : (map : SectorMap) (w : Chip) (s : DeviceState) (mask : ℕ) (floors : List ℕ) (i : ℕ)
    (rows : List Image) → CanRead (view map w) s mask floors → AreRowsOf s floors i rows
    → i < (view map w).images → s.running i ≡ None → IsLowestDamaged s i
lowest_damaged map w s mask floors i rows can before lt damaged = record {
  there = subst (λ n. i < n) can.images lt;
  damaged = damaged;
  lowest = λ j less none.
      let short : j < length rows = subst (λ n. j < n) (sym before.count) less in
      ⊎_elim
      (λ (found : (x : Image) × (j < length rows) × (slice_get rows j ≡ Some x)
      × (get_or rows j x ≡ x)). no_entry (s.running j) found.0.running none
      (before.each j found.0 found.2).running)
      (λ (past : (length rows ≤ j) × (slice_get rows j ≡ None)). let le : length rows ≤ j = past.0 in absurd
      (omega arith))
      (slice_get_cases rows j).1;
}

pub whole_table : (map : SectorMap) (w : Chip) (s : DeviceState) (mask : ℕ) (floors : List ℕ) (n : ℕ)
    (table : Table) → CanRead (view map w) s mask floors → AreRowsOf s floors n table.images.items
    → n ≡ (view map w).images → IsTableOf s table
whole_table map w s mask floors n table can before all = record {
  count = before.count ∙ all ∙ can.images;
  rows = λ i row e. subst (λ f. IsRowOf (s.running i) (s.request i) (slice_index f i) row) (sym can.floors)
      (before.each i row e);
}

row_read : (map : SectorMap) (w mid : Chip) (s : DeviceState) (mask : ℕ) (floors : List ℕ) (i floor : ℕ)
    (b : Bool) (read : Option Image) → CanRead (view map w) s mask floors → i < (view map w).images → mid ≡ w
    → b ≡ is_member mask i
    → ((s : DeviceState) → CanReadAt (view map mid) s b i → IsRowRead (s.running i) (s.request i) floor read)
    → IsRowRead (s.running i) (s.request i) floor read
row_read map w mid s mask floors i floor b read can lt same is reads =
    reads s (subst (λ v. CanReadAt (view map v) s b i) (sym same)
    (subst (λ m. CanReadAt (view map w) s m i) (sym is) (can.each i (subst (λ n. i < n) can.images lt))))

pub row_none : (map : SectorMap) (w mid : Chip) (s : DeviceState) (mask : ℕ) (floors : List ℕ) (i floor : ℕ)
    (b : Bool) (read : Option Image) → CanRead (view map w) s mask floors → i < (view map w).images → mid ≡ w
    → b ≡ is_member mask i
    → ((s : DeviceState) → CanReadAt (view map mid) s b i → IsRowRead (s.running i) (s.request i) floor read)
    → read ≡ None → s.running i ≡ None
row_none map w mid s mask floors i floor b read can lt same is reads none =
    subst (λ r. IsRowRead (s.running i) (s.request i) floor r) none
    (row_read map w mid s mask floors i floor b read can lt same is reads)

pub row_some : (map : SectorMap) (w mid : Chip) (s : DeviceState) (mask : ℕ) (floors : List ℕ) (i floor : ℕ)
    (b : Bool) (read : Option Image) (row : Image) → CanRead (view map w) s mask floors
    → i < (view map w).images → mid ≡ w → b ≡ is_member mask i
    → ((s : DeviceState) → CanReadAt (view map mid) s b i → IsRowRead (s.running i) (s.request i) floor read)
    → read ≡ Some row → floor ≡ slice_index floors i
    → IsRowOf (s.running i) (s.request i) (slice_index floors i) row
row_some map w mid s mask floors i floor b read row can lt same is reads some least =
    subst (λ f. IsRowOf (s.running i) (s.request i) f row) least
    (subst (λ r. IsRowRead (s.running i) (s.request i) floor r) some
    (row_read map w mid s mask floors i floor b read can lt same is reads))
