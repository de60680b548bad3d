-- Which images a boot may move, and what the primary slots begin with by a decision.
use Rattle.std.proofs.Common.{◌≡◌, ℕ, ◌<◌, Bool, List, true, false, ◌||◌, length, Option, Some, None, IsSomeAnd, is_some, ap, refl, subst, sym, ◌∙◌}
use Rattle.std.proofs.lemmas.Bool.{false≢true}
use Rattle.flash_model.specs.Chip.{Chip}
use Rattle.sector_map.specs.declared.layout.SectorMap.{SectorMap}
use Rattle.sector_map.specs.declared.layout.Side.TheVariants.{Primary, Secondary}
use Rattle.sector_map.specs.Map.{Keeps}
use Rattle.sector_map.specs.Part.{Log, only}
use Rattle.common.specs.Masks.{is_member}
use Rattle.reports.specs.declared.table.Entry.{Entry}
use Rattle.reports.specs.declared.table.Image.{Image}
use Rattle.reports.specs.declared.table.Request.{Request}
use Rattle.reports.specs.declared.table.Table.{Table}
use Rattle.reports.specs.declared.table.Request.TheVariants as request
use Rattle.reports.specs.declared.report.Report.{Report}
use Rattle.reports.specs.Combination.{IsGreatest, MayReplace, entry_in, image_at, intact_entry}
use Rattle.reports.specs.Rightness.{taken_in}
use Rattle.trailer.specs.Fields.{Fields}
use Rattle.common.specs.declared.kind.Kind.{Kind}
use Rattle.set_log.specs.declared.state.State.{State}
use Rattle.set_log.specs.Log.{state_of}
use Rattle.upload.specs.Steady.{request_in, told_by}
use Rattle.upload.specs.View.{View, view}
use Rattle.upload.proofs.Views.{view_kept}
use Rattle.flash_contents.specs.Starting.{AreHeld, HoldsEntry, IsHeld, StartsSet}
use Rattle.flash_contents.proofs.Steadying.{no_member}
use Rattle.decision.specs.Found.{AreRowsHeld, IsRequestHeld, IsRowAsked, IsRowWanted}
use Rattle.boot_core.specs.Preparing.{IsSetHeld}
use Rattle.boot_core.specs.Moving.{is_recorded, may_move}

or_right : (a b : Bool) → b ≡ true → (a || b) ≡ true
or_right true b is = refl
or_right false b is = is

or_parts : (a b c d : Bool) → a ≡ false → d ≡ b → (a || b) ≡ true → (c || d) ≡ true
or_parts true b c d none same is = absurd (false≢true (sym none))
or_parts false b c d none same is = or_right c d (same ∙ is)

-- A row without a request isn't taken.
refused_row : (row : Image) → row.request ≡ request.None
    → IsSomeAnd (intact_entry row.request) (λ entry. MayReplace row entry) → ⊥
refused_row row is accepts = subst (λ r. IsSomeAnd (intact_entry r) (λ entry. MayReplace row entry)) is accepts

never_taken : (found : Option Image) → ((row : Image) → found ≡ Some row → row.request ≡ request.None)
    → IsSomeAnd found (λ image. IsSomeAnd (intact_entry image.request) (λ entry. MayReplace image entry)) → ⊥
never_taken None rows accepts = accepts
never_taken (Some row) rows accepts = refused_row row (rows row refl) accepts

-- An image that a decision takes at rest is requested, so a boot may move it.
module _ (map : SectorMap) (old : Chip) (table : Table) (report : Report)
    (held : AreRowsHeld (view map old) 0 table.images.items) (greatest : IsGreatest table (taken_in report)) where
  none_asked : (i : ℕ) → request_in (view map old) i ≡ None → taken_in report i ≡ true → ⊥
  none_asked i none taken = never_taken (image_at table i)
      (λ row there. subst (λ b. IsRowAsked (view map old) b i (Some row)) (no_member i) (held.asked i row there) none)
      (greatest.valid.members i taken)

  some_asked : (i : ℕ) (asked : Option Kind) → request_in (view map old) i ≡ asked → taken_in report i ≡ true
      → is_some asked ≡ true
  some_asked i (Some kind) is taken = refl
  some_asked i None is taken = absurd (none_asked i is taken)

  pub taken_moves : (i : ℕ) → taken_in report i ≡ true → may_move map old i ≡ true
  taken_moves i taken = or_right (is_recorded (state_of map old) i) (is_some (request_in (view map old) i))
      (some_asked i (request_in (view map old) i) refl taken)

-- The set of a decision, as a mask.
pub mask_moves : (map : SectorMap) (old : Chip) (table : Table) (report : Report) (mask : ℕ)
    → AreRowsHeld (view map old) 0 table.images.items → IsGreatest table (taken_in report)
    → ((i : ℕ) → is_member mask i ≡ taken_in report i) → (i : ℕ) → is_member mask i ≡ true
    → may_move map old i ≡ true
mask_moves map old table report mask held greatest each i member =
    taken_moves map old table report held greatest i (sym (each i) ∙ member)

-- Each image of this set is requested.
pub mask_asked : (map : SectorMap) (old : Chip) (table : Table) (report : Report) (mask : ℕ)
    → AreRowsHeld (view map old) 0 table.images.items → IsGreatest table (taken_in report)
    → ((i : ℕ) → is_member mask i ≡ taken_in report i) → (i : ℕ) → is_member mask i ≡ true
    → is_some (request_in (view map old) i) ≡ true
mask_asked map old table report mask held greatest each i member =
    some_asked map old table report held greatest i (request_in (view map old) i) refl (sym (each i) ∙ member)

-- After the record that a trial is over, a boot may move no other images.
pub over_moves : (map : SectorMap) (old mid : Chip) (state : State) → Keeps map (only Log) old mid
    → state_of map mid ≡ Some state → state.mask ≡ 0 → (i : ℕ) → may_move map mid i ≡ true
    → may_move map old i ≡ true
over_moves map old mid state keeps read none i moves =
    let kept = view_kept map (only Log) old mid keeps in
    let same : request_in (view map old) i ≡ request_in (view map mid) i =
    sym (ap (λ (f : Fields). told_by f ((view map mid).slot i Secondary)) (kept.trailers i Secondary refl)
    ∙ ap (λ slot. told_by ((view map old).trailer i Secondary) slot) (kept.slots i Secondary refl)) in
    or_parts (is_recorded (state_of map mid) i) (is_some (request_in (view map mid) i))
    (is_recorded (state_of map old) i) (is_some (request_in (view map old) i))
    (ap (λ found. is_recorded found i) read ∙ ap (λ m. is_member m i) none ∙ no_member i)
    (ap (λ asked. is_some asked) same) moves

-- The primary slots begin with what a decision takes, if the slots of its set are swapped.
pub starts_set : (w : View) (table : Table) (report : Report) (mask : ℕ) → length table.images.items ≡ w.images
    → AreRowsHeld w mask table.images.items → IsGreatest table (taken_in report)
    → ((i : ℕ) → is_member mask i ≡ taken_in report i) → StartsSet w table (taken_in report)
starts_set w table report mask count held greatest each = record {
  count = count;
  each = λ i row there. subst (λ b. HoldsEntry (w.slot i Primary) (entry_in row b)) (each i) (held.held i row there);
  valid = greatest.valid;
}

-- A slot that begins with the image of an entry begins with an intact image.
entry_held : (slot : List ℕ) (entry : Entry) → HoldsEntry slot entry → IsHeld slot
entry_held slot entry held = (held.0, held.1)

-- A request that is taken is that of the image in its slot.
wanted_held : (slot : List ℕ) (asked : Request) (P : Entry → Type 0) → IsSomeAnd (intact_entry asked) P
    → IsRequestHeld slot asked → IsHeld slot
wanted_held slot request.None P accepts held = absurd accepts
wanted_held slot request.Damaged P accepts held = absurd accepts
wanted_held slot (request.Entry entry) P accepts held = entry_held slot entry held

-- An image that is taken has a row.
taken_held : (slot : List ℕ) (found : Option Image) → ((row : Image) → found ≡ Some row
    → IsSomeAnd (intact_entry row.request) (λ entry. MayReplace row entry) → IsHeld slot)
    → IsSomeAnd found (λ image. IsSomeAnd (intact_entry image.request) (λ entry. MayReplace image entry))
    → IsHeld slot
taken_held slot None rows accepts = absurd accepts
taken_held slot (Some row) rows accepts = rows row refl accepts

-- Each image that a decision takes is intact, and so is the running one that it replaces.
pub set_held : (map : SectorMap) (old : Chip) (table : Table) (report : Report) (mask : ℕ)
    → AreRowsHeld (view map old) 0 table.images.items → IsGreatest table (taken_in report)
    → ((i : ℕ) → is_member mask i ≡ taken_in report i) → IsSetHeld map mask old
set_held map old table report mask held greatest each = λ side.
    elim side as (λ on. AreHeld (view map old) mask on map.images) [
      | Primary ↦ λ i lt member. taken_held ((view map old).slot i Primary) (image_at table i)
          (λ row there accepts. entry_held _ _ (held.held i row there))
          (greatest.valid.members i (sym (each i) ∙ member))
      | Secondary ↦ λ i lt member. taken_held ((view map old).slot i Secondary) (image_at table i)
          (λ row there accepts. wanted_held _ row.request _ accepts
          (subst (λ b. IsRowWanted (view map old) b i (Some row)) (no_member i) (held.wanted i row there)))
          (greatest.valid.members i (sym (each i) ∙ member))
    ]
