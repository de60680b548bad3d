-- What a boot asks a journal for, from one record of the log to the next.
use Rattle.std.proofs.Common.{◌≡◌, ◌≢◌, ◌⊎◌, ℕ, zero, suc, ◌+◌, ◌*◌, ◌<◌, ◌≤◌, Bool, true, false, Option, Some, if◌then◌else◌, is_some, arith, refl, sym, ◌∙◌, ap, subst, inl, inr, ⊎_elim}
use Rattle.std.proofs.Common.{true≢false}
use Rattle.std.proofs.Math.Nat.{mul-le-mul_left}
use Rattle.std.proofs.lemmas.Bool.{cases_lt}
use Rattle.flash_model.specs.Chip.{Chip}
use Rattle.sector_map.specs.declared.layout.SectorMap.{SectorMap}
use Rattle.sector_map.specs.declared.layout.Side.{Side}
use Rattle.sector_map.specs.declared.layout.Side.TheVariants.{Primary, Secondary}
use Rattle.sector_map.specs.Map.{IsLaidOut, Keeps, slot_sectors}
use Rattle.sector_map.specs.Part.{Log, TrailerOf, only}
use Rattle.common.specs.Masks.{is_member}
use Rattle.trailer.specs.Status.{set_units, status_count_of}
use Rattle.set_log.specs.Log.{state_of}
use Rattle.set_log.specs.declared.state.RecordKind.{RecordKind}
use Rattle.set_log.specs.declared.state.RecordKind.TheVariants as log
use Rattle.set_log.specs.declared.state.State.{State}
use Rattle.swap_scratch.specs.Steps.{AsksForSteps, journal_of_step}
use Rattle.swap_scratch.specs.Swap.{share, steps_done, sum_over}
use Rattle.upload.specs.Steady.{request_in, told_by}
use Rattle.upload.specs.View.{view}
use Rattle.upload.proofs.Views.{view_kept}
use Rattle.trailer.specs.Fields.{Fields}
use Rattle.trailer.specs.Settled.{IsSettled}
use Rattle.flash_contents.specs.Holding.{AreSettled}
use Rattle.flash_contents.specs.Wear.{members}
use Rattle.boot_core.specs.Journal.{AsksToBoot, AsksAtMost, Begins, CountsOn, CountsStep, GetsFurther, IsRoomToBoot, LogsKind, RecordsOther, RecordsSwap, ReturnsOn, SettlesAsked, SettlesSet, is_moving, is_returned, is_reverting}

-- ---- what the log says

some_state : (one other : State) → Some one ≡ Some other → one ≡ other
some_state one other same = cc

-- A log with a record that passes a test doesn't have one that fails it.
pub other_kind : (test : RecordKind → Bool) (recorded : Option State) (state : State) (kind : RecordKind)
    → LogsKind test recorded → state.kind ≡ kind → test kind ≡ false → recorded ≡ Some state → ⊥
other_kind test recorded state kind logs is fails said =
    let same : logs.0 ≡ state = some_state logs.0 state (sym logs.1 ∙ said) in
    let passes : test logs.0.kind ≡ true = logs.2 in
    true≢false (sym passes ∙ ap (λ (s : State). test s.kind) same ∙ ap test is ∙ fails)

-- A log with this record passes what its kind passes.
pub this_kind : (test : RecordKind → Bool) (recorded : Option State) (state : State) (kind : RecordKind)
    → recorded ≡ Some state → state.kind ≡ kind → test kind ≡ true → LogsKind test recorded
this_kind test recorded state kind said is passes = (state, said, ap test is ∙ passes)

-- The log says what it said before, or the next record.
pub either_kind : (test : RecordKind → Bool) (old new : Option State) (next : State)
    → (new ≡ old) ⊎ (new ≡ Some next) → LogsKind test old → test next.kind ≡ true → LogsKind test new
either_kind test old new next either logs passes = ⊎_elim (λ (same : new ≡ old). (logs.0, same ∙ logs.1, logs.2))
    (λ (said : new ≡ Some next). (next, said, passes)) either

reverting_kind : (kind : RecordKind) → is_returned kind ≡ true → is_reverting kind ≡ true
reverting_kind log.Steady is = refl
reverting_kind log.Swap is = absurd (true≢false (sym is))
reverting_kind log.Settle is = absurd (true≢false (sym is))
reverting_kind log.Trial is = absurd (true≢false (sym is))
reverting_kind log.Back is = refl
reverting_kind log.BackSettle is = refl

-- After a swap back the log says that the set reverts, or that the device is at rest.
pub returns_reverting : (map : SectorMap) (state : State) (old new : Chip) → state.kind ≡ log.Back
    → ReturnsOn map state old new → LogsKind is_reverting (state_of map new)
returns_reverting map state old new kind returns = ⊎_elim
    (λ (logs : LogsKind is_returned (state_of map new)). (logs.0, logs.1, reverting_kind logs.0.kind logs.2))
    (λ (still : (state_of map new ≡ Some state) × Keeps map (only Log) old new
    × (new.journaled ≤ old.journaled + 120)). this_kind is_reverting (state_of map new) state log.Back still.0 kind refl)
    returns

-- ---- numbers

step_more : (j n : ℕ) → j * (n + 1) ≡ j * n + j
step_more j n = grind arith

ask_one : (j old new a b room : ℕ) → new + j * a ≤ old + j * (b + 1) → b ≤ a → j ≤ room → new ≤ old + room
ask_one j old new a b room asked le fits =
    let more : b + 1 ≤ a + 1 = omega (arith, le) in
    omega (arith, asked, mul-le-mul_left j more, step_more j a, fits)

ask_none : (j old new a b : ℕ) → new + j * a ≤ old + j * b → b ≤ a → new ≤ old
ask_none j old new a b asked le = omega (arith, asked, mul-le-mul_left j le)

share_few : (member : Bool) → (if member then 1 else 0) ≤ 1
share_few true = omega arith
share_few false = omega arith

sum_few : (mask n : ℕ) → sum_over mask (λ i. 1) n ≤ n
unfolding sum_over
sum_few mask zero = omega arith
sum_few mask (suc n) = omega (arith, sum_few mask n, share_few (is_member mask n))

sum_as : (mask : ℕ) (f g : ℕ → ℕ) → ((i : ℕ) → f i ≡ g i) → (n : ℕ) → sum_over mask f n ≡ sum_over mask g n
unfolding sum_over
sum_as mask f g same zero = refl
sum_as mask f g same (suc n) = ap (λ s. s + share mask f n) (sum_as mask f g same n)
    ∙ ap (λ k. sum_over mask g n + (if is_member mask n then k else 0)) (same n)

-- A device has at most eight images.
pub members_few : (map : SectorMap) (chip : Chip) (mask : ℕ) → IsLaidOut map chip → members map mask ≤ 8
members_few map chip mask laid =
    let few : map.images ≤ 8 = laid.is_map.counts.few in
    omega (arith, sum_few mask map.images, few)

-- ---- what only the log changes

-- The steps that trailers count stay if only the log is written.
steps_logged : (map : SectorMap) (old new : Chip) (side : Side) (mask : ℕ) → Keeps map (only Log) old new
    → steps_done map new side mask ≡ steps_done map old side mask
steps_logged map old new side mask keeps = sum_as mask (λ i. status_count_of map new i side)
    (λ i. status_count_of map old i side)
    (λ i. ap (λ bytes. set_units bytes (3 * slot_sectors map i)) (keeps.parts (TrailerOf i side) refl)) map.images

-- A set stays settled.
pub settled_logged : (map : SectorMap) (old new : Chip) (mask : ℕ) (permanent : Bool) → Keeps map (only Log) old new
    → AreSettled (view map old) mask permanent → AreSettled (view map new) mask permanent
settled_logged map old new mask permanent keeps settled =
    let kept = view_kept map (only Log) old new keeps in
    record {
      each = λ i lt member. record {
        both = subst (λ t. IsSettled permanent t ((view map new).trailer i Secondary))
            (sym (kept.trailers i Primary refl))
            (subst (λ t. IsSettled permanent ((view map old).trailer i Primary) t)
            (sym (kept.trailers i Secondary refl)) (settled.each i lt member).both);
      };
    }

-- Requests stay.
request_logged : (map : SectorMap) (old new : Chip) → Keeps map (only Log) old new → (i : ℕ)
    → is_some (request_in (view map new) i) ≡ is_some (request_in (view map old) i)
request_logged map old new keeps i =
    let kept = view_kept map (only Log) old new keeps in
    ap (λ asked. is_some asked)
    (ap (λ (f : Fields). told_by f ((view map new).slot i Secondary)) (kept.trailers i Secondary refl)
    ∙ ap (λ slot. told_by ((view map old).trailer i Secondary) slot) (kept.slots i Secondary refl))

-- ---- a boot from a record

module _ (map : SectorMap) (state : State) (old : Chip) where
  -- It asks for less than any room to boot.
  pub asks_few : (new : Chip) (most : ℕ) → new.journaled ≤ old.journaled + most → most ≤ 856
      → AsksToBoot map state old new
  asks_few new most asked few room roomy = inl (omega (arith, asked, few, roomy.settle))

  -- The log has another record.
  pub asks_other : (new : Chip) (test : RecordKind → Bool) (kind : RecordKind) → LogsKind test (state_of map new)
      → state.kind ≡ kind → test kind ≡ false → AsksToBoot map state old new
  asks_other new test kind logs is fails room roomy =
      inr (RecordsOther (other_kind test (state_of map new) state kind logs is fails))

  -- The log has the record of a next state.
  pub asks_next : (new : Chip) (next : State) → state_of map new ≡ Some next → (next.kind ≡ state.kind → ⊥)
      → AsksToBoot map state old new
  asks_next new next said unlike room roomy = inr (RecordsOther (λ is.
      unlike (ap (λ (s : State). s.kind) (some_state next state (sym said ∙ is)))))

  module _ (side : Side) (counts : CountsOn state.kind side) (mid : Chip)
      (forward : steps_done map old side state.mask ≤ steps_done map mid side state.mask) where
    -- It swaps, and is stopped in a step.
    pub asks_swap : AsksForSteps map (steps_done map old side state.mask) (steps_done map mid side state.mask + 1) old mid
        → AsksToBoot map state old mid
    asks_swap asked room roomy = ⊎_elim
        (λ (lt : steps_done map old side state.mask < steps_done map mid side state.mask). inr (CountsStep side counts lt))
        (λ (le : steps_done map mid side state.mask ≤ steps_done map old side state.mask).
        inl (ask_one _ old.journaled mid.journaled _ _ room asked.most le roomy.step))
        (cases_lt (steps_done map old side state.mask) (steps_done map mid side state.mask))

    -- It swaps, and then writes at most a record.
    pub asks_record : (new : Chip)
        → AsksForSteps map (steps_done map old side state.mask) (steps_done map mid side state.mask) old mid
        → Keeps map (only Log) mid new → new.journaled ≤ mid.journaled + 120 → AsksToBoot map state old new
    asks_record new asked keeps few room roomy =
        let same = steps_logged map mid new side state.mask keeps in
        ⊎_elim
        (λ (lt : steps_done map old side state.mask < steps_done map mid side state.mask).
        inr (CountsStep side counts (subst (λ n. steps_done map old side state.mask < n) (sym same) lt)))
        (λ (le : steps_done map mid side state.mask ≤ steps_done map old side state.mask).
        let none : mid.journaled ≤ old.journaled = ask_none _ old.journaled mid.journaled _ _ asked.most le in
        inl (omega (arith, none, few, roomy.settle)))
        (cases_lt (steps_done map old side state.mask) (steps_done map mid side state.mask))

    -- It swaps back, and records that.
    pub asks_return : (new : Chip) → state.kind ≡ log.Back
        → AsksForSteps map (steps_done map old side state.mask) (steps_done map mid side state.mask) old mid
        → ReturnsOn map state mid new → AsksToBoot map state old new
    asks_return new kind asked returns room roomy = ⊎_elim
        (λ (logs : LogsKind is_returned (state_of map new)).
        asks_other new is_returned log.Back logs kind refl room roomy)
        (λ (still : (state_of map new ≡ Some state) × Keeps map (only Log) mid new
        × (new.journaled ≤ mid.journaled + 120)). asks_record new asked still.1 still.2 room roomy) returns

  -- It begins an upgrade.
  pub asks_begins : (new : Chip) (most : ℕ) (kind : RecordKind) → state.kind ≡ kind → is_moving kind ≡ false → most ≤ 856
      → Begins map (λ i. is_some (request_in (view map old) i)) most old new → AsksToBoot map state old new
  asks_begins new most kind is rests few (AsksAtMost asked) room roomy = asks_few new most asked few room roomy
  asks_begins new most kind is rests few (RecordsSwap logs) room roomy =
      asks_other new is_moving kind logs is rests room roomy
  asks_begins new most kind is rests few (SettlesAsked set permanent some asked settled) room roomy =
      inr (SettlesSet set permanent some asked settled)

-- ---- a boot that begins an upgrade

-- The same, of more images.
pub begins_more : (map : SectorMap) (one other : ℕ → Bool) (most : ℕ) (old new : Chip)
    → ((i : ℕ) → one i ≡ true → other i ≡ true) → Begins map one most old new → Begins map other most old new
begins_more map one other most old new so (AsksAtMost asked) = AsksAtMost asked
begins_more map one other most old new so (RecordsSwap logs) = RecordsSwap logs
begins_more map one other most old new so (SettlesAsked set permanent some asked settled) =
    SettlesAsked set permanent some (λ i member. so i (asked i member)) settled

-- The same, after a record was appended.
pub begins_after : (map : SectorMap) (old mid new : Chip) → Keeps map (only Log) old mid
    → mid.journaled ≤ old.journaled + 120
    → Begins map (λ i. is_some (request_in (view map mid) i)) 376 mid new
    → Begins map (λ i. is_some (request_in (view map old) i)) 496 old new
begins_after map old mid new keeps few (AsksAtMost asked) = AsksAtMost (omega (arith, asked, few))
begins_after map old mid new keeps few (RecordsSwap logs) = RecordsSwap logs
begins_after map old mid new keeps few (SettlesAsked set permanent some asked settled) =
    SettlesAsked set permanent some (λ i member. sym (request_logged map old mid keeps i) ∙ asked i member) settled

-- A set is swapped and settled as far as this.
pub begins_settles : (map : SectorMap) (mask : ℕ) (permanent : Bool) (old new : Chip) → mask ≢ 0
    → LogsKind is_moving (state_of map new) ⊎ AreSettled (view map new) mask permanent
    → Begins map (λ i. is_member mask i) 376 old new
begins_settles map mask permanent old new some settles = ⊎_elim (λ logs. RecordsSwap logs)
    (λ settled. SettlesAsked mask permanent some (λ i member. member) settled) settles

-- The log has one record.
pub read_asks : (map : SectorMap) (old new : Chip) (found state : State) → state_of map old ≡ Some found
    → state_of map old ≡ Some state → AsksToBoot map found old new → AsksToBoot map state old new
read_asks map old new found state is stood asks =
    subst (λ (s : State). AsksToBoot map s old new) (some_state found state (sym is ∙ stood)) asks
