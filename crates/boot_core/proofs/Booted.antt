-- Lemmas for how a boot ends, from one passage to the next.
use Rattle.std.proofs.Common.{◌≡◌, ◌∙◌, ℕ, ◌+◌, Bool, true, ◌||◌, List, Some, Result, Ok, Err, IfOk, is_some, refl, sym, subst}
use Rattle.std.proofs.lemmas.Result.{IfOk-weaker}
use Rattle.flash_model.specs.Chip.{Chip, Ends}
use Rattle.flash_model.specs.declared.error.FlashError.{FlashError}
use Rattle.sector_map.specs.declared.layout.SectorMap.{SectorMap}
use Rattle.sector_map.specs.declared.layout.Side.TheVariants.{Secondary}
use Rattle.sector_map.specs.Map.{IsLaidOut, Keeps}
use Rattle.sector_map.specs.Part.{swap_of}
use Rattle.common.specs.Masks.{is_member}
use Rattle.set_log.specs.declared.state.RecordKind.{RecordKind}
use Rattle.set_log.specs.declared.state.RecordKind.TheVariants as log
use Rattle.set_log.specs.declared.state.State.{State}
use Rattle.set_log.specs.Log.{state_of}
use Rattle.machine.specs.Device.{DeviceState, Trial}
use Rattle.upload.specs.Steady.{request_in}
use Rattle.upload.specs.View.{view}
use Rattle.flash_contents.specs.Holding.{IsTrialOpen, Stands}
use Rattle.flash_contents.specs.Passing.{CutsBoot, EndsBoot, reply_of}
use Rattle.flash_contents.specs.Reading.{IsPassage}
use Rattle.flash_contents.specs.declared.finding.Finding.{Finding}
use Rattle.flash_contents.specs.declared.finding.Passage.{Passage}
use Rattle.flash_contents.specs.Starting.{StartsBy}
use Rattle.machine.specs.declared.reply.Reply.{Reply}
use Rattle.machine.specs.declared.reply.Reply.TheVariants.{TrialAgain}
use Rattle.flash_contents.proofs.Standing.{stands_trial}
use Rattle.flash_contents.proofs.Trying.{open_of}
use Rattle.boot_core.specs.Answers.{IsBootReply}
use Rattle.boot_core.specs.BootEnds.{BootEnds, KeepsLayout}
use Rattle.boot_core.specs.Booting.{BootsFrom}
use Rattle.boot_core.specs.Deciding.{AnswersFinding}
use Rattle.boot_core.specs.Found.{IsKeptFor, IsLostFor, IsSwapAloneFor, IsToldAgain, StartsFound}
use Rattle.boot_core.specs.FromTrial.{HasTrial}
use Rattle.boot_core.specs.Journal.{AsksToBoot}
use Rattle.boot_core.specs.Moving.{is_recorded, may_move, moved_parts}
use Rattle.boot_core.specs.Over.{IsIdleTrial, IsTriedAgain}
use Rattle.boot_core.specs.Wear.{DoesNothing, IsWorn}
use Rattle.boot_core.proofs.OnMap.{layout_then, layout_wider, moves_more}
use Rattle.boot_core.proofs.Passed.{err_ends, ok_ends, then_ends}

-- The flash stops a passage.
pub boot_fails : {T : Type 0} {map : SectorMap} {moves : ℕ → Bool} {boots : ℕ} {was : DeviceState → Type 0}
    {worn : Reply → Type 0} {error : FlashError} {old new : Chip} → KeepsLayout map (moved_parts moves) old new
    → ((s : DeviceState) → was s → CutsBoot map boots new s) → Ends {T = T} (Err error) old new
    → BootEnds map moves boots was worn old new (Err error)
boot_fails layout stands ends = record { layout = layout; stands = stands; done = tt; ends = err_ends ends }

-- A passage succeeds with a reply.
pub boot_gives : {T : Type 0} {map : SectorMap} {moves : ℕ → Bool} {boots : ℕ} {was : DeviceState → Type 0}
    {worn : Reply → Type 0} {value : T} {reply : Reply} {old new : Chip}
    → KeepsLayout map (moved_parts moves) old new → ((s : DeviceState) → was s → CutsBoot map boots new s)
    → ((s : DeviceState) → was s → EndsBoot map boots new s reply)
    → worn reply → IsBootReply reply → StartsBy (view map new) reply → Ends (Ok value) old new
    → BootEnds map moves boots was worn old new (Ok reply)
boot_gives layout stands comes worn told starts ends = record {
  layout = layout;
  stands = stands;
  done = record { ok = comes; erases = worn; told = told; starts = starts };
  ends = ok_ends ends;
}

-- A passage succeeds, and replies what was found.
pub boot_replies : {map : SectorMap} {moves : ℕ → Bool} {boots : ℕ} {was : DeviceState → Type 0}
    {worn : Reply → Type 0} {finding : Finding} {permanent : Bool} {reply : Reply} {old new : Chip}
    → AnswersFinding finding permanent reply → KeepsLayout map (moved_parts moves) old new
    → ((s : DeviceState) → was s → CutsBoot map boots new s)
    → ((s : DeviceState) → was s → EndsBoot map boots new s (reply_of finding permanent))
    → worn reply → StartsFound (view map new) finding → Ends (Ok finding) old new
    → BootEnds map moves boots was worn old new (Ok reply)
boot_replies {map} {moves} {boots} {was} {worn} {finding} {permanent} {reply} {old} {new} answers layout stands comes
    wear starts ends = boot_gives layout stands
    (λ s was. subst (λ given. EndsBoot map boots new s given) (sym answers.is) (comes s was)) wear answers.told
    (answers.starts (view map new) starts) ends

-- The same end, for fewer states and a weaker bound on wear.
pub boot_as : {map : SectorMap} {moves : ℕ → Bool} {boots : ℕ} {was given : DeviceState → Type 0}
    {worn known : Reply → Type 0} {old new : Chip} {result : Result Reply FlashError}
    → ((s : DeviceState) → given s → was s) → ((reply : Reply) → worn reply → known reply)
    → BootEnds map moves boots was worn old new result → BootEnds map moves boots given known old new result
boot_as {map} {moves} {boots} {was} {given} {worn} {known} {old} {new} {result} so more boot = record {
  layout = boot.layout;
  stands = λ s at. boot.stands s (so s at);
  done = IfOk-weaker result _ _ (λ reply gives. record {
    ok = λ s at. gives.ok s (so s at);
    erases = more reply gives.erases;
    told = gives.told;
    starts = gives.starts;
  }) boot.done;
  ends = boot.ends;
}

-- The same end, where more images may be moved.
pub boot_wider : {map : SectorMap} {less moves : ℕ → Bool} {boots : ℕ} {was : DeviceState → Type 0}
    {worn : Reply → Type 0} {old new : Chip} {result : Result Reply FlashError}
    → ((i : ℕ) → less i ≡ true → moves i ≡ true) → IsLaidOut map old
    → BootEnds map less boots was worn old new result → BootEnds map moves boots was worn old new result
boot_wider {map} {less} {moves} so laid boot = record {
  layout = layout_wider (moves_more less moves so) laid boot.layout;
  stands = boot.stands;
  done = boot.done;
  ends = boot.ends;
}

-- The same end, after a call that succeeded.
pub boot_after : {T : Type 0} {map : SectorMap} {moves : ℕ → Bool} {boots : ℕ} {was given : DeviceState → Type 0}
    {worn known : Reply → Type 0} {value : T} {old mid new : Chip} {result : Result Reply FlashError}
    → KeepsLayout map (moved_parts moves) old mid → Ends (Ok value) old mid → ((s : DeviceState) → given s → was s)
    → ((reply : Reply) → worn reply → known reply) → BootEnds map moves boots was worn mid new result
    → BootEnds map moves boots given known old new result
boot_after first before so more boot =
    let known_so = boot_as so more boot in
    record {
      layout = layout_then first known_so.layout;
      stands = known_so.stands;
      done = known_so.done;
      ends = then_ends before known_so.ends;
    }

-- ---- a boot from a record, by its kind

-- Why a boot stops in an upgrade or a revert.
abbrev pub StopsAs : SectorMap → RecordKind → ℕ → List ℕ → Chip → Chip → Finding → Type 0
StopsAs map log.Swap mask floors old new finding =
    IsToldAgain (view map new) mask floors finding × IsSwapAloneFor map mask old new finding
StopsAs map log.Settle mask floors old new finding =
    IsToldAgain (view map new) mask floors finding × IsKeptFor old new finding
StopsAs map log.Back mask floors old new finding =
    IsLostFor (view map new) mask finding × Keeps map (swap_of mask Secondary) old new
StopsAs map log.BackSettle mask floors old new finding =
    IsLostFor (view map new) mask finding × (new ≡ old)
StopsAs map other mask floors old new finding = Unit {0}

-- What a boot writes that takes nothing.
abbrev pub IdlesAs : SectorMap → RecordKind → State → Chip → Chip → Reply → Type 0
IdlesAs map log.Steady state old new reply = new ≡ old
IdlesAs map log.Trial state old new reply = IsIdleTrial map state old new reply
IdlesAs map other state old new reply = Unit {0}

-- What a boot writes that tries a set again.
abbrev pub TriesAs : SectorMap → RecordKind → State → Chip → Chip → Reply → Type 0
TriesAs map log.Trial state old new reply = (set left : ℕ) → reply ≡ TrialAgain set left
    → IsTriedAgain map state old new set left
TriesAs map other state old new reply = Unit {0}

all_replies : (P : Reply → Type 0) (result : Result Reply FlashError) → ((reply : Reply) → P reply) → IfOk result P
all_replies P (Ok reply) all = all reply
all_replies P (Err error) all = tt

-- The set of the record is among the images that a boot may move.
pub recorded_moves : (map : SectorMap) (chip : Chip) (state : State) → state_of map chip ≡ Some state → (i : ℕ)
    → is_member state.mask i ≡ true → may_move map chip i ≡ true
recorded_moves map chip state read i member =
    subst (λ found. (is_recorded found i || is_some (request_in (view map chip) i)) ≡ true) (sym read)
    (subst (λ b. (b || is_some (request_in (view map chip) i)) ≡ true) (sym member) refl)

module _ (map : SectorMap) (state : State) (left : ℕ) (old new : Chip) (result : Result Reply FlashError) (kind : RecordKind)
    (is : state.kind ≡ kind)
    (boot : BootEnds map (may_move map old) (left + 1) (Stands map old)
    (λ reply. (s : DeviceState) → Stands map old s → IsWorn map kind state.mask old new reply) old new result) where
  pub boots_from : IfOk result (λ reply. (finding : Finding) (permanent : Bool) → reply ≡ reply_of finding permanent
      → StopsAs map kind state.mask state.floors old new finding)
      → IfOk result (λ reply. DoesNothing reply → IdlesAs map kind state old new reply)
      → IfOk result (λ reply. TriesAs map kind state old new reply) → AsksToBoot map state old new
      → BootsFrom map state left old new result
  boots_from stops idles tries asks = record {
    journal = asks;
    boot = boot_as (λ s stands. stands) (λ reply worn. λ s stands.
        subst (λ k. IsWorn map k state.mask old new reply) (sym is) (worn s stands)) boot;
    stops = IfOk-weaker result _ _ (λ reply stops. λ finding permanent told.
        let so = λ (k : RecordKind) (e : state.kind ≡ k). subst
        (λ k. StopsAs map k state.mask state.floors old new finding) (sym is ∙ e) (stops finding permanent told) in
        record {
          swap = λ e. so log.Swap e;
          settle = λ e. so log.Settle e;
          back = λ e. so log.Back e;
          back_settle = λ e. so log.BackSettle e;
        }) stops;
    idle = λ e. IfOk-weaker result _ _ (λ reply idle. λ nothing.
        subst (λ k. IdlesAs map k state old new reply) (sym is ∙ e) (idle nothing)) idles;
    over = λ e. IfOk-weaker result _ _ (λ reply idle. λ nothing.
        subst (λ k. IdlesAs map k state old new reply) (sym is ∙ e) (idle nothing)) idles;
    again = λ e. IfOk-weaker result _ _ (λ reply tries.
        subst (λ k. TriesAs map k state old new reply) (sym is ∙ e) tries) tries;
  }

  -- A boot from a record of an upgrade or a revert.
  pub boots_stop : IfOk result (λ reply. (finding : Finding) (permanent : Bool) → reply ≡ reply_of finding permanent
      → StopsAs map kind state.mask state.floors old new finding)
      → ((reply : Reply) → IdlesAs map kind state old new reply × TriesAs map kind state old new reply)
      → AsksToBoot map state old new → BootsFrom map state left old new result
  boots_stop stops none asks = boots_from stops (all_replies _ result (λ reply nothing. (none reply).0))
      (all_replies _ result (λ reply. (none reply).1)) asks

  -- A boot from a record Steady or Trial.
  pub boots_idle : ((finding : Finding) → StopsAs map kind state.mask state.floors old new finding)
      → IfOk result (λ reply. DoesNothing reply → IdlesAs map kind state old new reply)
      → IfOk result (λ reply. TriesAs map kind state old new reply) → AsksToBoot map state old new
      → BootsFrom map state left old new result
  boots_idle stops idles tries asks =
      boots_from (all_replies _ result (λ reply finding permanent told. stops finding)) idles tries asks

-- ---- a boot from a trial

-- The trial of the record continues by the passage that was decided.
pub trial_here : (map : SectorMap) (old : Chip) (state : State) (found passage : Passage)
    → state_of map old ≡ Some state → state.kind ≡ log.Trial
    → ((s : DeviceState) (trial : Trial) → IsTrialOpen (view map old) s trial → IsPassage s trial found)
    → found ≡ passage → (s : DeviceState) → Stands map old s
    → HasTrial (λ s trial. IsPassage s trial passage) map old s
trial_here map old state found passage read kind decides is s stands =
    let at = stands_trial map old s state read kind stands in
    (at.0, subst (λ p. IsPassage s at.0 p) is (decides s at.0 (open_of map old s at.0 at.2)), at.2)
