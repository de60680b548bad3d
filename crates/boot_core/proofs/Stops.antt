-- What the reply of a boot says of its finding.
use Rattle.std.proofs.Common.{rules, ◌≡◌, ◌∙◌, ℕ, Bool, true, false, List, Some, None, Result, Ok, Err, IfOk, IsErrOf, ap, refl, sym, subst}
use Rattle.std.proofs.Common.{true≢false}
use Rattle.std.proofs.lemmas.Option.{none-some}
use Rattle.flash_model.specs.Chip.{Chip, Ends}
use Rattle.flash_model.specs.declared.error.FlashError.{FlashError}
use Rattle.flash_model.specs.declared.error.FlashError.TheVariants as flash
use Rattle.sector_map.specs.declared.layout.SectorMap.{SectorMap}
use Rattle.reports.specs.declared.table.Table.{Table}
use Rattle.reports.specs.declared.report.Report.{Report}
use Rattle.set_log.specs.Log.{state_of}
use Rattle.set_log.specs.declared.state.State.{State}
use Rattle.set_log.specs.declared.state.RecordKind.TheVariants as log
use Rattle.upload.specs.View.{View, view}
use Rattle.machine.specs.Boots.{is_answer}
use Rattle.flash_contents.specs.Passing.{reply_of}
use Rattle.flash_contents.specs.declared.finding.Finding.{Finding}
use Rattle.flash_contents.specs.declared.finding.Finding.TheVariants.{Decided, Damaged, Invalid}
use Rattle.machine.specs.declared.error.Fault.{Fault}
use Rattle.machine.specs.declared.error.Fault.TheVariants as no
use Rattle.machine.specs.declared.reply.Reply.TheVariants.{Refused, TrialAgain}
use Rattle.flash_contents.specs.Starting.{StartsBy}
use Rattle.machine.specs.declared.reply.Reply.{Reply}
use Rattle.boot_core.specs.Answers.{IsOff, fault_reply, is_stopped}
use Rattle.boot_core.specs.Found.{IsKeptFor, IsStopped, IsSwapAloneFor, IsToldAgain}
use Rattle.boot_core.specs.Over.{IsIdleTrial, IsTriedAgain}
use Rattle.boot_core.specs.Wear.{DoesNothing}

-- A reply comes from one finding, unless that is a decision.
pub one_finding : (P : Finding → Type 0) → ((table : Table) (report : Report) → P (Decided table report))
    → (found told : Finding) (p q : Bool) → reply_of found p ≡ reply_of told q → P found → P told
one_finding P decided found (Decided table report) p q e holds = decided table report
one_finding P decided (Decided table report) (Damaged i) p q e holds = cc
one_finding P decided (Damaged j) (Damaged i) p q e holds = let same : j ≡ i = cc in subst (λ n. P (Damaged n)) same holds
one_finding P decided Invalid (Damaged i) p q e holds = cc
one_finding P decided (Decided table report) Invalid p q e holds = cc
one_finding P decided (Damaged j) Invalid p q e holds = cc
one_finding P decided Invalid Invalid p q e holds = holds

-- A finding still holds if nothing was written.
told_at : (map : SectorMap) (old new : Chip) (mask : ℕ) (floors : List ℕ) (found : Finding)
    → IsToldAgain (view map old) mask floors found → IsKeptFor old new found
    → IsToldAgain (view map new) mask floors found
told_at map old new mask floors (Decided table report) tells kept = tells
told_at map old new mask floors (Damaged i) tells kept =
    subst (λ chip. IsToldAgain (view map chip) mask floors (Damaged i)) (sym kept) tells
told_at map old new mask floors Invalid tells kept =
    subst (λ chip. IsToldAgain (view map chip) mask floors Invalid) (sym kept) tells

-- An upgrade whose set was swapped.
pub settle_stops : (map : SectorMap) (old new : Chip) (mask : ℕ) (floors : List ℕ) (found told : Finding)
    (p q : Bool) → reply_of found p ≡ reply_of told q → IsToldAgain (view map old) mask floors found
    → IsKeptFor old new found → IsToldAgain (view map new) mask floors told × IsKeptFor old new told
settle_stops map old new mask floors found told p q e tells kept = one_finding
    (λ f. IsToldAgain (view map new) mask floors f × IsKeptFor old new f) (λ table report. search rules) found told p q e
    (told_at map old new mask floors found tells kept, kept)

-- An upgrade whose set wasn't swapped.
pub swap_stops : (map : SectorMap) (old new : Chip) (mask : ℕ) (floors : List ℕ) (found told : Finding)
    (p q : Bool) → reply_of found p ≡ reply_of told q → IsToldAgain (view map new) mask floors found
    → IsSwapAloneFor map mask old new found
    → IsToldAgain (view map new) mask floors told × IsSwapAloneFor map mask old new told
swap_stops map old new mask floors found told p q e tells alone = one_finding
    (λ f. IsToldAgain (view map new) mask floors f × IsSwapAloneFor map mask old new f)
    (λ table report. search rules) found told p q e (tells, alone)

-- If the flash stops a boot, its reply isn't that of a finding.
flash_stops : (error : FlashError) (told : Finding) (q : Bool) → fault_reply (no.Flash error) ≡ reply_of told q → ⊥
flash_stops flash.Cut (Decided table report) q e = cc
flash_stops flash.Cut (Damaged i) q e = cc
flash_stops flash.Cut Invalid q e = cc
flash_stops flash.Off (Decided table report) q e = cc
flash_stops flash.Off (Damaged i) q e = cc
flash_stops flash.Off Invalid q e = cc

no_log_stops : (told : Finding) (q : Bool) → Refused no.NotProvisioned ≡ reply_of told q → ⊥
no_log_stops (Decided table report) q e = cc
no_log_stops (Damaged i) q e = cc
no_log_stops Invalid q e = cc

-- The reply of a boot without a record isn't that of a finding either.
pub no_log_stopped : (map : SectorMap) (state : State) (old new : Chip) (told : Finding) (q : Bool)
    → Refused no.NotProvisioned ≡ reply_of told q → IsStopped map state old new told
no_log_stopped map state old new told q e = absurd (no_log_stops told q e)

pub flash_stopped : (map : SectorMap) (state : State) (old new : Chip) (error : FlashError) (told : Finding) (q : Bool)
    → fault_reply (no.Flash error) ≡ reply_of told q → IsStopped map state old new told
flash_stopped map state old new error told q e = absurd (flash_stops error told q e)

some_same : (x y : State) → Some x ≡ Some y → x ≡ y
some_same x y e = cc

-- If a record was read, the log had one.
pub stood_none : (map : SectorMap) (chip : Chip) (read : State) → state_of map chip ≡ Some read
    → state_of map chip ≡ None → ⊥
stood_none map chip read stood none = none-some read (sym (sym stood ∙ none))

-- The record that was read is that of the log.
pub read_stopped : (map : SectorMap) (old new : Chip) (read state : State) (told : Finding)
    → state_of map old ≡ Some read → state_of map old ≡ Some state → IsStopped map read old new told
    → IsStopped map state old new told
read_stopped map old new read state told is stood stops =
    subst (λ s. IsStopped map s old new told) (some_same read state (sym is ∙ stood)) stops

pub read_idle : (map : SectorMap) (old new : Chip) (read : State) (result : Result Reply FlashError)
    → state_of map old ≡ Some read → (read.kind ≡ log.Steady → IfOk result (λ reply. DoesNothing reply → new ≡ old))
    → IfOk result (λ reply. (state : State) → state_of map old ≡ Some state → state.kind ≡ log.Steady
    → DoesNothing reply → new ≡ old)
read_idle map old new read (Ok reply) is idle = λ state stood kind takes.
    idle (ap (λ (s : State). s.kind) (some_same read state (sym is ∙ stood)) ∙ kind) takes
read_idle map old new read (Err error) is idle = tt

-- If the flash stops a boot, the boot doesn't answer.
pub flash_unanswered : (error : FlashError) → is_answer (fault_reply (no.Flash error)) ≡ false
flash_unanswered flash.Cut = refl
flash_unanswered flash.Off = refl

pub read_over : (map : SectorMap) (old new : Chip) (read : State) (result : Result Reply FlashError)
    → state_of map old ≡ Some read
    → (read.kind ≡ log.Trial → IfOk result (λ reply. DoesNothing reply → IsIdleTrial map read old new reply))
    → IfOk result (λ reply. (state : State) → state_of map old ≡ Some state → state.kind ≡ log.Trial
    → DoesNothing reply → IsIdleTrial map state old new reply)
read_over map old new read (Ok reply) is over = λ state stood kind nothing.
    let one : read ≡ state = some_same read state (sym is ∙ stood) in
    subst (λ (s : State). IsIdleTrial map s old new reply) one (over (ap (λ (s : State). s.kind) one ∙ kind) nothing)
read_over map old new read (Err error) is over = tt

-- Its reply says that the flash stopped it.
pub flash_stopped_it : (error : FlashError) → is_stopped (fault_reply (no.Flash error)) ≡ true
flash_stopped_it flash.Cut = refl
flash_stopped_it flash.Off = refl

-- If the flash was off, nothing changes.
pub flash_idle : (error : FlashError) (old new : Chip) → Ends {T = Reply} (Err error) old new
    → DoesNothing (fault_reply (no.Flash error)) → new ≡ old
flash_idle flash.Cut old new ends nothing = absurd nothing
flash_idle flash.Off old new ends nothing = ends.asleep (ends.off refl)

-- So it doesn't end a trial.
pub flash_over : (error : FlashError) (map : SectorMap) (state : State) (old new : Chip)
    → Ends {T = Reply} (Err error) old new → old.is_on ≡ true
    → DoesNothing (fault_reply (no.Flash error))
    → IsIdleTrial map state old new (fault_reply (no.Flash error))
flash_over flash.Cut map state old new ends on nothing = absurd nothing
flash_over flash.Off map state old new ends on nothing = absurd (true≢false (sym on ∙ ends.off refl))

pub read_again : (map : SectorMap) (old new : Chip) (read : State) (result : Result Reply FlashError)
    → state_of map old ≡ Some read
    → (read.kind ≡ log.Trial → IfOk result (λ reply. (set more : ℕ) → reply ≡ TrialAgain set more
    → IsTriedAgain map read old new set more))
    → IfOk result (λ reply. (state : State) (set more : ℕ) → state_of map old ≡ Some state → state.kind ≡ log.Trial
    → reply ≡ TrialAgain set more → IsTriedAgain map state old new set more)
read_again map old new read (Ok reply) is again = λ state set more stood kind told.
    let one : read ≡ state = some_same read state (sym is ∙ stood) in
    subst (λ (s : State). IsTriedAgain map s old new set more) one
    (again (ap (λ (s : State). s.kind) one ∙ kind) set more told)
read_again map old new read (Err error) is again = tt

-- If the flash stops a boot, no set is tried again, and nothing is said of what starts.
pub flash_again : {A : Type 0} (error : FlashError) (set more : ℕ)
    → fault_reply (no.Flash error) ≡ TrialAgain set more → A
flash_again flash.Cut set more is = cc
flash_again flash.Off set more is = cc

pub flash_starts : (error : FlashError) (w : View) → StartsBy w (fault_reply (no.Flash error))
flash_starts flash.Cut w = tt
flash_starts flash.Off w = tt

-- If the flash is off, that is the result.
pub flash_off : {S T : Type 0} (error : FlashError) (given : Fault) (old new : Chip) → given ≡ no.Flash error
    → Ends {T = S} (Err error) old new → IsErrOf {T = S} (Err error) flash.Off → IsOff {T = T} (Err given) old new
flash_off error given old new passed ends is = record {
  is = let same : error ≡ flash.Off = cc in ap (λ f. Err f) (passed ∙ ap (λ e. no.Flash e) same);
  same = ends.asleep (ends.off is);
}
