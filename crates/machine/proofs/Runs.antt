-- Runs are continued, joined and split.
use Rattle.std.proofs.Common.{◌≡◌, ℕ, ◌+◌, List, [], ◌∷◌, ◌++◌, length, take, drop, refl, sym, ◌∙◌, ap, subst, arith}
use Rattle.std.proofs.Common.{zero, suc, zero-add}
use Rattle.machine.specs.declared.event.Event.TheVariants as event
use Rattle.machine.specs.Device.{Machine}
use Rattle.machine.specs.Intake.{Setup}
use Rattle.machine.specs.Steps.{Completes, DeviceEvent, IsRun, IsStep, IsUncutRun, cut_of, cuts_in}
use Rattle.machine.specs.declared.reply.Reply.{Reply}
use Rattle.machine.specs.declared.reply.Reply.TheVariants.{Cut, Done}

-- ---- runs are joined, and split at any event

pub run_joins : (setup : Setup) (m mid last : Machine) (events more : List DeviceEvent) (replies answered : List Reply)
    → IsRun setup m events replies mid → IsRun setup mid more answered last
    → IsRun setup m (events ++ more) (replies ++ answered) last
run_joins setup m mid last [] more [] answered run rest =
    subst (λ k. IsRun setup k more answered last) run rest
run_joins setup m mid last [] more (r ∷ replies) answered run rest = absurd run
run_joins setup m mid last (e ∷ events) more [] answered run rest = absurd run
run_joins setup m mid last (e ∷ events) more (r ∷ replies) answered (next, step, run) rest =
    (next, step, run_joins setup next mid last events more replies answered run rest)

pub run_splits : (setup : Setup) (m last : Machine) (events more : List DeviceEvent) (all : List Reply)
    → IsRun setup m (events ++ more) all last
    → (replies answered : List Reply) × (mid : Machine) × (all ≡ replies ++ answered)
    × IsRun setup m events replies mid × IsRun setup mid more answered last
run_splits setup m last [] more all run = ([], all, m, refl, refl, run)
run_splits setup m last (e ∷ events) more [] run = absurd run
run_splits setup m last (e ∷ events) more (r ∷ all) (next, step, run) =
    let parts = run_splits setup next last events more all run in (
      r ∷ parts.0,
      parts.1,
      parts.2,
      ap (λ l. r ∷ l) parts.3,
      (next, step, parts.4),
      parts.5,
    )

-- The state at each place of a run.
pub run_prefix : (setup : Setup) (m last : Machine) (events : List DeviceEvent) (replies : List Reply) (k : ℕ)
    → IsRun setup m events replies last
    → (mid : Machine) × IsRun setup m (take k events) (take k replies) mid
    × IsRun setup mid (drop k events) (drop k replies) last
run_prefix setup m last events replies zero run = (m, refl, run)
run_prefix setup m last [] [] (suc k) run = (m, refl, run)
run_prefix setup m last [] (r ∷ replies) (suc k) run = absurd run
run_prefix setup m last (e ∷ events) [] (suc k) run = absurd run
run_prefix setup m last (e ∷ events) (r ∷ replies) (suc k) (next, step, run) =
    let parts = run_prefix setup next last events replies k run in
    (parts.0, (next, step, parts.1), parts.2)

-- A run has a reply for each event.
pub run_answers : (setup : Setup) (m last : Machine) (events : List DeviceEvent) (replies : List Reply)
    → IsRun setup m events replies last → length replies ≡ length events
run_answers setup m last [] [] run = refl
run_answers setup m last [] (r ∷ replies) run = absurd run
run_answers setup m last (e ∷ events) [] run = absurd run
run_answers setup m last (e ∷ events) (r ∷ replies) (next, step, run) =
    ap suc (run_answers setup next last events replies run)

pub run_more : (setup : Setup) (m mid last : Machine) (events : List DeviceEvent) (replies : List Reply)
    (event : DeviceEvent) (reply : Reply) → IsRun setup m events replies mid → IsStep setup mid event reply last
    → IsRun setup m (events ++ event ∷ []) (replies ++ reply ∷ []) last
run_more setup m mid last events replies event reply run step =
    run_joins setup m mid last events (event ∷ []) replies (reply ∷ []) run (last, step, refl)

-- ---- power cuts

pub cuts_join : (replies answered : List Reply) → cuts_in (replies ++ answered) ≡ cuts_in replies + cuts_in answered
cuts_join [] answered = sym (zero-add _)
cuts_join (r ∷ replies) answered = let more = cuts_join replies answered in omega arith

pub cuts_on : (replies answered : List Reply) (reply : Reply) (first mid last : ℕ) → answered ≡ replies ++ reply ∷ []
    → mid ≡ first + cuts_in replies → last ≡ mid + cuts_in (reply ∷ []) → last ≡ first + cuts_in answered
cuts_on replies answered reply first mid last is before after =
    let all : cuts_in answered ≡ cuts_in replies + cuts_in (reply ∷ []) =
    ap cuts_in is ∙ cuts_join replies (reply ∷ []) in
    omega arith

-- A step whose reply isn't `Cut` is complete.
uncut_step : (setup : Setup) (m next : Machine) (event : DeviceEvent) (reply : Reply) → cut_of reply ≡ 0
    → IsStep setup m event reply next → Completes setup m event reply next
uncut_step setup m next event Cut none step = absurd (omega (arith, none))
uncut_step setup m next event other none step = step

not_done : Cut ≡ Done → ⊥
not_done e = cc

-- A complete step is a step whose reply isn't `Cut`.
pub complete_step : (setup : Setup) (m next : Machine) (event : DeviceEvent) (reply : Reply)
    → Completes setup m event reply next → IsStep setup m event reply next × (cut_of reply ≡ 0)
complete_step setup m next event.Boot Cut step = absurd step.0
complete_step setup m next event.Reset Cut step = absurd (not_done step.0)
complete_step setup m next other Cut step = absurd step
complete_step setup m next event other step = (step, refl)

pub uncut_run : (setup : Setup) (m last : Machine) (events : List DeviceEvent) (replies : List Reply)
    → IsRun setup m events replies last → cuts_in replies ≡ 0 → IsUncutRun setup m events replies last
uncut_run setup m last [] [] run none = run
uncut_run setup m last [] (r ∷ replies) run none = absurd run
uncut_run setup m last (e ∷ events) [] run none = absurd run
uncut_run setup m last (e ∷ events) (r ∷ replies) (next, step, run) none = (
  next,
  uncut_step setup m next e r (omega arith) step,
  uncut_run setup next last events replies run (omega arith),
)

pub complete_run : (setup : Setup) (m last : Machine) (events : List DeviceEvent) (replies : List Reply)
    → IsUncutRun setup m events replies last → IsRun setup m events replies last × (cuts_in replies ≡ 0)
complete_run setup m last [] [] run = (run, refl)
complete_run setup m last [] (r ∷ replies) run = absurd run
complete_run setup m last (e ∷ events) [] run = absurd run
complete_run setup m last (e ∷ events) (r ∷ replies) (next, step, run) =
    let here = complete_step setup m next e r step in
    let rest = complete_run setup next last events replies run in
    let none : cut_of r ≡ 0 = here.1 in
    let more : cuts_in replies ≡ 0 = rest.1 in
    ((next, here.0, rest.0), omega arith)
