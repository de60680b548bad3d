use Rattle.std.proofs.Common.{◌≡◌, ◌+◌, ap, arith, ◌∙◌, subst}
use Rattle.std.proofs.lemmas.Result.{IfOk-weaker}
use Rattle.set_log.specs.Log.{state_of}
use Rattle.upload.proofs.Ends.{err_passed}
use Rattle.flash_contents.proofs.Trying.{over_cut, over_ends, over_recorded, stands_open, trial_cut}
use Rattle.set_log.specs.declared.state.State.{State}
use Rattle.boot_core.proofs.Wears.{over_alone, over_worn}
use Rattle.boot_core.proofs.Booted.{boot_fails}
use Rattle.boot_core.specs.FromSteady.{BootsFromSteady}
use Rattle.boot_core.specs.Moving.{may_move}
use Rattle.boot_core.proofs.Moves.{over_moves}
use Rattle.boot_core.proofs.OnMap.{layout_more, layout_same, layout_then, layout_wider, log_moved, moves_more}
use Rattle.sector_map.specs.Map.{Keeps}
use Rattle.sector_map.specs.Part.{Log, only}
use Rattle.boot_core.proofs.Passed.{then_ends}
use Rattle.decision.specs.Places.{read_as}
use Rattle.boot_core.specs.Places.{reply_in}
use Rattle.flash_model.specs.Chip.{Chip}
use Rattle.boot_core.proofs.Asking.{begins_after}
use Rattle.boot_core.specs.Journal.{AsksAtMost}
use Rattle.boot_core.proofs.trial.boot_over.Goals as goal

pub record_over-requires-clause-read : goal.record_over-requires-clause-read
record_over-requires-clause-read g c =
    ap (λ chip. state_of c.args.map.now chip) c.raise_running.ensures.same ∙ c.requires.recorded.read

pub returns-in_err-floors : goal.returns-in_err-floors
returns-in_err-floors g c =
    rw (err_passed c.from_residual.result c.in_err-floors.field-0.0 c.from_residual.ensures.1) (record {
      boot = boot_fails (layout_same c.requires.recorded.laid_out c.raise_running.ensures.same)
          (λ s was. trial_cut c.args.map.now (c.args.left + 1) _ _ s c.raise_running.ensures.same
          (stands_open c.args.map.now _ s was.0 was.2))
          c.in_err-floors.ensures.ends;
      idle = tt;
      fresh = tt;
      begins = AsksAtMost (omega (arith, ap (λ (chip : Chip). chip.journaled) c.raise_running.ensures.same));
    })

pub returns-in_err-steady : goal.returns-in_err-steady
returns-in_err-steady g c =
    rw (err_passed c.from_residual-in_err-steady.result c.in_err-steady.field-0.0 c.from_residual-in_err-steady.ensures.1)
    (record {
      boot = boot_fails
          (layout_more (log_moved (may_move c.args.map.now (g.F.Flash.chip c.args.flash.now)))
          (layout_same c.requires.recorded.laid_out c.raise_running.ensures.same)
          c.record_over.ensures.outside)
          (λ s was. over_recorded c.args.map.now (c.args.left + 1) _ _ _ _ _
          c.requires.recorded.read c.raise_running.ensures.same c.in_ok-floors.ensures.ok c.record_over.ensures.stands
          s was.0 was.1 was.2)
          (then_ends c.in_ok-floors.ensures.ends c.in_err-steady.ensures.ends);
      idle = tt;
      fresh = tt;
      begins = AsksAtMost (omega (
        arith,
        ap (λ (chip : Chip). chip.journaled) c.raise_running.ensures.same,
        c.record_over.ensures.journal,
      ));
    })

pub returns : goal.returns
returns g c =
    let old = g.F.Flash.chip c.args.flash.now in
    let read = g.F.Flash.chip c.raise_running.new.flash in
    let mid = g.F.Flash.chip c.record_over.new.flash in
    let new = g.F.Flash.chip c.boot_from_steady.new.flash in
    let same = c.raise_running.ensures.same in
    let over = c.in_ok-steady.ensures.done in
    let first = layout_more (log_moved (may_move c.args.map.now old))
    (layout_same c.requires.recorded.laid_out same) c.record_over.ensures.outside in
    let none : c.in_ok-steady.steady.mask ≡ 0 = ap (λ (state : State). state.mask) over.recorded.is in
    let booted : BootsFromSteady c.args.map.now c.args.left mid new
    (read_as (reply_in c.boot_from_steady.new.table c.boot_from_steady.new.report) c.boot_from_steady.result) =
    c.boot_from_steady.ensures in
    record {
      boot = record {
        layout = layout_then first (layout_wider (moves_more _ _
            (over_moves c.args.map.now old mid c.in_ok-steady.steady
            (subst (λ chip. Keeps c.args.map.now (only Log) chip mid) same c.record_over.ensures.outside)
            over.recorded.recorded none)) first.laid booted.boot.layout);
        stands = λ s was. over_cut c.args.map.now (c.args.left + 1) _ _ _ _ _ c.requires.recorded.read
            same c.in_ok-floors.ensures.ok _ over.rests booted.boot.stands s was.0 was.1 was.2;
        done = IfOk-weaker (read_as (reply_in c.boot_from_steady.new.table c.boot_from_steady.new.report) c.boot_from_steady.result) _ _ (λ reply gives. record {
          ok = λ s was. over_ends c.args.map.now (c.args.left + 1) _ _ _ _ _ c.requires.recorded.read same
              c.in_ok-floors.ensures.ok _ reply over.rests gives.ok s was.0 was.1 was.2;
          erases = λ s was. over_worn c.args.map.now old read mid new _ reply same over.recorded.erases
              c.record_over.ensures.outside over.rests gives.erases s was.0 was.1 was.2;
          told = gives.told;
          starts = gives.starts;
        }) booted.boot.done;
        ends = then_ends (then_ends c.in_ok-floors.ensures.ends c.in_ok-steady.ensures.ends) booted.boot.ends;
      };
      idle = IfOk-weaker (read_as (reply_in c.boot_from_steady.new.table c.boot_from_steady.new.report) c.boot_from_steady.result) _ _ (λ reply idle. λ nothing.
          over_alone c.args.map.now c.args.state.now old read mid new _ same
          (idle _ over.recorded.recorded (ap (λ (state : State). state.kind) over.recorded.is) nothing)
          (record { raised = c.in_ok-floors.ensures.ok; rest = c.in_ok-floors.ensures.rest }) over.recorded.appended)
          booted.idle;
      fresh = booted.fresh;
      begins = begins_after c.args.map.now old mid new
          (subst (λ chip. Keeps c.args.map.now (only Log) chip mid) same c.record_over.ensures.outside)
          (omega (arith, ap (λ (chip : Chip). chip.journaled) same, c.record_over.ensures.journal)) booted.begins;
    }
