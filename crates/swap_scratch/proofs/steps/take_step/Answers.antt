use Rattle.std.proofs.Common.{arith, inl, sym, ◌∙◌}
use Rattle.std.proofs.lemmas.Result.{on_ok_weaker}
use Rattle.sector_map.proofs.Parts.{keeps_wider}
use Rattle.flash_model.proofs.Ending.{at_error, ends_passed, ends_then}
use Rattle.swap_scratch.proofs.ImagePlaces.{move_of_swap}
use Rattle.swap_scratch.proofs.Sizes.{used_within}
use Rattle.swap_scratch.proofs.Taking.{count_same, counted_past, move_forward, move_kept, move_rest, move_units, step_forward, step_outside, step_rest, step_taken, step_torn, step_units}
use Rattle.swap_scratch.proofs.steps.take_step.Goals as goal

pub move_sector-requires-clause-step : goal.move_sector-requires-clause-step
move_sector-requires-clause-step g c = record {
  there = c.requires.image.there;
  few = omega (
    arith,
    c.requires.step.used,
    used_within c.args.map.now (g.F.Flash.chip c.args.flash.now) c.args.side c.args.image
        c.requires.image.laid_out.is_map,
  );
  below = c.requires.step.below;
}

pub returns-in_err-move_sector : goal.returns-in_err-move_sector
returns-in_err-move_sector g c = record {
  outside = keeps_wider _ _ _ _ _ (move_of_swap c.args.image c.args.side) c.move_sector.ensures.outside;
  rest = move_rest _ _ _ _ _ _ _ _ c.requires.image c.requires.step c.move_sector.ensures;
  resumes = λ x y was. inl (move_kept _ _ _ _ _ _ _ _ c.requires.image c.requires.step c.move_sector.ensures x y was);
  taken = at_error _ _ c.from_residual.ensures.0;
  units = λ j other high. move_units _ _ _ _ _ _ _ _ c.requires.image c.requires.step c.move_sector.ensures j;
  counted = at_error _ _ c.from_residual.ensures.0;
  forward = move_forward _ _ _ _ _ _ _ _ c.requires.image c.requires.step c.move_sector.ensures;
  erases = at_error _ _ c.from_residual.ensures.0;
  journal = omega (arith, c.move_sector.ensures.journal);
  ends = ends_passed _ _ _ _ c.from_residual.ensures.1 c.in_err-move_sector.ensures.ends;
}

pub push_status-requires-clause-count : goal.push_status-requires-clause-count
push_status-requires-clause-count g c =
    sym (count_same _ _ _ _ _ _ _ _ c.requires.image c.requires.step c.move_sector.ensures)

pub push_status-requires-clause-room : goal.push_status-requires-clause-room
push_status-requires-clause-room g c = omega (
  arith,
  c.requires.step.below,
  c.requires.step.used,
  used_within c.args.map.now (g.F.Flash.chip c.args.flash.now) c.args.side c.args.image
      c.requires.image.laid_out.is_map,
)

pub returns : goal.returns
returns g c =
    let moved = c.in_ok-move_sector.ensures.moved in
    record {
      outside = step_outside _ _ _ _ _ _ _ _ c.requires.image c.requires.step c.move_sector.ensures _ _
          c.push_status.ensures;
      rest = step_rest _ _ _ _ _ _ _ _ c.requires.image c.requires.step c.move_sector.ensures _ _
          c.push_status.ensures;
      resumes = step_torn _ _ _ _ _ _ _ _ c.requires.image c.requires.step c.move_sector.ensures _ _
          c.push_status.ensures moved;
      taken = on_ok_weaker c.push_status.result
          (step_taken _ _ _ _ _ _ _ _ c.requires.image c.requires.step c.move_sector.ensures _ _ c.push_status.ensures
          moved) c.push_status.ensures.ok;
      units = step_units _ _ _ _ _ _ _ _ c.requires.image c.requires.step c.move_sector.ensures _ _
          c.push_status.ensures;
      counted = on_ok_weaker c.push_status.result
          (counted_past _ _ _ _ _ _ _ _ c.requires.image c.requires.step c.move_sector.ensures _)
          c.push_status.ensures.ok;
      forward = step_forward _ _ _ _ _ _ _ _ c.requires.image c.requires.step c.move_sector.ensures _ _
          c.push_status.ensures;
      erases = on_ok_weaker c.push_status.result (λ none. none ∙ c.in_ok-move_sector.ensures.erases)
          c.push_status.ensures.erases;
      journal = omega (arith, c.move_sector.ensures.journal, c.push_status.ensures.journal);
      ends = ends_then _ _ _ _ _ c.in_ok-move_sector.ensures.ends c.push_status.ensures.ends;
    }
