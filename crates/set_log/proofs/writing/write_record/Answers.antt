use Rattle.std.proofs.Common.{arith, ◌∙◌, inl}
use Rattle.std.proofs.lemmas.Result.{on_ok_weaker}
use Rattle.set_log.proofs.Last.{body_kept, gate_torn, gate_set}
use Rattle.set_log.proofs.Moves.{written}
use Rattle.set_log.proofs.Placing.{written_there}
use Rattle.flash_model.proofs.Ending.{at_error, ends_passed, ends_then}
use Rattle.flash_model.proofs.Frame.{same_outside_joined, same_outside_wider}
use Rattle.sector_map.proofs.Parts.{keeps_trans}
use Rattle.set_log.proofs.writing.write_record.Goals as goal

pub returns-in_err-write_body : goal.returns-in_err-write_body
returns-in_err-write_body g c = record {
  outside = c.write_body.ensures.outside;
  within = same_outside_wider _ 56 _ 64 _ _ c.write_body.ensures.within (omega arith) (omega arith);
  either = inl (body_kept _ c.args.sector c.args.place _ _ c.requires.free c.write_body.ensures.within);
  ok = at_error _ _ c.from_residual.ensures.0;
  written = at_error _ _ c.from_residual.ensures.0;
  erases = c.write_body.ensures.erases;
  journal = omega (arith, c.write_body.ensures.journal);
  ends = ends_passed _ _ _ _ c.from_residual.ensures.1 c.in_err-write_body.ensures.ends;
}

pub returns : goal.returns
returns g c =
    let whole = written c.args.map.now c.args.sector c.args.place c.args.body.now _ _ _ c.requires.laid_out
    c.requires.sector c.requires.free c.write_body.ensures.within c.in_ok-write_body.ensures.ok
    c.set_gate.ensures.within c.told-body in
    record {
      outside = keeps_trans _ _ _ _ _ c.write_body.ensures.outside c.set_gate.ensures.outside;
      within = same_outside_joined _ 56 8 _ _ _ c.write_body.ensures.within c.set_gate.ensures.within;
      either = gate_torn _ _ _ _ _ _ _ whole;
      ok = on_ok_weaker c.set_gate.result (λ set. gate_set _ _ _ _ _ _ _ whole set) c.set_gate.ensures.ok;
      written = on_ok_weaker c.set_gate.result (λ flag.
          written_there _ c.args.sector c.args.place c.args.body.now _ _ c.in_ok-write_body.ensures.ok c.told-body
          c.set_gate.ensures.within flag)
          c.set_gate.ensures.flag;
      erases = c.set_gate.ensures.erases ∙ c.write_body.ensures.erases;
      journal = omega (arith, c.write_body.ensures.journal, c.set_gate.ensures.journal);
      ends = ends_then _ _ _ _ _ c.in_ok-write_body.ensures.ends c.set_gate.ensures.ends;
    }
