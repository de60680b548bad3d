use Rattle.std.proofs.Common.{arith, ◌∙◌, subst, sym}
use Rattle.sector_map.specs.declared.layout.Side.TheVariants.{Primary, Secondary}
use Rattle.image_reading.specs.Slot.{slot_bytes}
use Rattle.upload.proofs.Ends.{err_passed}
use Rattle.flash_contents.specs.Starting.{IsHeld}
use Rattle.boot_core.specs.SwapSize.{IsUsed}
use Rattle.boot_core.proofs.Passed.{err_ends, then_err, then_ok}
use Rattle.boot_core.proofs.preparing.swap_length.Goals as goal

pub used_length-requires-clause-held : goal.used_length-requires-clause-held
used_length-requires-clause-held g c = λ is. c.requires.held is Primary

pub used_length-requires-2-clause-held : goal.used_length-requires-2-clause-held
used_length-requires-2-clause-held g c = λ is.
    subst (λ chip. IsHeld (slot_bytes c.args.map.now chip c.args.image Secondary)) (sym c.used_length.ensures.same)
    (c.requires.held is Secondary)

pub returns : goal.returns
returns g c = record {
  same = c.used_length-2.ensures.same ∙ c.used_length.ensures.same;
  ok = record {
    exact = record {
      primary = c.in_ok-running.running;
      secondary = c.in_ok-asked.asked;
      of_primary = c.in_ok-running.ensures.ok.exact;
      of_secondary = subst (λ chip. IsUsed (slot_bytes c.args.map.now chip c.args.image Secondary) c.in_ok-asked.asked)
          c.used_length.ensures.same c.in_ok-asked.ensures.ok.exact;
      larger = c.max.ensures;
    };
    some = omega (arith, c.max.ensures, c.in_ok-running.ensures.ok.some);
    most = omega (arith, c.max.ensures, c.in_ok-running.ensures.ok.most, c.in_ok-asked.ensures.ok.most);
  };
  ends = then_ok c.in_ok-running.ensures.ends c.in_ok-asked.ensures.ends;
}

pub returns-in_err-running : goal.returns-in_err-running
returns-in_err-running g c =
    rw (err_passed c.from_residual.result c.in_err-running.field-0.0 c.from_residual.ensures.1) (record {
      same = c.used_length.ensures.same;
      ok = tt;
      ends = err_ends c.in_err-running.ensures.ends;
    })

pub returns-in_err-asked : goal.returns-in_err-asked
returns-in_err-asked g c =
    rw (err_passed c.from_residual-in_err-asked.result c.in_err-asked.field-0.0 c.from_residual-in_err-asked.ensures.1) (record {
      same = c.used_length-2.ensures.same ∙ c.used_length.ensures.same;
      ok = tt;
      ends = then_err c.in_ok-running.ensures.ends c.in_err-asked.ensures.ends;
    })
