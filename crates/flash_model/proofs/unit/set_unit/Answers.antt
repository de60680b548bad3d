use Rattle.std.proofs.Common.{arith}
use Rattle.std.proofs.lemmas.Result.{on_ok_weaker}
use Rattle.flash_model.proofs.Units.{set_of_reads}
use Rattle.flash_model.proofs.unit.set_unit.Goals as goal

pub returns : goal.returns
returns g c =
    let program = c.program.ensures in
    record {
      outside = program.outside;
      ok = on_ok_weaker c.program.result
          (λ reads. set_of_reads _ _ _ reads (omega arith) (λ same. absurd (omega (arith, same)))) program.ok;
      flag = program.ok;
      on = program.on;
      erases = program.erases;
      journal = program.journal;
      ends = program.ends;
    }
