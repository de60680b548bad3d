use Rattle.std.proofs.Common.{sym, subst}
use Rattle.boot_core.specs.Ready.{RefusesText}
use Rattle.boot_core.proofs.Texts.{text_refused}
use Rattle.boot_core.proofs.intake.read_manifest.Goals as goal

pub returns-in-Err : goal.returns-in-Err
returns-in-Err c = record {
  means = tt;
  refused = subst (λ fault. RefusesText c.args.identity.now c.args.bytes.now fault)
      (sym c.refused_text.ensures)
      (text_refused c.args.identity.now c.args.bytes.now c.in-Err.error c.in-Err.ensures.only);
}
