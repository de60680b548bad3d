use Rattle.std.proofs.Common.{rules, arith, Result, Ok, Err, OnOk}
use Rattle.boot_core.proofs.Afresh.{both_cleared}
use Rattle.boot_core.proofs.provisioning.clear_image.Goals as goal

both_ok : {T E P Q R : Type 0} (r : Result T E) → (P → Q → R) → OnOk r P → OnOk r Q → OnOk r R
both_ok (Ok x) both p q = both p q
both_ok (Err e) both p q = tt

pub returns : goal.returns
returns g c = record {
  outside = search rules;
  ok = both_ok c.clear-2.result
      (λ bytes fields. both_cleared c.args.map.now _ _ c.args.image
      (record { bytes = c.in_ok-clear.ensures.bytes; fields = c.in_ok-clear.ensures.ok }) c.clear-2.ensures.outside
      (record { bytes = bytes; fields = fields })) c.clear-2.ensures.bytes
      c.clear-2.ensures.ok;
  journal = omega (arith, c.clear.ensures.journal, c.clear-2.ensures.journal);
  ends = search rules;
}
