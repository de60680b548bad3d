use Rattle.std.proofs.Common.{rules}
use Rattle.image_reading.proofs.Descriptions.{front_has_no_fault}
use Rattle.boot_core.specs.Provisioned.{running_bytes}
use Rattle.boot_core.proofs.Afresh.{read_entry_is}
use Rattle.boot_core.proofs.provisioning.read_entry.Goals as goal

pub returns-then-not-branch : goal.returns-then-not-branch
returns-then-not-branch g c =
    let failed = rw c.if-not-branch.true at c.in_ok-intact_image_into.ensures.found in
    record {
      same = search rules;
      ok = λ held.
          front_has_no_fault (running_bytes c.args.map.now (g.F.Flash.chip c.args.flash.now) c.args.image) held.0
          failed.0 held.1 failed.1;
      ends = search rules;
      on = c.in_ok-intact_image_into.ensures.on;
      off = tt;
    }

pub returns : goal.returns
returns g c = record {
  same = c.intact_image_into.ensures.same;
  ok = read_entry_is _ _ _ (rw c.if-not-branch.false at c.in_ok-intact_image_into.ensures.found) c.put_entry.ensures;
  ends = search rules;
  on = c.in_ok-intact_image_into.ensures.on;
  off = tt;
}
