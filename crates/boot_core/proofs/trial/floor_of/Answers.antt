use Rattle.std.proofs.Common.{subst}
use Rattle.flash_contents.specs.Reading.{IsReadOf}
use Rattle.flash_contents.proofs.Trying.{floor_raised, floor_stays}
use Rattle.boot_core.proofs.Passed.{ok_ends}
use Rattle.boot_core.proofs.trial.floor_of.Goals as goal

pub returns-in-Some : goal.returns-in-Some
returns-in-Some g c = record {
  same = c.read_slot.ensures.same;
  ok = λ held front.
      floor_raised held c.in-Some.entry c.args.floor c.max.result
      (subst (λ found. IsReadOf held found) c.in-Some.is (c.in_ok-read_slot.ensures.ok held front)) c.max.ensures;
  ends = ok_ends c.in_ok-read_slot.ensures.ends;
}

pub returns-in-None : goal.returns-in-None
returns-in-None g c = record {
  same = c.read_slot.ensures.same;
  ok = λ held front.
      floor_stays held c.args.floor
      (subst (λ found. IsReadOf held found) c.in-None.is (c.in_ok-read_slot.ensures.ok held front));
  ends = ok_ends c.in_ok-read_slot.ensures.ends;
}
