use Rattle.std.proofs.Common.{rules, sym, ◌∙◌}
use Rattle.set_log.proofs.Turns.{register_is, register_none}
use Rattle.set_log.proofs.active_sector.read_record.Goals as goal

pub returns-in_default : goal.returns-in_default
returns-in_default g c =
    let none = rw c.in_default.is at c.in_ok-active.ensures.ok in
    record {
      same = search rules;
      ok = sym (register_none _ _ none);
      on = search rules;
      ends = search rules;
    }

pub returns : goal.returns
returns g c =
    let found = rw c.in-Some.is at c.in_ok-active.ensures.ok in
    let last = rw c.find_active.ensures.same at c.in_ok-found.ensures.ok in
    record {
      same = search rules;
      ok = last ∙ sym (register_is _ _ c.in-Some.active found);
      on = search rules;
      ends = search rules;
    }
