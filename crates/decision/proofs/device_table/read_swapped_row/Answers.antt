use Rattle.std.proofs.Common.{rules}
use Rattle.decision.proofs.device_table.read_swapped_row.Goals as goal

pub returns : goal.returns
returns g c =
    let read = c.in_ok-read_entry_into.ensures in
    record {
      same = search rules;
      ok = search rules;
      front = search rules;
      held = search rules;
      asked = search rules;
      wanted = tt;
      ends = search rules;
    }
