use Rattle.std.proofs.Common.{rules, ◌/◌, ◌-◌}
use Rattle.upload.proofs.standing.written_of.Goals as goal

pub returns-clause-some : goal.returns-clause-some
returns-clause-some c =
    record {
      there = search rules;
      few = search rules;
      count = search rules;
      units = ((c.args.upload.now.received - c.len-held.result) / 8, search rules);
      fits = search rules;
      room = search rules;
    }
