use Rattle.std.proofs.Common.{◌∷◌, [], ◌++◌}
use Rattle.inspecting.proofs.FleetReadingLaws.{IsReadAs-line}
use Rattle.inspecting.proofs.fleet.planner.Planner.end_line.Goals as goal

-- The next line is empty.
pub returns-clause-feed : goal.returns-clause-feed
returns-clause-feed g c telling read plan stands =
    let taken = c.in_ok-take_line.ensures.lines telling stands.prefix stands.lines plan stands.line stands.has in
    record {
      more = taken.more;
      stands = record {
        lines = stands.lines ++ stands.prefix ∷ [];
        prefix = [];
        read = IsReadAs-line read stands.lines stands.prefix stands.read;
        line = c.clear.ensures;
        has = record { lines_are = taken.has.lines_are; devices = taken.has.devices; each = taken.has.each; bad = taken.has.bad; told = taken.has.told };
        begun = λ none. absurd (c.in_ok-take_line.ensures.some none);
      };
      written = taken.written;
    }

-- The line is taken, whatever the next one is.
pub returns-clause-lines : goal.returns-clause-lines
returns-clause-lines g c telling line lines plan kept was =
    let taken = c.in_ok-take_line.ensures.lines telling line lines plan kept was in
    record {
      more = taken.more;
      has = record { lines_are = taken.has.lines_are; devices = taken.has.devices; each = taken.has.each; bad = taken.has.bad; told = taken.has.told };
      written = taken.written;
    }
