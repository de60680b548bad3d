use Rattle.inspecting.specs.Requests.{ReplacesFirst}
use Rattle.inspecting.proofs.fleet.requests.Requests.replace_in.Given as goal

-- The images before this number have the requests of the release.
abbrev pub invariant-loop-number : goal.invariant-loop-number
invariant-loop-number l =
    ReplacesFirst l.number l.fn.self.entries l.fn.table.images.items l.table.images.items
