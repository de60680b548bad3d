use Rattle.std.proofs.Common.{map, take}
use Rattle.host.specs.Inputs.{names_of}
use Rattle.inspecting.proofs.PlanAnswerLaws.{HasReadEach}
use Rattle.inspecting.proofs.fleet.program.read_each.Given as goal

-- The texts so far are those of the names so far.
abbrev pub invariant-loop-name : goal.invariant-loop-name
invariant-loop-name g l =
    HasReadEach (names_of (take l.name-index l.names)) (map (λ text. text.items) l.texts.items)
    (g.H.Host.input l.fn.host) (g.H.Host.input l.host) (g.H.Host.file l.fn.host) (g.H.Host.file l.host)
