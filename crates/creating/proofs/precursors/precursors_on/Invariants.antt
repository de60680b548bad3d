use Rattle.std.proofs.Common.{◌≡◌, Some, take}
use Rattle.creating.specs.NewManifestSteps.{ArePrecursors}
use Rattle.creating.proofs.precursors.precursors_on.Given as goal

-- The flash is unchanged, and the files so far have these precursors.
abbrev pub invariant-loop-component : goal.invariant-loop-component
invariant-loop-component g l =
    (g.F.Flash.chip l.flash ≡ g.F.Flash.chip l.fn.flash)
    × ArePrecursors l.map (Some (g.F.Flash.chip l.fn.flash)) (take l.component-index l.asked) l.digests.items
