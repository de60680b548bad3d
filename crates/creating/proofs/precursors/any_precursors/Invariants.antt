use Rattle.std.proofs.Common.{◌≡◌, None, take}
use Rattle.std.specs.List.{AllZip}
use Rattle.creating.proofs.precursors.any_precursors.Given as goal

-- The files so far have no precursors.
abbrev pub invariant-loop : goal.invariant-loop
invariant-loop l =
    AllZip (λ component precursor. precursor ≡ None) (take l.index l.asked) l.digests.items
