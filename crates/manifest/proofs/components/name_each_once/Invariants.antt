use Rattle.std.proofs.Common.{◌≢◌, take}
use Rattle.std.specs.Prelude.{AllPairs}
use Rattle.manifest.proofs.components.name_each_once.Given as goal

-- The components so far are for different images.
abbrev pub invariant-loop-place : goal.invariant-loop-place
invariant-loop-place l = AllPairs (λ one other. one.image ≢ other.image) (take l.place l.components)
