-- The contents of an output that buffers what is written.
use Rattle.std.specs.Prelude.{ℕ, List, Option, drop}
use Rattle.std.specs.Io.KnownBytes.{append_known}

-- The contents of the writer below it, followed by the part of the buffer that wasn't sent.
abbrev pub held_contents : {W : Type 0} → (W → Option (List ℕ)) → W → List ℕ → ℕ → Option (List ℕ)
held_contents contents to held sent = append_known (contents to) (drop sent held)
