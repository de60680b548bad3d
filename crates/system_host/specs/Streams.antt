-- What the stream of the system still holds.
use Rattle.std.specs.Prelude.{ℕ, List, Option, Some, None}

-- The bytes that the stream gives from here on: nothing is known of a file, and without a file they
-- are those of standard input.
abbrev pub stream_of : {I F : Type 0} → (I → Option (List ℕ)) → Option F → I → Option (List ℕ)
stream_of remaining (Some file) input = None
stream_of remaining None input = remaining input
