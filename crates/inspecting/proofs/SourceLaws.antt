-- What a source holds is what is read of its stream.
use Rattle.std.proofs.Common.{◌≡◌, ℕ, List, Option, refl, subst}
use Rattle.std.proofs.KnownBytes.{Consumes-whole}
use Rattle.std.specs.Io.KnownBytes.{Consumes, IsAtEnd}
use Rattle.host.specs.declared.source.Source.{Source}
use Rattle.host.specs.declared.source.Source.TheVariants.{StandardInput, File}
use Rattle.host.specs.Input.{FileBytes, Gives, IsKnownAs, held_by}

-- Bytes that are read to their end are all that is known.
known_read : (held rest : Option (List ℕ)) (bytes : List ℕ) → Consumes held rest bytes → IsAtEnd rest
    → IsKnownAs held bytes
known_read held rest bytes read end = Consumes-whole held rest bytes (λ all. bytes ≡ all) read end refl

-- A source gives the bytes that are read of its stream up to the end.
pub Gives-read : (source : Source) (input : Option (List ℕ)) (file : FileBytes)
    (held rest : Option (List ℕ)) (bytes : List ℕ) → held ≡ held_by source input file
    → Consumes held rest bytes → IsAtEnd rest → Gives source input file bytes
Gives-read StandardInput input file held rest bytes is read end =
    subst (λ known. IsKnownAs known bytes) is (known_read held rest bytes read end)
Gives-read (File name) input file held rest bytes is read end =
    subst (λ known. IsKnownAs known bytes) is (known_read held rest bytes read end)
