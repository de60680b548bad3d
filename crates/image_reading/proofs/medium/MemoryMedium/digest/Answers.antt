use Rattle.std.proofs.Common.{ℕ, ◌∙◌, take, drop, ap, arith}
use Rattle.sha2.specs.Sha256.{sha256}
use Rattle.image_reading.specs.Span.{bytes_of}
use Rattle.image_reading.proofs.medium.MemoryMedium.digest.Goals as goal

pub returns-clause-digest : goal.returns-clause-digest
unfolding bytes_of
returns-clause-digest c =
    c.digest.ensures
    ∙ ap (λ (n : ℕ). sha256 (take n (drop c.args.span.at c.args.self.now.bytes.now))) (omega arith)
