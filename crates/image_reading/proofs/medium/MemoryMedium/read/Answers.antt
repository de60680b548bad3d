use Rattle.std.proofs.Common.{ℕ, ◌∙◌, take, drop, ap, arith}
use Rattle.image_reading.specs.Span.{bytes_of}
use Rattle.image_reading.proofs.medium.MemoryMedium.read.Goals as goal

pub returns-clause-read : goal.returns-clause-read
unfolding bytes_of
returns-clause-read c =
    c.copy_from_slice.ensures.after
    ∙ ap (λ (n : ℕ). take n (drop c.args.span.at c.args.self.now.bytes.now)) (omega arith)
