-- Laws of an output that buffers what is written.
use Rattle.std.proofs.Common.{List, None, Option, Some, ap, ◌++◌, ◌∙◌, ℕ}
use Rattle.std.specs.Io.KnownBytes.{Keeps, append_known}

-- If the writer took nothing, what it holds with the buffer after it stays.
pub Keeps-append_known : (whole before after : Option (List ℕ)) (rest : List ℕ)
    → Keeps whole (append_known before rest) → Keeps before after
    → Keeps whole (append_known after rest)
Keeps-append_known None before after rest kept same = tt
Keeps-append_known (Some xs) None after rest kept same = absurd kept
Keeps-append_known (Some xs) (Some ys) None rest kept same = absurd same
Keeps-append_known (Some xs) (Some ys) (Some zs) rest kept same = ap (λ l. l ++ rest) same ∙ kept
