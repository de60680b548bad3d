use Rattle.std.proofs.Common.{◌≡◌, ◌+◌, ◌-◌, ◌++◌, ℕ, List, Option, ap, drop, length, refl, subst, sym, take, ◌∙◌}
use Rattle.std.proofs.KnownBytes.{Keeps-trans, append_known-moved}
use Rattle.std.proofs.lemmas.List.{drop-drop, take-append-drop, take_rest}
use Rattle.std.specs.Io.KnownBytes.{Appends, Keeps, append_known}
use Rattle.system_host.proofs.HeldLaws.{Keeps-append_known}
use Rattle.system_host.specs.Held.{held_contents}
use Rattle.system_host.proofs.output.Output.send_held.Goals as goal
use Rattle.system_host.proofs.output.Output.send_held.Goals.{in-Ok, in-Err}

-- Bytes of the buffer that the writer takes are in the writer and no more in the buffer.
Keeps-sent : (whole before after : Option (List ℕ)) (held : List ℕ) (sent count more : ℕ)
    → more ≡ sent + count → Keeps whole (append_known before (drop sent held))
    → Appends before after (take count (take (length held - sent) (drop sent held)))
    → Keeps whole (append_known after (drop more held))
Keeps-sent whole before after held sent count more sum kept taken =
    let rest : drop sent held ≡ take count (drop sent held) ++ drop more held =
    sym (take-append-drop count (drop sent held))
    ∙ ap (λ l. take count (drop sent held) ++ l) (drop-drop count sent held ∙ ap (λ n. drop n held) (sym sum)) in
    let same : Appends before after (take count (drop sent held)) =
    subst (λ l. Appends before after (take count l)) (take_rest held sent) taken in
    Keeps-trans whole (append_known before (drop sent held)) (append_known after (drop more held)) kept
    (append_known-moved before after (take count (drop sent held)) (drop more held) (drop sent held) same rest)

pub loop-preserved : goal.loop-preserved
loop-preserved g c =
    let whole = held_contents g.W.Write.contents c.args.self.now.to c.args.self.now.held.items c.args.self.now.sent in
    elim c.match-write_within.branch [
      | in-Ok w ↦ record {
        kept = subst (λ s. Keeps whole (held_contents g.W.Write.contents s.to s.held.items s.sent)) (sym w.self-is)
            (Keeps-sent whole (g.W.Write.contents c.loop.self.to) (g.W.Write.contents c.write_within.new.to)
            c.loop.self.held.items c.loop.self.sent w.in-Ok.count (c.loop.self.sent + w.in-Ok.count) refl
            c.loop.invariant.kept
            (subst (λ held. Appends (g.W.Write.contents c.loop.self.to) (g.W.Write.contents c.write_within.new.to)
            (take w.in-Ok.count (take (length held - c.loop.self.sent) (drop c.loop.self.sent held))))
            c.deref.ensures.0 w.in-Ok.ensures.bytes));
      }
      | in-Err w ↦ record {
        kept = subst (λ s. Keeps whole (held_contents g.W.Write.contents s.to s.held.items s.sent)) (sym w.self-is)
            (Keeps-append_known whole (g.W.Write.contents c.loop.self.to) (g.W.Write.contents c.write_within.new.to)
            (drop c.loop.self.sent c.loop.self.held.items) c.loop.invariant.kept w.in-Err.ensures.bytes);
      }
    ]
