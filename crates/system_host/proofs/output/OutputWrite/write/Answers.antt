use Rattle.std.proofs.Common.{◌≡◌, ℕ, List, [], ◌++◌, Option, None, Some, Result, Ok, Err, ap, append-nil, arith, drop, refl, subst, sym, take, ◌∙◌}
use Rattle.std.proofs.lemmas.List.{drop_all}
use Rattle.std.specs.Io.KnownBytes.{Appends, Keeps, WriteAppends, append_known}
use Rattle.system_host.proofs.HeldLaws.{Keeps-append_known}
use Rattle.system_host.specs.Held.{held_contents}
use Rattle.system_host.proofs.output.OutputWrite.write.Goals as goal

-- If the buffer is empty, written bytes go directly to the writer.
Appends-passed : (whole before after : Option (List ℕ)) (rest bytes : List ℕ) → rest ≡ []
    → Keeps whole (append_known before rest) → Appends before after bytes
    → Appends whole (append_known after rest) bytes
Appends-passed None before after rest bytes none kept more = tt
Appends-passed (Some xs) None after rest bytes none kept more = absurd kept
Appends-passed (Some xs) (Some ys) None rest bytes none kept more = absurd more
Appends-passed (Some xs) (Some ys) (Some zs) rest bytes none kept more =
    let old : ys ≡ xs = sym (append-nil ys) ∙ sym (ap (λ l. ys ++ l) none) ∙ kept in
    ap (λ l. zs ++ l) none ∙ append-nil zs ∙ more ∙ ap (λ l. l ++ bytes) old

WriteAppends-passed : {E : Type 0} (whole before after : Option (List ℕ)) (rest bytes : List ℕ)
    (result : Result ℕ E) → rest ≡ [] → Keeps whole (append_known before rest)
    → WriteAppends before after result bytes → WriteAppends whole (append_known after rest) result bytes
WriteAppends-passed whole before after rest bytes (Ok count) none kept more =
    Appends-passed whole before after rest (take count bytes) none kept more
WriteAppends-passed whole before after rest bytes (Err error) none kept more =
    Keeps-append_known whole before after rest kept more

pub returns-clause-bytes : goal.returns-clause-bytes
returns-clause-bytes g c =
    let whole = held_contents g.W.Write.contents c.args.self.now.to c.args.self.now.held.items c.args.self.now.sent in
    let start = c.send_held.new.self in
    let kept : Keeps whole (held_contents g.W.Write.contents start.to start.held.items start.sent) =
    subst (λ s. Keeps (held_contents g.W.Write.contents s.to s.held.items s.sent)
    (held_contents g.W.Write.contents start.to start.held.items start.sent)) (c.if-hold.ensures.full refl)
    c.send_held.ensures.kept in
    let none : drop start.sent start.held.items ≡ [] =
    subst (λ l. drop start.sent l ≡ []) (sym c.in_ok-send_held.ensures.sent) (drop_all start.sent [] (omega arith)) in
    let same = c.if-hold-2.ensures.full refl in
    subst (λ s. WriteAppends whole (held_contents g.W.Write.contents c.write_within.new.to s.held.items s.sent)
    c.write_within.result c.args.bytes.now) (sym same)
    (WriteAppends-passed whole (g.W.Write.contents start.to) (g.W.Write.contents c.write_within.new.to)
    (drop start.sent start.held.items) c.args.bytes.now c.write_within.result none kept
    (subst (λ s. WriteAppends (g.W.Write.contents s.to) (g.W.Write.contents c.write_within.new.to)
    c.write_within.result c.args.bytes.now) same c.write_within.ensures.bytes))
