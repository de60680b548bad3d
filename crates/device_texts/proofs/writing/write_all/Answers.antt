use Rattle.std.proofs.Common.{◌≡◌, ℕ, ◌+◌, ◌-◌, List, Option, length, take, drop, length-take, length-drop, arith, sym, ap, ◌∙◌, subst}
use Rattle.std.proofs.Math.Seq.{take-add}
use Rattle.std.proofs.lemmas.List.{take_rest}
use Rattle.std.proofs.KnownBytes.{Appends-trans, Appends-kept}
use Rattle.std.specs.Io.KnownBytes.{Appends}
use Rattle.device_texts.proofs.writing.write_all.Goals as goal
use Rattle.device_texts.proofs.writing.write_all.Goals.{in-Ok, in-Err}

-- The first n bytes and then the first m of the others are the first n + m bytes.
Appends-take_more : (before mid after : Option (List ℕ)) (bytes : List ℕ) (n m k : ℕ) → k ≡ n + m → Appends before mid (take n bytes)
    → Appends mid after (take m (take (length bytes - n) (drop n bytes))) → Appends before after (take k bytes)
Appends-take_more before mid after bytes n m k e first second =
    let rest : Appends mid after (take m (drop n bytes)) = subst (λ l. Appends mid after (take m l)) (take_rest bytes n) second in
    subst (Appends before after) (sym (ap (λ j. take j bytes) e ∙ take-add n m bytes)) (Appends-trans before mid after _ _ first rest)

pub loop-preserved : goal.loop-preserved
loop-preserved g c =
    let before = g.W.Write.contents c.args.out.now in
    let mid = g.W.Write.contents c.loop.out in
    let after = g.W.Write.contents c.write.new.self in
    elim c.match-write.branch [
      | in-Ok w ↦ record {
        within = omega (arith, w.in-Ok.ensures.bound, length-take {A = ℕ}, length-drop {A = ℕ});
        appended = Appends-take_more before mid after c.args.bytes.now c.loop.written w.in-Ok.count c.match-write.written w.written-is c.loop.invariant.appended w.in-Ok.ensures.bytes;
      }
      | in-Err w ↦ record {
        within = omega arith;
        appended = subst (λ k. Appends before after (take k c.args.bytes.now)) (sym w.written-is) (Appends-kept before mid after _ c.loop.invariant.appended w.in-Err.ensures.bytes);
      }
    ]
