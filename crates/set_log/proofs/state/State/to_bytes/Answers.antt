use Rattle.std.proofs.Common.{arith, rules, refl, ◌∷◌, [], if◌then◌else◌}
use Rattle.set_log.specs.Record.{IsSized, head_bytes, kind_number, record_bytes}
use Rattle.set_log.proofs.Words.{put_more, put_all}
use Rattle.set_log.proofs.Spelled.{state_from_back}
use Rattle.set_log.proofs.state.State.to_bytes.Goals as goal

pub loop-i-init : goal.loop-i-init
loop-i-init c =
    let s = c.args.self.now in
    c.put_word.ensures (kind_number s.kind ∷ s.mask ∷ (if s.permanent then 1 else 0) ∷ s.left ∷ []) 52
    (rw (c.number.ensures, c.flag.ensures) refl) refl (omega arith)

pub loop-i-preserved : goal.loop-i-preserved
loop-i-preserved c =
    put_more (head_bytes c.args.self.now) c.args.self.now.floors c.loop-i.i _ _ _ _ (omega arith) refl (search rules)
    refl c.put_word-in-loop-i.ensures refl c.loop-i.invariant

pub returns-clause-is : goal.returns-clause-is
unfolding record_bytes
returns-clause-is c =
    put_all (head_bytes c.args.self.now) c.args.self.now.floors _ c.loop-i.i (search rules) (search rules)
    c.loop-i.invariant

pub returns-clause-back : goal.returns-clause-back
returns-clause-back c =
    let sized : IsSized c.args.self.now = record {
      sequence = search rules;
      eight = search rules;
      floors = c.fit_words.ensures;
    } in
    λ images fit. state_from_back images c.loop-i.out c.args.self.now sized
    (record { spelled = returns-clause-is c; kept = fit })
