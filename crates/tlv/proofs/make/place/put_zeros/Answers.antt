use Rattle.std.proofs.Common.{◌≡◌, ◌≤◌, ◌+◌, ◌-◌, length, arith, ◌∙◌, ap, List, ℕ, ◌++◌, replicate, take}
use Rattle.std.proofs.lemmas.List.{length-replicate}
use Rattle.std.proofs.lemmas.Slice.{take-put_mid, drop-put_mid}
use Rattle.std.proofs.lemmas.Grind.{common_steps}
use Rattle.tlv.proofs.make.place.put_zeros.Goals as goal

pub returns : goal.returns
returns c =
    let buffer = c.args.buffer.now in
    let count = c.args.count in
    let place = c.args.place in
    let within : place ≤ length buffer = omega (arith, c.if-place-buffer.false) in
    let all = c.fill.ensures.after (λ y same. same) in
    let zeros = length-replicate {A = ℕ} count 0 in
    let written : c.fill.new.self ≡ replicate count 0 = grind (arith, common_steps, all) in
    let long = ap (λ (l : List ℕ). length l) written ∙ zeros in
    record {
      whole = grind (arith, common_steps, long);
      until = λ fits. omega (arith, zeros);
      put = λ fits. take-put_mid place (place + count - place) buffer c.fill.new.self
          (place + count) (omega (arith, long)) within ∙ ap (λ (l : List ℕ). take place buffer ++ l) written;
      rest = λ fits. drop-put_mid place (place + count - place) buffer c.fill.new.self
          (place + count) (omega arith) within (omega (arith, long));
    }
