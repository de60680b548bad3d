use Rattle.std.proofs.Common.{◌≡◌, ◌≤◌, ◌+◌, ◌-◌, length, arith, refl, ◌∙◌, ap, List, ℕ, ◌++◌, take}
use Rattle.std.proofs.lemmas.Slice.{take-put_mid, drop-put_mid}
use Rattle.std.proofs.lemmas.Grind.{common_steps}
use Rattle.tlv.proofs.make.place.put.Goals as goal

pub returns : goal.returns
returns c =
    let buffer = c.args.buffer.now in
    let piece = c.args.bytes.now in
    let place = c.args.place in
    let within : place ≤ length buffer = omega (arith, c.if-place-buffer.false) in
    let written : c.copy_from_slice.new.self ≡ piece = c.copy_from_slice.ensures.after in
    let long = ap (λ (l : List ℕ). length l) written in
    record {
      whole = grind (arith, common_steps, long);
      until = λ fits. refl;
      put = λ fits. take-put_mid place (place + length piece - place) buffer c.copy_from_slice.new.self
          (place + length piece) (omega (arith, long)) within ∙ ap (λ (l : List ℕ). take place buffer ++ l) written;
      rest = λ fits. drop-put_mid place (place + length piece - place) buffer c.copy_from_slice.new.self
          (place + length piece) (omega arith) within (omega (arith, long));
    }
