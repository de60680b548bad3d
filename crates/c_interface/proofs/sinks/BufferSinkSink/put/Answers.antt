use Rattle.std.proofs.Common.{◌≡◌, ◌≤◌, ◌+◌, ◌-◌, length, arith, refl, ◌∙◌, ap, List, ℕ, ◌++◌, take}
use Rattle.std.proofs.lemmas.Slice.{take-put_mid, drop-put_mid}
use Rattle.std.proofs.lemmas.Grind.{common_steps}
use Rattle.c_interface.proofs.sinks.BufferSinkSink.put.Goals as goal

pub returns-then-piece-self : goal.returns-then-piece-self
returns-then-piece-self c =
    let buffer = c.args.self.now.buffer.now in
    let piece = c.args.piece.now in
    let place = c.args.self.now.length in
    let within : place ≤ length buffer = c.args.self.now.is_within in
    let written : c.copy_from_slice.new.self ≡ piece = c.copy_from_slice.ensures.after ∙ c.as_bytes.ensures.value in
    let long = ap (λ (l : List ℕ). length l) written in (
      refl,
      record {
        whole = grind (arith, common_steps, long);
        until = λ fits. refl;
        put = λ fits. take-put_mid place (place + length piece - place) buffer c.copy_from_slice.new.self (place + length piece)
            (omega (arith, long)) within ∙ ap (λ (l : List ℕ). take place buffer ++ l) written;
        rest = λ fits. drop-put_mid place (place + length piece - place) buffer c.copy_from_slice.new.self (place + length piece)
            (omega arith) within (omega (arith, long));
      },
    )
