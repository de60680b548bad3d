use Rattle.std.proofs.Common.{◌≡◌, ◌∙◌, Err, List, OnErr, OnOk, Ok, Result, ℕ}
use Rattle.std.proofs.Common.{arith, false, length, refl, subst, sym, take, true}
use Rattle.std.specs.Io.KnownBytes.{Appends}
use Rattle.std.specs.Result.{is_err}
use Rattle.std.proofs.KnownBytes.{Appends-kept, Appends-nil}
use Rattle.std.proofs.lemmas.List.{take_all}
use Rattle.host.specs.declared.error.Refusal.TheVariants.{CannotWrite, NoMemory}
use Rattle.device_commands.proofs.TellingLaws.{not_of_file}
use Rattle.device_commands.proofs.replies.write_line.Goals as goal

-- What a call promises if it fails.
of_err : {T E P : Type 0} (result : Result T E) → true ≡ is_err result → OnErr result P → P
of_err (Ok value) is holds = absurd cc
of_err (Err error) is holds = holds

-- What a call promises if it succeeds.
of_ok : {T E P : Type 0} (result : Result T E) → false ≡ is_err result → OnOk result P → P
of_ok (Ok value) is holds = holds
of_ok (Err error) is holds = absurd cc

-- The writer took a prefix of the text.
pub returns-then-is_err-clause-begun : goal.returns-then-is_err-clause-begun
returns-then-is_err-clause-begun g c =
    let failed = of_err c.write_all.result c.if-is_err.ensures.value c.write_all.ensures.err in
    let old = g.O.Write.contents c.args.out.now in
    let new = g.O.Write.contents c.write_all.new.out in
    record {
      count = failed.0;
      begun = subst (λ (text : List ℕ). Appends old new (take failed.0 text)) c.as_bytes.ensures.value failed.1;
      output = not_of_file CannotWrite refl;
    }

-- The writer took the complete text, and could not be flushed.
pub returns-in-Err-clause-begun : goal.returns-in-Err-clause-begun
returns-in-Err-clause-begun g c =
    let written = of_ok c.write_all.result c.if-is_err.ensures.value c.write_all.ensures.ok in
    let old = g.O.Write.contents c.args.out.now in
    let new = g.O.Write.contents c.write_all.new.out in
    let text = c.as_bytes.result.now in
    let whole : take (length text) text ≡ text = take_all (length text) text (omega arith) in
    record {
      count = length text;
      begun = subst (λ (told : List ℕ). Appends old (g.O.Write.contents c.flush.new.self) (take (length text) told))
          c.as_bytes.ensures.value
          (Appends-kept old new _ _ (subst (Appends old new) (sym whole) written) c.in-Err.ensures.bytes);
      output = not_of_file CannotWrite refl;
    }
