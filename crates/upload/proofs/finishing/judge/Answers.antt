use Rattle.std.proofs.Common.{rules, Err, ◌∙◌, ap, refl, sym, take, subst, true≢false}
use Rattle.std.specs.Cmp.Lexicographic.{same_text}
use Rattle.std.proofs.lemmas.Bool.{not-false}
use Rattle.sector_map.specs.Map.{part_of}
use Rattle.sector_map.specs.Part.{Slot}
use Rattle.sector_map.specs.declared.layout.Side.TheVariants.{Secondary}
use Rattle.image_reading.specs.Fault.{IsFirstFault}
use Rattle.image_reading.specs.Image.{IsIntact}
use Rattle.machine.specs.declared.upload_error.UploadError.TheVariants as no
use Rattle.upload.proofs.Ends.{ends_flash, ends_read, err_passed, only_off}
use Rattle.upload.proofs.finishing.judge.Goals as goal

pub returns-in_err-found : goal.returns-in_err-found
returns-in_err-found g c =
    rw (err_passed _ (no.Flash c.in_err-found.field-0.0) c.from_residual.ensures.1) (record {
      same = c.digest_incoming.ensures.same;
      judges = tt;
      off = λ off. ap (λ error. Err (no.Flash error)) (only_off c.in_err-found.field-0.0 _ _ c.digest_incoming.ensures.same
          c.in_err-found.ensures.ends);
      ends = ends_flash c.in_err-found.field-0.0 _ _ c.in_err-found.ensures.ends;
    })

pub returns-in-Ok : goal.returns-in-Ok
returns-in-Ok g c = record {
  same = c.describe_file_into.ensures.same ∙ c.digest_incoming.ensures.same;
  judges = (
    sym c.in_ok-found.ensures.ok
        ∙ same_text c.in_ok-found.found c.args.digest.now (sym (not-false _ (sym c.if-ne.ensures))),
    (
      c.describe_file_into.new.description,
      subst (λ chip. IsIntact (take c.args.size (part_of c.args.map.now chip (Slot c.args.image Secondary)))
          c.describe_file_into.new.description) c.digest_incoming.ensures.same c.in-Ok.ensures.described,
    ),
  );
  off = λ off. absurd (true≢false (sym c.in_ok-found.ensures.on ∙ off));
  ends = ends_read _ _ _ refl (c.describe_file_into.ensures.same ∙ c.digest_incoming.ensures.same);
}

pub returns-in-Err-Image : goal.returns-in-Err-Image
returns-in-Err-Image g c =
    let fault = rw c.in-Err-Image.field-0-is at c.in-Err-Image.ensures.fault in
    record {
      same = c.describe_file_into.ensures.same ∙ c.digest_incoming.ensures.same;
      judges = (
        search rules,
        subst (λ chip. IsFirstFault (take c.args.size (part_of c.args.map.now chip (Slot c.args.image Secondary)))
            c.in-Err-Image.fault) c.digest_incoming.ensures.same fault.1,
      );
      off = λ off. absurd (true≢false (sym c.in_ok-found.ensures.on ∙ off));
      ends = ends_read _ _ _ refl (c.describe_file_into.ensures.same ∙ c.digest_incoming.ensures.same);
    }
