use Rattle.std.proofs.Common.{refl}
use Rattle.std.proofs.lemmas.Result.{IfOk-weaker}
use Rattle.inspecting.specs.ManifestFile.{IsManifestRead}
use Rattle.inspecting.proofs.manifest_file.manifest_in.Goals as goal

-- A refusal that isn't lack of memory is the lowest one.
pub returns-in-Err-clause-read : goal.returns-in-Err-clause-read
returns-in-Err-clause-read c =
    IfOk-weaker c.refused.result _ (λ found. IsManifestRead c.args.identity c.args.text.items found)
    (λ _ told. rw told.1 (record {
      same = refl;
      of_device = refl;
      fault = rw c.deref.ensures.value at (c.in-Err.ensures.only told.0);
    })) c.refused.ensures.refused
