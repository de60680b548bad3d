use Rattle.std.proofs.Common.{◌∙◌, sym}
use Rattle.std.proofs.lemmas.Bool.{and_parts, eqb-true}
use Rattle.creating.proofs.NewManifestLaws.{same_components}
use Rattle.creating.proofs.make_manifest.expect_manifest.Goals as goal

-- The text reads back as the manifest.
pub returns-in-Ok : goal.returns-in-Ok
returns-in-Ok c =
    let all = and_parts _ _ (sym c.eq.ensures ∙ c.if-eq.true) in
    record {
      read = c.in-Ok.read;
      is_manifest = c.in-Ok.ensures.means;
      sequence = eqb-true c.in-Ok.read.sequence c.args.manifest.now.sequence all.0;
      components = same_components c.in-Ok.read.components.items c.args.manifest.now.components.items all.1;
    }
