use Rattle.std.proofs.Common.{◌↔◌, arith}
use Rattle.std.specs.Prelude.{All, IsTrue}
use Rattle.std.proofs.lemmas.Grind.{common_steps}
use Rattle.serde_json.specs.View.{view}
use Rattle.manifest.specs.Component.{HasComponentKeys}
use Rattle.common.proofs.Mapped.{AllByRecursion-map, All-from_AllByRecursion-map}
use Rattle.manifest.proofs.components.have_component_keys.Goals as goal

pub returns : goal.returns
returns c =
    let each : IsTrue c.all.result ↔ All (λ value. HasComponentKeys (view value)) c.args.values.now = grind (arith, common_steps) in (
      λ yes. AllByRecursion-map HasComponentKeys view c.args.values.now (each.0 yes),
      λ all. each.1 (All-from_AllByRecursion-map HasComponentKeys view c.args.values.now all),
    )
