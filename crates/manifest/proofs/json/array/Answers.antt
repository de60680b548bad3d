use Rattle.std.proofs.Common.{◌∙◌, ap}
use Rattle.std.specs.Prelude.{option_and_then, option_map}
use Rattle.serde_json.specs.Find.{as_array}
use Rattle.manifest.specs.Json.{values_of}
use Rattle.manifest.proofs.Values.{array_values}
use Rattle.manifest.proofs.json.array.Goals as goal

pub returns : goal.returns
returns c =
    let found = array_values c.as_array.result in
    let held = c.as_array.ensures ∙ ap (option_and_then as_array) c.in_ok-get.ensures in
    found ∙ ap (option_map values_of) held
