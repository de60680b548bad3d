use Rattle.std.proofs.Common.{◌∙◌, ap}
use Rattle.std.specs.Prelude.{option_and_then}
use Rattle.uuid.specs.Text.{parsed}
use Rattle.manifest.proofs.Values.{found_uuid}
use Rattle.manifest.proofs.json.uuid.Goals as goal

pub returns : goal.returns
returns c =
    let found = found_uuid c.parse_str.result _ c.parse_str.ensures.ok c.parse_str.ensures.bytes in
    c.ok.ensures.value ∙ found ∙ ap (option_and_then parsed) c.in_ok-text.ensures
