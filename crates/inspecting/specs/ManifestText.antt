-- The text of a manifest's contents.
use Rattle.std.specs.Prelude.{ℕ, List, [], ◌++◌, Option, None, Some, codes, decimal}
use Rattle.hex.specs.Hex.{encode_lower}
use Rattle.common.specs.Lines.{◌␣◌, printed_lines}
use Rattle.manifest.specs.declared.error.ManifestError.{ManifestError}
use Rattle.manifest.specs.declared.manifest.Component.{Component}
use Rattle.manifest.specs.declared.manifest.Manifest.{Manifest}
use Rattle.manifest.specs.Codes as manifest
use Rattle.manifest.specs.Component.{kind_text}
use Rattle.device_texts.specs.AnswerText.{line_text, refused_text}

-- The end of a component's line: the digest of the image that has to run, if the component has one.
abbrev pub precursor_text : Option (List ℕ) → List ℕ
precursor_text None = []
precursor_text (Some digest) = codes " precursor " ++ encode_lower digest

-- The line of a component: its image, the length of its file in bytes, the kind of its request, and
-- the digest of its file in lower case digits.
abbrev pub component_text : Component → List ℕ
component_text component =
    codes "component" ␣ decimal component.image ␣ decimal component.size
    ␣ kind_text component.permanent ␣ encode_lower component.digest
    ++ precursor_text component.precursor

-- The contents of a manifest: its sequence number, and a line for each component.
abbrev pub manifest_text : Manifest → List ℕ
manifest_text manifest =
    line_text (codes "sequence") (decimal manifest.sequence)
    ++ printed_lines component_text manifest.components.items

-- The line that says why bytes aren't a manifest for the device: the number and the name.
abbrev pub refusal_text : ManifestError → List ℕ
refusal_text fault = refused_text (manifest.code_of fault) (manifest.name_of fault)
