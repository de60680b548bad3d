-- The text of an image's description.
use Rattle.std.specs.Prelude.{ℕ, List, ◌++◌, codes, decimal}
use Rattle.hex.specs.Hex.{encode_lower}
use Rattle.common.specs.Lines.{printed_lines}
use Rattle.version_order.specs.VersionText.{version_text}
use Rattle.reports.specs.DependencyText.{needs_one_text, needs_text}
use Rattle.image_reading.specs.declared.desc.Desc.{Desc}
use Rattle.image_reading.specs.declared.error.ImageError.{ImageError}
use Rattle.image_reading.specs.Codes.{code_of, name_of}
use Rattle.device_texts.specs.AnswerText.{line_text, refused_text}
use Rattle.inspecting.specs.declared.image.Described.{Described}

-- The lines of a description. These are the digits of its digest.
abbrev pub lines_of : Desc → List ℕ → List ℕ
lines_of description digits =
    line_text (codes "version") (version_text description.version)
    ++ (line_text (codes "length") (decimal description.length)
    ++ (line_text (codes "counter") (decimal description.counter)
    ++ (line_text (codes "digest") digits
    ++ (printed_lines needs_text description.dependencies.items
    ++ printed_lines needs_one_text description.groups.items))))

abbrev pub described_text : Described → List ℕ
described_text described = lines_of described.description.now described.digest.now

-- The description of an image: a line for each field, with the digest in lower case digits, then a
-- line for each dependency and each group.
abbrev pub description_text : Desc → List ℕ
description_text description = lines_of description (encode_lower description.digest)

-- The line of the first check that fails: its number and its name.
abbrev pub refusal_text : ImageError → List ℕ
refusal_text fault = refused_text (code_of fault) (name_of fault)
