-- The forms of a summary: a text, or a JSON object, a field a line.
use Rattle.std.specs.List.{before_first}
use Rattle.std.specs.Prelude.{ℕ, ◌==◌, List, [], Option, Some, None, codes, map}
use Rattle.serde_json.specs.Data.{Data, Members, no_members, object, string}
use Rattle.version_order.specs.VersionText.{version_text}
use Rattle.version_order.specs.declared.version.Version.{Version}
use Rattle.device_texts.specs.Json.{dependency_json, json_line, needs_of, number_json, reason_word, with_image, with_member, with_notes, with_some}
use Rattle.device_texts.specs.declared.form.Form.{Form}
use Rattle.device_texts.specs.declared.form.Form.TheVariants.{Text, Json}
use Rattle.inspecting.specs.Row.{Row, summary_text}
use Rattle.inspecting.specs.RowKey.{row_key_of}
use Rattle.inspecting.specs.declared.fleet.row_key.RowKey.{RowKey}
use Rattle.inspecting.specs.declared.fleet.row_key.RowKey.TheVariants as key

-- The version that is requested, if an intact image is.
abbrev pub with_version : Option Version → Members → Members
with_version None members = members
with_version (Some version) members =
    with_member (codes "version") (string (version_text version)) members

-- The members of what the devices of a row do.
abbrev pub key_members : RowKey → Members
key_members (key.Take images) =
    with_some (codes "take") (map dependency_json images.items) no_members
key_members (key.Refuse version refusal) =
    with_version version
    (with_image refusal.image
    (with_some (codes "needs") (needs_of refusal.reason)
    (with_member (codes "reason") (string (reason_word refusal.reason)) no_members)))
key_members _ = no_members

-- A text up to its first space.
abbrev pub first_word : List ℕ → List ℕ
first_word text = before_first (λ b. b == 32) text

-- The object of a row. The first word of its key says which kind it is.
abbrev pub row_json : Row → Data
row_json row =
    object (with_member (codes "count") (number_json row.count)
    (with_member (codes "first") (string row.first)
    (with_member (codes "kind") (string (first_word row.key)) (key_members (row_key_of row.key)))))

-- The object of a summary, and the notes on it.
abbrev pub summary_json : List Row → List (List ℕ) → Data
summary_json rows notes =
    object (with_notes notes (with_some (codes "rows") (map row_json rows) no_members))

-- The lines of a summary in a form. A text has no notes.
abbrev pub summary_lines : Form → List Row → List (List ℕ) → List ℕ
summary_lines Text rows notes = summary_text rows
summary_lines Json rows notes = json_line (summary_json rows notes)
