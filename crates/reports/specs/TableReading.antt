-- Reading a table line by line: how one more line changes the images of the lines so far. The
-- reader follows these steps. `TableText` defines what they mean.
use Rattle.std.specs.Prelude.{ℕ, ◌==◌, ◌&&◌, List, [], ◌∷◌, ◌++◌, length, Option, Some, None, option_map, nat_lt, if◌then◌else◌}
use Rattle.common.specs.Limits.{MOST_DEPENDENCIES, MOST_GROUPS, MOST_IMAGES}
use Rattle.common.specs.Reading.{with_text}
use Rattle.version_order.specs.declared.version.Version.{Version}
use Rattle.version_order.specs.declared.dependency.Dependency.{Dependency}
use Rattle.version_order.specs.declared.group.Group.{Group}
use Rattle.reports.specs.declared.table.Entry.{Entry}
use Rattle.reports.specs.declared.table.Request.{Request}
use Rattle.reports.specs.declared.table.Request.TheVariants as request
use Rattle.reports.specs.declared.table.Image.{Image}
use Rattle.reports.specs.declared.table.Table.{Table}
use Rattle.reports.specs.declared.table_line.TableLine.{TableLine}
use Rattle.reports.specs.declared.table_line.TableLine.TheVariants as line
use Rattle.reports.specs.LineReading.{table_line_of}

-- An entry without dependencies and groups.
abbrev pub new_entry : Version → ℕ → Entry
new_entry version counter =
    record {
      version = version;
      counter = counter;
      dependencies = record { items = [] };
      groups = record { items = [] };
    }

-- An image with this version, security counter and floor, without anything else.
abbrev pub new_image : Version → ℕ → ℕ → Image
new_image version counter floor =
    record { running = new_entry version counter; request = request.None; floor = floor }

-- The version 0.0.0+0.
abbrev pub no_version : Version
no_version = record { major = 0; minor = 0; revision = 0; build = 0 }

-- An entry with one more dependency. There are at most 16, and they come before the groups.
abbrev pub with_dependency : Dependency → Entry → Option Entry
with_dependency dependency entry =
    if (length entry.groups.items == 0)
    && nat_lt (length entry.dependencies.items) MOST_DEPENDENCIES
    then Some (record entry {
      dependencies = record { items = entry.dependencies.items ++ dependency ∷ [] };
    }) else None

-- An entry with one more group. There are at most 4.
abbrev pub with_group : Group → Entry → Option Entry
with_group group entry =
    if nat_lt (length entry.groups.items) MOST_GROUPS
    then Some (record entry { groups = record { items = entry.groups.items ++ group ∷ [] } })
    else None

-- An image with this request and one more dependency or group in its last entry. That is the
-- requested entry if there is one, and else the running one.
abbrev pub in_last_entry : (Entry → Option Entry) → Image → Request → Option Image
in_last_entry with_one_more image request.None =
    option_map (λ entry. record image { running = entry }) (with_one_more image.running)
in_last_entry with_one_more image request.Damaged = None
in_last_entry with_one_more image (request.Entry entry) =
    option_map (λ more. record image { request = request.Entry more }) (with_one_more entry)

-- An image with one more dependency, or with one more group.
abbrev pub with_needs : Dependency → Image → Option Image
with_needs dependency image = in_last_entry (with_dependency dependency) image image.request

abbrev pub with_needs_one : Group → Image → Option Image
with_needs_one group image = in_last_entry (with_group group) image image.request

-- An image that had this request, with a new one. There is at most one.
abbrev pub with_request : Image → Request → Request → Option Image
with_request image new request.None = Some (record image { request = new })
with_request image new request.Damaged = None
with_request image new (request.Entry entry) = None

-- An image with the meaning of a line after its first one.
abbrev pub with_line : Image → TableLine → Option Image
with_line image (line.Image number version counter floor) = None
with_line image (line.Needs dependency) = with_needs dependency image
with_line image (line.NeedsOne group) = with_needs_one group image
with_line image (line.Request version counter) =
    with_request image (request.Entry (new_entry version counter)) image.request
with_line image line.Damaged = with_request image request.Damaged image.request

-- Images, with the meaning of a line added to the last of them.
unfoldable pub with_line_in_last : List Image → TableLine → Option (List Image)
with_line_in_last [] said = None
with_line_in_last (image ∷ []) said = option_map (λ more. more ∷ []) (with_line image said)
with_line_in_last (image ∷ next ∷ images) said =
    option_map (λ more. image ∷ more) (with_line_in_last (next ∷ images) said)

-- Images with one more. There are at most eight, and the number of the new one must be the count of
-- those before it.
abbrev pub with_image : List Image → ℕ → Image → Option (List Image)
with_image images number image =
    if (number == length images) && nat_lt (length images) MOST_IMAGES
    then Some (images ++ image ∷ []) else None

-- Images with the meaning of one more line.
unfoldable pub with_line_of_images : List Image → TableLine → Option (List Image)
with_line_of_images images (line.Image number version counter floor) =
    with_image images number (new_image version counter floor)
with_line_of_images images (line.Needs dependency) =
    with_line_in_last images (line.Needs dependency)
with_line_of_images images (line.NeedsOne group) = with_line_in_last images (line.NeedsOne group)
with_line_of_images images (line.Request version counter) =
    with_line_in_last images (line.Request version counter)
with_line_of_images images line.Damaged = with_line_in_last images line.Damaged

-- The table of these images.
abbrev pub table_of : List Image → Table
table_of images = record { images = record { items = images } }

-- A table with the meaning of one more line.
abbrev pub with_table_line : Table → TableLine → Option Table
with_table_line table said = option_map table_of (with_line_of_images table.images.items said)

-- A table with the meaning of one more line of text.
abbrev pub with_text_of_table : Table → List ℕ → Option Table
with_text_of_table = with_text table_line_of with_table_line
