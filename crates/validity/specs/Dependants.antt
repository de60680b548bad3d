-- The requests that depend on an image or have it as an alternative.
use Rattle.std.specs.Prelude.{ℕ, ◌==◌, Bool, false, ◌||◌}
use Rattle.std.specs.List.{list_any}
use Rattle.std.specs.Option.{option_map_or}
use Rattle.version_order.specs.declared.group.Group.{Group}
use Rattle.reports.specs.declared.table.Entry.{Entry}
use Rattle.reports.specs.declared.table.Image.{Image}
use Rattle.reports.specs.declared.table.Table.{Table}
use Rattle.reports.specs.Combination.{image_at, intact_entry}
use Rattle.reports.specs.Reasons.{depends_on}

-- Whether an alternative of a group is image j, in any version.
abbrev pub has_alternative : ℕ → Group → Bool
has_alternative j group = list_any (λ alternative. alternative.image == j) group.alternatives.items

-- Whether an entry depends on image j, or has a group with it as an alternative, in any version.
abbrev pub names : Entry → ℕ → Bool
names entry j = depends_on entry j || list_any (has_alternative j) entry.groups.items

-- Whether an image has an intact request that names image j.
abbrev pub asks_for : ℕ → Image → Bool
asks_for j image = option_map_or (λ entry. names entry j) (intact_entry image.request) false

-- Whether image i of a table has an intact request that names image j.
abbrev pub is_dependant : Table → ℕ → ℕ → Bool
is_dependant table j i = option_map_or (asks_for j) (image_at table i) false
