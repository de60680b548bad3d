-- The running images fit each other if the running versions meet each of their dependencies and
-- groups.
use Rattle.std.proofs.Common.{◌≡◌, ◌∙◌, refl, sym, ap, Bool, true, false, not, List, map, Option, Some, None}
use Rattle.std.specs.List.{list_all}
use Rattle.std.specs.Option.{option_map, option_map_or}
use Rattle.std.proofs.lemmas.Bool.{false≢true}
use Rattle.std.proofs.lemmas.List.Folds.{list_all-map}
use Rattle.version_order.specs.declared.version.Version.{Version}
use Rattle.version_order.specs.declared.dependency.Dependency.{Dependency}
use Rattle.version_order.specs.Order.{is_older}
use Rattle.reports.specs.declared.table.Entry.{Entry}
use Rattle.reports.specs.declared.table.Image.{Image}
use Rattle.reports.specs.declared.table.Table.{Table}
use Rattle.reports.specs.Combination.{IsValid, image_at, is_met, meets_all, running_set}
use Rattle.validity.specs.Running.{running_row, running_table, version_that_runs}
use Rattle.common.proofs.Lists.{IfSome-from_list_all, list_all-from_IfSome}

-- Whether the running versions meet all dependencies and groups of all running images.
abbrev pub running_images_fit : Table → Bool
running_images_fit table = list_all (λ image. meets_all table running_set image.running) table.images.items

-- The combination of no members is valid exactly if the running images fit.
pub running_set_is_valid : (table : Table) → (running_images_fit table ≡ true → IsValid table running_set)
    × (IsValid table running_set → running_images_fit table ≡ true)
running_set_is_valid table = (
  λ fit. record {
    members =
        λ j taken. absurd (false≢true taken);
    met = λ j. IfSome-from_list_all _ table.images.items j fit;
  },
  λ valid. list_all-from_IfSome _ table.images.items valid.met,
)

-- Whether the running versions meet all dependencies and groups of these entries.
abbrev pub entries_fit : List Entry → Bool
entries_fit entries = list_all (λ entry. meets_all (running_table entries) running_set entry) entries

-- The table in which these entries run is valid without requests exactly if they fit.
pub entries_are_valid : (entries : List Entry)
    → (entries_fit entries ≡ true → IsValid (running_table entries) running_set)
    × (IsValid (running_table entries) running_set → entries_fit entries ≡ true)
entries_are_valid entries =
    let both = running_set_is_valid (running_table entries) in
    (λ fit. both.0 (same ∙ fit), λ valid. sym same ∙ both.1 valid)
  where
    same : running_images_fit (running_table entries) ≡ entries_fit entries
    same = list_all-map (λ (image : Image). meets_all (running_table entries) running_set image.running)
        running_row entries

-- A dependency is met if the version that runs, if there is one, isn't older than its minimum.
pub met_by_version : (table : Table) (dependency : Dependency) (found : Option Version)
    → found ≡ option_map version_that_runs (image_at table dependency.image)
    → is_met table running_set dependency
    ≡ option_map_or (λ version. not (is_older version dependency.minimum)) found false
met_by_version table dependency found is = by_row (image_at table dependency.image)
    ∙ ap (λ it. option_map_or (λ version. not (is_older version dependency.minimum)) it false) (sym is)
  where
    by_row : (row : Option Image)
        → option_map_or (λ (image : Image). not (is_older image.running.version dependency.minimum)) row false
        ≡ option_map_or (λ version. not (is_older version dependency.minimum)) (option_map version_that_runs row) false
    by_row None = refl
    by_row (Some row) = refl
