-- Fields that were gathered can be read, and no fields are gathered if there are no entries.
use Rattle.std.proofs.Common.{◌≡◌, ℕ, List, [], length, sym, ap, subst, arith}
use Rattle.flash_model.specs.Chip.{Chip}
use Rattle.image_reading.specs.declared.desc.Desc.{Desc}
use Rattle.image_reading.specs.declared.gathering.Occurrence.{Occurrence}
use Rattle.image_reading.specs.declared.gathering.Occurrence.TheVariants.{Absent, Once, Repeated}
use Rattle.image_reading.specs.declared.met.ItemFaults.{ItemFaults}
use Rattle.image_reading.specs.declared.span.Span.{Span}
use Rattle.image_reading.specs.Area.{values_of}
use Rattle.image_reading.specs.Fields.{counter_kind, dependency_kind, group_kind}
use Rattle.image_reading.specs.Gathered.{CanReadOccurrence, HasGatheredProtected, HaveMetDependencies, HaveMetGroups, IsOccurrence}
use Rattle.image_reading.specs.Reading.{values_read}
use Rattle.image_reading.specs.Span.{bytes_of}
use Rattle.image_reading.proofs.AreaLaws.{entries_of-none, first_entry-short}

-- A value that occurs once can be read.
pub CanReadOccurrence-met : (chip : Chip) (values left : List (List ℕ)) (occurrence : Occurrence)
    → IsOccurrence chip values left occurrence → CanReadOccurrence chip occurrence
CanReadOccurrence-met chip values left Absent so_far = tt
CanReadOccurrence-met chip values left (Once value) so_far = so_far.1
CanReadOccurrence-met chip values left Repeated so_far = tt

-- No bytes have no values.
no_values : (kind : ℕ) (bytes : List ℕ) → length bytes ≡ 0 → values_read kind bytes ≡ []
no_values kind bytes none =
    ap (values_of kind) (entries_of-none bytes (first_entry-short bytes (omega (arith, none))))

-- So no fields are gathered from no bytes.
pub HasGatheredProtected-none : (chip : Chip) (entries : Span) (faults group_faults : ItemFaults) (description : Desc)
    → length (bytes_of chip entries) ≡ 0
    → ((values : List (List ℕ)) → HaveMetDependencies values values description.dependencies.items faults)
    → ((values : List (List ℕ)) → HaveMetGroups values values description.groups.items group_faults)
    → HasGatheredProtected chip
    (record { entries = entries; dependencies = faults; groups = group_faults; counter = Absent }) description
HasGatheredProtected-none chip entries faults group_faults description none fresh fresh_groups = record {
  dependencies = subst (λ (values : List (List ℕ)). HaveMetDependencies values [] description.dependencies.items faults)
      (sym (no_values dependency_kind (bytes_of chip entries) none)) (fresh []);
  groups = subst (λ (values : List (List ℕ)). HaveMetGroups values [] description.groups.items group_faults)
      (sym (no_values group_kind (bytes_of chip entries) none)) (fresh_groups []);
  counter = no_values counter_kind (bytes_of chip entries) none;
}
