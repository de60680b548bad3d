-- The parts of an image that C gives, and the values that they are.
use Rattle.std.proofs.Common.{◌≡◌, ℕ, zero, suc, Option, ◌+◌, ◌^◌, ◌<◌, ◌≤◌, bit_or, List, [], ◌∷◌, ◌++◌, drop, get_or, length, map, set, take, refl, sym, subst, ap, ◌∙◌, arith, length-append}
use Rattle.std.proofs.lemmas.List.{map-append, take_more, take_more_set}
use Rattle.std.specs.Borrow.{Bor}
use Rattle.std.specs.List.{AllByRecursion}
use Rattle.version_order.specs.declared.version.Version.{Version}
use Rattle.version_order.specs.declared.dependency.Dependency.{Dependency}
use Rattle.version_order.specs.declared.group.Group.{Group}
use Rattle.image_reading.specs.Fields.{FitsDependency, FitsGroup}
use Rattle.image_reading.specs.Image.{IsIntact, image_bytes}
use Rattle.tlv.specs.declared.make.error.MakeError.{MakeError}
use Rattle.tlv.specs.declared.make.spec.ImageSpec.{ImageSpec}
use Rattle.tlv.specs.Making.{AreGroups, IsMakeFault, IsMakeable, description_of, group_of, groups_of, image_of}
use Rattle.tlv.specs.Writing.{Fits, IsAtFront, IsLonger}
use Rattle.tlv.proofs.MakingLaws.{makeable_has_no_fault}
use Rattle.c_interface.specs.declared.making.ImageParts.{ImageParts}
use Rattle.common.proofs.Mapped.{All-from_AllByRecursion-map}
use Rattle.c_interface.specs.declared.call_result.DependencyRow.{DependencyRow}
use Rattle.c_interface.specs.declared.description.GroupRow.{GroupRow}
use Rattle.c_interface.specs.Making.{AnswersMaking, BadImage, HasFewAlternatives, HasGroups, HasDependencies, IsSpecOf, Made, NoRoom, counter_in, group_in, dependency_in, version_in}

-- ---- dependencies and groups

-- A fact of each item is one of the item at a place.
each_at : {X : Type 0} (P : X → Type 0) (xs : List X) (i : ℕ) (other : X) → i < length xs → AllByRecursion P xs
    → P (get_or xs i other)
each_at P [] i other within each = absurd (omega arith)
each_at P (x ∷ xs) zero other within each = each.0
each_at P (x ∷ xs) (suc i) other within each = each_at P xs i other (omega arith) each.1

-- No dependencies have a number that is too large.
pub wide_dependency : (rows : List DependencyRow) (i : ℕ) (other : DependencyRow) → i < length rows
    → 256 ≤ (get_or rows i other).image → AllByRecursion FitsDependency (map dependency_in rows) → ⊥
wide_dependency rows i other within wide each =
    let fits : FitsDependency (dependency_in (get_or rows i other)) =
    All-from_AllByRecursion-map FitsDependency dependency_in rows each i other within in
    omega (arith, fits.image, wide)

-- If one row is no group, the rows are no groups.
pub bad_group : (rows : List GroupRow) (i : ℕ) (other : GroupRow) → i < length rows
    → (HasFewAlternatives (get_or rows i other) → FitsGroup (group_in (get_or rows i other)) → ⊥)
    → AllByRecursion HasFewAlternatives rows → AllByRecursion FitsGroup (map group_in rows) → ⊥
bad_group rows i other within bad few each =
    bad (each_at HasFewAlternatives rows i other within few)
    (All-from_AllByRecursion-map FitsGroup group_in rows each i other within)

-- The group with these alternatives.
abbrev group_with : List Dependency → Group
group_with items = record { alternatives = record { items = items } }

-- One more group's alternatives are a slice.
pub slices_more : (groups : List Group) (slices : List (Bor (List Dependency))) (i : ℕ) (other : Group)
    (slice : Bor (List Dependency)) → i < length groups → i < length slices
    → groups_of (take i slices) ≡ take i groups → slice.now ≡ (get_or groups i other).alternatives.items
    → groups_of (take (i + 1) (set slices i slice)) ≡ take (i + 1) groups
slices_more groups slices i other slice within room so_far same =
    let group : group_of slice ≡ get_or groups i other = ap group_with same in
    ap groups_of (take_more_set slices i slice room) ∙ map-append group_of (take i slices) (slice ∷ [])
    ∙ ap (λ (some : List Group). some ++ group_of slice ∷ []) so_far
    ∙ ap (λ (group : Group). take i groups ++ group ∷ []) group ∙ sym (take_more groups i other within)

-- ---- the answer

-- The values that the code passes on are those of the parts.
pub spec_of : (parts : ImageParts) (dependencies : Bor (List Dependency)) (slices : Bor (List (Bor (List Dependency))))
    (body : Bor (List ℕ)) (version : Version) (counter : Option ℕ) (groups : List Group)
    → version ≡ version_in parts.version → counter ≡ counter_in parts → HasDependencies parts dependencies.now
    → groups_of slices.now ≡ groups → HasGroups parts groups
    → IsSpecOf parts body.now (record {
      load_address = parts.load_address;
      header_size = parts.header_size;
      flags = parts.flags;
      version = version;
      counter = counter;
      dependencies = dependencies;
      groups = slices;
      body = body;
    })
spec_of parts dependencies slices body version counter groups version_is counter_is has_dependencies same has_groups = record {
  load_address = refl;
  header_size = refl;
  flags = refl;
  version = version_is;
  counter = counter_is;
  dependencies = has_dependencies;
  groups = subst (HasGroups parts) (sym same) has_groups;
  body_is = refl;
}

-- Two specifications of the same parts and body pass the same checks.
makeable_same : (parts : ImageParts) (body : List ℕ) (one other : ImageSpec) → IsSpecOf parts body one
    → IsSpecOf parts body other → IsMakeable one → IsMakeable other
makeable_same parts body one other of_one of_other makeable =
    let header_size : one.header_size ≡ other.header_size = of_one.header_size ∙ sym of_other.header_size in
    let flags : one.flags ≡ other.flags = of_one.flags ∙ sym of_other.flags in
    let dependencies : one.dependencies.now ≡ other.dependencies.now =
    of_one.dependencies.each ∙ sym of_other.dependencies.each in
    let groups : groups_of one.groups.now ≡ groups_of other.groups.now =
    of_one.groups.each ∙ sym of_other.groups.each in
    let body_is : one.body.now ≡ other.body.now = of_one.body_is ∙ sym of_other.body_is in (
      (
        (
          (
            subst (λ (n : ℕ). 32 ≤ n) header_size makeable.0.0.0.0,
            subst (λ (n : ℕ). bit_or n 0x111 ≡ 0x111) flags makeable.0.0.0.1,
          ),
          subst (λ (dependencies : List Dependency). length dependencies ≤ 16) dependencies makeable.0.0.1,
        ),
        subst AreGroups groups makeable.0.1,
      ),
      subst (λ (body : List ℕ). length body < 2 ^ 32) body_is makeable.1,
    )

-- If one of them has a fault, no image has the values.
pub bad_image : (parts : ImageParts) (body old new : List ℕ) {spec : ImageSpec} (fault : MakeError)
    → IsMakeFault spec fault → new ≡ old → IsSpecOf parts body spec → AnswersMaking parts body old new 0 29
bad_image parts body old new {spec = spec} fault failed kept of_spec =
    let none : (other : ImageSpec) → IsSpecOf parts body other → IsMakeable other → ⊥ =
    λ other of_other makeable.
    makeable_has_no_fault spec fault (makeable_same parts body other spec of_other of_spec makeable) failed in
    BadImage (λ other of_other fits makeable. none other of_other makeable) refl kept refl

-- The image is longer than the buffer.
pub no_room : (parts : ImageParts) (body old new : List ℕ) (out : ℕ) {spec : ImageSpec}
    → out ≡ length (image_bytes (image_of spec)) → IsMakeable spec → IsAtFront (image_bytes (image_of spec)) old new
    → length new < out → IsSpecOf parts body spec → AnswersMaking parts body old new out 28
no_room parts body old new out {spec = spec} size makeable (Fits within e) short of_spec =
    let image = image_bytes (image_of spec) in
    absurd (omega (arith, size, short, ap length e, length-append image (drop (length image) old)))
no_room parts body old new out {spec = spec} size makeable (IsLonger long e) short of_spec =
    NoRoom spec of_spec makeable size (omega (arith, size, long)) e refl

-- The image is at the front of the buffer.
pub made : (parts : ImageParts) (body old new : List ℕ) (out : ℕ) {spec : ImageSpec}
    → out ≡ length (image_bytes (image_of spec)) → IsMakeable spec → IsAtFront (image_bytes (image_of spec)) old new
    → (out ≤ length old → IsIntact (image_bytes (image_of spec)) (description_of spec))
    → out ≤ length new → IsSpecOf parts body spec → AnswersMaking parts body old new out 0
made parts body old new out {spec = spec} size makeable (Fits within e) intact enough of_spec =
    Made spec of_spec makeable (intact (omega (arith, size, within))) size e refl
made parts body old new out {spec = spec} size makeable (IsLonger long e) intact enough of_spec =
    absurd (omega (arith, size, long, enough, ap length e))
