-- Dependencies and groups together: which values encode them, and which checks they pass.
use Rattle.std.proofs.Common.{◌≡◌, ℕ, ◌<◌, ◌≤◌, ◌⊎◌, inl, inr, Bool, true, false, List, [], ◌∷◌, ◌++◌, length, map, refl, sym, ap, subst, ◌∙◌, arith}
use Rattle.std.specs.List.{AllByRecursion, Any}
use Rattle.common.specs.declared.limits.TheConstants.{MOST_DEPENDENCIES, MOST_GROUPS}
use Rattle.common.proofs.Items.{AllByRecursion-no_Any, same_cons}
use Rattle.version_order.specs.declared.dependency.Dependency.{Dependency}
use Rattle.version_order.specs.declared.group.Group.{Group}
use Rattle.image_reading.specs.declared.error.ImageError.TheVariants.{BadDependency, TooManyDependencies, TooManyGroups}
use Rattle.image_reading.specs.declared.desc.Desc.{Desc}
use Rattle.image_reading.specs.declared.met.ItemFaults.{ItemFaults}
use Rattle.image_reading.specs.Fields.{HaveForms, IsDependencyForm, IsGroupForm, SpellCounter, SpellDependencies, SpellDigest, SpellGroups, counter_check, dependency_bytes, digest_checks, digest_kind, need_checks}
use Rattle.image_reading.specs.Gathered.{AreKept, HaveMetDependencies, HaveMetGroups, Spelling, dependency_spelling, group_spelling}
use Rattle.image_reading.specs.Area.{values_of}
use Rattle.image_reading.specs.Checks.{AllPass, FailsWith}
use Rattle.image_reading.specs.Image.{Image, counter_values, dependency_values, entry_checks, group_values, hashed_bytes}
use Rattle.image_reading.proofs.CheckLaws.{AllPass-append}
use Rattle.image_reading.proofs.FieldLaws.{IsDependencyForm-dependency_bytes, dependency_bytes-same}
use Rattle.image_reading.proofs.GroupLaws.{IsGroupForm-group_bytes, group_bytes-same}
use Rattle.image_reading.proofs.Gathered.{AreSpelled, count_spelled, few_at_end, found_at_end, kept_at_end, many_at_end}

-- ---- what values encode

-- If items are determined by their bytes, items with the same values are the same.
spelled-unique : {X : Type 0} (spelling : Spelling X)
    → ((x y : X) → spelling.Fits x → spelling.Fits y → spelling.bytes x ≡ spelling.bytes y → x ≡ y)
    → (first second : List X) → AllByRecursion spelling.Fits first → AllByRecursion spelling.Fits second
    → map spelling.bytes first ≡ map spelling.bytes second → first ≡ second
spelled-unique spelling known [] [] a b e = refl
spelled-unique spelling known [] (y ∷ ys) a b e = absurd (omega (arith, ap length e))
spelled-unique spelling known (x ∷ xs) [] a b e = absurd (omega (arith, ap length e))
spelled-unique spelling known (x ∷ xs) (y ∷ ys) a b e =
    let parts = same_cons (spelling.bytes x) (spelling.bytes y) (map spelling.bytes xs) (map spelling.bytes ys) e in
    let head = known x y a.0 b.0 parts.0 in
    let tail = spelled-unique spelling known xs ys a.1 b.1 parts.1 in
    cc

-- Values encode one list of dependencies.
pub dependencies-unique : (values : List (List ℕ)) (first second : List Dependency) → SpellDependencies values first
    → SpellDependencies values second → first ≡ second
dependencies-unique values first second a b =
    spelled-unique dependency_spelling dependency_bytes-same first second a.fit b.fit (sym a.spelled ∙ b.spelled)

-- Values encode one list of groups.
pub groups-unique : (values : List (List ℕ)) (first second : List Group) → SpellGroups values first
    → SpellGroups values second → first ≡ second
groups-unique values first second a b =
    spelled-unique group_spelling group_bytes-same first second a.fit b.fit (sym a.spelled ∙ b.spelled)

-- ---- forms

-- Some value doesn't have the form of a dependency, or of a group.
abbrev pub HasBadDependency : List (List ℕ) → Type 0
HasBadDependency values = Any (λ value. IsDependencyForm value → ⊥) values

abbrev pub HasBadGroup : List (List ℕ) → Type 0
HasBadGroup values = Any (λ value. IsGroupForm value → ⊥) values

-- Values that encode items have their form.
forms_of : {X : Type 0} (spelling : Spelling X)
    → ((x : X) → spelling.Fits x → spelling.IsForm (spelling.bytes x))
    → (items : List X) → AllByRecursion spelling.Fits items
    → AllByRecursion spelling.IsForm (map spelling.bytes items)
forms_of spelling formed [] fit = tt
forms_of spelling formed (x ∷ xs) fit = (formed x fit.0, forms_of spelling formed xs fit.1)

-- So no value is bad.
spelled-good : {X : Type 0} (spelling : Spelling X)
    → ((x : X) → spelling.Fits x → spelling.IsForm (spelling.bytes x))
    → (values : List (List ℕ)) (items : List X) → AreSpelled spelling values items
    → Any (λ v. spelling.IsForm v → ⊥) values → ⊥
spelled-good spelling formed values items all bad =
    let forms = subst (AllByRecursion spelling.IsForm) (sym all.spelled) (forms_of spelling formed items all.fit) in
    AllByRecursion-no_Any spelling.IsForm values forms bad

dependencies-good : (values : List (List ℕ)) (items : List Dependency) → AreSpelled dependency_spelling values items
    → HasBadDependency values → ⊥
dependencies-good = spelled-good dependency_spelling
    (λ dependency fits. IsDependencyForm-dependency_bytes (dependency_bytes dependency) dependency refl)

groups-good : (values : List (List ℕ)) (items : List Group) → AreSpelled group_spelling values items
    → HasBadGroup values → ⊥
groups-good = spelled-good group_spelling IsGroupForm-group_bytes

-- ---- what a walk has kept

-- If no value is bad, each has its form.
forms_kept : (values others : List (List ℕ)) (description : Desc) (faults group_faults : ItemFaults)
    → HaveMetDependencies values [] description.dependencies.items faults
    → HaveMetGroups others [] description.groups.items group_faults
    → faults.bad ≡ false → group_faults.bad ≡ false → HaveForms values others
forms_kept values others description faults group_faults met met_groups good good_groups =
    let kept = met.kept good in
    let kept_groups = met_groups.kept good_groups in
    let all = found_at_end dependency_spelling 16 values description.dependencies.items faults.too_many kept in
    let all_groups = found_at_end group_spelling 4 others description.groups.items group_faults.too_many kept_groups in (
      (kept.found, record { fit = all.fit; spelled = all.spelled }),
      (kept_groups.found, record { fit = all_groups.fit; spelled = all_groups.spelled }),
    )

-- If a value is bad, the values spell nothing.
pub bad_forms : (values others : List (List ℕ)) → HasBadDependency values ⊎ HasBadGroup others
    → HaveForms values others → ⊥
bad_forms values others (inl some) forms = dependencies-good values forms.0.0
    (record { fit = forms.0.1.fit; spelled = forms.0.1.spelled }) some
bad_forms values others (inr some) forms = groups-good others forms.1.0
    (record { fit = forms.1.1.fit; spelled = forms.1.1.spelled }) some

-- There were too many dependencies.
pub too_many_dependencies : (values others : List (List ℕ)) (description : Desc) (faults group_faults : ItemFaults)
    → HaveMetDependencies values [] description.dependencies.items faults
    → HaveMetGroups others [] description.groups.items group_faults
    → faults.bad ≡ false → group_faults.bad ≡ false → faults.too_many ≡ true
    → FailsWith (need_checks values others) TooManyDependencies
too_many_dependencies values others description faults group_faults met met_groups good good_groups many =
    let over : 16 < length values =
    many_at_end dependency_spelling 16 values description.dependencies.items faults.too_many (met.kept good) many in
    let forms = forms_kept values others description faults group_faults met met_groups good good_groups in
    inr (forms, inl (λ few. omega (arith, few, over), refl))

-- There were not too many dependencies, but too many groups.
pub too_many_groups : (values others : List (List ℕ)) (description : Desc) (faults group_faults : ItemFaults)
    → HaveMetDependencies values [] description.dependencies.items faults
    → HaveMetGroups others [] description.groups.items group_faults
    → faults.bad ≡ false → group_faults.bad ≡ false → faults.too_many ≡ false → group_faults.too_many ≡ true
    → FailsWith (need_checks values others) TooManyGroups
too_many_groups values others description faults group_faults met met_groups good good_groups few many =
    let within =
    few_at_end dependency_spelling 16 values description.dependencies.items faults.too_many (met.kept good) few in
    let over : 4 < length others =
    many_at_end group_spelling 4 others description.groups.items group_faults.too_many (met_groups.kept good_groups) many in
    let forms = forms_kept values others description faults group_faults met met_groups good good_groups in
    inr (forms, inr (within, inl (λ few. omega (arith, few, over), refl)))

-- If a value is bad, that is the fault.
pub bad_needs : (values others : List (List ℕ)) → HasBadDependency values ⊎ HasBadGroup others
    → FailsWith (need_checks values others) BadDependency
bad_needs values others bad = inl (bad_forms values others bad, refl)

-- If there weren't too many, all are kept.
pub SpellDependencies-kept : (values : List (List ℕ)) (items : List Dependency) (too_many : Bool)
    → AreKept dependency_spelling MOST_DEPENDENCIES values [] items too_many → too_many ≡ false
    → SpellDependencies values items
SpellDependencies-kept values items too_many kept few =
    let all = kept_at_end dependency_spelling 16 values items too_many kept few in
    record { fit = all.fit; spelled = all.spelled }

pub SpellGroups-kept : (values : List (List ℕ)) (items : List Group) (too_many : Bool)
    → AreKept group_spelling MOST_GROUPS values [] items too_many → too_many ≡ false → SpellGroups values items
SpellGroups-kept values items too_many kept few =
    let all = kept_at_end group_spelling 4 values items too_many kept few in
    record { fit = all.fit; spelled = all.spelled }

-- ---- the checks of an image's entries

-- The digest is that of header, body and protected area.
abbrev pub PassesDigest : Image → Type 0
PassesDigest image = SpellDigest (values_of digest_kind image.unprotected) (hashed_bytes image)

-- The checks of the digest pass if it does.
pub digest_passes : (values : List (List ℕ)) (hashed : List ℕ) → SpellDigest values hashed
    → AllPass (digest_checks values hashed)
digest_passes values hashed spelled =
    let one : length values ≡ 1 = ap length spelled in
    (omega (arith, one), (omega (arith, one), (spelled, tt)))

-- The checks of dependencies and groups pass if they are within their limits.
pub passes_needs : (image : Image) (dependencies : List Dependency) (groups : List Group)
    → SpellDependencies (dependency_values image) dependencies → SpellGroups (group_values image) groups
    → length dependencies ≤ MOST_DEPENDENCIES → length groups ≤ MOST_GROUPS
    → AllPass (need_checks (dependency_values image) (group_values image))
passes_needs image dependencies groups spelled spelled_groups few few_groups =
    let all : AreSpelled dependency_spelling (dependency_values image) dependencies =
    record { fit = spelled.fit; spelled = spelled.spelled } in
    let all_groups : AreSpelled group_spelling (group_values image) groups =
    record { fit = spelled_groups.fit; spelled = spelled_groups.spelled } in
    let count = count_spelled dependency_spelling (dependency_values image) dependencies all in
    let count_groups = count_spelled group_spelling (group_values image) groups all_groups in
    let within : length (dependency_values image) ≤ 16 = omega (arith, count, few) in
    let within_groups : length (group_values image) ≤ 4 = omega (arith, count_groups, few_groups) in
    (((dependencies, spelled), (groups, spelled_groups)), (within, (within_groups, tt)))

-- All checks pass if these do, and there is a counter.
pub passes_counter : (image : Image) (counter : ℕ) → PassesDigest image
    → AllPass (need_checks (dependency_values image) (group_values image))
    → SpellCounter (counter_values image) counter → AllPass (entry_checks image)
passes_counter image counter digest needs spelled =
    let last : AllPass (counter_check (counter_values image)) = ((counter, spelled), tt) in
    let first = digest_passes (values_of digest_kind image.unprotected) (hashed_bytes image) digest in
    let digests = digest_checks (values_of digest_kind image.unprotected) (hashed_bytes image) in
    let dependencies = need_checks (dependency_values image) (group_values image) in
    let counters = counter_check (counter_values image) in
    AllPass-append digests (dependencies ++ counters) first (AllPass-append dependencies counters needs last)
