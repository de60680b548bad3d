-- Laws about fields: which values encode dependencies, and which a counter.
use Rattle.std.proofs.Common.{◌≡◌, ◌≢◌, ◌⊎◌, ℕ, ◌≤◌, ◌%◌, inl, inr, List, [], ◌∷◌, length, drop, slice_index, refl, sym, ap, subst, ◌∙◌, arith}
use Rattle.std.specs.List.{AllByRecursion, Any}
use Rattle.std.proofs.lemmas.Bool.{eq-eqb, ne_eqb}
use Rattle.byteorder.specs.Endian.{little_bytes, little_number}
use Rattle.byteorder.specs.Numbers.{little_from-lt, little_number-reads_back}
use Rattle.version_order.specs.declared.dependency.Dependency.{Dependency}
use Rattle.common.proofs.Items.{AllByRecursion-no_Any, same_cons}
use Rattle.sha2.specs.Sha256.{sha256}
use Rattle.image_header.proofs.Fields.{little_bytes-little_number_4}
use Rattle.image_reading.specs.declared.error.ImageError.TheVariants.{NoDigest, TwoDigests, BadDigest, BadCounter}
use Rattle.image_reading.specs.Area.{Entry, values_of}
use Rattle.image_reading.specs.Checks.{FailsWith}
use Rattle.image_reading.specs.Fields.{FitsDependency, IsDependencyForm, SpellCounter, SpellDigest, counter_check, dependency_bytes, digest_checks}
use Rattle.common.specs.Bytes.{IsBytes}
use Rattle.common.proofs.Bytes.{IsBytes-drop, IsBytes-take}
use Rattle.image_reading.proofs.AreaLaws.{little_bytes-little_number_2}

-- ---- values of a type

-- An entry of the type gives its value.
pub values_of-same : (kind : ℕ) (entry : Entry) (entries : List Entry) → entry.kind ≡ kind
    → values_of kind (entry ∷ entries) ≡ entry.value ∷ values_of kind entries
values_of-same kind entry entries same = rw (eq-eqb entry.kind kind same) refl

-- An entry of another type gives no value.
pub values_of-other : (kind : ℕ) (entry : Entry) (entries : List Entry) → (entry.kind ≡ kind → ⊥)
    → values_of kind (entry ∷ entries) ≡ values_of kind entries
values_of-other kind entry entries other = rw (ne_eqb entry.kind kind other) refl

-- ---- the digest

-- If the only value is the digest, the digest passes.
pub SpellDigest-one : (values : List (List ℕ)) (value digest hashed : List ℕ) → values ≡ value ∷ []
    → digest ≡ sha256 hashed → value ≡ digest → SpellDigest values hashed
SpellDigest-one values value digest hashed one own same = one ∙ ap (λ (v : List ℕ). v ∷ []) (same ∙ own)

-- If the only value isn't the digest, the last check fails.
pub other_digest : (values : List (List ℕ)) (value digest hashed : List ℕ) → values ≡ value ∷ []
    → digest ≡ sha256 hashed → value ≢ digest → FailsWith (digest_checks values hashed) BadDigest
other_digest values value digest hashed one own other =
    let count : length values ≡ 1 = ap length one in
    let differs : SpellDigest values hashed → ⊥ = λ spelled.
    other ((same_cons value (sha256 hashed) [] [] (sym one ∙ spelled)).0 ∙ sym own) in
    inr (omega (arith, count), inr (omega (arith, count), inl (differs, refl)))

-- If there is no value, or there are more, a check before it fails.
pub no_digest : (values : List (List ℕ)) (hashed : List ℕ) → values ≡ []
    → FailsWith (digest_checks values hashed) NoDigest
no_digest values hashed none =
    let count : length values ≡ 0 = ap length none in
    inl (λ some. omega (arith, some, count), refl)

pub two_digests : (values : List (List ℕ)) (hashed : List ℕ) → 2 ≤ length values
    → FailsWith (digest_checks values hashed) TwoDigests
two_digests values hashed two = inr (omega (arith, two), inl (λ few. omega (arith, few, two), refl))

-- ---- dependencies

-- The dependency whose numbers are in a value.
abbrev pub dependency_at : List ℕ → Dependency
dependency_at value = record {
  image = slice_index value 0;
  minimum = record {
    major = slice_index value 4;
    minor = slice_index value 5;
    revision = little_number 2 (drop 6 value);
    build =
        little_number 4 (drop 8 value);
  };
}

-- Dependencies with the same numbers are the same.
same_minimum : (image major own_major minor own_minor revision own_revision build own_build : ℕ) → major ≡ own_major
    → minor ≡ own_minor → revision ≡ own_revision → build ≡ own_build
    → ◌≡◌ {A = Dependency}
    (record {
      image = image;
      minimum = record { major = major; minor = minor; revision = revision; build = build };
    }) (record {
      image = image;
      minimum = record
          { major = own_major; minor = own_minor; revision = own_revision; build = own_build };
    })
same_minimum image major own_major minor own_minor revision own_revision build own_build p q r s = cc

-- The bytes of a dependency are read as this dependency.
pub dependency_at-dependency_bytes : (dependency : Dependency) → FitsDependency dependency
    → dependency_at (dependency_bytes dependency) ≡ dependency
dependency_at-dependency_bytes dependency fits =
    let major : dependency.minimum.major % 256 ≡ dependency.minimum.major = omega (arith, fits.minimum.major) in
    let minor : dependency.minimum.minor % 256 ≡ dependency.minimum.minor = omega (arith, fits.minimum.minor) in
    let revision =
    little_number-reads_back 2 dependency.minimum.revision (little_bytes 4 dependency.minimum.build)
    (omega (arith, fits.minimum.revision)) in
    let build = little_number-reads_back 4 dependency.minimum.build [] (omega (arith, fits.minimum.build)) in
    same_minimum dependency.image _ _ _ _ _ _ _ _ major minor revision build

-- Two dependencies with the same bytes are the same.
pub dependency_bytes-same : (left right : Dependency) → FitsDependency left → FitsDependency right
    → dependency_bytes left ≡ dependency_bytes right → left ≡ right
dependency_bytes-same left right left_fits right_fits same =
    sym (dependency_at-dependency_bytes left left_fits) ∙ ap dependency_at same
    ∙ dependency_at-dependency_bytes right right_fits

-- The dependency that is read from bytes fits its fields.
pub FitsDependency-dependency_at : (value : List ℕ) → IsBytes value → FitsDependency (dependency_at value)
FitsDependency-dependency_at value fits = record {
  image = fits 0;
  minimum = record {
    major = fits 4;
    minor = fits 5;
    revision = omega (arith, little_from-lt 0 2 (drop 6 value) (IsBytes-drop 6 value fits));
    build = omega (arith, little_from-lt 0 4 (drop 8 value) (IsBytes-drop 8 value fits));
  };
}

-- If bytes have the form of a dependency, they are those of the dependency that is read from them.
pub dependency_bytes-dependency_at : (value : List ℕ) → IsBytes value → IsDependencyForm value
    → dependency_bytes (dependency_at value) ≡ value
dependency_bytes-dependency_at (a ∷ b ∷ c ∷ d ∷ e ∷ f ∷ g ∷ h ∷ i ∷ j ∷ k ∷ l ∷ []) fits form =
    let major : e % 256 ≡ e = omega (arith, fits 4) in
    let minor : f % 256 ≡ f = omega (arith, fits 5) in
    let revision : little_bytes 2 (little_number 2 (g ∷ h ∷ [])) ≡ g ∷ h ∷ [] =
    little_bytes-little_number_2 (g ∷ h ∷ []) (omega arith)
    (IsBytes-take 2 (g ∷ h ∷ i ∷ j ∷ k ∷ l ∷ [])
    (IsBytes-drop 6 (a ∷ b ∷ c ∷ d ∷ e ∷ f ∷ g ∷ h ∷ i ∷ j ∷ k ∷ l ∷ []) fits)) in
    let build : little_bytes 4 (little_number 4 (i ∷ j ∷ k ∷ l ∷ [])) ≡ i ∷ j ∷ k ∷ l ∷ [] =
    little_bytes-little_number_4 (i ∷ j ∷ k ∷ l ∷ [])
    (IsBytes-drop 8 (a ∷ b ∷ c ∷ d ∷ e ∷ f ∷ g ∷ h ∷ i ∷ j ∷ k ∷ l ∷ []) fits) refl in
    cc
dependency_bytes-dependency_at value fits form = absurd (omega (arith, form.size))

-- The bytes of a dependency have that form.
pub IsDependencyForm-dependency_bytes : (value : List ℕ) (dependency : Dependency) → value ≡ dependency_bytes dependency
    → IsDependencyForm value
IsDependencyForm-dependency_bytes value dependency same = record {
  size = ap length same;
  first = ap (λ (v : List ℕ). slice_index v 1) same;
  second = ap (λ (v : List ℕ). slice_index v 2) same;
  third = ap (λ (v : List ℕ). slice_index v 3) same;
}

-- ---- the security counter

-- There are two values or more, or one doesn't have 4 bytes.
abbrev pub HasBadCounter : List (List ℕ) → Type 0
HasBadCounter values = (2 ≤ length values) ⊎ Any (λ value. length value ≢ 4) values

-- Values that encode a counter aren't bad.
pub SpellCounter-good : (values : List (List ℕ)) (counter : ℕ) → SpellCounter values counter → HasBadCounter values → ⊥
SpellCounter-good values counter spelled bad =
    elim spelled.1 [
      | inl none ↦ elim bad [
        | inl two ↦ omega (arith, two, ap length none.0)
        | inr some ↦ omega (arith, some.2, ap length none.0)
      ]
      | inr one ↦ elim bad [
        | inl two ↦ omega (arith, two, ap length one)
        | inr some ↦
            let each = subst (AllByRecursion (λ (value : List ℕ). length value ≡ 4)) (sym one) (refl, tt) in
            AllByRecursion-no_Any (λ (value : List ℕ). length value ≡ 4) values each some
      ]
    ]

-- Bad values fail the check of the counter.
pub bad_counter : (values : List (List ℕ)) → HasBadCounter values → FailsWith (counter_check values) BadCounter
bad_counter values bad = inl (λ spelled. SpellCounter-good values spelled.0 spelled.1 bad, refl)
