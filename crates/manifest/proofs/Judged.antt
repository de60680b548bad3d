-- A JSON value means at most one manifest, or has at most one lowest refusal, and never both.
use Rattle.std.proofs.Common.{◌≡◌, ◌≢◌, ℕ, zero, suc, List, [], ◌∷◌, Bool, true, false, Option, None, Some, Result, Ok, Err, IfOk, IfErr, codes, refl, sym, ap, subst, ◌∙◌}
use Rattle.std.specs.Prelude.{IsSomeAnd}
use Rattle.std.specs.List.{AllZip}
use Rattle.std.proofs.lemmas.Option.{none-some, same_Some}
use Rattle.common.specs.Checks.{FailsFirst}
use Rattle.common.proofs.ChecksLaws.{FailsFirst-unique}
use Rattle.serde_json.specs.Data.{Data}
use Rattle.serde_json.specs.Find.{get}
use Rattle.manifest.specs.declared.error.ManifestError.{ManifestError}
use Rattle.manifest.specs.declared.error.ManifestError.TheVariants.{NotJson, BadKey, BadValue, WrongVendor, WrongClass, NoComponent, RepeatedComponent, NoMemory}
use Rattle.manifest.specs.declared.identity.Identity.{Identity}
use Rattle.manifest.specs.declared.manifest.Component.{Component}
use Rattle.manifest.specs.declared.manifest.Manifest.{Manifest}
use Rattle.manifest.specs.Component.{IsComponent, IsPrecursor, kind_text}
use Rattle.manifest.specs.Fault.{IsLowestFault, IsManifest, IsRefusal, no_json, of_value}
use Rattle.manifest.specs.Json.{IsJson, digest_at}
use Rattle.manifest.specs.Manifest.{HasKeys, IsOfClass, IsOfVendor, Means, NamesEachOnce, NamesImages, Spells}

-- ---- one manifest at most

-- Bytes are the text of at most one value.
pub IsJson-unique : (bytes : List ℕ) (one other : Data) → IsJson bytes one → IsJson bytes other → one ≡ other
IsJson-unique bytes one other a b = same_Some one other (sym a.1 ∙ b.1)

-- Two values of the same option are the same.
same_found : {X : Type 0} (o : Option X) (x y : X) → o ≡ Some x → o ≡ Some y → x ≡ y
same_found o x y a b = same_Some x y (sym a ∙ b)

-- A word is that of one kind.
kind_text-unique : (one other : Bool) → kind_text one ≡ kind_text other → one ≡ other
kind_text-unique true true e = refl
kind_text-unique true false e = absurd cc
kind_text-unique false true e = absurd cc
kind_text-unique false false e = refl

-- If an object lacks a key, it has no digest at the key.
no_digest : (key : List ℕ) (value : Data) (digest : List ℕ) → get key value ≡ None → digest_at key value ≡ Some digest → ⊥
no_digest key value digest none found = none-some digest (rw none at found)

-- A value names at most one precursor.
IsPrecursor-unique : (value : Data) (one other : Option (List ℕ)) → IsPrecursor value one → IsPrecursor value other → one ≡ other
IsPrecursor-unique value None None a b = refl
IsPrecursor-unique value None (Some y) a b = absurd (no_digest (codes "precursor-digest") value y a b)
IsPrecursor-unique value (Some x) None a b = absurd (no_digest (codes "precursor-digest") value x b a)
IsPrecursor-unique value (Some x) (Some y) a b = ap Some (same_found _ x y a b)

-- A value is that of at most one component.
IsComponent-unique : (value : Data) (one other : Component) → IsComponent value one → IsComponent value other → one ≡ other
IsComponent-unique value one other a b =
    let image = same_found _ _ _ a.image b.image in
    let permanent = kind_text-unique _ _ (same_found _ _ _ a.kind b.kind) in
    let size = same_found _ _ _ a.size b.size in
    let digest = same_found _ _ _ a.digest b.digest in
    let precursor = IsPrecursor-unique value _ _ a.precursor b.precursor in
    λ i. record { image = image i; permanent = permanent i; size = size i; digest = digest i; precursor = precursor i }

-- Values are those of at most one list of components.
components-unique : (values : List Data) (one other : List Component) → AllZip IsComponent values one → AllZip IsComponent values other → one ≡ other
components-unique [] [] [] a b = refl
components-unique [] [] (y ∷ ys) a b = absurd b
components-unique [] (x ∷ xs) ys a b = absurd a
components-unique (v ∷ vs) [] ys a b = absurd a
components-unique (v ∷ vs) (x ∷ xs) [] a b = absurd b
components-unique (v ∷ vs) (x ∷ xs) (y ∷ ys) a b =
    let first = IsComponent-unique v x y a.0 b.0 in
    let rest = components-unique vs xs ys a.1 b.1 in
    λ i. first i ∷ rest i

-- An array that is found is that of at most one list of components.
found_components-unique : (found : Option (List Data)) (one other : List Component) → IsSomeAnd found (λ values. AllZip IsComponent values one) → IsSomeAnd found (λ values. AllZip IsComponent values other) → one ≡ other
found_components-unique None one other a b = absurd a
found_components-unique (Some values) one other a b = components-unique values one other a b

-- A value is that of at most one manifest.
pub Spells-unique : (value : Data) (one other : Manifest) → Spells value one → Spells value other → one ≡ other
Spells-unique value one other a b =
    let sequence = same_found _ _ _ a.sequence b.sequence in
    let components = found_components-unique _ _ _ a.components b.components in
    λ i. record { sequence = sequence i; components = record { items = components i } }

-- ---- one refusal at most

-- The checks of a value, in their order.
abbrev checked : Identity → Data → ℕ → Type 0
checked identity value zero = HasKeys value
checked identity value (suc zero) = (manifest : Manifest) × Spells value manifest
checked identity value (suc (suc zero)) = IsOfVendor identity value
checked identity value (suc (suc (suc zero))) = IsOfClass identity value
checked identity value (suc (suc (suc (suc zero)))) = (manifest : Manifest) × Spells value manifest × NamesImages identity manifest
checked identity value (suc (suc (suc (suc (suc k))))) = (manifest : Manifest) × Spells value manifest × NamesEachOnce manifest

-- A value that means a manifest passes each check.
passes : (identity : Identity) (value : Data) (manifest : Manifest) → Means identity value manifest → (place : ℕ) → checked identity value place
passes identity value manifest means zero = means.keys
passes identity value manifest means (suc zero) = (manifest, means.spelled)
passes identity value manifest means (suc (suc zero)) = means.vendor
passes identity value manifest means (suc (suc (suc zero))) = means.class
passes identity value manifest means (suc (suc (suc (suc zero)))) = (manifest, means.spelled, means.images)
passes identity value manifest means (suc (suc (suc (suc (suc k))))) = (manifest, means.spelled, means.once)

-- The fault of each check that fails.
abbrev fault_at : ℕ → ManifestError
fault_at zero = BadKey
fault_at (suc zero) = BadValue
fault_at (suc (suc zero)) = WrongVendor
fault_at (suc (suc (suc zero))) = WrongClass
fault_at (suc (suc (suc (suc zero)))) = NoComponent
fault_at (suc (suc (suc (suc (suc k))))) = RepeatedComponent

-- A property that the manifest of a value lacks holds for no manifest of the value.
never : (value : Data) (manifest : Manifest) (P : Manifest → Type 0) → Spells value manifest → (P manifest → ⊥) → (other : Manifest) × Spells value other × P other → ⊥
never value manifest P spelled fails (other, also, holds) = fails (subst P (Spells-unique value other manifest also spelled) holds)

-- The lowest refusal has its place among the checks: the first that fails.
fails_at : (identity : Identity) (value : Data) (fault : ManifestError) → IsLowestFault identity value fault
    → (place : ℕ) × FailsFirst (checked identity value) place × (fault ≡ fault_at place)
fails_at identity value NotJson h = absurd h
fails_at identity value BadKey h = (0, (tt, h), refl)
fails_at identity value BadValue h = (1, ((tt, h.0), λ spelled. h.1 spelled.0 spelled.1), refl)
fails_at identity value WrongVendor h = (2, (((tt, h.1.0), (h.0, h.1.1)), h.2), refl)
fails_at identity value WrongClass h = (3, ((((tt, h.1.0.0), (h.0, h.1.0.1)), h.1.1), h.2), refl)
fails_at identity value NoComponent h = (
  4,
  (((((tt, h.1.0.0.0), (h.0, h.1.0.0.1)), h.1.0.1), h.1.1), never value h.0 (NamesImages identity) h.1.0.0.1 h.2),
  refl,
)
fails_at identity value RepeatedComponent h = (
  5,
  (
    (((((tt, h.1.0.0.0.0), (h.0, h.1.0.0.0.1)), h.1.0.0.1), h.1.0.1), (h.0, h.1.0.0.0.1, h.1.1)),
    never value h.0 NamesEachOnce h.1.0.0.0.1 h.2,
  ),
  refl,
)
fails_at identity value NoMemory h = absurd h

-- A value has at most one lowest refusal.
pub IsLowestFault-unique : (identity : Identity) (value : Data) (one other : ManifestError) → IsLowestFault identity value one → IsLowestFault identity value other → one ≡ other
IsLowestFault-unique identity value one other a b =
    let at = fails_at identity value one a in
    let too = fails_at identity value other b in
    at.2 ∙ ap fault_at (FailsFirst-unique (checked identity value) at.0 too.0 at.1 too.1) ∙ sym too.2

-- A value that means a manifest has no lowest refusal.
pub means_or_fails : (identity : Identity) (value : Data) (manifest : Manifest) (fault : ManifestError) → Means identity value manifest → IsLowestFault identity value fault → ⊥
means_or_fails identity value manifest fault means fails =
    let at = fails_at identity value fault fails in
    at.1.1 (passes identity value manifest means at.0)

-- ---- what the reader returns

-- If a value means a manifest, the result is this manifest.
answers_meant : (identity : Identity) (value : Data) (result : Result Manifest ManifestError) → IfOk result (Means identity value) → IfErr result (IsLowestFault identity value)
    → (manifest : Manifest) → Means identity value manifest → result ≡ Ok manifest
answers_meant identity value (Ok found) ok err manifest means = ap Ok (Spells-unique value found manifest ok.spelled means.spelled)
answers_meant identity value (Err fault) ok err manifest means = absurd (means_or_fails identity value manifest fault means err)

-- The same holds for the bytes of the value.
pub answers_manifest : (identity : Identity) (bytes : List ℕ) (value : Data) → IsJson bytes value → (result : Result Manifest ManifestError) → IfOk result (Means identity value)
    → IfErr result (IsLowestFault identity value) → (manifest : Manifest) → IsManifest identity bytes manifest → result ≡ Ok manifest
answers_manifest identity bytes value json result ok err manifest is =
    let same = IsJson-unique bytes is.value value is.json json in
    answers_meant identity value result ok err manifest (subst (λ v. Means identity v manifest) same is.meaning)

-- If a refusal is the lowest one, it is the result.
answers_lowest : (identity : Identity) (value : Data) (result : Result Manifest ManifestError) → IfOk result (Means identity value) → IfErr result (IsLowestFault identity value)
    → (fault : ManifestError) → IsLowestFault identity value fault → result ≡ Err fault
answers_lowest identity value (Ok found) ok err fault fails = absurd (means_or_fails identity value found fault ok fails)
answers_lowest identity value (Err other) ok err fault fails = ap Err (IsLowestFault-unique identity value other fault err fails)

-- The same holds for the bytes of the value.
pub answers_refusal : (identity : Identity) (bytes : List ℕ) (value : Data) → IsJson bytes value → (result : Result Manifest ManifestError) → IfOk result (Means identity value)
    → IfErr result (IsLowestFault identity value) → (fault : ManifestError) → IsRefusal identity bytes fault → result ≡ Err fault
answers_refusal identity bytes value json result ok err fault refused =
    elim refused [
      | no_json none is ↦ absurd (none value json)
      | of_value other also fails ↦
          let same = IsJson-unique bytes other value also json in
          answers_lowest identity value result ok err fault (subst (λ v. IsLowestFault identity v fault) same fails)
    ]

-- A returned refusal is that of the bytes.
pub gives_refusal : (identity : Identity) (bytes : List ℕ) (value : Data) → IsJson bytes value → (result : Result Manifest ManifestError) → IfErr result (IsLowestFault identity value)
    → IfErr result (λ error. error ≢ NoMemory → IsRefusal identity bytes error)
gives_refusal identity bytes value json (Ok manifest) err = tt
gives_refusal identity bytes value json (Err error) err = λ other. of_value value json err
