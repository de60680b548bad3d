-- Laws about groups: which values encode them, and that each value encodes one.
use Rattle.std.proofs.Common.{◌≡◌, ℕ, zero, suc, ◌+◌, ◌*◌, ◌<◌, List, [], ◌∷◌, ◌++◌, length, take, drop, refl, sym, ap, subst, ◌∙◌, arith, length-append}
use Rattle.std.specs.List.{AllByRecursion}
use Rattle.std.proofs.Math.Seq.{drop-append-add, drop-append_seam}
use Rattle.std.proofs.lemmas.Grind.{flat_map-append}
use Rattle.std.proofs.lemmas.List.{append-nil, append_assoc, take-append-drop}
use Rattle.version_order.specs.declared.dependency.Dependency.{Dependency}
use Rattle.version_order.specs.declared.group.Group.{Group}
use Rattle.image_reading.specs.Fields.{FitsDependency, FitsGroup, IsDependencyForm, IsGroupForm, alternatives_bytes, dependency_bytes, group_bytes}
use Rattle.image_reading.proofs.FieldLaws.{IsDependencyForm-dependency_bytes, dependency_bytes-same}

-- Each alternative has twelve bytes.
pub length-alternatives_bytes : (alternatives : List Dependency)
    → length (alternatives_bytes alternatives) ≡ 12 * length alternatives
length-alternatives_bytes [] = refl
length-alternatives_bytes (alternative ∷ alternatives) = omega (arith, length-alternatives_bytes alternatives)

-- Each alternative has the form of a dependency at its place.
alternative_form : (alternatives : List Dependency) (k : ℕ) → k < length alternatives
    → IsDependencyForm (take 12 (drop (12 * k) (alternatives_bytes alternatives)))
alternative_form [] k within = absurd (omega arith)
alternative_form (alternative ∷ alternatives) zero within =
    IsDependencyForm-dependency_bytes (dependency_bytes alternative) alternative refl
alternative_form (alternative ∷ alternatives) (suc k) within =
    let behind : 12 * suc k ≡ 12 + 12 * k = omega arith in
    let there : drop (12 * suc k) (alternatives_bytes (alternative ∷ alternatives)) ≡ drop (12 * k)
    (alternatives_bytes alternatives) =
    ap (λ (n : ℕ). drop n (alternatives_bytes (alternative ∷ alternatives))) behind
    ∙ drop-append-add (dependency_bytes alternative) (alternatives_bytes alternatives) (12 * k) in
    subst (λ (bytes : List ℕ). IsDependencyForm (take 12 bytes)) (sym there)
    (alternative_form alternatives k (omega (arith, within)))

-- The bytes of a group have the form of one.
pub IsGroupForm-group_bytes : (group : Group) → FitsGroup group → IsGroupForm (group_bytes group)
IsGroupForm-group_bytes group fits = record {
  count = length group.alternatives.items;
  some = fits.some;
  most = fits.most;
  size = length-alternatives_bytes group.alternatives.items;
  each = alternative_form group.alternatives.items;
}

-- Alternatives with the same bytes are the same.
alternatives_bytes-same : (left right : List Dependency) → AllByRecursion FitsDependency left
    → AllByRecursion FitsDependency right → alternatives_bytes left ≡ alternatives_bytes right → left ≡ right
alternatives_bytes-same [] [] a b e = refl
alternatives_bytes-same [] (y ∷ ys) a b e = absurd (omega (arith, ap length e))
alternatives_bytes-same (x ∷ xs) [] a b e = absurd (omega (arith, ap length e))
alternatives_bytes-same (x ∷ xs) (y ∷ ys) a b e =
    let head = dependency_bytes-same x y a.0 b.0 (ap (take 12) e) in
    let tail = alternatives_bytes-same xs ys a.1 b.1 (ap (drop 12) e) in
    cc

-- Groups with the same bytes are the same.
pub group_bytes-same : (left right : Group) → FitsGroup left → FitsGroup right → group_bytes left ≡ group_bytes right
    → left ≡ right
group_bytes-same left right left_fits right_fits same =
    let items = alternatives_bytes-same left.alternatives.items right.alternatives.items left_fits.fit right_fits.fit
    same in
    ap (λ (alternatives : List Dependency). record { alternatives = record { items = alternatives } }) items

-- ---- reading alternative by alternative

-- One more alternative is read.
pub alternative_more : (value rest piece behind : List ℕ) (alternatives : List Dependency) (alternative : Dependency)
    → value ≡ alternatives_bytes alternatives ++ rest → piece ≡ take 12 rest → behind ≡ drop 12 rest
    → piece ≡ dependency_bytes alternative
    → value ≡ alternatives_bytes (alternatives ++ alternative ∷ []) ++ behind
alternative_more value rest piece behind alternatives alternative so_far piece_is behind_is spelled =
    let own = dependency_bytes alternative in
    let first : rest ≡ own ++ behind =
    sym (take-append-drop 12 rest) ∙ ap (λ (p : List ℕ). p ++ drop 12 rest) (sym piece_is ∙ spelled)
    ∙ ap (λ (b : List ℕ). own ++ b) (sym behind_is) in
    let more : alternatives_bytes (alternatives ++ alternative ∷ []) ≡ alternatives_bytes alternatives ++ own =
    flat_map-append dependency_bytes alternatives (alternative ∷ [])
    ∙ ap (λ (b : List ℕ). alternatives_bytes alternatives ++ b) (append-nil own) in
    so_far ∙ ap (λ (b : List ℕ). alternatives_bytes alternatives ++ b) first
    ∙ sym (append_assoc (alternatives_bytes alternatives) own behind)
    ∙ ap (λ (b : List ℕ). b ++ behind) (sym more)

-- If an alternative doesn't have its form, the value doesn't have the form of a group.
pub alternative_bad : (value rest piece : List ℕ) (alternatives : List Dependency)
    → value ≡ alternatives_bytes alternatives ++ rest → 0 < length rest → piece ≡ take 12 rest
    → (IsDependencyForm piece → ⊥) → IsGroupForm value → ⊥
alternative_bad value rest piece alternatives so_far some piece_is bad form =
    let before = length-alternatives_bytes alternatives in
    let whole : length value ≡ 12 * length alternatives + length rest =
    omega (arith, before, ap length so_far, length-append (alternatives_bytes alternatives) rest) in
    let within : length alternatives < form.count = omega (arith, whole, form.size, some) in
    let there : drop (12 * length alternatives) value ≡ rest =
    ap (λ (n : ℕ). drop n value) (sym before) ∙ ap (drop (length (alternatives_bytes alternatives))) so_far
    ∙ drop-append_seam (alternatives_bytes alternatives) rest in
    let same : take 12 (drop (12 * length alternatives) value) ≡ piece = ap (take 12) there ∙ sym piece_is in
    bad (subst IsDependencyForm same (form.each (length alternatives) within))
