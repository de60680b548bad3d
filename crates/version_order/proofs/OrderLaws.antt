-- Laws about the order of versions, and what they imply for being at least another version.
use Rattle.std.proofs.Common.{◌≡◌, ℕ, ◌⊎◌, true, false, not, refl, sym, ap, ◌∙◌, inl, inr}
use Rattle.std.specs.Cmp.{IsTotalOrder}
use Rattle.std.specs.Ordering.{nat_cmp, is_lt, is_gt, ordering_reverse, ordering_then}
use Rattle.std.specs.declared.cmp.Ordering.{Ordering}
use Rattle.std.specs.declared.cmp.Ordering.TheVariants.{Less, Equal, Greater}
use Rattle.std.proofs.lemmas.Bool.{cases_Bool, false≢true, not-true, not_from_false}
use Rattle.std.proofs.lemmas.Cmp.{upto, tied_itself, nat_cmp_total, on_total, then_total}
use Rattle.std.proofs.lemmas.Map.Lookups.{exact_unsigned}
use Rattle.version_order.specs.declared.version.Version.{Version}
use Rattle.version_order.specs.Order.{version_cmp, is_older, IsOlder, IsAtLeast}
use Rattle.version_order.specs.VersionText.{version_from}

-- The order of versions is total.
version_cmp_total : IsTotalOrder version_cmp
version_cmp_total =
    let major = on_total (λ (v : Version). v.major) nat_cmp_total in
    let minor = on_total (λ (v : Version). v.minor) nat_cmp_total in
    let revision = on_total (λ (v : Version). v.revision) nat_cmp_total in
    let build = on_total (λ (v : Version). v.build) nat_cmp_total in
    then_total (then_total (then_total major minor) revision) build

-- The reverse of below is above.
is_lt-ordering_reverse : (o : Ordering) → is_lt (ordering_reverse o) ≡ is_gt o
is_lt-ordering_reverse Less = refl
is_lt-ordering_reverse Equal = refl
is_lt-ordering_reverse Greater = refl

-- If one is below another, it isn't above it.
is_gt-from_is_lt : (o : Ordering) → is_lt o ≡ true → is_gt o ≡ false
is_gt-from_is_lt Less below = refl
is_gt-from_is_lt Equal below = refl
is_gt-from_is_lt Greater below = absurd (false≢true below)

-- What is neither below nor above is equal.
Equal-between : (o : Ordering) → is_lt o ≡ false → is_gt o ≡ false → o ≡ Equal
Equal-between Less below above = absurd (false≢true (sym below))
Equal-between Equal below above = refl
Equal-between Greater below above = absurd (false≢true (sym above))

-- Two comparisons in turn result in equal only if both do.
both_Equal : (a b : Ordering) → ordering_then a b ≡ Equal → (a ≡ Equal) × (b ≡ Equal)
both_Equal Less b equal = absurd (false≢true (sym (ap is_lt equal)))
both_Equal Equal b equal = (refl, equal)
both_Equal Greater b equal = absurd (false≢true (sym (ap is_gt equal)))

module _ {K : Type 0} {R : K → K → Ordering} (total : IsTotalOrder R) where
  -- One is below another exactly if the other is above it.
  is_lt-turned : (x y : K) → is_lt (R x y) ≡ is_gt (R y x)
  is_lt-turned x y = ap is_lt (total.antisymm x y) ∙ is_lt-ordering_reverse (R y x)

  -- Nothing is below itself.
  below_itself : (x : K) → not (is_lt (R x x)) ≡ true
  below_itself x = not_from_false _ (ap is_lt (tied_itself total x))

  -- Not being below is transitive.
  not_below_trans : (x y z : K) → not (is_lt (R x y)) ≡ true → not (is_lt (R y z)) ≡ true → not (is_lt (R x z)) ≡ true
  not_below_trans x y z p q =
      let above = sym (is_lt-turned x y) ∙ not-true _ p in
      let higher = sym (is_lt-turned y z) ∙ not-true _ q in
      not_from_false _ (is_lt-turned x z ∙ upto total z y x higher above)

  -- If one is below another, the other isn't below it.
  not_below_lower : (x y : K) → is_lt (R y x) ≡ true → not (is_lt (R x y)) ≡ true
  not_below_lower x y below = not_from_false _ (is_lt-turned x y ∙ is_gt-from_is_lt (R y x) below)

  -- If neither is below the other, they are equal in the order.
  Equal-from_neither : (x y : K) → not (is_lt (R x y)) ≡ true → not (is_lt (R y x)) ≡ true → R x y ≡ Equal
  Equal-from_neither x y p q = Equal-between (R x y) (not-true _ p) (sym (is_lt-turned y x) ∙ not-true _ q)

-- A version is determined by its four parts.
pub version_from-parts : (major minor revision build : ℕ) (version : Version)
    → major ≡ version.major → minor ≡ version.minor → revision ≡ version.revision → build ≡ version.build
    → version_from major minor revision build ≡ version
version_from-parts major minor revision build version a b c d = rw (a, b, c, d) refl

-- Versions that are equal in the order are the same.
same_version : (v w : Version) → version_cmp v w ≡ Equal → v ≡ w
same_version v w equal =
    let to_revision = both_Equal _ (nat_cmp v.build w.build) equal in
    let to_minor = both_Equal _ (nat_cmp v.revision w.revision) to_revision.0 in
    let to_major = both_Equal (nat_cmp v.major w.major) (nat_cmp v.minor w.minor) to_minor.0 in
    version_from-parts v.major v.minor v.revision v.build w
    (exact_unsigned v.major w.major to_major.0)
    (exact_unsigned v.minor w.minor to_major.1)
    (exact_unsigned v.revision w.revision to_minor.1)
    (exact_unsigned v.build w.build to_revision.1)

-- A version is at least itself.
pub IsAtLeast_refl : (v : Version) → IsAtLeast v v
IsAtLeast_refl v = below_itself version_cmp_total v

-- Being at least another version is transitive.
pub IsAtLeast_trans : (u v w : Version) → IsAtLeast u v → IsAtLeast v w → IsAtLeast u w
IsAtLeast_trans u v w p q = not_below_trans version_cmp_total u v w p q

-- A version is at least each older one.
pub IsAtLeast-from_older : (v w : Version) → IsOlder w v → IsAtLeast v w
IsAtLeast-from_older v w older = not_below_lower version_cmp_total v w older

-- A version is at least another, or older than it.
pub IsAtLeast_total : (v w : Version) → IsAtLeast v w ⊎ IsOlder v w
IsAtLeast_total v w =
    elim (cases_Bool (is_older v w)) [ inl older ↦ inr older | inr other ↦ inl (not_from_false _ other) ]

-- Versions that are at least each other are the same.
pub IsAtLeast_antisym : (v w : Version) → IsAtLeast v w → IsAtLeast w v → v ≡ w
IsAtLeast_antisym v w p q = same_version v w (Equal-from_neither version_cmp_total v w p q)
