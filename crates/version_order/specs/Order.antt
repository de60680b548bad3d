-- The order of versions.
use Rattle.std.specs.Prelude.{Bool, IsTrue, not}
use Rattle.std.specs.declared.cmp.Ordering.{Ordering}
use Rattle.std.specs.Ordering.{nat_cmp, on, then_cmp, is_lt}
use Rattle.version_order.specs.declared.version.Version.{Version}

-- Versions in order of major, minor, revision, build (MCUboot's check leaves the build number out).
abbrev pub version_cmp : Version → Version → Ordering
version_cmp =
    then_cmp
    (then_cmp
    (then_cmp (on (λ v. v.major) nat_cmp) (on (λ v. v.minor) nat_cmp))
    (on (λ v. v.revision) nat_cmp))
    (on (λ v. v.build) nat_cmp)

-- Whether v is older than w.
abbrev pub is_older : Version → Version → Bool
is_older v w = is_lt (version_cmp v w)

abbrev pub IsOlder : Version → Version → Type 0
IsOlder v w = IsTrue (is_older v w)

-- v isn't older than w.
abbrev pub IsAtLeast : Version → Version → Type 0
IsAtLeast v w = IsTrue (not (is_older v w))
