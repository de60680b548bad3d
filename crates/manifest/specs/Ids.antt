-- UUIDs of names (RFC 9562, section 5.5), as RFC 9124 requires for vendors and classes.
use Rattle.std.specs.Prelude.{ℕ, List, ◌++◌, take}
use Rattle.sha1.specs.Sha1.{sha1}
use Rattle.uuid.specs.Parts.{with_variant, with_version}
use Rattle.uuid.specs.declared.Variant.TheVariants as variant
use Rattle.uuid.specs.declared.Version.TheVariants as version

-- The UUID of version 5 of a name in a namespace. It is the first 16 bytes of the SHA-1 of both,
-- with the version and the variant set.
abbrev pub uuid_of : List ℕ → List ℕ → List ℕ
uuid_of namespace name =
    with_version (with_variant (take 16 (sha1 (namespace ++ name))) variant.RFC4122) version.Sha1
