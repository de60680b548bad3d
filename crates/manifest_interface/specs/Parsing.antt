-- What the call that reads the text of a manifest returns and writes.
use Rattle.std.specs.Prelude.{◌≡◌, ℕ, ◌<◌, List, length}
use Rattle.manifest.specs.Codes.{code_of}
use Rattle.manifest.specs.Fault.{IsManifest, IsRefusal}
use Rattle.manifest.specs.declared.error.ManifestError.{ManifestError}
use Rattle.manifest.specs.declared.error.ManifestError.TheVariants.{NoMemory}
use Rattle.manifest.specs.declared.identity.Identity.{Identity}
use Rattle.manifest.specs.declared.manifest.Manifest.{Manifest}
use Rattle.manifest.specs.Rows.{IsManifestOf, IsRowOf}
use Rattle.manifest.specs.declared.rows.ManifestRow.{ManifestRow}
use Rattle.manifest_interface.specs.declared.identity.IdentityRow.{IdentityRow}

-- The identity of a row.
abbrev pub identity_in : IdentityRow → Identity
identity_in row = record { vendor = row.vendor; class = row.class; images = row.images }

-- The answer of the call. A text that is read is in the row, as `bootswap_journal_accept` takes it.
-- A text that is refused, or for which an allocation fails, leaves the row unchanged.
pub data Parses (identity : IdentityRow) (text : List ℕ) (old new : ManifestRow) (number : ℕ)
    : Type 0 where
  Read : (manifest : Manifest) → IsManifest (identity_in identity) text manifest
      → IsRowOf manifest new → IsManifestOf new manifest → number ≡ 0
      → Parses identity text old new number
  Refused : (fault : ManifestError) → IsRefusal (identity_in identity) text fault
      → number ≡ code_of fault → new ≡ old → Parses identity text old new number
  OutOfMemory : 0 < length text → number ≡ code_of NoMemory → new ≡ old
      → Parses identity text old new number
