use Rattle.std.proofs.Common.{◌≡◌, ◌⊎◌, ◌∙◌, ℕ, Result, Err, inl, inr, refl, sym, ap, subst}
use Rattle.manifest.specs.Codes.{code_of}
use Rattle.manifest.specs.Fault.{IsManifest, IsRefusal}
use Rattle.manifest.specs.declared.error.ManifestError.{ManifestError}
use Rattle.manifest.specs.declared.error.ManifestError.TheVariants.{NoMemory}
use Rattle.manifest.specs.declared.identity.Identity.{Identity}
use Rattle.manifest.specs.declared.manifest.Manifest.{Manifest}
use Rattle.manifest.specs.Rows.{IsRowOf}
use Rattle.manifest_interface.specs.Parsing.{Read, Refused, OutOfMemory}
use Rattle.manifest_interface.proofs.MemoryFaults.{cases_NoMemory}
use Rattle.manifest_interface.proofs.parsing.bootswap_parse_manifest.Goals as goal

-- A call that fails with one of two refusals returns the number of one of them.
numbered : {T : Type 0} (error first second : ManifestError) (number : ℕ) → number ≡ code_of error
    → ◌≡◌ {A = Result T ManifestError} (Err error) (Err first) ⊎ ◌≡◌ {A = Result T ManifestError} (Err error) (Err second)
    → (number ≡ code_of first) ⊎ (number ≡ code_of second)
numbered error first second number is (inl same) =
    let one : error ≡ first = cc in
    inl (is ∙ ap code_of one)
numbered error first second number is (inr same) =
    let one : error ≡ second = cc in
    inr (is ∙ ap code_of one)

pub returns-in-Ok-clause-all : goal.returns-in-Ok-clause-all
returns-in-Ok-clause-all c =
    let is = subst (λ (given : Identity). IsManifest given c.args.text.now c.in-Ok.meant) c.identity_in.ensures c.in-Ok.ensures.means in
    Read c.in-Ok.meant is c.manifest_row.ensures.row c.manifest_row.ensures.read_back refl

pub returns-in-Ok-clause-read : goal.returns-in-Ok-clause-read
returns-in-Ok-clause-read c = λ other is.
    let read = c.in-Ok.ensures.read other (subst (λ (given : Identity). IsManifest given c.args.text.now other) (sym c.identity_in.ensures) is) in
    elim read [
      | inl same ↦
          let meant : c.in-Ok.meant ≡ other = cc in
          inl (refl, subst (λ (manifest : Manifest). IsRowOf manifest c.manifest_row.result) meant c.manifest_row.ensures.row)
      | inr failed ↦ absurd cc
    ]

pub returns-in-Ok-clause-refused : goal.returns-in-Ok-clause-refused
returns-in-Ok-clause-refused c = λ fault is.
    let refused = c.in-Ok.ensures.refused fault (subst (λ (given : Identity). IsRefusal given c.args.text.now fault) (sym c.identity_in.ensures) is) in
    elim refused [
      | inl same ↦ absurd cc
      | inr failed ↦ absurd cc
    ]

pub returns-in-Err-clause-all : goal.returns-in-Err-clause-all
returns-in-Err-clause-all c =
    let number = c.from.ensures ∙ c.code.ensures in
    elim (cases_NoMemory c.in-Err.error) [
      | inl failed ↦ OutOfMemory (c.in-Err.ensures.memory (ap Err failed)) (number ∙ ap code_of failed) refl
      | inr refused ↦
          let is = subst (λ (given : Identity). IsRefusal given c.args.text.now c.in-Err.error) c.identity_in.ensures (c.in-Err.ensures.only refused) in
          Refused c.in-Err.error is number refl
    ]

pub returns-in-Err-clause-read : goal.returns-in-Err-clause-read
returns-in-Err-clause-read c = λ other is.
    let read = c.in-Err.ensures.read other (subst (λ (given : Identity). IsManifest given c.args.text.now other) (sym c.identity_in.ensures) is) in
    elim read [
      | inl same ↦ absurd cc
      | inr failed ↦
          let error : c.in-Err.error ≡ NoMemory = cc in
          inr (c.from.ensures ∙ c.code.ensures ∙ ap code_of error)
    ]

pub returns-in-Err-clause-refused : goal.returns-in-Err-clause-refused
returns-in-Err-clause-refused c = λ fault is.
    let refused = c.in-Err.ensures.refused fault (subst (λ (given : Identity). IsRefusal given c.args.text.now fault) (sym c.identity_in.ensures) is) in
    numbered c.in-Err.error fault NoMemory _ (c.from.ensures ∙ c.code.ensures) refused
