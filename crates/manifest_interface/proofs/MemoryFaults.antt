-- Whether a refusal is for lack of memory.
use Rattle.std.proofs.Common.{◌≡◌, ◌⊎◌, refl, inl, inr}
use Rattle.manifest.specs.declared.error.ManifestError.{ManifestError}
use Rattle.manifest.specs.declared.error.ManifestError.TheVariants.{NotJson, BadKey, BadValue, WrongVendor, WrongClass, NoComponent, RepeatedComponent, NoMemory}

pub cases_NoMemory : (error : ManifestError) → (error ≡ NoMemory) ⊎ (error ≡ NoMemory → ⊥)
cases_NoMemory NotJson = inr (λ same. absurd cc)
cases_NoMemory BadKey = inr (λ same. absurd cc)
cases_NoMemory BadValue = inr (λ same. absurd cc)
cases_NoMemory WrongVendor = inr (λ same. absurd cc)
cases_NoMemory WrongClass = inr (λ same. absurd cc)
cases_NoMemory NoComponent = inr (λ same. absurd cc)
cases_NoMemory RepeatedComponent = inr (λ same. absurd cc)
cases_NoMemory NoMemory = inl refl
