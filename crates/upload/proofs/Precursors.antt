-- The digest of the image at the start of a slot.
use Rattle.std.proofs.Common.{◌≡◌, List, ℕ, Option, Some, subst, sym}
use Rattle.image_reading.specs.declared.desc.Desc.{Desc}
use Rattle.image_reading.specs.Image.{BeginsIntact}
use Rattle.upload.specs.Accepted.{FrontHasDigest}

module _ (slot : List ℕ) (precursor : Option (List ℕ)) (digest : List ℕ) (asks : precursor ≡ Some digest) where
  -- The described image has the required digest.
  pub has_front : (d : Desc) → BeginsIntact slot d → d.digest ≡ digest → FrontHasDigest slot precursor
  has_front d (front, rest, parts, intact) same =
      subst (λ asked. FrontHasDigest slot asked) (sym asks) (front, (rest, parts), (d, intact, same))

  pub front_has : FrontHasDigest slot precursor → (d : Desc) × BeginsIntact slot d × (d.digest ≡ digest)
  front_has has = of_front (subst (λ asked. FrontHasDigest slot asked) asks has) where
    of_front : FrontHasDigest slot (Some digest) → (d : Desc) × BeginsIntact slot d × (d.digest ≡ digest)
    of_front (bytes, starts, (d, intact, same)) = (d, (bytes, starts.0, starts.1, intact), same)
