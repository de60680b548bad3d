-- The step of a machine that takes a manifest.
use Rattle.std.specs.Prelude.{◌≡◌, ◌⊎◌, ℕ, ◌*◌, ◌<◌, ◌≤◌, ◌==◌, Bool, List, [], ◌∷◌, Option, Some, None, Result, Ok, Err, All, is_some, option_map, if◌then◌else◌}
use Rattle.std.specs.Option.{option_or}
use Rattle.flash_model.specs.declared.error.FlashError.TheVariants as flash
use Rattle.sector_map.specs.declared.layout.SectorMap.{SectorMap}
use Rattle.sector_map.specs.Map.{slot_sectors}
use Rattle.common.specs.Kind.{kind_of}
use Rattle.image_reading.specs.declared.desc.Desc.{Desc}
use Rattle.image_reading.specs.Image.{IsIntact}
use Rattle.manifest.specs.declared.manifest.Component.{Component}
use Rattle.machine.specs.declared.upload_error.UploadError.{UploadError}
use Rattle.machine.specs.declared.upload_error.UploadError.TheVariants as no
use Rattle.machine.specs.Device.{DeviceState, Machine, Session, closed}

-- The last component that names an image.
abbrev pub latest : List Component → ℕ → Option Component
latest [] i = None
latest (c ∷ cs) i = option_or (latest cs i) (if c.image == i then Some c else None)

-- Whether a component names the image.
abbrev pub is_named : List Component → ℕ → Bool
is_named cs i = is_some (latest cs i)

-- Each component fits the slot of its image.
abbrev pub AllFit : SectorMap → List Component → Type 0
AllFit map cs = All (λ c. c.size ≤ slot_sectors map c.image * map.sector_size) cs

-- What runs has the digest asked for, if any (RFC 9124, "Precursor Image Digest Condition").
abbrev pub IsPrecursor : Option (List ℕ) → Option (List ℕ) → Type 0
IsPrecursor None running = Unit
IsPrecursor (Some digest) None = ⊥
IsPrecursor (Some digest) (Some bytes) =
    (description : Desc) × IsIntact bytes description × (description.digest ≡ digest)

-- Each component follows the image that runs: its precursor, if it names one.
abbrev pub AllFollow : DeviceState → List Component → Type 0
AllFollow s cs = All (λ c. IsPrecursor c.precursor (s.running c.image)) cs

-- A manifest may be accepted: no check of it fails.
pub record MayAccept (map : SectorMap) (s : DeviceState) (sequence : ℕ) (cs : List Component)
    : Type 0 where
  pub newer : s.sequence ≤ sequence
  pub fit : AllFit map cs
  pub follow : AllFollow s cs

-- The session that is opened for a component.
abbrev pub opened : Component → Session
opened c = record { size = c.size; digest = c.digest; kind = kind_of c.permanent; received = [] }

-- The manifest's sequence is kept, and each named image has an empty session and no request.
abbrev pub accepted : Machine → ℕ → List Component → Machine
accepted m sequence cs = record m {
  kept = record m.kept {
    sequence = sequence;
    request = λ i. if is_some (latest cs i) then None else m.kept.request i;
  };
  session = λ i. option_or (option_map opened (latest cs i)) (m.session i);
}

-- After an interrupted Accept: the old sequence and all requests, or the new sequence and each
-- request of a named image as it was or gone.
pub record IsAcceptCut (s : DeviceState) (sequence : ℕ) (cs : List Component) (next : DeviceState)
    : Type 0 where
  pub rest : next ≡ record s { sequence = next.sequence; request = next.request }
  pub others : (i : ℕ) → latest cs i ≡ None → next.request i ≡ s.request i
  pub either : ((next.sequence ≡ s.sequence) × ((i : ℕ) → next.request i ≡ s.request i))
      ⊎ ((next.sequence ≡ sequence)
      × ((i : ℕ) → (next.request i ≡ s.request i) ⊎ (next.request i ≡ None)))

-- A manifest is accepted, or the first check that fails is returned: its sequence isn't below the
-- last one, all components fit their slots, all follow what runs. If the flash stops the call, all
-- sessions end; after a power cut all checks had passed, and if it was off nothing else changed.
abbrev pub Accepts : SectorMap → Machine → ℕ → List Component → Result Unit UploadError → Machine
    → Type 0
Accepts map m sequence cs (Ok done) next =
    MayAccept map m.kept sequence cs × (next ≡ accepted m sequence cs)
Accepts map m sequence cs (Err no.OldSequence) next =
    (sequence < m.kept.sequence) × (next ≡ m)
Accepts map m sequence cs (Err no.TooBig) next =
    (m.kept.sequence ≤ sequence) × (AllFit map cs → ⊥) × (next ≡ m)
Accepts map m sequence cs (Err no.WrongPrecursor) next =
    (m.kept.sequence ≤ sequence) × AllFit map cs × (AllFollow m.kept cs → ⊥) × (next ≡ m)
Accepts map m sequence cs (Err (no.Flash flash.Cut)) next = MayAccept map m.kept sequence cs
    × IsAcceptCut m.kept sequence cs next.kept × (next ≡ closed m next.kept)
Accepts map m sequence cs (Err (no.Flash flash.Off)) next = next ≡ closed m m.kept
Accepts map m sequence cs other next = ⊥
