-- What a slot holds, from the description of the image at its start.
use Rattle.std.proofs.Common.{◌≡◌, ℕ, List, length, Option, Some, None, refl, sym, subst, ◌∙◌, ap, append-nil}
use Rattle.std.proofs.lemmas.Option.{none-some}
use Rattle.image_reading.specs.declared.desc.Desc.{Desc}
use Rattle.image_reading.specs.declared.error.ImageError.{ImageError}
use Rattle.image_reading.specs.Fault.{IsFrontFault}
use Rattle.image_reading.specs.Image.{BeginsIntact, IsIntact, image_bytes}
use Rattle.image_reading.proofs.Descriptions.{front_has_no_fault}
use Rattle.common.specs.Bytes.{Starts}
use Rattle.flash_model.specs.Chip.{Chip}
use Rattle.sector_map.specs.declared.layout.SectorMap.{SectorMap}
use Rattle.reports.specs.declared.table.Request.{Request}
use Rattle.reports.specs.declared.table.Request.TheVariants as request
use Rattle.upload.specs.Steady.{IsFront, request_in}
use Rattle.machine.specs.Finish.{IsImage}
use Rattle.upload.specs.View.{view}
use Rattle.machine.specs.Boots.{IsRequestOf}
use Rattle.decision.specs.Rows.{IsRequestIn}
use Rattle.flash_contents.specs.Starting.{HoldsEntry}
use Rattle.machine.specs.States.{entry_of}

-- An intact image has the length in its description.
pub intact_long : (bytes : List ℕ) (d : Desc) → IsIntact bytes d → length bytes ≡ d.length
intact_long bytes d intact =
    ap length (intact.1.parts ∙ append-nil (image_bytes intact.0)) ∙ sym intact.2.length_of

pub described_front : (whole : List ℕ) (d : Desc) → BeginsIntact whole d
    → (bytes : List ℕ) × Starts whole bytes × IsIntact bytes d × (length bytes ≡ d.length)
described_front whole d (front, rest, parts, intact) = (front, (rest, parts), intact, intact_long front d intact)

-- If a check fails, the slot holds no intact image.
pub fault_front : (whole : List ℕ) (fault : ImageError) (held : Option (List ℕ)) → IsFrontFault whole fault
    → IsFront whole held → held ≡ None
fault_front whole fault None failed front = refl
fault_front whole fault (Some bytes) failed front =
    let there = front.image bytes refl in
    absurd (front_has_no_fault whole there.1.0 fault (bytes, there.0.0, there.0.1, there.1.1) failed)

-- If an image is described, the slot holds one.
pub described_held : (whole : List ℕ) (d : Desc) → BeginsIntact whole d → IsFront whole None → ⊥
described_held whole d begins none =
    let found = described_front whole d begins in none.none refl found.0 d found.1 found.2

-- The slot begins with the image that is described.
pub described_entry : (whole : List ℕ) (d : Desc) → BeginsIntact whole d → HoldsEntry whole (entry_of d)
described_entry whole d begins =
    let found = described_front whole d begins in (
      found.0,
      record {
        image = λ bytes e. let same : found.0 ≡ bytes = cc in
            subst (λ b. Starts whole b × IsImage b) same (found.1, (d, found.2));
        none = λ e. absurd (none-some found.0 (sym e));
      },
      (d, found.2, refl),
    )

-- If a check fails, the slot counts as one without an image.
pub fault_held : (whole : List ℕ) (fault : ImageError) → IsFrontFault whole fault → IsFront whole None
fault_held whole fault failed = record {
  image = λ bytes e. absurd (none-some bytes e);
  none = λ e bytes d starts intact. front_has_no_fault whole d fault (bytes, starts.0, starts.1, intact) failed;
}

asked_none : (asked : Request) → IsRequestOf None asked → asked ≡ request.None
asked_none asked is = is

-- If no request is pending, the row has none.
pub none_asked_for : (map : SectorMap) (old mid : Chip) (i : ℕ) (asked : Request) → mid ≡ old
    → IsRequestIn map i mid asked → request_in (view map old) i ≡ None → asked ≡ request.None
none_asked_for map old mid i asked same is none =
    let here = subst (λ chip. IsRequestIn map i chip asked) same is in
    asked_none asked (here None (record { kind = none; front = λ w e. absurd (none-some w e) }))
