use Rattle.std.proofs.Common.{◌≡◌, ◌∙◌, ◌+◌, ◌<◌, ◌≤◌, ℕ, List, ap, arith, length, subst}
use Rattle.std.specs.Prelude.{slice_range}
use Rattle.flash_model.specs.Chip.{Chip}
use Rattle.flash_model.specs.Memory.{chip_of}
use Rattle.sector_map.specs.declared.layout.SectorMap.{SectorMap}
use Rattle.sector_map.specs.declared.layout.Side.{Side}
use Rattle.sector_map.specs.Map.{IsLaidOut, start_of}
use Rattle.sector_map.specs.Part.{Slot}
use Rattle.image_reading.specs.Fault.{IsFrontFault}
use Rattle.image_reading.specs.Slot.{slot_bytes}
use Rattle.host.specs.Input.{IsKnownAs}
use Rattle.creating.specs.CopyEnd.{IsImageOf}
use Rattle.creating.proofs.CopyLaws.{copy_inside, copy_is}
use Rattle.creating.proofs.extract.copy.Goals as goal

-- The slot of the flash of these bytes begins with no image.
pub returns-in-Err-clause-copied : goal.returns-in-Err-clause-copied
returns-in-Err-clause-copied g c =
    subst (λ chip. IsFrontFault (slot_bytes c.args.map.now chip c.args.to.copying.image c.args.to.copying.side) c.in-Err.fault)
    c.flash_of-flash.ensures.chip c.in-Err.ensures.fault

-- The image lies in the flash.
inside : (map : SectorMap) (old new : Chip) (image : ℕ) (side : Side) (at long : ℕ) (all : List ℕ)
    → IsLaidOut map old → image < map.images → long ≤ length (slot_bytes map old image side) → new ≡ old
    → at ≡ start_of map (Slot image side) → all ≡ new.bytes → at + long ≤ length all
inside map old new image side at long all laid there fits same start lent = omega (
  arith,
  copy_inside map old image side long laid there fits,
  start,
  ap (λ bytes. length bytes) lent,
  ap (λ chip. length chip.bytes) same,
)

pub overflow_add-at : goal.overflow_add-at
overflow_add-at g c =
    let end = inside c.args.map.now _ _ c.args.to.copying.image c.args.to.copying.side _ c.in-Ok.length _
    c.flash_of-flash.ensures.laid_out c.requires.there c.in-Ok.ensures.fits c.in-Ok.ensures.same
    c.slot_start-at.ensures c.bytes-2.ensures in
    omega (arith, end, c.bytes-2.type_inv.0)

pub slice_bounds-replace-end : goal.slice_bounds-replace-end
slice_bounds-replace-end g c = inside c.args.map.now _ _ c.args.to.copying.image c.args.to.copying.side _ c.in-Ok.length _
    c.flash_of-flash.ensures.laid_out c.requires.there c.in-Ok.ensures.fits c.in-Ok.ensures.same
    c.slot_start-at.ensures c.bytes-2.ensures

-- The file holds the image that the slot begins with.
pub returns-clause-copied : goal.returns-clause-copied
returns-clause-copied g c =
    let map = c.args.map.now in
    let image = c.args.to.copying.image in
    let side = c.args.to.copying.side in
    let chip = chip_of c.flash_of-flash.result in
    let long = c.in-Ok.length in
    let at = c.slot_start-at.result in
    let held = g.H.Host.file c.replace.new.host c.args.to.copying.out.name.now in
    let lent : c.bytes-2.result.now ≡ chip.bytes = c.bytes-2.ensures ∙ ap (λ one. one.bytes) c.in-Ok.ensures.same in
    let same = ap (λ all. slice_range all at (at + long)) lent
    ∙ ap (λ from. slice_range chip.bytes from (from + long)) c.slot_start-at.ensures
    ∙ copy_is map chip image side long c.flash_of-flash.ensures.laid_out c.in-Ok.ensures.fits in
    subst (λ one. (content : List ℕ) × IsImageOf (slot_bytes map one image side) content × IsKnownAs held content)
    c.flash_of-flash.ensures.chip (
      slice_range (slot_bytes map chip image side) 0 long,
      c.in-Ok.ensures.image,
      subst (λ content. IsKnownAs held content) same c.in_ok-replace.ensures.done,
    )
