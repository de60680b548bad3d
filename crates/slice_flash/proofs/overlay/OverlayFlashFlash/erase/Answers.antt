use Rattle.std.proofs.Common.{arith, refl, ◌*◌, ℕ, Ok}
use Rattle.std.proofs.lemmas.List.{length-replicate}
use Rattle.flash_model.proofs.Frame.{product_le}
use Rattle.slice_flash.specs.Steps.{Step, Erased}
use Rattle.slice_flash.specs.Recording.{Recording}
use Rattle.slice_flash.specs.OverlayFlash.{recording_of}
use Rattle.slice_flash.proofs.Writes.{erase_done}
use Rattle.slice_flash.proofs.Recorded.{asked_recorded, programs_recorded}
use Rattle.slice_flash.proofs.overlay.OverlayFlashFlash.erase.Goals as goal

pub write-requires : goal.write-requires
write-requires g c =
    let flash = c.args.self.now in
    record {
      sector = c.args.sector;
      place = refl;
      whole = refl;
      inside = omega (arith, flash.whole, product_le c.args.sector flash.sectors flash.sector_size c.requires);
    }

pub returns-clause-chip : goal.returns-clause-chip
returns-clause-chip g c =
    let flash = c.args.self.now in
    let step : Step = Erased (c.args.sector * flash.sector_size) flash.sector_size in
    let old : Recording = recording_of flash in
    let new : Recording = recording_of c.write.new.self in
    let long = length-replicate {A = ℕ} flash.sector_size 255 in
    erase_done c.args.sector _ old.chip new.chip c.add.ensures.amount
    (omega (arith, asked_recorded (Ok tt) step old new c.in_ok-write.ensures))
    (programs_recorded (Ok tt) step old new
    (omega (arith, long, flash.whole, product_le c.args.sector flash.sectors flash.sector_size c.requires)) c.in_ok-write.ensures)
