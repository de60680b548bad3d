use Rattle.std.proofs.Common.{List, ℕ, arith, refl, sym, subst, ◌∙◌}
use Rattle.flash_model.proofs.Ranges.{length_range}
use Rattle.flash_model.specs.Written.{IsWrite}
use Rattle.flash_model.proofs.WrittenLaws.{program_taken}
use Rattle.slice_flash.specs.SliceFlash.{chip_of}
use Rattle.slice_flash.proofs.Writes.{pattern_once}
use Rattle.slice_flash.proofs.flash.SliceFlashFlash.program.Goals as goal

pub returns-clause-chip : goal.returns-clause-chip
returns-clause-chip g c =
    let flash = c.args.self.now in
    let long = length_range flash.bytes.now c.args.at _ in
    c.write.ensures.chip c.args.bytes.now refl (pattern_once _ _ (sym (long ∙ omega (arith, c.requires.inside, flash.whole))))

pub returns-clause-slice : goal.returns-clause-slice
returns-clause-slice g c =
    let flash = c.args.self.now in
    let long = length_range flash.bytes.now c.args.at _ in
    c.write.ensures.slice c.args.bytes.now refl (pattern_once _ _ (sym (long ∙ omega (arith, c.requires.inside, flash.whole))))

pub write-requires-clause-taken : goal.write-requires-clause-taken
write-requires-clause-taken g c = λ range same is.
    let flash = c.args.self.now in
    let long = length_range flash.bytes.now c.args.at _ in
    subst (λ (r : List ℕ). IsWrite flash.sector_size (record { at = c.args.at; done = r }) flash.bytes.now)
    (pattern_once c.args.bytes.now _ (sym (long ∙ omega (arith, c.requires.inside, flash.whole))) ∙ sym is)
    (program_taken flash.sector_size c.args.at (chip_of flash) c.args.bytes.now flash.whole c.requires)
