use Rattle.std.proofs.Common.{◌∙◌, refl}
use Rattle.slice_flash.specs.ReadOnly.{chip_of}
use Rattle.c_interface.specs.Description.{Begins, Fails}
use Rattle.c_interface.proofs.Described.{describes_slot}
use Rattle.c_interface.proofs.StepLaws.{borrowed_flash}
use Rattle.c_interface.proofs.slots.describe_on.Goals as goal

pub describe_slot-requires-clause-laid_out : goal.describe_slot-requires-clause-laid_out
describe_slot-requires-clause-laid_out g c = (borrowed_flash c.args.map.now c.args.bytes.now
    (chip_of c.new-flash.result) _ c.args.map.now.is_map c.requires.room c.new-flash.ensures).laid_out

pub returns-in-Ok : goal.returns-in-Ok
returns-in-Ok g c = describes_slot _ _ _ _ _ _ (chip_of c.new-flash.result) _ c.requires.room c.new-flash.ensures
    (Begins c.in-Ok.found c.in-Ok.ensures.described c.description_of.ensures refl)

pub returns-in-Err-Image : goal.returns-in-Err-Image
returns-in-Err-Image g c = describes_slot _ _ _ _ _ _ (chip_of c.new-flash.result) _ c.requires.room c.new-flash.ensures
    (Fails c.in-Err-Image.fault (rw c.in-Err-Image.field-0-is at c.in-Err-Image.ensures.fault).1
    (c.from.ensures ∙ c.code.ensures) refl)
