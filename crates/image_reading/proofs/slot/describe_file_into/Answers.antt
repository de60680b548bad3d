use Rattle.std.proofs.Common.{Err, Ok, ap, take, ◌∙◌}
use Rattle.image_reading.specs.declared.error.SlotError.TheVariants.{Image}
use Rattle.image_reading.specs.Slot.{file_bytes}
use Rattle.image_reading.proofs.Answered.{ok_no_error, only_file_in_slot, same_error}
use Rattle.image_reading.proofs.slot.describe_file_into.Goals as goal

pub returns-in-Err-clause-fault : goal.returns-in-Err-clause-fault
returns-in-Err-clause-fault g c =
    let slot = c.slot_span.ensures.bytes _ c.requires.laid_out in
    let same = c.first-file.ensures.bytes _ ∙ ap (take c.args.len) slot in
    (c.in_ok-read.ensures.on, rw (c.read.ensures.same, same) at c.in-Err.ensures.fault)

pub returns-in-Ok-clause-described : goal.returns-in-Ok-clause-described
returns-in-Ok-clause-described g c =
    let slot = c.slot_span.ensures.bytes _ c.requires.laid_out in
    let same = c.first-file.ensures.bytes _ ∙ ap (take c.args.len) slot in
    rw (c.read.ensures.same, same) at c.in-Ok.ensures.described

pub returns-in-Err-clause-only : goal.returns-in-Err-clause-only
returns-in-Err-clause-only g c =
    let chip = g.F.Flash.chip c.args.flash.now in
    let bytes = file_bytes c.args.map.now chip c.args.image c.args.side c.args.len in
    (only_file_in_slot bytes chip.is_on (Err (Image c.in-Err.fault)) tt (returns-in-Err-clause-fault g c)).only

pub returns-in-Err-clause-refused : goal.returns-in-Err-clause-refused
returns-in-Err-clause-refused g c =
    let chip = g.F.Flash.chip c.args.flash.now in
    let bytes = file_bytes c.args.map.now chip c.args.image c.args.side c.args.len in
    let one =
    only_file_in_slot bytes chip.is_on (Err (Image c.in-Err.fault)) tt (returns-in-Err-clause-fault g c) in
    λ on fault fails. same_error _ _ (one.refused on fault fails)

pub returns-in-Ok-clause-only : goal.returns-in-Ok-clause-only
returns-in-Ok-clause-only g c =
    let chip = g.F.Flash.chip c.args.flash.now in
    let bytes = file_bytes c.args.map.now chip c.args.image c.args.side c.args.len in
    (only_file_in_slot bytes chip.is_on (Ok _) (returns-in-Ok-clause-described g c) tt).only

pub returns-in-Ok-clause-refused : goal.returns-in-Ok-clause-refused
returns-in-Ok-clause-refused g c =
    let chip = g.F.Flash.chip c.args.flash.now in
    let bytes = file_bytes c.args.map.now chip c.args.image c.args.side c.args.len in
    let one = only_file_in_slot bytes chip.is_on (Ok _) (returns-in-Ok-clause-described g c) tt in
    λ on fault fails. absurd (ok_no_error _ _ (one.refused on fault fails))
