use Rattle.std.proofs.Common.{Ok, rules}
use Rattle.common.proofs.Results.{IfErr-passed}
use Rattle.image_reading.specs.Slot.{slot_bytes}
use Rattle.image_reading.proofs.Answered.{only_front_in_slot}
use Rattle.image_reading.proofs.slot.describe_slot.Goals as goal

pub returns-in_err-description-clause-fault : goal.returns-in_err-description-clause-fault
returns-in_err-description-clause-fault g c =
    let same = c.slot_span.ensures.bytes _ c.requires.laid_out in
    let own = rw (c.read.ensures.same, same) at c.in_err-description.ensures.fault in
    IfErr-passed _ _ _ c.from_residual-in_err-description.ensures.1 (c.in_ok-read.ensures.on, own)

pub returns-clause-described : goal.returns-clause-described
returns-clause-described g c =
    let same = c.slot_span.ensures.bytes _ c.requires.laid_out in
    rw (c.read.ensures.same, same) at c.in_ok-description.ensures.described

pub returns-in_err-description-clause-only : goal.returns-in_err-description-clause-only
returns-in_err-description-clause-only g c =
    let chip = g.F.Flash.chip c.args.flash.now in
    let bytes = slot_bytes c.args.map.now chip c.args.image c.args.side in
    (only_front_in_slot bytes chip.is_on _ (search rules) (returns-in_err-description-clause-fault g c)).only

pub returns-in_err-description-clause-refused : goal.returns-in_err-description-clause-refused
returns-in_err-description-clause-refused g c =
    let chip = g.F.Flash.chip c.args.flash.now in
    let bytes = slot_bytes c.args.map.now chip c.args.image c.args.side in
    (only_front_in_slot bytes chip.is_on _ (search rules) (returns-in_err-description-clause-fault g c)).refused

pub returns-clause-only : goal.returns-clause-only
returns-clause-only g c =
    let chip = g.F.Flash.chip c.args.flash.now in
    let bytes = slot_bytes c.args.map.now chip c.args.image c.args.side in
    (only_front_in_slot bytes chip.is_on (Ok c.in_ok-description.description) (returns-clause-described g c) tt).only

pub returns-clause-refused : goal.returns-clause-refused
returns-clause-refused g c =
    let chip = g.F.Flash.chip c.args.flash.now in
    let bytes = slot_bytes c.args.map.now chip c.args.image c.args.side in
    (only_front_in_slot bytes chip.is_on (Ok c.in_ok-description.description) (returns-clause-described g c) tt).refused
