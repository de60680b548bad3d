use Rattle.std.proofs.Common.{Ok, rules}
use Rattle.common.proofs.Results.{IfErr-passed}
use Rattle.image_reading.specs.Slot.{file_bytes}
use Rattle.image_reading.proofs.Answered.{only_file_in_slot}
use Rattle.image_reading.proofs.slot.describe_file.Goals as goal

pub returns-in_err-describe_file_into-clause-fault : goal.returns-in_err-describe_file_into-clause-fault
returns-in_err-describe_file_into-clause-fault g c =
    IfErr-passed _ _ _ c.from_residual.ensures.1 c.in_err-describe_file_into.ensures.fault

pub returns-in_err-describe_file_into-clause-only : goal.returns-in_err-describe_file_into-clause-only
returns-in_err-describe_file_into-clause-only g c =
    let chip = g.F.Flash.chip c.args.flash.now in
    let bytes = file_bytes c.args.map.now chip c.args.image c.args.side c.args.len in
    (only_file_in_slot bytes chip.is_on _ (search rules)
    (returns-in_err-describe_file_into-clause-fault g c)).only

pub returns-in_err-describe_file_into-clause-refused : goal.returns-in_err-describe_file_into-clause-refused
returns-in_err-describe_file_into-clause-refused g c =
    let chip = g.F.Flash.chip c.args.flash.now in
    let bytes = file_bytes c.args.map.now chip c.args.image c.args.side c.args.len in
    (only_file_in_slot bytes chip.is_on _ (search rules)
    (returns-in_err-describe_file_into-clause-fault g c)).refused

pub returns-clause-refused : goal.returns-clause-refused
returns-clause-refused g c =
    let chip = g.F.Flash.chip c.args.flash.now in
    let bytes = file_bytes c.args.map.now chip c.args.image c.args.side c.args.len in
    (only_file_in_slot bytes chip.is_on (Ok c.describe_file_into.new.description) c.in_ok-describe_file_into.ensures.described
    tt).refused
