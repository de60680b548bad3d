use Rattle.std.proofs.Common.{refl}
use Rattle.slice_flash.specs.ReadOnly.{chip_of}
use Rattle.c_interface.specs.State.{Logged, NotLogged}
use Rattle.c_interface.proofs.StepLaws.{borrowed_flash}
use Rattle.c_interface.proofs.state.read_on.Goals as goal

pub read_state-requires : goal.read_state-requires
read_state-requires g c = (borrowed_flash c.args.map.now c.args.bytes.now
    (chip_of c.new-flash.result) _ c.args.map.now.is_map c.requires.room c.new-flash.ensures).laid_out

pub returns-in-Ok : goal.returns-in-Ok
returns-in-Ok g c = Logged (chip_of c.new-flash.result)
    (borrowed_flash c.args.map.now c.args.bytes.now _ _ c.args.map.now.is_map c.requires.room c.new-flash.ensures)
    c.in-Ok.found c.in-Ok.ensures.answers.0 c.state_row.ensures refl

pub returns-in-Err-NoLog : goal.returns-in-Err-NoLog
returns-in-Err-NoLog g c = NotLogged (chip_of c.new-flash.result)
    (borrowed_flash c.args.map.now c.args.bytes.now _ _ c.args.map.now.is_map c.requires.room c.new-flash.ensures)
    (rw c.in-Err-NoLog.field-0-is at c.in-Err-NoLog.ensures.answers).0 refl refl
