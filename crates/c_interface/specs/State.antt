-- The state in the log of a flash, as C has it.
use Rattle.std.specs.Prelude.{◌≡◌, ℕ, List, Some, None, replicate, if◌then◌else◌}
use Rattle.flash_model.specs.Chip.{Chip}
use Rattle.sector_map.specs.declared.layout.SectorMap.{SectorMap}
use Rattle.set_log.specs.Log.{state_of}
use Rattle.set_log.specs.Record.{kind_number}
use Rattle.set_log.specs.declared.state.State.{State}
use Rattle.c_interface.specs.declared.state.StateRow.{StateRow}
use Rattle.c_interface.specs.declared.setup.CheckedSetup.{CheckedSetup}
use Rattle.c_interface.specs.declared.setup.Setup.{Setup}
use Rattle.c_interface.specs.Numbers.{DONE, NO_LOG}
use Rattle.c_interface.specs.SavedState.{IsFlashOf}
use Rattle.c_interface.specs.Setup.{IsCheckedSetup, IsRefusedSetup}

-- A state as C has it.
abbrev pub state_row : State → StateRow
state_row state = record {
  kind = kind_number state.kind;
  set = state.mask;
  permanent = if state.permanent then 1 else 0;
  left = state.left;
  sequence = state.sequence;
  floors = state.floors;
}

-- No state: all zero.
abbrev pub no_state : StateRow
no_state = record {
  kind = 0;
  set = 0;
  permanent = 0;
  left = 0;
  sequence = 0;
  floors = replicate 8 0;
}

-- The answer is the state that the log of these bytes has, or that it has none.
pub data SaysState (map : SectorMap) (bytes : List ℕ) (row : StateRow) (number : ℕ) : Type 0 where
  Logged : (chip : Chip) → IsFlashOf map bytes chip → (state : State)
      → state_of map chip ≡ Some state → row ≡ state_row state → number ≡ DONE
      → SaysState map bytes row number
  NotLogged : (chip : Chip) → IsFlashOf map bytes chip → state_of map chip ≡ None
      → row ≡ no_state → number ≡ NO_LOG → SaysState map bytes row number

-- The answer of the call. The state is blank if there is no such flash.
pub data AnswersState (setup : Setup) (bytes : List ℕ) (row : StateRow) (number : ℕ) : Type 0 where
  Read : (checked : CheckedSetup) → IsCheckedSetup setup bytes checked
      → SaysState checked.map bytes row number → AnswersState setup bytes row number
  SetupRefused : IsRefusedSetup setup bytes number → row ≡ no_state
      → AnswersState setup bytes row number
