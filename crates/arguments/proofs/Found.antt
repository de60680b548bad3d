-- The items that were found, as a vector and as a list.
use Rattle.std.proofs.Common.{Global, List, None, Ok, Err, Option, Result, Some, Vec, option_map}
use Rattle.std.specs.Prelude.{IfOk}
use Rattle.command_line.specs.Given.{Finds}

pub found_items : {T E : Type 0} (IsSo : List T → Type 0) (result : Result (Option (Vec T Global)) E)
    → IfOk result (λ found. Finds IsSo (option_map (λ values. values.items) found))
    → IfOk result (Finds (λ values. IsSo values.items))
found_items IsSo (Ok None) none = λ values holds. none values.items holds
found_items IsSo (Ok (Some values)) holds = holds
found_items IsSo (Err error) holds = tt
