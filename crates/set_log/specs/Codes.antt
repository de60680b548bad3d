-- The number and the name of each error of a read of the log.
use Rattle.std.specs.Prelude.{ℕ, List, codes}
use Rattle.set_log.specs.declared.error.LogError.{LogError}
use Rattle.set_log.specs.declared.error.LogError.TheVariants.{NoLog, Flash}

-- The number of a kind.
abbrev pub code_of : LogError → ℕ
code_of NoLog = 1
code_of (Flash error) = 2

-- The name of a kind.
abbrev pub name_of : LogError → List ℕ
name_of NoLog = codes "NoLog"
name_of (Flash error) = codes "Flash"
