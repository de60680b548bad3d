-- The line of a script that a refusal names.
use Rattle.std.specs.Prelude.{Option, None, Some}
use Rattle.host.specs.declared.error.Refusal.{Refusal}
use Rattle.host.specs.declared.error.Refusal.TheVariants as refusal
use Rattle.host.specs.declared.error.ScriptLine.{ScriptLine}

-- The line that a refusal names, if it names one.
abbrev pub script_line : Refusal → Option ScriptLine
script_line (refusal.ScriptLine bad) = Some bad
script_line other = None
