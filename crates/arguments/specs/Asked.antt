-- Which arguments ask for a page or a script.
use Rattle.std.specs.Prelude.{Bool, List, [], ◌∷◌, codes, false, if◌then◌else◌, true}
use Rattle.std.specs.Str.{bytes_eq}
use Rattle.clap.specs.Words.{Text}
use Rattle.arguments.specs.declared.manual.asked.Asked.{Asked}
use Rattle.arguments.specs.declared.manual.asked.Asked.TheVariants as asked

-- Whether there are no names.
abbrev pub is_none_named : List Text → Bool
is_none_named [] = true
is_none_named _ = false

-- Whether this is a topic of `help` that is answered here, with these names after it: `man`,
-- `completions`, or `help` alone.
abbrev pub is_topic : Text → List Text → Bool
is_topic topic names =
    if bytes_eq topic (codes "man") then true
    else (if bytes_eq topic (codes "completions") then true
    else (if bytes_eq topic (codes "help") then is_none_named names else false))

-- Whether the arguments are answered here. The first of them is the program's own name.
abbrev pub asks_here : List Text → Bool
asks_here (name ∷ help ∷ topic ∷ names) =
    if bytes_eq help (codes "help") then is_topic topic names else false
asks_here _ = false

-- Whether there is what is asked for.
abbrev pub is_known : Asked → Bool
is_known (asked.Known topic) = true
is_known (asked.Unknown name) = false
is_known (asked.TooMany command name) = false
is_known asked.NoShell = false
