use Rattle.std.proofs.Common.{◌≡◌, string_bytes, take}
use Rattle.sweep.specs.Findings.{marks_text}
use Rattle.sweep.proofs.json.marks_text.Given as goal

-- There are the characters of the marks so far.
abbrev pub invariant-loop-mark : goal.invariant-loop-mark
invariant-loop-mark l = string_bytes l.text ≡ marks_text (take l.mark-index l.marks)
