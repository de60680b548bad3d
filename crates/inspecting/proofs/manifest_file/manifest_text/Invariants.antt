use Rattle.std.proofs.Common.{◌≡◌, ◌++◌, codes, decimal, string_bytes, take}
use Rattle.common.specs.Lines.{printed_lines}
use Rattle.device_texts.specs.AnswerText.{line_text}
use Rattle.inspecting.specs.ManifestText.{component_text}
use Rattle.inspecting.proofs.manifest_file.manifest_text.Given as goal

-- The text so far is that of the components so far.
abbrev pub invariant-loop-component : goal.invariant-loop-component
invariant-loop-component l =
    string_bytes l.text ≡ line_text (codes "sequence") (decimal l.sequence)
    ++ printed_lines component_text (take l.component-index l.component-items)
