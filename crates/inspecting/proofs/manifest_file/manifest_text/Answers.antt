use Rattle.std.proofs.Common.{◌++◌, ◌∙◌, ap, append_assoc, codes, decimal}
use Rattle.std.proofs.lemmas.List.{take_all}
use Rattle.common.specs.Lines.{printed_lines}
use Rattle.device_texts.specs.AnswerText.{line_text}
use Rattle.inspecting.specs.ManifestText.{component_text}
use Rattle.inspecting.proofs.TextLaws.{printed-more}
use Rattle.inspecting.proofs.manifest_file.manifest_text.Goals as goal

-- The line of one more component is added.
pub loop-component-preserved : goal.loop-component-preserved
loop-component-preserved c =
    let sequence = line_text (codes "sequence") (decimal c.args.manifest.now.sequence) in
    let more = printed-more component_text c.as_slice-component-items.result.now c.loop-component.component-index _
    c.loop-component-test.true in
    rw (c.in_ok-write_component.ensures, c.loop-component.invariant)
    (append_assoc sequence _ _ ∙ ap (λ lines. sequence ++ lines) more)

-- The text has the lines of all components.
pub returns : goal.returns
returns c =
    let sequence = line_text (codes "sequence") (decimal c.args.manifest.now.sequence) in
    c.loop-component.invariant
    ∙ ap (λ components. sequence ++ printed_lines component_text components)
    (take_all c.loop-component.component-index c.as_slice-component-items.result.now c.loop-component-test.false
    ∙ c.as_slice-component-items.ensures.value)
