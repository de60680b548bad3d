use Rattle.std.proofs.Common.{◌∷◌, [], codes, decimal, rules}
use Rattle.std.proofs.Output.{has_written_append, has_written_of_eq}
use Rattle.common.specs.Lines.{printed_lines}
use Rattle.version_order.specs.VersionText.{version_text}
use Rattle.reports.specs.DependencyText.{needs_one_text, needs_text}
use Rattle.inspecting.proofs.TextLaws.{description-in_a_row}
use Rattle.inspecting.proofs.image.DescribedDisplay.fmt.Goals as goal

-- The lines of the dependencies and of the groups follow those of the fields.
pub returns-clause-writes : goal.returns-clause-writes
returns-clause-writes g c = λ plain ok.
    let said = c.args.self.now.description.now in
    let first = c.in_ok-write.ensures.writes plain (search rules) in
    let needs = (rw c.as_slice.ensures.value at c.in_ok-write_needs.ensures) first.plain (search rules) in
    let groups = (rw c.as_slice-2.ensures.value at c.write_groups.ensures) needs.plain ok in
    has_written_of_eq _ _ _ _ _
    (description-in_a_row (codes "version ") (version_text said.version) (10 ∷ []) (codes "length ") (decimal said.length)
    (codes "counter ") (decimal said.counter) (codes "digest ") c.args.self.now.digest.now
    (printed_lines needs_text said.dependencies.items) (printed_lines needs_one_text said.groups.items))
    (has_written_append _ _ _ _ _ _ first (has_written_append _ _ _ _ _ _ needs groups))
