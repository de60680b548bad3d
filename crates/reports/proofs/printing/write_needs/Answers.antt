use Rattle.std.proofs.Common.{List, ◌++◌, ◌∷◌, [], map, ap, sym, ◌∙◌, arith}
use Rattle.std.specs.List.{flat_map}
use Rattle.std.proofs.lemmas.List.{take_all}
use Rattle.std.proofs.lemmas.List.Concat.{flat_map-append}
use Rattle.version_order.specs.declared.dependency.Dependency.{Dependency}
use Rattle.reports.specs.TableText.{group_lines, table_line_text}
use Rattle.reports.specs.declared.table_line.TableLine.{TableLine}
use Rattle.reports.specs.declared.table_line.TableLine.TheVariants as line
use Rattle.reports.proofs.PrintedLines.{printed_at}
use Rattle.reports.proofs.Sinks.{respelled, spelled, then}
use Rattle.reports.proofs.printing.write_needs.Goals as goal

pub loop-dependency-init : goal.loop-dependency-init
loop-dependency-init g c = g.met.S.Sink.takes_nothing _

pub loop-dependency-preserved : goal.loop-dependency-preserved
loop-dependency-preserved g c =
    respelled g.S.Sink.takes _ _ _ _
    (printed_at table_line_text (λ dependency. line.Needs dependency) c.as_slice-dependency-items.result.now
    c.loop-dependency.dependency-index _ c.loop-dependency-test.true)
    (g.met.S.Sink.takes_both _ _ _ _ _ c.loop-dependency.invariant c.in_ok-write_line.ensures)

pub returns : goal.returns
returns g c =
    let text = λ (said : TableLine). table_line_text said ++ 10 ∷ [] in
    let needs = λ (needed : List Dependency). map (λ dependency. line.Needs dependency) needed in
    let entry = c.args.entry.now in
    let all = take_all c.loop-dependency.dependency-index c.as_slice-dependency-items.result.now (omega (arith, c.loop-dependency-test.false))
    ∙ c.as_slice-dependency-items.ensures.value in
    let first = respelled g.S.Sink.takes _ _ _ _ (ap (λ needed. flat_map text (needs needed)) all) c.loop-dependency.invariant in
    let groups = rw c.as_slice.ensures.value at c.write_groups.ensures in
    spelled g.S.Sink.takes _ _ _ _ c.write_groups.result
    (sym (flat_map-append text (needs entry.dependencies.items) (group_lines entry.groups.items)))
    (then _ g.met.S.Sink.takes_both _ _ _ _ _ _ first groups)
