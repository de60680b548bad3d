use Rattle.std.proofs.Common.{ap, option_map, sym, ◌∙◌}
use Rattle.std.proofs.lemmas.Result.{IfErr-weaker, on_ok_weaker}
use Rattle.device_texts.specs.Said.{said_file, said_torn}
use Rattle.inputs.proofs.ScriptFaultLaws.{NamesLine-faults}
use Rattle.inputs.proofs.ScriptLaws.{AddsCut-taken}
use Rattle.inputs.proofs.checking.check_line.Goals as goal

-- A cut was added to those before.
pub returns-in_ok-cut-in-Cut-clause-cuts : goal.returns-in_ok-cut-in-Cut-clause-cuts
returns-in_ok-cut-in-Cut-clause-cuts g c =
    rw c.in-Cut.is
    (on_ok_weaker c.add_cut.result
    (λ added. AddsCut-taken c.in-Cut.write (said_torn c.in-Cut.torn) _ _ c.in_ok-cut-in-Cut.cut added
    c.in_ok-cut-in-Cut.ensures.cut)
    c.add_cut.ensures.added)

-- The file that the line names has a fault.
pub returns-in-Some-clause-wrong : goal.returns-in-Some-clause-wrong
returns-in-Some-clause-wrong g c =
    IfErr-weaker c.check_file.result _ _
    (λ refusal names. NamesLine-faults refusal c.args.number _ _
    (λ why is. (
      said_file c.in-Some.file,
      rw c.in-Event.is (sym c.file_of.ensures ∙ ap (λ file. option_map said_file file) c.in-Some.is),
      is,
    )) names)
    c.check_file.ensures.wrong
