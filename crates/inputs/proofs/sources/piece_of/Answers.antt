use Rattle.std.proofs.Common.{IfOk, None, Some, refl, subst, true}
use Rattle.std.proofs.lemmas.Result.{IfErr-weaker, IfOk-weaker}
use Rattle.device_texts.specs.Said.{file_of, part_words}
use Rattle.inputs.specs.Loading.{ReadsNow}
use Rattle.inputs.proofs.ScriptLaws.{ReadsNow-whole, not_input, said_file-named}
use Rattle.inputs.specs.Script.{known_at}
use Rattle.inputs.specs.ScriptFault.{IsFileFault}
use Rattle.inputs.proofs.ScriptFaultLaws.{IfErr-unnamed, IsFileFault-file, NamesLine-faults, NamesLine-of, is_input_name-input}
use Rattle.inputs.proofs.sources.piece_of.Goals as goal

-- A part of the file was read.
pub returns-in-File-Some-clause-read : goal.returns-in-File-Some-clause-read
returns-in-File-Some-clause-read g c =
    let file = said_file-named c.args.file c.named.result c.in-File-Some.name (Some c.in-File-Some.part) c.named.ensures
    c.in-File-Some.is-0 c.in-File-Some.is-1 in
    subst (λ said. IfOk c.file_part.result (λ bytes. ReadsNow said bytes.items (g.H.Host.file c.args.host.now)))
    file c.file_part.ensures.read

-- The complete file was read.
pub returns-in-File-None-clause-read : goal.returns-in-File-None-clause-read
returns-in-File-None-clause-read g c =
    let name = c.in-File-None.name in
    let file = said_file-named c.args.file c.named.result name None c.named.ensures
    c.in-File-None.is-0 c.in-File-None.is-1 in
    IfOk-weaker c.whole_file.result _ _
    (λ bytes is. subst (λ said. ReadsNow said bytes.items (g.H.Host.file c.args.host.now)) file
    (ReadsNow-whole name bytes.items (g.H.Host.file c.args.host.now)
    (not_input c.args.file c.named.result name c.named.ensures c.in-File-None.is-0) is))
    c.whole_file.ensures.bytes

-- Standard input isn't read.
pub returns-in-StandardInput-default-clause-wrong : goal.returns-in-StandardInput-default-clause-wrong
returns-in-StandardInput-default-clause-wrong g c =
    let named = rw c.in-StandardInput-default.is-0 at c.named.ensures in
    NamesLine-of c.of_line.result _ _ c.of_line.ensures.line (is_input_name-input c.args.file.name.now named, refl)

-- The part of the file has a fault.
pub returns-in-File-Some-clause-wrong : goal.returns-in-File-Some-clause-wrong
returns-in-File-Some-clause-wrong g c =
    let name = c.in-File-Some.name in
    let words = part_words c.in-File-Some.part in
    let known = known_at None (g.H.Host.file c.args.host.now) in
    let file = said_file-named c.args.file c.named.result name (Some c.in-File-Some.part) c.named.ensures
    c.in-File-Some.is-0 c.in-File-Some.is-1 in
    IfErr-weaker c.file_part.result _ _
    (λ refusal names. NamesLine-faults refusal c.args.number _ _
    (λ why is. subst (λ said. IsFileFault true known said why) file
    (IsFileFault-file true known (file_of name.now (Some words)) why
    (not_input c.args.file c.named.result name c.named.ensures c.in-File-Some.is-0) is)) names)
    c.file_part.ensures.wrong

-- The file can't be read, which is no fault of the line.
pub returns-in-File-None-clause-wrong : goal.returns-in-File-None-clause-wrong
returns-in-File-None-clause-wrong g c = IfErr-unnamed c.whole_file.result _ c.whole_file.ensures.unnamed
