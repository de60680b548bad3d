use Rattle.std.proofs.Common.{◌∙◌, inl, inr, refl, subst, sym}
use Rattle.std.proofs.lemmas.Result.{IfOk-weaker}
use Rattle.device_texts.specs.Said.{said_file}
use Rattle.inputs.specs.Loading.{Loads}
use Rattle.inputs.specs.Script.{ReadsFile}
use Rattle.inputs.proofs.ScriptLaws.{Loads-buffered, Loads-now}
use Rattle.inputs.proofs.sources.Sources.bytes_of.Goals as goal

-- The buffered bytes are those that the line names.
pub returns-in-Ok-clause-loaded : goal.returns-in-Ok-clause-loaded
returns-in-Ok-clause-loaded g c =
    let buffered = c.args.self.now.buffered.now in
    let files = g.H.Host.file c.args.self.now.host.now in
    subst (λ bytes. Loads buffered files (ReadsFile (said_file c.args.file) bytes))
    (sym (c.in-Ok.ensures.items ∙ c.deref.ensures.value))
    (Loads-buffered buffered files c.args.used.now c.in-Some.input.now (said_file c.args.file)
    c.in-Some.ensures.next c.in-Some.ensures.same)

-- The file is read at the event.
pub returns-in_default-clause-loaded : goal.returns-in_default-clause-loaded
returns-in_default-clause-loaded g c =
    IfOk-weaker c.piece_of.result _ _
    (λ bytes read. Loads-now c.args.self.now.buffered.now (g.H.Host.file c.args.self.now.host.now)
    (said_file c.args.file) bytes.items read)
    c.piece_of.ensures.read

-- No buffered input is used.
pub returns-in_default-clause-next : goal.returns-in_default-clause-next
returns-in_default-clause-next g c =
    IfOk-weaker c.piece_of.result _ _
    (λ bytes read. inr (record { other = c.in_default.ensures.other; none = refl }))
    c.piece_of.ensures.read

-- The next buffered input is the one that was used.
pub returns-in-Ok-clause-next : goal.returns-in-Ok-clause-next
returns-in-Ok-clause-next g c = inl (record {
  item = c.in-Some.input.now;
  next = c.in-Some.ensures.next;
  same = c.in-Some.ensures.same;
  content = c.in-Ok.ensures.items ∙ c.deref.ensures.value;
  one_more = c.in-Some-checked_add.ensures.1;
})
