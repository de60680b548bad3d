use Rattle.std.proofs.Common.{◌≢◌, ◌∙◌, Some, ap, refl, subst, sym}
use Rattle.std.proofs.lemmas.Option.{same_Some, slice_get-get_or}
use Rattle.device_texts.specs.Said.{said_file}
use Rattle.inputs.proofs.sources.Sources.next_for.Goals as goal

-- The next buffered input was found.
pub returns-then-is_same_text-clause-next : goal.returns-then-is_same_text-clause-next
returns-then-is_same_text-clause-next g c =
    let item = c.in-Some.input.now in
    let found = c.in-Some.ensures.lookup.3 in
    slice_get-get_or c.args.self.now.buffered.now c.args.used item found.0 ∙ ap Some (sym (found.1 item))

-- The only next buffered input is of another line.
pub returns-else-is_same_text-clause-other : goal.returns-else-is_same_text-clause-other
returns-else-is_same_text-clause-other g c = λ one is.
    let item = c.in-Some.input.now in
    let found = c.in-Some.ensures.lookup.3 in
    let next = slice_get-get_or c.args.self.now.buffered.now c.args.used item found.0 ∙ ap Some (sym (found.1 item)) in
    subst (λ input. said_file input.file ≢ said_file c.args.file) (same_Some _ _ (sym next ∙ is))
    (c.if-is_same_text.ensures.differ refl)
