use Rattle.std.proofs.lemmas.Bool.{false≢true}
use Rattle.inspecting.proofs.slots_found.slot_content.Goals as goal

-- The slot begins with no intact image, and isn't erased.
pub returns-else-is_slot_erased-clause-content : goal.returns-else-is_slot_erased-clause-content
returns-else-is_slot_erased-clause-content g c =
    let fault = rw c.in-Err-Image.field-0-is at c.in-Err-Image.ensures.fault in
    let erased = rw c.in-Err-Image.ensures.same at c.is_slot_erased.ensures.erased in
    (fault.1, λ all. false≢true (rw c.if-is_slot_erased.false at erased.1 all))
