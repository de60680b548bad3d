use Rattle.std.proofs.Common.{string_bytes, sym}
use Rattle.device_texts.proofs.JsonLaws.{notes-mapped}
use Rattle.device_texts.proofs.json.put_notes.Goals as goal

-- The member has the texts of the notes.
pub returns : goal.returns
returns c =
    let member = rw c.as_slice.ensures.value at c.put_each.ensures in
    rw (sym (notes-mapped string_bytes c.args.notes.now.sentences.items)) member
