use Rattle.device_texts.specs.LineReading.{name_of}
use Rattle.device_texts.proofs.WordLaws.{decoded_text}
use Rattle.device_texts.proofs.words.name.Goals as goal

pub returns : goal.returns
unfolding name_of
returns c =
    rw (c.ok.ensures.value, ← c.in_ok-word.ensures)
    (decoded_text c.in_ok-word.field-0.now c.from_utf8.result c.from_utf8.ensures.cases)
