use Rattle.std.proofs.Common.{◌≡◌, ◌+◌, ℕ, length, take, drop, sym, ap, ◌∙◌, arith}
use Rattle.std.proofs.lemmas.List.{length-drop, take_rest, drop-drop}
use Rattle.byteorder.specs.Endian.{little_number}
use Rattle.image_reading.specs.Reading.{value_size}
use Rattle.image_reading.proofs.AreaLaws.{first_entry-short, first_entry-cut_off, first_entry-fitting, same_found}
use Rattle.image_reading.proofs.tlvs.first_tlv.Goals as goal

pub returns-then-bytes-lt-HEAD_LENGTH : goal.returns-then-bytes-lt-HEAD_LENGTH
returns-then-bytes-lt-HEAD_LENGTH c = sym (first_entry-short c.args.bytes.now (omega arith))

pub returns-then-rest-size : goal.returns-then-rest-size
returns-then-rest-size c =
    let bytes = c.args.bytes.now in
    let size : c.from-size.result ≡ value_size bytes =
    c.from-size.ensures ∙ c.read_u16.ensures ∙ ap (little_number 2) (take_rest bytes 2) in
    sym (first_entry-cut_off bytes (omega (arith, size, ap length (take_rest bytes 4), length-drop 4 bytes)))

pub returns : goal.returns
returns c =
    let bytes = c.args.bytes.now in
    let size : c.from-size.result ≡ value_size bytes =
    c.from-size.ensures ∙ c.read_u16.ensures ∙ ap (little_number 2) (take_rest bytes 2) in
    let value : c.split_at.result.0.now ≡ take (value_size bytes) (drop 4 bytes) =
    c.split_at.ensures.front ∙ ap (take c.from-size.result) (take_rest bytes 4)
    ∙ ap (λ (n : ℕ). take n (drop 4 bytes)) size in
    let rest : c.split_at.result.1.now ≡ drop (4 + value_size bytes) bytes =
    c.split_at.ensures.back ∙ ap (drop c.from-size.result) (take_rest bytes 4)
    ∙ ap (λ (n : ℕ). drop n (drop 4 bytes)) size ∙ drop-drop (value_size bytes) 4 bytes in
    same_found _ _ _ _ _ _ c.read_u16-kind.ensures value rest
    ∙ sym (first_entry-fitting bytes (omega (arith, size, ap length (take_rest bytes 4), length-drop 4 bytes)))
