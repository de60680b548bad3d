use Rattle.std.proofs.Common.{◌≡◌, ◌+◌, take, drop, sym, ap, ◌∙◌, arith}
use Rattle.std.proofs.lemmas.List.{drop-drop}
use Rattle.image_reading.specs.Span.{bytes_of}
use Rattle.image_reading.specs.Reading.{value_size}
use Rattle.image_reading.proofs.AreaLaws.{first_entry-short, first_entry-cut_off, first_entry-fitting, same_found}
use Rattle.image_reading.proofs.walk.first_slot_tlv.Goals as goal

pub returns-then-bytes-lt-HEAD_LENGTH-clause-first : goal.returns-then-bytes-lt-HEAD_LENGTH-clause-first
returns-then-bytes-lt-HEAD_LENGTH-clause-first g c =
    let chip = g.M.Medium.chip c.args.medium.now in
    sym (first_entry-short (bytes_of chip c.args.bytes) (omega (arith, c.requires.whole)))

pub returns-then-rest-size-clause-first : goal.returns-then-rest-size-clause-first
returns-then-rest-size-clause-first g c =
    let chip = g.M.Medium.chip c.args.medium.now in
    let bytes = bytes_of chip c.args.bytes in
    let size : c.from-size.result ≡ value_size bytes = c.from-size.ensures ∙ c.head-kind.ensures.second in
    sym (first_entry-cut_off bytes (omega (arith, size, c.requires.whole, c.after-rest.ensures.len)))

pub returns-clause-first : goal.returns-clause-first
returns-clause-first g c =
    let chip = g.M.Medium.chip c.args.medium.now in
    let bytes = bytes_of chip c.args.bytes in
    let size : c.from-size.result ≡ value_size bytes = c.from-size.ensures ∙ c.head-kind.ensures.second in
    let after : bytes_of chip c.after-rest.result ≡ drop 4 bytes = c.after-rest.ensures.bytes chip in
    let value : bytes_of chip c.first.result ≡ take (value_size bytes) (drop 4 bytes) =
    c.first.ensures.bytes chip ∙ ap (take c.from-size.result) after
    ∙ ap (λ n. take n (drop 4 bytes)) size in
    let rest : bytes_of chip c.after.result ≡ drop (4 + value_size bytes) bytes =
    c.after.ensures.bytes chip ∙ ap (drop c.from-size.result) after ∙ ap (λ n. drop n (drop 4 bytes)) size
    ∙ drop-drop (value_size bytes) 4 bytes in
    same_found _ _ _ _ _ _ c.head-kind.ensures.first value rest
    ∙ sym (first_entry-fitting bytes (omega (arith, size, c.requires.whole, c.after-rest.ensures.len)))
