-- Bytes that are written to a buffer from a place on, piece by piece.
use Rattle.std.proofs.Common.{◌≡◌, ℕ, ◌+◌, ◌≤◌, ◌<◌, List, [], ◌++◌, drop, take, length, refl, sym, ap, ◌∙◌, append_assoc, arith, length-append}
use Rattle.std.proofs.lemmas.List.{append-nil, drop-drop}

-- A piece is written to a buffer from a place on, if it fits, and all else stays.
pub record PutsAfter (place : ℕ) (old piece : List ℕ) (end : ℕ) (new : List ℕ) : Type 0 where
  pub whole : length new ≡ length old
  pub until : place + length piece ≤ length old → end ≡ place + length piece
  pub put : place + length piece ≤ length old → take end new ≡ take place old ++ piece
  pub rest : place + length piece ≤ length old → drop end new ≡ drop end old

pub puts_nothing : (place : ℕ) (buffer : List ℕ) → PutsAfter place buffer [] place buffer
puts_nothing place buffer = record {
  whole = refl;
  until = λ fits. omega arith;
  put = λ fits. sym (append-nil (take place buffer));
  rest = λ fits. refl;
}

pub puts_both : (first second third : ℕ) (one two three : List ℕ) (before after : List ℕ)
    → PutsAfter first one before second two → PutsAfter second two after third three
    → PutsAfter first one (before ++ after) third three
puts_both first second third one two three before after once more =
    let both = length-append before after in
    let fits_once = λ (fits : first + length (before ++ after) ≤ length one).
    let fit : first + length before ≤ length one = omega (arith, both, fits) in fit in
    let fits_more = λ (fits : first + length (before ++ after) ≤ length one).
    let fit : second + length after ≤ length two =
    omega (arith, both, fits, once.until (fits_once fits), once.whole) in fit in
    let same_rest = λ (fits : first + length (before ++ after) ≤ length one).
    let end : third ≡ second + length after = more.until (fits_more fits) in
    let rest : drop third two ≡ drop third one =
    ap (λ n. drop n two) end ∙ sym (drop-drop (length after) second two)
    ∙ ap (drop (length after)) (once.rest (fits_once fits)) ∙ drop-drop (length after) second one
    ∙ sym (ap (λ n. drop n one) end) in rest in
    record {
      whole = more.whole ∙ once.whole;
      until = λ fits. omega (arith, both, fits, once.until (fits_once fits), more.until (fits_more fits));
      put = λ fits. more.put (fits_more fits) ∙ ap (λ (piece : List ℕ). piece ++ after) (once.put (fits_once fits))
          ∙ append_assoc (take first one) before after;
      rest = λ fits. more.rest (fits_more fits) ∙ same_rest fits;
    }

-- The bytes are at the front of a buffer, and those after them are as they were. Or the buffer is
-- shorter, and as it was.
pub data IsAtFront (bytes old new : List ℕ) : Type 0 where
  Fits : length bytes ≤ length old → new ≡ bytes ++ drop (length bytes) old
      → IsAtFront bytes old new
  IsLonger : length old < length bytes → new ≡ old → IsAtFront bytes old new
