-- A sequence of numbers of four bytes each is written and read back.
use Rattle.std.proofs.Common.{◌≡◌, ℕ, suc, ◌+◌, ◌-◌, ◌*◌, ◌<◌, ◌≤◌, ◌^◌, List, [], ◌∷◌, ◌++◌, length, get_or, take, drop, replicate, arith, refl, sym, ◌∙◌, ap}
use Rattle.std.proofs.lemmas.List.{append_assoc, append-nil, length-append, drop_at, take_more, take_all, length-take-le}
use Rattle.byteorder.specs.Endian.{little_bytes, little_number}
use Rattle.byteorder.specs.Numbers.{little_number-reads_back, length-bytes_low_first}
use Rattle.set_log.specs.Record.{words, words_at}

words_append : (xs ys : List ℕ) → words (xs ++ ys) ≡ words xs ++ words ys
words_append [] ys = refl
words_append (x ∷ xs) ys =
    let rest = words_append xs ys in
    rw rest (sym (append_assoc (little_bytes 4 x) (words xs) (words ys)))

length_words : (xs : List ℕ) → length (words xs) ≡ 4 * length xs
length_words [] = refl
length_words (x ∷ xs) =
    let rest = length_words xs in
    omega (arith, length-append (little_bytes 4 x) (words xs), length-bytes_low_first 0 4 x, rest)

words_more : (xs : List ℕ) (i : ℕ) → i < length xs
    → words (take (i + 1) xs) ≡ words (take i xs) ++ little_bytes 4 (get_or xs i 0)
words_more xs i lt =
    ap words (take_more xs i 0 lt) ∙ words_append (take i xs) (get_or xs i 0 ∷ [])
    ∙ ap (λ b. words (take i xs) ++ b) (append-nil (little_bytes 4 (get_or xs i 0)))

-- A sequence of numbers is read back.
pub words_back : (ws front rest : List ℕ) (at : ℕ) → length front ≡ at
    → ((i : ℕ) → i < length ws → get_or ws i 0 < 2 ^ 32)
    → words_at at (length ws) (front ++ (words ws ++ rest)) ≡ ws
words_back [] front rest at long small = refl
words_back (w ∷ ws) front rest at long small =
    let all : (little_bytes 4 w ++ words ws) ++ rest ≡ little_bytes 4 w ++ (words ws ++ rest) =
    append_assoc (little_bytes 4 w) (words ws) rest in
    let here : little_number 4 (drop at (front ++ ((little_bytes 4 w ++ words ws) ++ rest))) ≡ w =
    ap (little_number 4) (drop_at front ((little_bytes 4 w ++ words ws) ++ rest) at long ∙ all)
    ∙ little_number-reads_back 4 w (words ws ++ rest) (small 0 (omega arith)) in
    let moved : front ++ ((little_bytes 4 w ++ words ws) ++ rest)
    ≡ (front ++ little_bytes 4 w) ++ (words ws ++ rest) =
    ap (λ b. front ++ b) all ∙ sym (append_assoc front (little_bytes 4 w) (words ws ++ rest)) in
    let long_more : length (front ++ little_bytes 4 w) ≡ at + 4 =
    omega (arith, length-append front (little_bytes 4 w), length-bytes_low_first 0 4 w, long) in
    let behind : words_at (at + 4) (length ws) (front ++ ((little_bytes 4 w ++ words ws) ++ rest)) ≡ ws =
    ap (words_at (at + 4) (length ws)) moved
    ∙ words_back ws (front ++ little_bytes 4 w) rest (at + 4) long_more (λ i lt. small (suc i) (omega arith)) in
    cc

-- One more number is written over the zeros.
pub put_more : (head xs : List ℕ) (i w at : ℕ) (old out : List ℕ) → i < length xs
    → w ≡ get_or xs i 0 → length xs ≡ 8 → length head ≡ 8
    → ((front : List ℕ) (zeros : ℕ) → old ≡ front ++ replicate zeros 0 → length front ≡ at → 4 ≤ zeros
    → out ≡ (front ++ little_bytes 4 w) ++ replicate (zeros - 4) 0)
    → at ≡ 8 + 4 * i → old ≡ (head ++ words (take i xs)) ++ replicate (48 - 4 * i) 0
    → out ≡ (head ++ words (take (i + 1) xs)) ++ replicate (48 - 4 * (i + 1)) 0
put_more head xs i w at old out lt is eight long put place was =
    let front_long : length (head ++ words (take i xs)) ≡ at = omega (
      arith,
      length-append head (words (take i xs)),
      length_words (take i xs),
      length-take-le i xs (omega arith),
      long,
      place,
    ) in
    let now = put (head ++ words (take i xs)) (48 - 4 * i) was front_long (omega arith) in
    let front : (head ++ words (take i xs)) ++ little_bytes 4 w ≡ head ++ words (take (i + 1) xs) =
    append_assoc head (words (take i xs)) (little_bytes 4 w)
    ∙ ap (λ b. head ++ b) (ap (λ v. words (take i xs) ++ little_bytes 4 v) is ∙ sym (words_more xs i lt)) in
    let zeros : 48 - 4 * i - 4 ≡ 48 - 4 * (i + 1) = omega arith in
    now ∙ ap (λ b. b ++ replicate (48 - 4 * i - 4) 0) front
    ∙ ap (λ n. (head ++ words (take (i + 1) xs)) ++ replicate n 0) zeros

-- All numbers are written.
pub put_all : (head xs out : List ℕ) (i : ℕ) → i ≡ 8 → length xs ≡ 8
    → out ≡ (head ++ words (take i xs)) ++ replicate (48 - 4 * i) 0
    → out ≡ head ++ (words xs ++ replicate 16 0)
put_all head xs out i is eight was =
    let whole : take i xs ≡ xs = take_all i xs (omega arith) in
    let zeros : 48 - 4 * i ≡ 16 = omega arith in
    was ∙ ap (λ b. (head ++ words b) ++ replicate (48 - 4 * i) 0) whole
    ∙ ap (λ n. (head ++ words xs) ++ replicate n 0) zeros ∙ append_assoc head (words xs) (replicate 16 0)
