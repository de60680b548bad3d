-- Laws of reading an input up to a limit.
use Rattle.std.proofs.Common.{◌≡◌, ℕ, ◌+◌, ◌<◌, ◌≤◌, List, [], ◌++◌, Option, None, Some, IfSome, ap, arith, drop, length, option_map, subst, sym, take, ◌∙◌}
use Rattle.std.proofs.lemmas.List.{append_assoc, length-append, length-take, take-append-drop, take_all, take_at}
use Rattle.host.specs.Input.{IsKnownAs}
use Rattle.system_host.specs.Passing.{BeginsWith, Passes}

-- If fewer bytes than the limit were read into an empty list, they are the complete input.
pub IsKnownAs-below : (held : Option (List ℕ)) (limit : ℕ) (start bytes : List ℕ) → start ≡ []
    → IfSome (option_map (take limit) held) (λ xs. bytes ≡ start ++ xs) → length bytes < limit
    → IsKnownAs held bytes
IsKnownAs-below None limit start bytes none read few = tt
IsKnownAs-below (Some xs) limit start bytes none read few =
    let same : bytes ≡ take limit xs = subst (λ s. bytes ≡ s ++ take limit xs) none read in
    let short : length (take limit xs) < limit = subst (λ b. length b < limit) same few in
    let all : length xs ≤ limit = omega (arith, short, length-take limit xs) in
    same ∙ take_all limit xs all

-- A list that is filled completely has its old length.
pub length-filled : (new old : List ℕ) (n : ℕ) → length new ≡ n
    → length (take n (new ++ drop (length new) old)) ≡ n
length-filled new old n same = ap length (take_at new (drop (length new) old) n same) ∙ same

-- The bytes that were read into an empty list up to a limit are a prefix of the input.
pub BeginsWith-read : (held : Option (List ℕ)) (limit : ℕ) (start bytes : List ℕ) → start ≡ []
    → IfSome (option_map (take limit) held) (λ xs. bytes ≡ start ++ xs) → BeginsWith held bytes
BeginsWith-read None limit start bytes none read = tt
BeginsWith-read (Some xs) limit start bytes none read =
    let same : bytes ≡ take limit xs = subst (λ s. bytes ≡ s ++ take limit xs) none read in
    (drop limit xs, sym (take-append-drop limit xs) ∙ ap (λ b. b ++ drop limit xs) (sym same))

-- Passing over `count` bytes and then a block of `size` bytes passes over their sum.
pub Passes-more : (old mid new : Option (List ℕ)) (count size all : ℕ) → all ≡ count + size
    → Passes old mid count → Passes mid new size → Passes old new all
Passes-more None mid new count size all sum (bytes, many, gone) (block, long, more) =
    (bytes ++ block, length-append bytes block ∙ omega (arith, sum, long, many), tt)
Passes-more (Some xs) None new count size all sum (bytes, many, gone) (block, long, more) = absurd gone
Passes-more (Some xs) (Some ys) None count size all sum (bytes, many, gone) (block, long, more) = absurd more
Passes-more (Some xs) (Some ys) (Some zs) count size all sum (bytes, many, gone) (block, long, more) = (
  bytes ++ block,
  length-append bytes block ∙ omega (arith, sum, long, many),
  gone ∙ ap (λ l. bytes ++ l) more ∙ sym (append_assoc bytes block zs),
)
