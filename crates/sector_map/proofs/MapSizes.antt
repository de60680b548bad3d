-- Lemmas about the sizes that make a map.
use Rattle.std.proofs.Common.{◌≡◌, ℕ, zero, suc, ◌+◌, ◌*◌, ◌^◌, ◌<◌, ◌≤◌, arith, ⊎_elim, length, slice_index, List, EachIndex, sym, ◌∙◌, subst}
use Rattle.std.proofs.lemmas.Bool.{cases_lt}
use Rattle.std.proofs.lemmas.List.{get_or_past}
use Rattle.sector_map.specs.Sizes.{before, IsSectorSize, AreImages, HoldTrailers, AreAddressed, MakeMap}
use Rattle.sector_map.proofs.Places.{before_none, before_step}

-- The trailers of all images fit, because images without a count have no sectors.
pub trailers_of_all : (size : ℕ) (counts : List ℕ) → 56 ≤ size
    → EachIndex counts (λ k. 24 * slice_index counts k + 56 ≤ size) → HoldTrailers size counts
trailers_of_all size counts room each i = ⊎_elim (λ (lt : i < length counts). each i lt)
    (λ (le : length counts ≤ i). omega (arith, get_or_past counts i 0 le)) (cases_lt i (length counts))

before_same : (xs ys : List ℕ) (n : ℕ) → ((k : ℕ) → slice_index xs k ≡ slice_index ys k) → before xs n ≡ before ys n
before_same xs ys zero same = before_none xs ∙ sym (before_none ys)
before_same xs ys (suc n) same = omega (arith, before_step xs n, before_step ys n, before_same xs ys n same, same n)

-- A table that begins with the counts makes the same map.
pub of_table : (size n : ℕ) (counts table : List ℕ) → ((k : ℕ) → slice_index table k ≡ slice_index counts k)
    → MakeMap size n counts → MakeMap size n table
of_table size n counts table same map = record {
  sector = map.sector;
  counts = record {
    one = map.counts.one;
    few = map.counts.few;
    some =
        λ i lt. omega (arith, map.counts.some i lt, same i);
  };
  trailers = λ i. omega (arith, map.trailers i, same i);
  addressed = subst (λ b. (2 * b + 4) * size < 2 ^ 32) (sym (before_same table counts n same)) map.addressed;
  lacks = λ i le. same i ∙ map.lacks i le;
}

-- Sizes that pass each check make a map.
pub passed : (size : ℕ) (counts : List ℕ) → AreImages (length counts) counts → HoldTrailers size counts
    → AreAddressed size (length counts) counts
    → IsSectorSize size → MakeMap size (length counts) counts
passed size counts images trailers addressed sector =
    record {
      sector = sector;
      counts = images;
      trailers = trailers;
      addressed = addressed;
      lacks =
          λ i le. get_or_past counts i 0 le;
    }
