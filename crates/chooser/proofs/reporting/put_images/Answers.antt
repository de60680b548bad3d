use Rattle.std.proofs.Common.{◌≡◌, ℕ, ◌+◌, ◌<◌, List, [], ◌∷◌, ◌++◌, length, get_or, map, take, add-zero, sym, ap, ◌∙◌, arith}
use Rattle.std.specs.List.{enumerate_from}
use Rattle.std.proofs.lemmas.List.{length-take-le, map-append, take_more}
use Rattle.chooser.specs.Reported.{reported_image}
use Rattle.chooser.proofs.reporting.put_images.Goals as goal

-- One more element has the next number.
enumerate_from-more : {X : Type 0} (n : ℕ) (xs : List X) (x : X)
    → enumerate_from n (xs ++ x ∷ []) ≡ enumerate_from n xs ++ (n + length xs, x) ∷ []
enumerate_from-more n [] x = ap (λ m. (m, x) ∷ []) (sym (add-zero n))
enumerate_from-more n (y ∷ ys) x =
    let same : (n + 1) + length ys ≡ n + length (y ∷ ys) = omega arith in
    ap (λ zs. (n, y) ∷ zs)
    (enumerate_from-more (n + 1) ys x ∙ ap (λ m. enumerate_from (n + 1) ys ++ (m, x) ∷ []) same)

-- Mapping the numbered elements so far and one more.
map-numbered_more : {X Y : Type 0} (h : ℕ × X → Y) (xs : List X) (i : ℕ) (x : X) → i < length xs
    → x ≡ get_or xs i x
    → map h (enumerate_from 0 (take (i + 1) xs)) ≡ map h (enumerate_from 0 (take i xs)) ++ h (i, x) ∷ []
map-numbered_more h xs i x within is =
    let before = enumerate_from 0 (take i xs) in
    let place : 0 + length (take i xs) ≡ i = omega (arith, length-take-le i xs (omega arith)) in
    ap (λ ys. map h (enumerate_from 0 ys)) (take_more xs i x within)
    ∙ ap (map h) (enumerate_from-more 0 (take i xs) (get_or xs i x))
    ∙ map-append h before ((0 + length (take i xs), get_or xs i x) ∷ [])
    ∙ ap (λ k. map h before ++ h (k, get_or xs i x) ∷ []) place
    ∙ ap (λ y. map h before ++ h (i, y) ∷ []) (sym is)

pub loop-number-preserved : goal.loop-number-preserved
loop-number-preserved c =
    let same = c.deref-image-items.ensures.0 in
    let more = map-numbered_more (reported_image c.args.refusals.now) c.args.table.now.images.items
    c.loop-number.number c.image-item.result (rw same at c.loop-number-test.true) (rw same at c.image-item.is) in
    record {
      images =
          rw (c.push.ensures.items, c.loop-number.invariant.images, c.reported_image.ensures)
          (sym more);
      count = omega (arith, c.push.ensures.len, c.loop-number.invariant.count);
    }
