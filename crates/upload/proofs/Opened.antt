-- Opening the uploads of the components, one after the other.
use Rattle.std.proofs.Common.{◌≡◌, ◌⊎◌, ℕ, zero, suc, ◌+◌, ◌<◌, ◌==◌, ◌&&◌, Bool, true, false, List, [], ◌∷◌, length, take, get_or, Option, Some, None, refl, sym, ◌∙◌, ap, subst, arith, add-one, ⊎_elim, inl, inr, if◌then◌else◌}
use Rattle.std.specs.Prelude.{All, is_some}
use Rattle.std.proofs.lemmas.Bool.{eq-eqb, eqb-true, false≢true}
use Rattle.std.proofs.lemmas.Option.{none-some}
use Rattle.flash_model.specs.Chip.{Chip}
use Rattle.sector_map.specs.declared.layout.SectorMap.{SectorMap}
use Rattle.sector_map.specs.declared.layout.Side.TheVariants.{Secondary}
use Rattle.sector_map.specs.Part.{Part, Slot, TrailerOf, Scratch, Log, incoming_of, only, same_side}
use Rattle.sector_map.specs.Map.{Keeps}
use Rattle.sector_map.proofs.Parts.{keeps_trans, keeps_wider}
use Rattle.trailer.specs.Fields.{erased_fields}
use Rattle.manifest.specs.declared.manifest.Component.{Component}
use Rattle.upload.specs.View.{View, KeepsView}
use Rattle.upload.specs.Steady.{told_by, request_in}
use Rattle.upload.specs.Sessions.{upload_at, IsWith, IsWritten}
use Rattle.upload.specs.Withdrawal.{IsKeptOrGone}
use Rattle.std.specs.Option.{option_or}
use Rattle.machine.specs.Accepted.{latest, is_named}
use Rattle.upload.specs.Accepted.{named_parts, accepted_parts, IsFresh, OpenedAt, IsOpening, IsOpened}
use Rattle.upload.specs.declared.sessions.Upload.{Upload}
use Rattle.upload.proofs.Frames.{others_kept}

if_same : (b : Bool) (x : Component) (o f : Option Component)
    → option_or (if b then Some x else o) f ≡ (if b then Some x else option_or o f)
if_same true x o f = refl
if_same false x o f = refl

-- The last component that names an image, with one component more.
pub latest_more : (cs : List Component) (i : ℕ) (x : Component) (j : ℕ) → i < length cs → x ≡ get_or cs i x
    → latest (take (suc i) cs) j ≡ (if x.image == j then Some x else latest (take i cs) j)
latest_more [] i x j lt is = absurd (omega arith)
latest_more (c ∷ cs) zero x j lt is = ap (λ (d : Component). if d.image == j then Some d else None) (sym is)
latest_more (c ∷ cs) (suc i) x j lt is =
    ap (λ o. option_or o (if c.image == j then Some c else None)) (latest_more cs i x j (omega arith) is)
    ∙ if_same (x.image == j) x (latest (take i cs) j) (if c.image == j then Some c else None)

-- A request is unchanged or withdrawn after two calls, if it is after each.
either_trans : (old mid new : View) (j : ℕ) → IsKeptOrGone old mid j → IsKeptOrGone mid new j → IsKeptOrGone old new j
either_trans old mid new j first second = ⊎_elim
    (λ (same : (new.slot j Secondary ≡ mid.slot j Secondary)
    × (new.trailer j Secondary ≡ mid.trailer j Secondary)). ⊎_elim
    (λ (before : (mid.slot j Secondary ≡ old.slot j Secondary)
    × (mid.trailer j Secondary ≡ old.trailer j Secondary)). inl (same.0 ∙ before.0, same.1 ∙ before.1))
    (λ (none : request_in mid j ≡ None). inr
    (ap (λ t. told_by t (new.slot j Secondary)) same.1 ∙ ap
    (λ l. told_by (mid.trailer j Secondary) l) same.0 ∙ none))
    first)
    (λ (none : request_in new j ≡ None). inr none)
    second

pub opening_none : (w : View) (named : ℕ → Option Component) → IsOpening w w named
opening_none w named = record { images = refl; log = refl; primary = λ j. refl; slots = λ j e. refl; trailers = λ j e. refl; long = λ j. refl; either = λ j. inl (refl, refl) }

-- Comparing two image numbers is symmetric.
eqb_sym : (i j : ℕ) (b : Bool) → (j == i) ≡ b → (i == j) ≡ b
eqb_sym i j true e = eq-eqb i j (sym (eqb-true j i e))
eqb_sym i j false e = ⊎_elim (λ (yes : (i == j) ≡ true). absurd
    (false≢true (sym e ∙ eq-eqb j i (sym (eqb-true i j yes))))) (λ no. no) (either_bool (i == j)) where
      either_bool : (b : Bool) → (b ≡ true) ⊎ (b ≡ false)
      either_bool true = inl refl
      either_bool false = inr refl

-- One image is opened, completely or in part.
module _ (old mid new : View) (named after : ℕ → Option Component) (x : Component) (next : (j : ℕ)
    → after j ≡ (if x.image == j then Some x else named j))
    (keeps : KeepsView (incoming_of x.image) mid new)
    (long : length (new.slot x.image Secondary) ≡ length (mid.slot x.image Secondary))
    (either : IsKeptOrGone mid new x.image) where
  -- If an image isn't named, it isn't this one, and it wasn't named before.
  other : (j : ℕ) → after j ≡ None → ((j == x.image) ≡ false) × (named j ≡ None)
  other j none = by_case (x.image == j) refl (sym (next j) ∙ none) where
    by_case : (b : Bool) → (x.image == j) ≡ b → (if b then Some x else named j) ≡ None
        → ((j == x.image) ≡ false) × (named j ≡ None)
    by_case true same e = absurd (none-some x (sym e))
    by_case false same e = (eqb_sym j x.image false same, e)

  each_long : (j : ℕ) (b : Bool) → (j == x.image) ≡ b → length (new.slot j Secondary) ≡ length (mid.slot j Secondary)
  each_long j true same = subst (λ k. length (new.slot k Secondary) ≡ length (mid.slot k Secondary))
      (sym (eqb-true j x.image same)) long
  each_long j false same = ap length ((others_kept x.image mid new keeps).slots j same)

  each_either : (j : ℕ) (b : Bool) → (j == x.image) ≡ b → IsKeptOrGone mid new j
  each_either j true same = subst (λ k. IsKeptOrGone mid new k) (sym (eqb-true j x.image same)) either
  each_either j false same = inl (
    (others_kept x.image mid new keeps).slots j same,
    (others_kept x.image mid new keeps).trailers j same,
  )

  pub opening_more : IsOpening old mid named → IsOpening old new after
  opening_more was = let kept = others_kept x.image mid new keeps in record {
    images = kept.images ∙ was.images;
    log = kept.log ∙ was.log;
    primary = λ j. kept.primary j ∙ was.primary j;
    slots = λ j none. let o = other j none in kept.slots j o.0 ∙ was.slots j o.1;
    trailers = λ j none. let o = other j none in kept.trailers j o.0 ∙ was.trailers j o.1;
    long = λ j. each_long j (j == x.image) refl ∙ was.long j;
    either = λ j. either_trans old mid new j (was.either j) (each_either j (j == x.image) refl);
  }

  module _ (told tmid tnew : List (Option Upload)) (trailer : new.trailer x.image Secondary ≡ erased_fields)
      (slot : IsWritten (new.slot x.image Secondary) []) (u : Upload) (fresh : IsFresh x u)
      (now : IsWith x.image (Some u) tmid tnew) where
    pub opened_more : IsOpened old mid told tmid named → IsOpened old new told tnew after
    opened_more was = record {
      opening = opening_more was.opening;
      empty = λ j c is. empty_at j c (x.image == j) refl (sym (next j) ∙ is);
      table = λ j. table_at j (x.image == j) refl (next j);
    } where
      empty_at : (j : ℕ) (c : Component) (b : Bool) → (x.image == j) ≡ b
          → (if b then Some x else named j) ≡ Some c → (new.trailer j Secondary ≡ erased_fields)
          × IsWritten (new.slot j Secondary) []
      empty_at j c true same is = subst (λ k. (new.trailer k Secondary ≡ erased_fields)
          × IsWritten (new.slot k Secondary) []) (eqb-true x.image j same) (trailer, slot)
      empty_at j c false same is =
          let before = was.empty j c is in
          let not_here = eqb_sym j x.image false same in (
            (others_kept x.image mid new keeps).trailers j not_here ∙ before.0,
            subst (λ l. IsWritten l [])
                (sym ((others_kept x.image mid new keeps).slots j not_here)) before.1,
          )

      table_at : (j : ℕ) (b : Bool) → (x.image == j) ≡ b → after j ≡ (if b then Some x else named j)
          → OpenedAt (upload_at tnew j) (upload_at told j) (after j)
      table_at j true same is = subst (λ o. OpenedAt (upload_at tnew j) (upload_at told j) o) (sym is)
          (u, now j ∙ ap (λ b. if b then Some u else upload_at tmid j) (eqb_sym j x.image true same), fresh)
      table_at j false same is = subst (λ o. OpenedAt (upload_at tnew j) (upload_at told j) o) (sym is)
          (subst (λ o. OpenedAt o (upload_at told j) (named j))
          (sym (now j ∙ ap (λ b. if b then Some u else upload_at tmid j) (eqb_sym j x.image false same)))
          (was.table j))

or_none : (o f : Option Component) → option_or o f ≡ None → (o ≡ None) × (f ≡ None)
or_none None f e = (refl, e)
or_none (Some c) f e = absurd (none-some c (sym e))

-- If no component names an image, none of the first `k` does.
pub latest_less : (cs : List Component) (k j : ℕ) → latest cs j ≡ None → latest (take k cs) j ≡ None
latest_less [] zero j e = refl
latest_less [] (suc k) j e = refl
latest_less (c ∷ cs) zero j e = refl
latest_less (c ∷ cs) (suc k) j e =
    let parts = or_none (latest cs j) (if c.image == j then Some c else None) e in
    ap (λ o. option_or o (if c.image == j then Some c else None)) (latest_less cs k j parts.0) ∙ parts.1

pub opening_wider : (old new : View) (named more : ℕ → Option Component)
    → ((j : ℕ) → more j ≡ None → named j ≡ None) → IsOpening old new named → IsOpening old new more
opening_wider old new named more wider was = record {
  images = was.images;
  log = was.log;
  primary = was.primary;
  slots = λ j e. was.slots j (wider j e);
  trailers = λ j e. was.trailers j (wider j e);
  long = was.long;
  either = was.either;
}

pub opened_none : (w : View) (told : List (Option Upload)) (cs : List Component)
    → IsOpened w w told told (latest (take 0 cs))
opened_none w told cs = record {
  opening = opening_none w (latest (take 0 cs));
  empty = λ j c e. absurd
      (none-some c (sym (latest_zero cs j) ∙ e));
  table = λ j. subst
      (λ o. OpenedAt (upload_at told j) (upload_at told j) o) (sym (latest_zero cs j)) refl;
} where
  latest_zero : (cs : List Component) (j : ℕ) → latest (take 0 cs) j ≡ None
  latest_zero [] j = refl
  latest_zero (c ∷ cs) j = refl

get_or_any : (cs : List Component) (i : ℕ) (d e : Component) → i < length cs → get_or cs i d ≡ get_or cs i e
get_or_any [] i d e lt = absurd (omega arith)
get_or_any (c ∷ cs) zero d e lt = refl
get_or_any (c ∷ cs) (suc i) d e lt = get_or_any cs i d e (omega arith)

pub latest_at : (cs : List Component) (i : ℕ) (d : Component) → i < length cs → (j : ℕ)
    → latest (take (i + 1) cs) j ≡ (if (get_or cs i d).image == j then Some (get_or cs i d) else latest (take i cs) j)
latest_at cs i d lt j = ap (λ n. latest (take n cs) j) (add-one i) ∙ latest_more cs i (get_or cs i d) j lt
    (get_or_any cs i d (get_or cs i d) lt)

-- What holds for all components holds for the last one that names an image.
pub named_has : (P : Component → Type 0) (cs : List Component) (i : ℕ) (c : Component) → All P cs
    → latest cs i ≡ Some c
    → P c × (c.image ≡ i)
named_has P [] i c all is = absurd (none-some c is)
named_has P (d ∷ cs) i c all is =
    by_rest (latest cs i) refl is (λ also. named_has P cs i c (λ k y lt. all (suc k) y (omega arith)) also) where
      one : (a b : Component) → Some a ≡ Some b → a ≡ b
      one a b e = cc

      here : (b : Bool) → (d.image == i) ≡ b → (if b then Some d else None) ≡ Some c → P c × (c.image ≡ i)
      here true same e = subst (λ (x : Component). P x × (x.image ≡ i)) (one d c e)
          (all 0 d (omega arith), eqb-true d.image i same)
      here false same e = absurd (none-some c e)

      by_rest : (o : Option Component) → latest cs i ≡ o → option_or o (if d.image == i then Some d else None) ≡ Some c
          → (latest cs i ≡ Some c → P c × (c.image ≡ i)) → P c × (c.image ≡ i)
      by_rest None rest e again = here (d.image == i) refl e
      by_rest (Some x) rest e again = again (rest ∙ e)

-- ---- the parts that are written

-- If `a` implies `b` and `b && c` is false, so is `a && c`.
less_false : (a b c : Bool) → (a ≡ true → b ≡ true) → (b && c) ≡ false → (a && c) ≡ false
less_false true true c le e = e
less_false true false c le e = absurd (false≢true (le refl))
less_false false b c le e = refl

some_before : (cs : List Component) (k j : ℕ) → is_named (take k cs) j ≡ true → is_named cs j ≡ true
some_before cs k j before = by_case (latest cs j) refl where
  by_case : (o : Option Component) → latest cs j ≡ o → is_some o ≡ true
  by_case (Some c) e = refl
  by_case None e = absurd (false≢true (sym (ap is_some (latest_less cs k j e)) ∙ before))

-- The parts of the first components are parts of all.
pub first_parts : (cs : List Component) (k : ℕ) (part : Part) → named_parts cs part ≡ false
    → named_parts (take k cs) part ≡ false
first_parts cs k (Slot i side) e =
    less_false (is_named (take k cs) i) (is_named cs i) (same_side side Secondary) (some_before cs k i) e
first_parts cs k (TrailerOf i side) e =
    less_false (is_named (take k cs) i) (is_named cs i) (same_side side Secondary) (some_before cs k i) e
first_parts cs k Scratch e = refl
first_parts cs k Log e = refl

module _ (cs ds : List Component) (x : Component)
    (next : (j : ℕ) → latest ds j ≡ (if x.image == j then Some x else latest cs j)) where
  named_still : (i : ℕ) → is_named cs i ≡ true → is_named ds i ≡ true
  named_still i before = by_case (x.image == i) refl where
    by_case : (b : Bool) → (x.image == i) ≡ b → is_named ds i ≡ true
    by_case true e = ap is_some (next i ∙ ap (λ b. if b then Some x else latest cs i) e)
    by_case false e = ap is_some (next i ∙ ap (λ b. if b then Some x else latest cs i) e) ∙ before

  named_now : (i : ℕ) → (i == x.image) ≡ true → is_named ds i ≡ true
  named_now i same = ap is_some (next i ∙ ap (λ b. if b then Some x else latest cs i)
      (eq-eqb x.image i (sym (eqb-true i x.image same))))

  before_parts : (part : Part) → named_parts ds part ≡ false → named_parts cs part ≡ false
  before_parts (Slot i side) e = less_false (is_named cs i) (is_named ds i) (same_side side Secondary)
      (named_still i) e
  before_parts (TrailerOf i side) e =
      less_false (is_named cs i) (is_named ds i) (same_side side Secondary) (named_still i) e
  before_parts Scratch e = refl
  before_parts Log e = refl

  own_parts : (part : Part) → named_parts ds part ≡ false → incoming_of x.image part ≡ false
  own_parts (Slot i side) e = less_false (i == x.image) (is_named ds i) (same_side side Secondary) (named_now i) e
  own_parts (TrailerOf i side) e = less_false (i == x.image) (is_named ds i) (same_side side Secondary)
      (named_now i) e
  own_parts Scratch e = refl
  own_parts Log e = refl

  -- One component more adds the parts of its own image.
  pub keeps_more : (map : SectorMap) (old mid new : Chip) → Keeps map (named_parts cs) old mid
      → Keeps map (incoming_of x.image) mid new → Keeps map (named_parts ds) old new
  keeps_more map old mid new first second = keeps_trans map (named_parts ds) old mid new
      (keeps_wider map (named_parts cs) (named_parts ds) old mid before_parts first)
      (keeps_wider map (incoming_of x.image) (named_parts ds) mid new own_parts second)

-- The parts of the named images are among the accepted parts, which also have the log.
pub parts_and_log : (cs : List Component) (part : Part) → accepted_parts cs part ≡ false → named_parts cs part ≡ false
parts_and_log cs (Slot i side) e = e
parts_and_log cs (TrailerOf i side) e = e
parts_and_log cs Scratch e = refl
parts_and_log cs Log e = absurd (false≢true (sym e))

pub log_of_accepted : (cs : List Component) (part : Part) → accepted_parts cs part ≡ false → only Log part ≡ false
log_of_accepted cs (Slot i side) e = refl
log_of_accepted cs (TrailerOf i side) e = refl
log_of_accepted cs Scratch e = refl
log_of_accepted cs Log e = e
