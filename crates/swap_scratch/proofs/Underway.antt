-- The swap of one image between two of its steps.
use Rattle.std.proofs.Common.{◌≡◌, ℕ, ◌+◌, ◌*◌, ◌<◌, ◌≤◌, List, Result, Ok, IsErr, IsErrOf, false, ⊎_elim, arith, refl, sym, ap, subst, ◌∙◌}
use Rattle.flash_model.specs.declared.error.FlashError.{FlashError}
use Rattle.flash_model.specs.declared.error.FlashError.TheVariants.{Off}
use Rattle.flash_model.specs.Chip.{Chip, Ends, IsUncut}
use Rattle.flash_model.proofs.Ending.{asleep_trans, at_error, ends_after, ends_well, uncut_refl, uncut_trans}
use Rattle.sector_map.specs.declared.layout.SectorMap.{SectorMap}
use Rattle.sector_map.specs.declared.layout.Side.{Side}
use Rattle.sector_map.specs.Map.{HasImage, IsLaidOut, Keeps}
use Rattle.sector_map.specs.Part.{swap_one}
use Rattle.sector_map.proofs.Parts.{keeps_refl, keeps_trans, laid_out_kept}
use Rattle.trailer.proofs.FailedCalls.{refuses_failed}
use Rattle.trailer.specs.Status.{status_count_of}
use Rattle.swap_scratch.specs.Used.{steps_of, used_of}
use Rattle.swap_scratch.specs.Place.{IsImagePlace, KeepsRest}
use Rattle.swap_scratch.specs.Steps.{AsksForSteps, SwapsImage, TakesStep}
use Rattle.swap_scratch.specs.Swap.{IsAllCounted}
use Rattle.swap_scratch.proofs.Asking.{asks_more, asks_next, asks_none, asks_wider}
use Rattle.swap_scratch.proofs.Sizes.{used_kept}
use Rattle.swap_scratch.proofs.Taking.{rest_refl, rest_trans}

-- A call that swaps this number of sectors has reached this status.
pub record IsUnderway (map : SectorMap) (image : ℕ) (side : Side) (sectors status : ℕ) (old now : Chip)
    : Type 0 where
  pub laid_out : IsLaidOut map now
  pub used : sectors ≡ used_of map now side image
  pub steps : 3 * sectors ≡ steps_of map old side image
  pub count : status ≡ status_count_of map now image side
  pub outside : Keeps map (swap_one image side) old now
  pub rest : KeepsRest map side old now
  pub idle : IsAllCounted map old side image → now ≡ old
  pub place : (x y : List ℕ) (c : ℕ) → IsImagePlace map old side image x y c
      → (c ≤ status) × IsImagePlace map now side image x y status
  pub erases : (x y : List ℕ) (c : ℕ) → IsImagePlace map old side image x y c
      → now.erases + c ≡ old.erases + status
  pub forward : status_count_of map old image side ≤ status
  pub journal : AsksForSteps map (status_count_of map old image side) status old now
  pub uncut : IsUncut old now
  pub asleep : old.is_on ≡ false → now ≡ old

-- The call begins at the swap's place.
pub first_status : (map : SectorMap) (image : ℕ) (side : Side) (sectors status : ℕ) (old : Chip)
    → IsLaidOut map old → sectors ≡ used_of map old side image → status ≡ status_count_of map old image side
    → IsUnderway map image side sectors status old old
first_status map image side sectors status old laid used count = record {
  laid_out = laid;
  used = used;
  steps = ap (λ n. 3 * n) used;
  count = count;
  outside = keeps_refl _ _ _;
  rest = rest_refl _ _ _;
  idle = λ done. refl;
  place = λ x y c was. (
    omega (arith, was.counted.is, count),
    subst (λ n. IsImagePlace map old side image x y n) (sym was.counted.is ∙ sym count) was,
  );
  erases = λ x y c was. omega (arith, was.counted.is, count);
  forward = omega (arith, count);
  journal = subst (λ n. AsksForSteps map (status_count_of map old image side) n old old) (sym count)
      (asks_none map old (status_count_of map old image side));
  uncut = uncut_refl _;
  asleep = λ off. refl;
}

module _ (map : SectorMap) (image : ℕ) (side : Side) (sectors status : ℕ) (old now new : Chip) {T : Type 0}
    {step : Result T FlashError} (has : HasImage map image old)
    (kept : IsUnderway map image side sectors status old now) (left : status < 3 * sectors)
    (taken : TakesStep map image side status now new step)
  where
    -- A step is left, so not all were counted at first.
    not_all_counted : IsAllCounted map old side image → ⊥
    not_all_counted done =
        let same = kept.idle done in
        let counts : status_count_of map now image side ≡ status_count_of map old image side =
        ap (λ chip. status_count_of map chip image side) same in
        omega (arith, done, counts, kept.steps, kept.count, left)

    outside_on : Keeps map (swap_one image side) old new
    outside_on = keeps_trans _ _ _ _ _ kept.outside taken.outside

    rest_on : KeepsRest map side old new
    rest_on = rest_trans _ _ _ _ _ has.laid_out kept.laid_out kept.rest taken.rest

    -- The swap is at its place before the step, or at a later one.
    resumes_on : (x y : List ℕ) (c : ℕ) → IsImagePlace map old side image x y c
        → (d : ℕ) × (c ≤ d) × IsImagePlace map new side image x y d
    resumes_on x y c was =
        let before = kept.place x y c was in
        ⊎_elim
        (λ (at : IsImagePlace map new side image x y status). (status, before.0, at))
        (λ (at : IsImagePlace map new side image x y (status + 1)). (status + 1, omega (arith, before.0), at))
        (taken.resumes x y before.1)

    -- The call ends after a step that failed, or if the next status couldn't be read.
    pub ends_in_step : {U : Type 0} (result : Result U FlashError) → IsErr result → Ends result now new
        → SwapsImage map image side old new result
    ends_in_step result error ends =
        let ends_so = ends_after result old now new kept.uncut kept.asleep ends in
        record {
          outside = outside_on;
          rest = rest_on;
          idle = λ done. absurd (not_all_counted done);
          resumes = resumes_on;
          swapped = at_error _ result error;
          counted = at_error _ result error;
          forward = omega (arith, kept.forward, taken.forward);
          erases = at_error _ result error;
          journal = asks_more map old now new _ status _ kept.journal taken.journal taken.forward;
          journal_ok = at_error _ result error;
          off = refuses_failed result old new error ends_so;
          ends = ends_so;
        }

-- A step that was taken leads to the next status.
pub next_status : {T : Type 0} (map : SectorMap) (image : ℕ) (side : Side) (sectors status count : ℕ)
    (old now new : Chip) (value : T) → HasImage map image old → IsUnderway map image side sectors status old now
    → status < 3 * sectors → TakesStep map image side status now new (Ok value)
    → count ≡ status_count_of map new image side → IsUnderway map image side sectors count old new
next_status map image side sectors status count old now new value has kept left taken is =
    let laid = laid_out_kept _ _ _ _ kept.laid_out taken.outside in
    record {
      laid_out = laid;
      used = kept.used ∙ sym (used_kept _ _ _ _ image kept.laid_out laid has.there taken.rest);
      steps = kept.steps;
      count = is;
      outside = outside_on _ _ _ _ _ _ _ _ has kept left taken;
      rest = rest_on _ _ _ _ _ _ _ _ has kept left taken;
      idle = λ done. absurd (not_all_counted _ _ _ _ _ _ _ _ has kept left taken done);
      place = λ x y c was.
          let before = kept.place x y c was in
          let at = taken.taken x y before.1 in
          let one : status + 1 ≡ count = sym at.counted.is ∙ sym is in (
            omega (arith, before.0, one),
            subst (λ n. IsImagePlace map new side image x y n) one at,
          );
      erases = λ x y c was.
          let at = taken.taken x y (kept.place x y c was).1 in
          let one : status + 1 ≡ count = sym at.counted.is ∙ sym is in
          omega (arith, kept.erases x y c was, taken.erases, one);
      forward = omega (arith, kept.forward, taken.counted, is);
      journal = asks_next map old now new _ status count kept.journal taken.journal (omega (arith, taken.counted, is));
      uncut = uncut_trans _ _ _ kept.uncut taken.ends.uncut;
      asleep = asleep_trans _ _ _ kept.uncut kept.asleep taken.ends.asleep;
    }

-- At the last status the call ends.
pub ends_at_last : {T : Type 0} (map : SectorMap) (image : ℕ) (side : Side) (sectors status : ℕ)
    (old now : Chip) (value : T) → IsUnderway map image side sectors status old now → 3 * sectors ≤ status
    → (old.is_on ≡ false → IsErrOf (Ok value) Off) → SwapsImage map image side old now (Ok value)
ends_at_last map image side sectors status old now value kept all off =
    let steps : steps_of map now side image ≡ 3 * sectors = ap (λ n. 3 * n) (sym kept.used) in
    let asked : AsksForSteps map (status_count_of map old image side) (status_count_of map now image side) old now =
    subst (λ n. AsksForSteps map (status_count_of map old image side) n old now) kept.count kept.journal in
    record {
      outside = kept.outside;
      rest = kept.rest;
      idle = kept.idle;
      resumes = λ x y c was. let at = kept.place x y c was in (status, at.0, at.1);
      swapped = λ x y c was.
          let at = (kept.place x y c was).1 in
          subst (λ n. IsImagePlace map now side image x y n) (omega (arith, at.bound, kept.steps, steps, all)) at;
      counted = omega (arith, steps, kept.count, all);
      forward = omega (arith, kept.forward, kept.count);
      erases = λ x y c was.
          let at = (kept.place x y c was).1 in
          omega (arith, kept.erases x y c was, at.bound, kept.steps, steps, all);
      journal = asks_wider map old now _ _ asked;
      journal_ok = asked;
      off = off;
      ends = ends_well _ _ _ kept.uncut kept.asleep;
    }
