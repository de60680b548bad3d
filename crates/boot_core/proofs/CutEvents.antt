-- Lemmas on which events of a run were cut: counts of armed writes, and runs that are extended.
use Rattle.std.proofs.Common.{◌≡◌, ◌⊎◌, ℕ, zero, suc, ◌+◌, ◌<◌, ◌≤◌, ◌==◌, Bool, true, false, if◌then◌else◌, List, [], ◌∷◌, ◌++◌, ap, arith, inl, inr, refl, subst, sym, ⊎_elim, ◌∙◌}
use Rattle.std.specs.List.{list_any}
use Rattle.std.proofs.lemmas.Bool.{cases_lt}
use Rattle.flash_model.specs.Chip.{Chip, IsCutAsArmed, reached}
use Rattle.flash_contents.specs.Holding.{DeviceView}
use Rattle.machine.specs.Intake.{Setup}
use Rattle.flash_contents.specs.Passing.{StepsTo}
use Rattle.machine.specs.Steps.{DeviceEvent, cut_of, cuts_in}
use Rattle.machine.specs.declared.reply.Reply.{Reply}
use Rattle.boot_core.specs.CutEvents.{CutsEach, IsCutAsDue, IsCutByWrite, StepsEach}

-- ---- counts of armed writes

abbrev is_among : List ℕ → ℕ → Bool
is_among numbers n = list_any (λ number. number == n) numbers

either : (yes : Bool) → (yes ≡ true) ⊎ (yes ≡ false)
either true = inl refl
either false = inr refl

reached-armed : (numbers : List ℕ) (n : ℕ) → is_among numbers (suc n) ≡ true
    → reached numbers (suc n) ≡ reached numbers n + 1
reached-armed numbers n is = ap (λ yes. if yes then reached numbers n + 1 else reached numbers n) is

reached-unarmed : (numbers : List ℕ) (n : ℕ) → is_among numbers (suc n) ≡ false
    → reached numbers (suc n) ≡ reached numbers n
reached-unarmed numbers n is = ap (λ yes. if yes then reached numbers n + 1 else reached numbers n) is

reached-next : (numbers : List ℕ) (n : ℕ) → reached numbers n ≤ reached numbers (suc n)
reached-next numbers n = ⊎_elim
    (λ (yes : is_among numbers (suc n) ≡ true). let one = reached-armed numbers n yes in omega (arith, one))
    (λ (no : is_among numbers (suc n) ≡ false). let same = reached-unarmed numbers n no in omega (arith, same))
    (either (is_among numbers (suc n)))

-- The number of armed writes that were reached never falls.
reached-more : (numbers : List ℕ) (before after : ℕ) → before ≤ after → reached numbers before ≤ reached numbers after
reached-more numbers before zero less =
    let none : before ≡ 0 = omega (arith, less) in
    let same = ap (λ n. reached numbers n) none in omega (arith, same)
reached-more numbers before (suc m) less = ⊎_elim
    (λ (below : before < suc m). let rest = reached-more numbers before m (omega (arith, below)) in
    let next = reached-next numbers m in omega (arith, rest, next))
    (λ (last : suc m ≤ before). let is : before ≡ suc m = omega (arith, last, less) in
    let same = ap (λ n. reached numbers n) is in omega (arith, same))
    (cases_lt before (suc m))

reached-below : (numbers : List ℕ) (before after : ℕ) → reached numbers after ≡ reached numbers before + 1 → before < after
reached-below numbers before after one = ⊎_elim
    (λ (below : before < after). below)
    (λ (over : after ≤ before). let less = reached-more numbers after before over in absurd (omega (arith, one, less)))
    (cases_lt before after)

-- If one more armed write was reached, it lies between the two counts of writes.
one_more : (numbers : List ℕ) (before after : ℕ) → reached numbers after ≡ reached numbers before + 1
    → (n : ℕ) × (before < n) × (n ≤ after) × (is_among numbers n ≡ true)
one_more numbers before zero one = absurd (omega (arith, one))
one_more numbers before (suc m) one = ⊎_elim
    (λ (yes : is_among numbers (suc m) ≡ true). (suc m, reached-below numbers before (suc m) one, omega arith, yes))
    (λ (no : is_among numbers (suc m) ≡ false).
    let rest = one_more numbers before m (sym (reached-unarmed numbers m no) ∙ one) in
    (rest.0, rest.1, omega (arith, rest.2), rest.3))
    (either (is_among numbers (suc m)))

-- If no armed write was reached, none lies between the two counts of writes.
no_more : (numbers : List ℕ) (before after : ℕ) → reached numbers after ≡ reached numbers before
    → (n : ℕ) → before < n → n ≤ after → is_among numbers n ≡ false
no_more numbers before after same zero low high = absurd (omega (arith, low))
no_more numbers before after same (suc m) low high = ⊎_elim
    (λ (yes : is_among numbers (suc m) ≡ true).
    let armed = reached-armed numbers m yes in
    let first = reached-more numbers before m (omega (arith, low)) in
    let last = reached-more numbers (suc m) after high in
    absurd (omega (arith, armed, first, last, same)))
    (λ (no : is_among numbers (suc m) ≡ false). no)
    (either (is_among numbers (suc m)))

-- ---- one event

-- On a flash without faults, a cut as due is a cut by an armed write.
pub cut_by_due : (old new : Chip) (reply : Reply) → old.faults ≡ 0 → new.faults ≡ 0 → IsCutAsDue old reply new
    → IsCutByWrite old reply new
cut_by_due old new reply sound still due =
    let numbers = old.fixed.numbers in
    let same = ap (λ f. reached f.numbers new.writes) due.fixed in
    let counted : reached numbers new.writes ≡ reached numbers old.writes + cut_of reply =
    omega (arith, due.counted, sound, still, same) in
    record {
      counted = counted;
      which = λ is. one_more numbers old.writes new.writes
          (counted ∙ ap (λ r. reached numbers old.writes + cut_of r) is);
      none = λ zero. no_more numbers old.writes new.writes (omega (arith, counted, zero));
      fixed = due.fixed;
    }

-- The law of a flash before and after an event gives that it was cut as due.
cut_as_due : (old new : Chip) (reply : Reply) → IsCutAsArmed old → IsCutAsArmed new
    → new.cuts ≡ old.cuts + cut_of reply → new.fixed ≡ old.fixed → IsCutAsDue old reply new
cut_as_due old new reply before after counted fixed = record {
  counted = omega (arith, before, after, counted);
  fixed = fixed;
}

-- The same, by the law of the flash that was borrowed before and after the event.
pub due_by_law : {F : Type 0} (chip : F → Chip) → ((flash : F) → IsCutAsArmed (chip flash)) → (first last : F)
    (old new : Chip) (reply : Reply) → chip first ≡ old → chip last ≡ new → new.cuts ≡ old.cuts + cut_of reply
    → new.fixed ≡ old.fixed → IsCutAsDue old reply new
due_by_law chip law first last old new reply before after =
    cut_as_due old new reply (subst IsCutAsArmed before (law first)) (subst IsCutAsArmed after (law last))

-- Power that is restored afterwards changes none of this.
pub due_powered : (old mid new : Chip) (reply : Reply) → new ≡ record mid { is_on = true }
    → IsCutAsDue old reply mid → IsCutAsDue old reply new
due_powered old mid new reply is due = subst (λ chip. IsCutAsDue old reply chip) (sym is) (record {
  counted = due.counted;
  fixed = due.fixed;
})

-- ---- runs

pub steps_join : (Holds : Chip → Reply → Chip → Type 0) (setup : Setup) (old mid new : DeviceView)
    (events more : List DeviceEvent) (replies answered : List Reply) → StepsEach Holds setup old events replies mid
    → StepsEach Holds setup mid more answered new → StepsEach Holds setup old (events ++ more) (replies ++ answered) new
steps_join Holds setup old mid new [] more [] answered first last =
    subst (λ here. StepsEach Holds setup here more answered new) first last
steps_join Holds setup old mid new [] more (reply ∷ replies) answered first last = absurd first
steps_join Holds setup old mid new (event ∷ events) more [] answered first last = absurd first
steps_join Holds setup old mid new (event ∷ events) more (reply ∷ replies) answered first last = (
  first.0,
  first.1,
  steps_join Holds setup first.0 mid new events more replies answered first.2 last,
)

pub steps_more : (Holds : Chip → Reply → Chip → Type 0) (setup : Setup) (old mid new : DeviceView)
    (events : List DeviceEvent) (replies : List Reply) (event : DeviceEvent) (reply : Reply)
    → StepsEach Holds setup old events replies mid → StepsTo setup mid new event reply
    → Holds mid.flash reply new.flash
    → StepsEach Holds setup old (events ++ event ∷ []) (replies ++ reply ∷ []) new
steps_more Holds setup old mid new events replies event reply first step holds =
    steps_join Holds setup old mid new events (event ∷ []) replies (reply ∷ []) first (new, (step, holds), refl)

-- A loop extends its run by one event.
pub each_on : (Holds : Chip → Reply → Chip → Type 0) (setup here : Setup) (old mid new : DeviceView)
    (events more : List DeviceEvent) (replies answered : List Reply) (event : DeviceEvent) (reply : Reply)
    → here ≡ setup → more ≡ events ++ event ∷ [] → answered ≡ replies ++ reply ∷ []
    → StepsEach Holds setup old events replies mid → StepsTo here mid new event reply
    → Holds mid.flash reply new.flash → StepsEach Holds setup old more answered new
each_on Holds setup here old mid new events more replies answered event reply same is also first step holds =
    subst (λ es. StepsEach Holds setup old es answered new) (sym is)
    (subst (λ rs. StepsEach Holds setup old (events ++ event ∷ []) rs new) (sym also)
    (steps_more Holds setup old mid new events replies event reply first
    (subst (λ s. StepsTo s mid new event reply) same step) holds))

-- The number of Cut replies is the number of armed writes that the flash took.
pub cuts_total : (setup : Setup) (old new : DeviceView) (events : List DeviceEvent) (replies : List Reply)
    → CutsEach setup old events replies new
    → reached old.flash.fixed.numbers new.flash.writes
    ≡ reached old.flash.fixed.numbers old.flash.writes + cuts_in replies
cuts_total setup old new [] [] each =
    let same = ap (λ (here : DeviceView). reached old.flash.fixed.numbers here.flash.writes) each in omega (arith, same)
cuts_total setup old new [] (reply ∷ replies) each = absurd each
cuts_total setup old new (event ∷ events) [] each = absurd each
cuts_total setup old new (event ∷ events) (reply ∷ replies) each =
    let rest = cuts_total setup each.0 new events replies each.2 in
    let one = each.1.1.counted in
    let first = ap (λ f. reached f.numbers each.0.flash.writes) each.1.1.fixed in
    let last = ap (λ f. reached f.numbers new.flash.writes) each.1.1.fixed in
    omega (arith, rest, one, first, last)
