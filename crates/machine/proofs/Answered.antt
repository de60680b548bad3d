-- Each boot of a run that returns a report starts the greatest set.
use Rattle.std.proofs.Common.{◌≡◌, ◌⊎◌, ◌↔◌, ℕ, ◌/◌, ◌%◌, ◌^◌, ◌<◌, Bool, true, false, List, [], ◌∷◌, drop, Some, None}
use Rattle.std.proofs.Common.{refl, sym, ◌∙◌, ap, subst, arith, slice_get, ⊎_elim, inl, inr, zero, suc, if◌then◌else◌}
use Rattle.std.proofs.lemmas.Bool.Decides.{nat_tests}
use Rattle.std.proofs.Math.Nat.{div-one, div-div-eq-div-mul, pow-succ'}
use Rattle.std.proofs.Math.Numerals.{add-one}
use Rattle.std.proofs.Common.{true≢false}
use Rattle.std.proofs.lemmas.Option.{none-some}
use Rattle.machine.specs.declared.event.Event.TheVariants as event
use Rattle.common.specs.Masks.{is_member}
use Rattle.reports.specs.declared.table.Table.{Table}
use Rattle.reports.specs.declared.report.Report.{Report}
use Rattle.reports.specs.Rightness.{taken_in}
use Rattle.machine.specs.Device.{DeviceState, Machine, Trial}
use Rattle.machine.specs.States.{IsConfirmed, IsRaised, IsBegun, left_after, running_after, with_taken, wanted_bytes}
use Rattle.machine.specs.Boots.{Boots, IsDecision, IsOver, IsReadAs, IsReported, IsTaken}
use Rattle.machine.specs.Intake.{Setup}
use Rattle.machine.specs.Steps.{DeviceEvent, IsRun, IsStep}
use Rattle.machine.specs.Headline.{AreCut, DoesSomething, HasFinished, IsBootedAt, IsTriedBy, StartsGreatest}
use Rattle.machine.specs.Headline.{StaysForGood, TakesNone, request_by, running_by}
use Rattle.machine.specs.declared.error.Fault.TheVariants as no
use Rattle.machine.specs.declared.reply.Reply.{Reply}
use Rattle.machine.specs.declared.reply.Reply.TheVariants.{Done, Booted, Reverted, TrialAgain, Refused}

-- A report takes nothing, and the state is unchanged.
abbrev pub IsPlain : DeviceState → Report → Bool → DeviceState → Type 0
IsPlain s report permanent next = ((i : ℕ) → taken_in report i ≡ false) × (permanent ≡ false) × (next ≡ s)

the_one : {X : Type 0} (x y : X) → Some x ≡ Some y → x ≡ y
the_one x y e = cc

-- ---- a mask that isn't empty has an image

below_power : (n : ℕ) → n < 2 ^ n
below_power zero = omega arith
below_power (suc n) = omega (arith, below_power n, pow-succ' 2 n)

no_bits : (k q : ℕ) → q < 2 ^ k → ((i : ℕ) → q / 2 ^ i % 2 ≡ 0) → q ≡ 0
no_bits zero q lt none = omega arith
no_bits (suc k) q lt none =
    let even : q % 2 ≡ 0 = ap (λ x. x % 2) (sym (div-one q)) ∙ none 0 in
    let small : q / 2 < 2 ^ k = omega (arith, pow-succ' 2 k) in
    let half : q / 2 ≡ 0 =
    no_bits k (q / 2) small
    (λ i. ap (λ x. x % 2) (div-div-eq-div-mul q 2 (2 ^ i) ∙ ap (λ p. q / p) (sym (pow-succ' 2 i)))
    ∙ none (suc i)) in
    omega arith

not_member : (mask i : ℕ) → is_member mask i ≡ false → mask / 2 ^ i % 2 ≡ 0
unfolding is_member
not_member mask i clear = grind (arith, nat_tests, clear)

pub no_members : (mask : ℕ) → ((i : ℕ) → is_member mask i ≡ false) → mask ≡ 0
no_members mask none = no_bits mask mask (below_power mask) (λ i. not_member mask i (none i))

-- ---- what a boot starts

module _ (boots : ℕ) (found read : DeviceState) (table : Table) (report : Report)
    (reads : IsReadAs found read) (steady : read.trial ≡ None) (told : IsReported read table report) where
  -- A boot that leaves `next` starts the greatest set.
  starts : (permanent : Bool) (next : DeviceState) → ((i : ℕ) → next.running i ≡ running_by read report i)
      → ((i : ℕ) → next.request i ≡ request_by read report i)
      → next.images ≡ read.images → next.sequence ≡ read.sequence
      → (permanent ≡ true ↔ StaysForGood read report)
      → (permanent ≡ true → (next.trial ≡ None) × IsRaised read.images next.running read.floors next.floors)
      → (permanent ≡ false → next.floors ≡ read.floors) → (TakesNone report → next.trial ≡ None)
      → (permanent ≡ false → (TakesNone report → ⊥)
      → (trial : Trial) × (next.trial ≡ Some trial) × IsTriedBy boots read report trial)
      → StartsGreatest boots found table report permanent next
  starts permanent next runs asks images sequence asked stays floors plain tries = record {
    read = read;
    reads = reads;
    steady = steady;
    rows = told.rows;
    greatest = told.greatest;
    right = told.right;
    standard = told.standard;
    runs = runs;
    asks = asks;
    images = images;
    sequence = sequence;
    good = asked.0;
    only = asked.1;
    stays = λ e. (stays e).0;
    raised = λ e. (stays e).1;
    floors = floors;
    plain = plain;
    tries = tries;
  }

  starts_nothing : (permanent : Bool) (next : DeviceState) → IsPlain read report permanent next
      → StartsGreatest boots found table report permanent next
  starts_nothing permanent next (none, not_good, same) =
      subst (λ (s : DeviceState). StartsGreatest boots found table report permanent s) (sym same)
      (starts permanent read
      (λ i. ap (λ b. if b then wanted_bytes (read.request i) else read.running i) (sym (none i)))
      (λ i. ap (λ b. if b then None else read.request i) (sym (none i)))
      refl refl
      (λ e. absurd (true≢false (sym e ∙ not_good)), λ stays. absurd (stays.some none))
      (λ e. absurd (true≢false (sym e ∙ not_good)))
      (λ e. refl)
      (λ e. steady)
      (λ e some. absurd (some none)))

  module _ (mask : ℕ) (set : is_member mask ≡ taken_in report) where
    takes_some : (permanent : Bool) → IsDecision read table mask permanent → TakesNone report → ⊥
    takes_some permanent decision none =
        decision.chosen.some (no_members mask (λ i. ap (λ t. t i) set ∙ none i))

    stays_of : (permanent : Bool) → IsDecision read table mask permanent → permanent ≡ true
        → StaysForGood read report
    stays_of permanent decision e = record {
      some = takes_some permanent decision;
      each = λ i wanted taken asked.
          let member : is_member mask i ≡ true = ap (λ t. t i) set ∙ taken in
          (decision.good e).each i wanted (decision.chosen.within i member) member asked;
    }

    only_of : (permanent : Bool) → IsDecision read table mask permanent → StaysForGood read report
        → permanent ≡ true
    only_of permanent decision stays = decision.trial (record {
      each = λ i wanted lt member asked. stays.each i wanted (sym (ap (λ t. t i) set) ∙ member) asked;
    })

    runs_of : (i : ℕ) → running_after read mask i ≡ running_by read report i
    runs_of i = ap (λ (t : ℕ → Bool). if t i then wanted_bytes (read.request i) else read.running i) set

    asks_of : (i : ℕ) → left_after read mask i ≡ request_by read report i
    asks_of i = ap (λ (t : ℕ → Bool). if t i then None else read.request i) set

    tried_of : (permanent : Bool) → IsDecision read table mask permanent → (trial : Trial)
        → IsBegun read mask boots trial → IsTriedBy boots read report trial
    tried_of permanent decision trial begun = record {
      set = λ i. ap (λ m. is_member m i) begun.set ∙ ap (λ t. t i) set;
      confirmed = begun.confirmed;
      old = λ i taken.
          let member : is_member mask i ≡ true = ap (λ t. t i) set ∙ taken in
          begun.old i (decision.chosen.within i member) member;
      left = begun.left;
    }

    starts_set : (permanent : Bool) (next : DeviceState) → IsDecision read table mask permanent
        → IsTaken boots read mask permanent next → StartsGreatest boots found table report permanent next
    starts_set true next decision (floors, raised, same) =
        subst (λ (s : DeviceState). StartsGreatest boots found table report true s) (sym same)
        (starts true (with_taken read mask floors None) runs_of asks_of refl refl
        (stays_of true decision, only_of true decision)
        (λ e. (refl, raised))
        (λ e. absurd (true≢false e))
        (λ none. refl)
        (λ e some. absurd (true≢false e)))
    starts_set false next decision (trial, begun, same) =
        subst (λ (s : DeviceState). StartsGreatest boots found table report false s) (sym same)
        (starts false (with_taken read mask read.floors (Some trial)) runs_of asks_of refl refl
        (stays_of false decision, only_of false decision)
        (λ e. absurd (true≢false (sym e)))
        (λ e. refl)
        (λ none. absurd (takes_some false decision none))
        (λ e some. (trial, refl, tried_of false decision trial begun)))

pub boot_starts : (boots : ℕ) (s : DeviceState) (table : Table) (report : Report) (permanent : Bool)
    (next : DeviceState) → Boots boots s (Booted table report permanent) next
    → StartsGreatest boots s table report permanent next
boot_starts boots s table report permanent next (read, reads, steady, (told, either)) = ⊎_elim
    (λ (plain : IsPlain read report permanent next).
    starts_nothing boots s read table report reads steady told permanent next plain)
    (λ (taken : (mask : ℕ) × (is_member mask ≡ taken_in report) × IsDecision read table mask permanent
    × IsTaken boots read mask permanent next).
    starts_set boots s read table report reads steady told taken.0 taken.1 permanent next taken.2 taken.3)
    either

-- ---- in a run

not_done : (table : Table) (report : Report) (permanent : Bool) → Booted table report permanent ≡ Done → ⊥
not_done table report permanent e = cc

-- A step that replies with a report is a boot.
booted_step : (setup : Setup) (m next : Machine) (happened : DeviceEvent) (table : Table) (report : Report)
    (permanent : Bool) → IsStep setup m happened (Booted table report permanent) next
    → (happened ≡ event.Boot) × StartsGreatest setup.boots m.kept table report permanent next.kept
    × (next.is_booted ≡ true) × ((i : ℕ) → next.session i ≡ None)
booted_step setup m next event.Boot table report permanent (booted, is) = (
  refl,
  boot_starts setup.boots m.kept table report permanent next.kept booted,
  ap (λ (k : Machine). k.is_booted) is,
  λ i. ap (λ (k : Machine). k.session i) is,
)
booted_step setup m next event.Reset table report permanent step = absurd (not_done table report permanent step.0)
booted_step setup m next other table report permanent step = absurd step

pub booted_at : (setup : Setup) (m : Machine) (events : List DeviceEvent) (replies : List Reply) (last : Machine)
    (place : ℕ) (table : Table) (report : Report) (permanent : Bool) → IsRun setup m events replies last
    → slice_get replies place ≡ Some (Booted table report permanent)
    → IsBootedAt setup m events replies last place table report permanent
booted_at setup m [] [] last zero table report permanent run at = absurd (none-some _ at)
booted_at setup m [] [] last (suc place) table report permanent run at = absurd (none-some _ at)
booted_at setup m [] (r ∷ replies) last place table report permanent run at = absurd run
booted_at setup m (e ∷ events) [] last place table report permanent run at = absurd run
booted_at setup m (e ∷ events) (r ∷ replies) last zero table report permanent (next, step, run) at =
    let is : r ≡ Booted table report permanent = the_one r (Booted table report permanent) at in
    let here = booted_step setup m next e table report permanent
    (subst (λ reply. IsStep setup m e reply next) is step) in
    record {
      before = m;
      after = next;
      so_far = refl;
      event = ap (λ happened. Some happened) here.0;
      starts = here.1;
      is_booted = here.2;
      closed = here.3;
      goes_on = run;
    }
booted_at setup m (e ∷ events) (r ∷ replies) last (suc place) table report permanent (next, step, run) at =
    let later = booted_at setup next events replies last place table report permanent run at in
    record {
      before = later.before;
      after = later.after;
      so_far = (next, step, later.so_far);
      event = later.event;
      starts = later.starts;
      is_booted = later.is_booted;
      closed = later.closed;
      goes_on = subst (λ n. IsRun setup later.after (drop n (e ∷ events)) (drop n (r ∷ replies)) last)
          (sym (add-one (suc place)))
          (subst (λ n. IsRun setup later.after (drop n events) (drop n replies) last) (add-one place) later.goes_on);
    }

-- ---- after any number of power cuts

-- If a state is on trial after it is read, it was read unchanged.
pub read_same : (s t : DeviceState) (trial : Trial) → t.trial ≡ Some trial → IsReadAs s t → t ≡ s
read_same s t trial tried reads = ⊎_elim
    (λ (plain : (s.trial ≡ None) × (t ≡ s)). plain.1)
    (λ (begun : (own : Trial) × (s.trial ≡ Some own)
    × ((IsConfirmed s own → ⊥) × (t ≡ s) ⊎ IsOver s own t)). ⊎_elim
    (λ (still : (IsConfirmed s begun.0 → ⊥) × (t ≡ s)). still.1)
    (λ (over : IsOver s begun.0 t).
    absurd (none-some trial (sym (ap (λ (k : DeviceState). k.trial) over.1.2) ∙ tried)))
    begun.2)
    reads

-- A complete boot that does nothing leaves the state as it was read.
finished : (boots : ℕ) (s : DeviceState) (reply : Reply) (next : DeviceState) → Boots boots s reply next
    → IsReadAs s next ⊎ DoesSomething reply
finished boots s (Booted table report permanent) next (read, reads, steady, (told, either)) = ⊎_elim
    (λ (plain : IsPlain read report permanent next). inl (subst (λ k. IsReadAs s k) (sym plain.2) reads))
    (λ (taken : (mask : ℕ) × (is_member mask ≡ taken_in report) × IsDecision read table mask permanent
    × IsTaken boots read mask permanent next).
    inr (takes_some boots s read table report reads steady told taken.0 taken.1 permanent taken.2))
    either
finished boots s (Reverted mask) next back = inr tt
finished boots s (TrialAgain set left) next again = inr tt
finished boots s (Refused (no.RunningDamaged i)) next (reads, steady, damaged) = inl reads
finished boots s (Refused no.InvalidSet) next (reads, steady, invalid) = inl reads
finished boots s other next never = absurd never

-- Reading a state that was read adds nothing.
read_again : (s t r : DeviceState) → IsReadAs s t → IsReadAs t r → IsReadAs s r
read_again s t r first second = ⊎_elim
    (λ (plain : (t.trial ≡ None) × (r ≡ t)). subst (λ k. IsReadAs s k) (sym plain.1) first)
    (λ (begun : (trial : Trial) × (t.trial ≡ Some trial)
    × ((IsConfirmed t trial → ⊥) × (r ≡ t) ⊎ IsOver t trial r)).
    subst (λ k. IsReadAs k r) (read_same s t begun.0 begun.1 first) second)
    second

starts_from : (boots : ℕ) (s t : DeviceState) (table : Table) (report : Report) (permanent : Bool)
    (next : DeviceState) → (t ≡ s) ⊎ IsReadAs s t → StartsGreatest boots t table report permanent next
    → StartsGreatest boots s table report permanent next
starts_from boots s t table report permanent next kept starts = ⊎_elim
    (λ (same : t ≡ s). subst (λ k. StartsGreatest boots k table report permanent next) same starts)
    (λ (reads : IsReadAs s t). record {
      read = starts.read;
      reads = read_again s t starts.read reads starts.reads;
      steady = starts.steady;
      rows = starts.rows;
      greatest = starts.greatest;
      right = starts.right;
      standard = starts.standard;
      runs = starts.runs;
      asks = starts.asks;
      images = starts.images;
      sequence = starts.sequence;
      good = starts.good;
      only = starts.only;
      stays = starts.stays;
      raised = starts.raised;
      floors = starts.floors;
      plain = starts.plain;
      tries = starts.tries;
    })
    kept

pub cut_boots : (setup : Setup) (times : ℕ) (m mid last : Machine) (table : Table) (report : Report)
    (permanent : Bool) → AreCut setup m times mid
    → IsStep setup mid event.Boot (Booted table report permanent) last
    → StartsGreatest setup.boots m.kept table report permanent last.kept ⊎ HasFinished setup m mid times
cut_boots setup zero m mid last table report permanent same step = inl (subst
    (λ (k : Machine). StartsGreatest setup.boots k.kept table report permanent last.kept) same
    (boot_starts setup.boots mid.kept table report permanent last.kept step.0))
cut_boots setup (suc times) m mid last table report permanent (next, (cut, is), run) step =
    let later = cut_boots setup times next mid last table report permanent run step in
    ⊎_elim (λ (same : next.kept ≡ m.kept). on (inl same) later)
    (λ rest. ⊎_elim (λ (reads : IsReadAs m.kept next.kept). on (inr reads) later)
    (λ (done : (reply : Reply) × Boots setup.boots m.kept reply next.kept). ⊎_elim
    (λ (reads : IsReadAs m.kept next.kept). on (inr reads) later)
    (λ (did : DoesSomething done.0). inr (record {
      earlier = 0;
      later = times;
      count = omega arith;
      before = m;
      so_far = refl;
      reply = done.0;
      next = next.kept;
      boots = done.1;
      did = did;
      goes_on = subst (λ k. AreCut setup k times mid) is run;
    }))
    (finished setup.boots m.kept done.0 next.kept done.1)) rest)
    cut
  where
    on : (next.kept ≡ m.kept) ⊎ IsReadAs m.kept next.kept
        → StartsGreatest setup.boots next.kept table report permanent last.kept ⊎ HasFinished setup next mid times
        → StartsGreatest setup.boots m.kept table report permanent last.kept ⊎ HasFinished setup m mid (suc times)
    on kept later = ⊎_elim
        (λ (starts : StartsGreatest setup.boots next.kept table report permanent last.kept).
        inl (starts_from setup.boots m.kept next.kept table report permanent last.kept kept starts))
        (λ (ended : HasFinished setup next mid times). inr (record {
          earlier = suc ended.earlier;
          later = ended.later;
          count = omega (arith, ended.count);
          before = ended.before;
          so_far = (next, (cut, is), ended.so_far);
          reply = ended.reply;
          next = ended.next;
          boots = ended.boots;
          did = ended.did;
          goes_on = ended.goes_on;
        }))
        later
