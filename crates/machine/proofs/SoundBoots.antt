-- Running images stay intact and valid after boots and confirmations.
use Rattle.std.proofs.Common.{◌≡◌, ◌⊎◌, ℕ, ◌<◌, ◌≤◌, ◌==◌, Bool, true, false, List, [], ◌∷◌, length, Option, Some, None}
use Rattle.std.proofs.Common.{refl, sym, ◌∙◌, ap, subst, zero, suc, arith, slice_get, ⊎_elim, inl, inr, if◌then◌else◌}
use Rattle.std.specs.Prelude.{IsSomeAnd, unwrap_or}
use Rattle.std.proofs.lemmas.Option.{none-some}
use Rattle.common.specs.Masks.{is_member}
use Rattle.version_order.specs.Order.{IsAtLeast}
use Rattle.reports.specs.declared.table.Table.{Table}
use Rattle.reports.specs.declared.table.Image.{Image}
use Rattle.reports.specs.declared.table.Entry.{Entry}
use Rattle.reports.specs.declared.table.Request.{Request}
use Rattle.reports.specs.declared.table.Request.TheVariants as request
use Rattle.reports.specs.Rightness.{taken_in}
use Rattle.reports.specs.Combination.{entry_in, intact_entry, running_set, IsValid}
use Rattle.machine.specs.Device.{DeviceState, Trial, Wanted}
use Rattle.machine.specs.States.{IsBegun, IsConfirmed, left_after, reverted, running_after}
use Rattle.machine.specs.States.{settled, with_taken, tried_again, wanted_bytes, with_confirmed}
use Rattle.machine.specs.Boots.{Boots, IsAllSound, IsBootCut, IsDecision, IsEntryOf, IsOver, IsReadAs}
use Rattle.machine.specs.Boots.{IsReadSound, IsRequestOf, IsSound, IsTaken, is_answer}
use Rattle.machine.specs.declared.error.Fault.TheVariants as no
use Rattle.machine.specs.declared.reply.Reply.{Reply}
use Rattle.machine.specs.declared.reply.Reply.TheVariants.{Booted, Reverted, TrialAgain, Refused}
use Rattle.machine.proofs.Answered.{IsPlain, read_same}
use Rattle.machine.proofs.Tables.{some_of, running_bytes}
use Rattle.machine.proofs.Sound.{sound_to, the_one}
use Rattle.machine.proofs.Unique.{one_table}

-- ---- the same images run, and fewer are requested

below : {X : Type 0} (xs : List X) (k : ℕ) (x : X) → slice_get xs k ≡ Some x → k < length xs
below [] zero x e = absurd (none-some x e)
below [] (suc k) x e = absurd (none-some x e)
below (y ∷ xs) zero x e = omega arith
below (y ∷ xs) (suc k) x e = let rest = below xs k x e in omega arith

-- A request is unchanged, or a table can have it.
abbrev pub IsAskedAlike : DeviceState → DeviceState → ℕ → Type 0
IsAskedAlike s t i = (t.request i ≡ s.request i) ⊎ ((asked : Request) × IsRequestOf (t.request i) asked)

pub sound_alike : (s t : DeviceState) → t.images ≡ s.images
    → ((i : ℕ) → i < s.images → t.running i ≡ s.running i) → ((i : ℕ) → IsAskedAlike s t i) → IsSound s → IsSound t
sound_alike s t images runs asks (table, rows, valid) = sound_to s t table running_set images rows valid.met
    (λ i row at. subst (λ held. IsEntryOf held row.running)
    (sym (runs i (subst (λ n. i < n) rows.count (below table.images.items i row at)))) (rows.rows i row at).running)
    (λ i row at. ⊎_elim
    (λ (same : t.request i ≡ s.request i).
    (row.request, subst (λ w. IsRequestOf w row.request) (sym same) (rows.rows i row at).request))
    (λ (new : (asked : Request) × IsRequestOf (t.request i) asked). new)
    (asks i))

-- A state without a trial needs only its running images to be sound.
pub all_sound : (s : DeviceState) → s.trial ≡ None → IsSound s → IsAllSound s
all_sound s none sound = record { now = sound; before = λ trial e. absurd (none-some trial (sym none ∙ e)) }

-- ---- reading

settled_sound : (s : DeviceState) (floors : List ℕ) → IsSound s → IsSound (settled s floors)
settled_sound s floors sound = sound_alike s (settled s floors) refl (λ i lt. refl) (λ i. inl refl) sound

pub read_sound : (s read : DeviceState) → IsReadAs s read → IsSound s → IsSound read
read_sound s read reads sound = ⊎_elim
    (λ (plain : (s.trial ≡ None) × (read ≡ s)). subst IsSound (sym plain.1) sound)
    (λ (begun : (trial : Trial) × (s.trial ≡ Some trial)
    × ((IsConfirmed s trial → ⊥) × (read ≡ s) ⊎ IsOver s trial read)). ⊎_elim
    (λ (still : (IsConfirmed s begun.0 → ⊥) × (read ≡ s)). subst IsSound (sym still.1) sound)
    (λ (over : IsOver s begun.0 read).
    subst IsSound (sym over.1.2) (settled_sound s over.1.0 sound))
    begun.2)
    reads

-- A sound state is sound as a boot reads it.
pub sound_reads : (s : DeviceState) → IsAllSound s → IsReadSound s
sound_reads s all = record { each = λ read reads. read_sound s read reads all.now }

all_read : (s read : DeviceState) → IsReadAs s read → IsAllSound s → IsAllSound read
all_read s read reads all = record {
  now = read_sound s read reads all.now;
  before = λ trial tried.
      let same = read_same s read trial tried reads in
      subst (λ (k : DeviceState). IsSound (reverted k trial)) (sym same)
      (all.before trial (sym (ap (λ (k : DeviceState). k.trial) same) ∙ tried));
}

-- ---- a set is taken

-- The requested entry of a member.
asked_entry : (wanted : Option Wanted) (asked : Request) (running entry : Entry) → IsRequestOf wanted asked
    → intact_entry asked ≡ Some entry → IsEntryOf (wanted_bytes wanted) (unwrap_or (intact_entry asked) running)
asked_entry None asked running entry is intact = absurd (none-some entry (sym (ap intact_entry is) ∙ intact))
asked_entry (Some w) request.None running entry is intact = absurd is
asked_entry (Some w) request.Damaged running entry is intact = absurd (none-some entry intact)
asked_entry (Some w) (request.Entry given) running entry is intact = is

module _ (read : DeviceState) (table : Table) (mask : ℕ) (permanent : Bool)
    (decision : IsDecision read table mask permanent) where
  -- The entry of an image that runs afterwards.
  entry_after : (i : ℕ) (row : Image) → slice_get table.images.items i ≡ Some row → (b : Bool)
      → is_member mask i ≡ b
      → IsEntryOf (if b then wanted_bytes (read.request i) else read.running i) (entry_in row b)
  entry_after i row at true member =
      let there = some_of (slice_get table.images.items i)
      (λ image. IsSomeAnd (intact_entry image.request)
      (λ entry. IsAtLeast entry.version image.running.version × (image.floor ≤ entry.counter)))
      (decision.chosen.greatest.valid.members i member) in
      let asked = some_of (intact_entry there.0.request)
      (λ entry. IsAtLeast entry.version there.0.running.version × (there.0.floor ≤ entry.counter)) there.2 in
      let same : there.0 ≡ row = the_one there.0 row (sym there.1 ∙ at) in
      asked_entry (read.request i) row.request row.running asked.0 (decision.chosen.rows.rows i row at).request
      (ap (λ (image : Image). intact_entry image.request) (sym same) ∙ asked.1)
  entry_after i row at false member = (decision.chosen.rows.rows i row at).running

  asks_after : (i : ℕ) (row : Image) → slice_get table.images.items i ≡ Some row → (b : Bool)
      → (asked : Request) × IsRequestOf (if b then None else read.request i) asked
  asks_after i row at true = (request.None, refl)
  asks_after i row at false = (row.request, (decision.chosen.rows.rows i row at).request)

  taken_sound : (next : DeviceState) → next.images ≡ read.images
      → ((i : ℕ) → next.running i ≡ running_after read mask i)
      → ((i : ℕ) → next.request i ≡ left_after read mask i) → IsSound next
  taken_sound next images runs asks = sound_to read next table (is_member mask) images decision.chosen.rows
      decision.chosen.greatest.valid.met
      (λ i row at. subst (λ held. IsEntryOf held (entry_in row (is_member mask i))) (sym (runs i))
      (entry_after i row at (is_member mask i) refl))
      (λ i row at.
      let q = asks_after i row at (is_member mask i) in
      (q.0, subst (λ w. IsRequestOf w q.0) (sym (asks i)) q.1))

  -- What runs if the trial that begins is reverted.
  old_running : (boots : ℕ) (trial : Trial) → IsBegun read mask boots trial → (i : ℕ) → i < read.images
      → (b : Bool) → is_member mask i ≡ b
      → (if b then Some (trial.old i) else running_after read mask i) ≡ read.running i
  old_running boots trial begun i lt true member = sym (begun.old i lt member)
  old_running boots trial begun i lt false member =
      ap (λ b. if b then wanted_bytes (read.request i) else read.running i) member

  old_asks : (i : ℕ) (b : Bool)
      → ((if b then None else left_after read mask i) ≡ read.request i)
      ⊎ ((asked : Request) × IsRequestOf (if b then None else left_after read mask i) asked)
  old_asks i true = inr (request.None, refl)
  old_asks i false = left_asks (is_member mask i) where
    left_asks : (b : Bool) → ((if b then None else read.request i) ≡ read.request i)
        ⊎ ((asked : Request) × IsRequestOf (if b then None else read.request i) asked)
    left_asks true = inr (request.None, refl)
    left_asks false = inl refl

  old_sound : (boots : ℕ) (trial : Trial) → IsBegun read mask boots trial → IsSound read
      → IsSound (reverted (with_taken read mask read.floors (Some trial)) trial)
  old_sound boots trial begun sound = sound_alike read (reverted (with_taken read mask read.floors (Some trial)) trial) refl
      (λ i lt. ap (λ n. if is_member n i then Some (trial.old i) else running_after read mask i) begun.set
      ∙ old_running boots trial begun i lt (is_member mask i) refl)
      (λ i. old_asks i (is_member trial.set i)) sound

one_trial : (a b : Trial) → Some a ≡ Some b → a ≡ b
one_trial a b e = cc

set_sound : (boots : ℕ) (read next : DeviceState) (table : Table) (mask : ℕ) (permanent : Bool)
    → IsDecision read table mask permanent → IsSound read → IsTaken boots read mask permanent next
    → IsAllSound next
set_sound boots read next table mask true decision sound (floors, raised, is) = all_sound next
    (ap (λ (k : DeviceState). k.trial) is)
    (taken_sound read table mask true decision next (ap (λ (k : DeviceState). k.images) is)
    (λ i. ap (λ (k : DeviceState). k.running i) is) (λ i. ap (λ (k : DeviceState). k.request i) is))
set_sound boots read next table mask false decision sound (trial, begun, is) = record {
  now = taken_sound read table mask false decision next (ap (λ (k : DeviceState). k.images) is)
      (λ i. ap (λ (k : DeviceState). k.running i) is) (λ i. ap (λ (k : DeviceState). k.request i) is);
  before = λ other tried.
      let same : trial ≡ other = one_trial trial other (sym (ap (λ (k : DeviceState). k.trial) is) ∙ tried) in
      subst (λ u. IsSound (reverted next u)) same
      (subst (λ (k : DeviceState). IsSound (reverted k trial)) (sym is)
      (old_sound read table mask false decision boots trial begun sound));
}

-- ---- boots

pub booted_sound : (boots : ℕ) (s : DeviceState) (reply : Reply) (next : DeviceState) → Boots boots s reply next
    → IsAllSound s → IsAllSound next
booted_sound boots s (Booted table report permanent) next (read, reads, none, (told, either)) all =
    let sound = read_sound s read reads all.now in ⊎_elim
    (λ (plain : IsPlain read report permanent next).
    subst IsAllSound (sym plain.2) (all_sound read none sound))
    (λ (taken : (mask : ℕ) × (is_member mask ≡ taken_in report) × IsDecision read table mask permanent
    × IsTaken boots read mask permanent next).
    set_sound boots read next table taken.0 permanent taken.2 sound taken.3)
    either
booted_sound boots s (Reverted mask) next (trial, goes, set, is) all = subst IsAllSound (sym is)
    (all_sound (reverted s trial) refl (all.before trial goes.0))
booted_sound boots s (TrialAgain set left) next (trial, goes, same, less, is) all = subst IsAllSound (sym is)
    (record {
      now = sound_alike s (tried_again s trial left) refl (λ i lt. refl) (λ i. inl refl) all.now;
      before = λ other tried.
          let same = one_trial (record trial { left = left }) other tried in
          subst (λ u. IsSound (reverted (tried_again s trial left) u)) same (all.before trial goes.0);
    })
booted_sound boots s (Refused (no.RunningDamaged i)) next (reads, none, damaged) all =
    all_sound next none (read_sound s next reads all.now)
booted_sound boots s (Refused no.InvalidSet) next (reads, none, invalid) all =
    all_sound next none (read_sound s next reads all.now)
booted_sound boots s other next never all = absurd never

pub boot_cut_sound : (boots : ℕ) (s next : DeviceState) → IsBootCut boots s next → IsAllSound s → IsAllSound next
boot_cut_sound boots s next cut all = ⊎_elim
    (λ (same : next ≡ s). subst IsAllSound (sym same) all)
    (λ rest. ⊎_elim (λ (reads : IsReadAs s next). all_read s next reads all)
    (λ (done : (reply : Reply) × Boots boots s reply next). booted_sound boots s done.0 next done.1 all)
    rest)
    cut

-- ---- confirmations

pub confirmed_sound : (s : DeviceState) (trial : Trial) (i : ℕ) → s.trial ≡ Some trial → IsAllSound s
    → IsAllSound (with_confirmed s trial i)
confirmed_sound s trial i is all = record {
  now = sound_alike s (with_confirmed s trial i) refl (λ j lt. refl) (λ j. inl refl) all.now;
  before = λ other tried.
      subst (λ u. IsSound (reverted (with_confirmed s trial i) u)) (one_trial (record trial { confirmed = λ j. if j == i then true else trial.confirmed j }) other tried)
      (all.before trial is);
}

-- ---- a boot from a sound state isn't refused

pub boots_answer : (boots : ℕ) (s : DeviceState) (reply : Reply) (next : DeviceState) → IsReadSound s
    → Boots boots s reply next → is_answer reply ≡ true
boots_answer boots s (Booted table report permanent) next sound booted = refl
boots_answer boots s (Reverted mask) next sound booted = refl
boots_answer boots s (TrialAgain set left) next sound booted = refl
boots_answer boots s (Refused (no.RunningDamaged i)) next sound (reads, rest, damaged) =
    let whole = sound.each next reads in
    let bytes = running_bytes next whole.0 i whole.1 damaged.there in
    absurd (none-some bytes.0 (sym damaged.damaged ∙ bytes.1))
boots_answer boots s (Refused no.InvalidSet) next sound (reads, rest, (table, rows, invalid)) =
    let whole = sound.each next reads in
    absurd (invalid (subst (λ t. IsValid t running_set) (one_table next whole.0 table whole.1 rows) whole.2))
boots_answer boots s other next sound never = absurd never
