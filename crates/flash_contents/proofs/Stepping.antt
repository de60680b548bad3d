-- Boots, confirmations and resets of a device are steps of the machine.
use Rattle.std.proofs.Common.{◌≡◌, ℕ, ◌==◌, Bool, true, false, List, Option, Some, None, Result, Ok}
use Rattle.std.proofs.Common.{Err, IfOk, refl, sym, ◌∙◌, ap, subst, true≢false}
use Rattle.std.proofs.Math.Bool.{and-false}
use Rattle.machine.specs.declared.event.Event.TheVariants as event
use Rattle.flash_model.specs.Chip.{Chip}
use Rattle.sector_map.specs.declared.layout.SectorMap.{SectorMap}
use Rattle.sector_map.specs.declared.layout.Side.TheVariants.{Primary, Secondary}
use Rattle.sector_map.specs.Part.{Part, TrailerOf, Log, only}
use Rattle.sector_map.specs.Map.{IsLaidOut, Keeps}
use Rattle.sector_map.proofs.Parts.{keeps_bytes}
use Rattle.set_log.specs.declared.state.State.{State}
use Rattle.set_log.specs.declared.state.RecordKind.TheVariants as log
use Rattle.upload.specs.View.{view}
use Rattle.machine.specs.Device.{DeviceState, Machine, Session}
use Rattle.upload.specs.Sessions.{AllClosed, HasSessions, upload_at}
use Rattle.upload.specs.declared.sessions.Upload.{Upload}
use Rattle.upload.proofs.Frames.{session_kept, sessions_closed}
use Rattle.upload.proofs.Views.{view_kept}
use Rattle.machine.specs.States.{asleep, with_confirmed}
use Rattle.machine.specs.Boots.{Boots, IsReadSound, is_answer}
use Rattle.machine.specs.Intake.{Setup}
use Rattle.machine.specs.Steps.{DeviceEvent, IsStep}
use Rattle.flash_contents.specs.Holding.{DeviceView, Holds, IsAtRest, Stands, Rests, Tries, Swaps, Settles, Opens, SwapsBack}
use Rattle.flash_contents.specs.Holding.{SettlesBack}
use Rattle.flash_contents.specs.Passing.{EndsBoot, EndsConfirm, StepsTo, needs_up}
use Rattle.machine.specs.declared.error.Fault.TheVariants as no
use Rattle.machine.specs.declared.reply.Reply.{Reply}
use Rattle.machine.specs.declared.reply.Reply.TheVariants.{Done, Booted, Reverted, TrialAgain, Refused, Cut}
use Rattle.flash_contents.proofs.Frames.{steady_logged}
use Rattle.flash_contents.proofs.Swapping.{swap_logged, settle_logged}
use Rattle.flash_contents.proofs.Reverting.{open_logged}
use Rattle.flash_contents.proofs.Returning.{back_logged, swapped_logged}
use Rattle.flash_contents.proofs.Trying.{again_same}
use Rattle.flash_contents.proofs.Confirming.{rest_stands}
use Rattle.machine.proofs.SoundBoots.{boots_answer}

-- ---- power

-- What the flash holds doesn't depend on its power and its counts.
pub stands_logged : (map : SectorMap) (old new : Chip) (s : DeviceState) → IsLaidOut map old
    → Keeps map (only Log) old new → (view map new).log ≡ (view map old).log → Stands map old s → Stands map new s
stands_logged map old new s laid keeps same (Rests was) = Rests (steady_logged map old new s keeps same was)
stands_logged map old new s laid keeps same (Tries trial was) =
    Tries trial (again_same map old new s trial keeps same was)
stands_logged map old new s laid keeps same (Swaps table mask permanent x y was) =
    let after = swap_logged map old new laid s table mask permanent keeps same (x, y, was) in
    Swaps table mask permanent after.0 after.1 after.2
stands_logged map old new s laid keeps same (Settles table mask permanent was) = Settles table mask permanent
    (settle_logged map old new s table log.Settle log.Settle mask permanent keeps (same ∙ was.log) was)
stands_logged map old new s laid keeps same (Opens trial goes was) =
    Opens trial goes (open_logged map old new s trial keeps same was)
stands_logged map old new s laid keeps same (SwapsBack trial x y was) =
    let after = back_logged map old new s trial keeps laid same (x, y, was) in
    SwapsBack trial after.0 after.1 after.2
stands_logged map old new s laid keeps same (SettlesBack trial was) = SettlesBack trial
    (swapped_logged map old new s trial keeps log.BackSettle log.BackSettle was.permanent (same ∙ was.log) was)

keeps_powered : (map : SectorMap) (touched : Part → Bool) (old new : Chip) → new ≡ record old { is_on = true }
    → Keeps map touched old new
keeps_powered map touched old new is = keeps_bytes map touched old new
    (ap (λ (chip : Chip). chip.sector_size) is) (ap (λ (chip : Chip). chip.sectors) is)
    (ap (λ (chip : Chip). chip.fixed) is)
    (ap (λ (chip : Chip). chip.bytes) is)

-- What the flash holds when power fails, it holds when power is back.
pub powered : (map : SectorMap) (old new : Chip) (s : DeviceState) → IsLaidOut map old
    → new ≡ record old { is_on = true } → Stands map old s → Stands map new s
powered map old new s laid is = stands_logged map old new s laid (keeps_powered map (only Log) old new is)
    ((view_kept map (λ part. false) old new (keeps_powered map (λ part. false) old new is)).log refl)

-- A device that is reset, and has power, holds the same state.
pub holds_asleep : (map : SectorMap) (mid new : Chip) (told : List (Option Upload)) (s : DeviceState)
    → IsLaidOut map mid → new ≡ record mid { is_on = true } → AllClosed told → Stands map mid s
    → Holds map (record { flash = new; sessions = told; up = false }) (asleep s)
holds_asleep map mid new told s laid is none stands = record {
  stands = powered map mid new s laid is stands;
  is_booted = refl;
  rest = λ e. absurd (true≢false (sym e));
  open_ones = sessions_closed (view map new) told none;
  closed = λ e. none;
}

-- ---- boots and resets

boot_step : (setup : Setup) (m next : Machine) (reply : Reply) → Boots setup.boots m.kept reply next.kept
    → next ≡ record { kept = next.kept; session = λ i. None; is_booted = is_answer reply }
    → IsStep setup m event.Boot reply next
boot_step setup m next Done booted is = absurd booted
boot_step setup m next (Booted table report permanent) booted is = (booted, is)
boot_step setup m next (Reverted mask) booted is = (booted, is)
boot_step setup m next (TrialAgain set left) booted is = (booted, is)
boot_step setup m next (Refused fault) booted is = (booted, is)
boot_step setup m next Cut booted is = absurd booted

pub steps_boot : (setup : Setup) (old new : Chip) (told tnew : List (Option Upload)) (up answer : Bool)
    (reply : Reply) → answer ≡ is_answer reply → AllClosed tnew
    → ((s : DeviceState) → Stands setup.map old s → EndsBoot setup.map setup.boots new s reply)
    → StepsTo setup (record { flash = old; sessions = told; up = up })
    (record { flash = new; sessions = tnew; up = answer }) event.Boot reply
steps_boot setup old new told tnew up answer reply is none ends m holds =
    let after = ends m.kept holds.stands in
    let next : Machine = record { kept = after.0; session = λ i. None; is_booted = is_answer reply } in (
      next,
      boot_step setup m next reply after.1 refl,
      record {
        stands = after.2;
        is_booted = sym is;
        rest = after.3;
        open_ones = sessions_closed (view setup.map new) tnew none;
        closed = λ e. none;
      },
    )

-- A log without a state can't have one.
no_state : {X : Type 0} (state : State) → None ≡ Some state → X
no_state state e = absurd (never e) where
  never : None ≡ Some state → ⊥
  never e = cc

pub stands_some : (map : SectorMap) (chip : Chip) (s : DeviceState) → Stands map chip s
    → (view map chip).log ≡ None → ⊥
stands_some map chip s (Rests was) none = no_state _ (sym none ∙ was.log)
stands_some map chip s (Tries trial was) none = no_state _ (sym none ∙ was.opened.log)
stands_some map chip s (Swaps table mask permanent x y was) none = no_state _ (sym none ∙ was.log)
stands_some map chip s (Settles table mask permanent was) none = no_state _ (sym none ∙ was.log)
stands_some map chip s (Opens trial goes was) none = no_state _ (sym none ∙ was.log)
stands_some map chip s (SwapsBack trial x y was) none = no_state _ (sym none ∙ was.log)
stands_some map chip s (SettlesBack trial was) none = no_state _ (sym none ∙ was.log)

pub steps_no_state : (setup : Setup) (old new : DeviceView) (happened : DeviceEvent) (reply : Reply)
    → (view setup.map old.flash).log ≡ None → StepsTo setup old new happened reply
steps_no_state setup old new happened reply none m holds =
    absurd (stands_some setup.map old.flash m.kept holds.stands none)

-- ---- a device that isn't booted

pub steps_not_up : (setup : Setup) (w : DeviceView) (happened : DeviceEvent) → w.up ≡ false → needs_up happened ≡ true
    → StepsTo setup w w happened (Refused no.NotBooted)
steps_not_up setup w (event.Accept bytes) down needs m holds = (m, (holds.is_booted ∙ down, refl), holds)
steps_not_up setup w (event.Piece i bytes) down needs m holds = (m, (holds.is_booted ∙ down, refl), holds)
steps_not_up setup w (event.Finish i) down needs m holds = (m, (holds.is_booted ∙ down, refl), holds)
steps_not_up setup w (event.Withdraw i) down needs m holds = (m, (holds.is_booted ∙ down, refl), holds)
steps_not_up setup w (event.Confirm i) down needs m holds = (m, (holds.is_booted ∙ down, refl), holds)
steps_not_up setup w event.Boot down needs m holds = absurd (true≢false (sym needs))
steps_not_up setup w event.Reset down needs m holds = absurd (true≢false (sym needs))

-- ---- confirmations

pub sessions_kept : (map : SectorMap) (old new : Chip) (j : ℕ) (told : List (Option Upload))
    (session : ℕ → Option Session) → Keeps map (only (TrailerOf j Primary)) old new
    → HasSessions (view map old) told session → HasSessions (view map new) told session
sessions_kept map old new j told session keeps was =
    let kept = view_kept map (only (TrailerOf j Primary)) old new keeps in
    record {
      each = λ i. session_kept (view map old) (view map new) i (upload_at told i) (session i) kept.images
          (kept.slots i Secondary refl) (kept.trailers i Secondary (and-false (i == j))) (was.each i);
    }

module _ (setup : Setup) (old : Chip) (told : List (Option Upload)) (up : Bool) (i : ℕ) (is_booted : up ≡ true) where
  pub steps_confirmed : (new : Chip) (answer : Bool) → answer ≡ true
      → Keeps setup.map (only (TrailerOf i Primary)) old new
      → ((s : DeviceState) → IsAtRest (view setup.map old) s → EndsConfirm (view setup.map new) s i answer)
      → StepsTo setup (record { flash = old; sessions = told; up = up })
      (record { flash = new; sessions = told; up = up }) (event.Confirm i) Done
  steps_confirmed new answer is keeps ends m holds =
      let here = holds.is_booted ∙ is_booted in
      let after = subst (λ b. EndsConfirm (view setup.map new) m.kept i b) is (ends m.kept (holds.rest here)) in (
        record m { kept = with_confirmed m.kept after.0 i },
        (here, (after.0, after.1, refl)),
        record {
          stands = rest_stands setup.map new (with_confirmed m.kept after.0 i) after.2;
          is_booted = holds.is_booted;
          rest = λ e. after.2;
          open_ones = sessions_kept setup.map old new i told m.session keeps holds.open_ones;
          closed = holds.closed;
        },
      )

  pub steps_not_on_trial : (new : Chip) (answer : Bool) → answer ≡ false
      → Keeps setup.map (only (TrailerOf i Primary)) old new
      → ((s : DeviceState) → IsAtRest (view setup.map old) s → EndsConfirm (view setup.map new) s i answer)
      → StepsTo setup (record { flash = old; sessions = told; up = up })
      (record { flash = new; sessions = told; up = up }) (event.Confirm i) (Refused no.NotOnTrial)
  steps_not_on_trial new answer is keeps ends m holds =
      let here = holds.is_booted ∙ is_booted in
      let after = subst (λ b. EndsConfirm (view setup.map new) m.kept i b) is (ends m.kept (holds.rest here)) in (
        m,
        (here, after.0, refl),
        record {
          stands = rest_stands setup.map new m.kept after.1;
          is_booted = holds.is_booted;
          rest = λ e. after.1;
          open_ones = sessions_kept setup.map old new i told m.session keeps holds.open_ones;
          closed = holds.closed;
        },
      )

-- ---- a device that isn't booted holds its state with and without power

holds_repowered : (map : SectorMap) (old new : Chip) (told : List (Option Upload)) (m : Machine) → IsLaidOut map old
    → ((touched : Part → Bool) → Keeps map touched old new)
    → Holds map (record { flash = old; sessions = told; up = false }) m
    → Holds map (record { flash = new; sessions = told; up = false }) m
holds_repowered map old new told m laid keeps holds =
    let kept = view_kept map (λ part. false) old new (keeps (λ part. false)) in
    record {
      stands = stands_logged map old new m.kept laid (keeps (only Log)) (kept.log refl) holds.stands;
      is_booted = holds.is_booted;
      rest = λ e. absurd (true≢false (sym e ∙ holds.is_booted));
      open_ones = record {
        each = λ i. session_kept (view map old) (view map new) i (upload_at told i) (m.session i) kept.images
            (kept.slots i Secondary refl) (kept.trailers i Secondary refl) (holds.open_ones.each i);
      };
      closed = holds.closed;
    }

-- Power returns after a step.
pub steps_on : (setup : Setup) (old : DeviceView) (mid new : Chip) (told : List (Option Upload))
    (happened : DeviceEvent) (reply : Reply) → IsLaidOut setup.map mid → new ≡ record mid { is_on = true }
    → StepsTo setup old (record { flash = mid; sessions = told; up = false }) happened reply
    → StepsTo setup old (record { flash = new; sessions = told; up = false }) happened reply
steps_on setup old mid new told happened reply laid is steps m holds =
    let after = steps m holds in (
      after.0,
      after.1,
      holds_repowered setup.map mid new told after.0 laid (λ touched. keeps_powered setup.map touched mid new is)
          after.2,
    )

-- ---- how a run uses steps

pub if_ok_both : {T E : Type 0} (r : Result T E) (P Q S : T → Type 0) → ((x : T) → P x → Q x → S x) → IfOk r P
    → IfOk r Q → IfOk r S
if_ok_both (Ok x) P Q S both p q = both x p q
if_ok_both (Err e) P Q S both p q = tt

-- ---- a boot from a sound state isn't refused

pub sound_answers : (map : SectorMap) (boots : ℕ) (w : Chip) (s : DeviceState) (reply : Reply) → IsReadSound s
    → EndsBoot map boots w s reply → is_answer reply ≡ true
sound_answers map boots w s reply sound (next, booted, stands, rest) = boots_answer boots s reply next sound booted
