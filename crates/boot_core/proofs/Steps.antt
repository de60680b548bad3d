-- Lemmas for steps of a run: after a power cut the device is reset.
use Rattle.std.proofs.Common.{◌≡◌, ◌∙◌, true, [], ◌∷◌, refl, sym, subst, ⊎_elim}
use Rattle.machine.specs.declared.event.Event.TheVariants as event
use Rattle.machine.specs.Device.{Machine}
use Rattle.machine.specs.States.{asleep, with_confirmed}
use Rattle.machine.specs.Intake.{Setup}
use Rattle.machine.specs.Steps.{DeviceEvent, IsCutTo}
use Rattle.flash_contents.specs.Holding.{DeviceView, Holds}
use Rattle.flash_contents.specs.Passing.{StepsTo}
use Rattle.machine.specs.Boots.{IsAllSound, is_answer}
use Rattle.machine.specs.declared.reply.Reply.{Reply}
use Rattle.machine.specs.declared.reply.Reply.TheVariants.{Cut}
use Rattle.flash_contents.proofs.Lifecycle.{holder_runs}
use Rattle.machine.proofs.SoundRuns.{run_sound}
use Rattle.boot_core.specs.Calls.{RunsSound}

of_kept : (next : Machine) (m : Machine) → next ≡ asleep m.kept → asleep next.kept ≡ next
of_kept next m is = subst (λ (k : Machine). asleep k.kept ≡ k) (sym is) refl

-- After a power cut no session is open, and the device isn't booted.
cut_asleep : (setup : Setup) (m next : Machine) (happened : DeviceEvent) → IsCutTo setup m happened next
    → asleep next.kept ≡ next
cut_asleep setup m next (event.Accept text) cut = of_kept next cut.1.0 cut.1.2
cut_asleep setup m next (event.Piece i more) cut = of_kept next cut.1.0 cut.1.2
cut_asleep setup m next (event.Finish i) cut = of_kept next cut.1.0 cut.1.2
cut_asleep setup m next (event.Withdraw i) cut = of_kept next cut.1.0 cut.1.2
cut_asleep setup m next (event.Confirm i) cut = ⊎_elim
    (λ (is : next ≡ asleep m.kept). of_kept next m is)
    (λ (is : next ≡ asleep (with_confirmed m.kept cut.1.0 i)).
    subst (λ (k : Machine). asleep k.kept ≡ k) (sym is) refl)
    cut.1.2
cut_asleep setup m next event.Boot cut = sym cut.1
cut_asleep setup m next event.Reset cut = absurd cut

-- So a reset leaves the machine as it is.
pub cut_step : (setup other : Setup) (old mid new : DeviceView) (happened : DeviceEvent) → other ≡ setup
    → StepsTo setup old mid happened Cut
    → ((m : Machine) → Holds other.map mid m → Holds other.map new (asleep m.kept))
    → StepsTo setup old new happened Cut
cut_step setup other old mid new happened same steps resets m holds =
    let after = steps m holds in (
      after.0,
      after.1,
      subst (λ k. Holds setup.map new k) (cut_asleep setup m after.0 happened after.1)
          (subst (λ (s : Setup). (k : Machine) → Holds s.map mid k → Holds s.map new (asleep k.kept)) same resets
          after.0 after.2),
    )

-- A boot that answers leaves the images of a sound state, if it found a sound state.
pub boot_sound : (setup : Setup) (old new : DeviceView) (reply : Reply) → StepsTo setup old new event.Boot reply
    → new.up ≡ is_answer reply → is_answer reply ≡ true → (m : Machine) → Holds setup.map old m → IsAllSound m.kept
    → RunsSound setup.map new.flash
boot_sound setup old new reply steps up answers m holds all =
    let after = steps m holds in (
      after.0.kept,
      run_sound setup m after.0 (event.Boot ∷ []) (reply ∷ []) (after.0, after.1, refl) all,
      holder_runs setup.map new after.0 after.2 (after.2.is_booted ∙ up ∙ answers),
    )
