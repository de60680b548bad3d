-- Lemmas for texts that aren't manifests for a device.
use Rattle.std.proofs.Common.{◌≡◌, ◌≢◌, ℕ, Bool, true, List, Option, Some, refl, sym, subst}
use Rattle.std.specs.Borrow.{Bor}
use Rattle.machine.specs.declared.event.Event.TheVariants as event
use Rattle.flash_model.specs.Chip.{Chip}
use Rattle.set_log.specs.declared.state.State.{State}
use Rattle.set_log.specs.declared.state.RecordKind.TheVariants as log
use Rattle.manifest.specs.declared.error.ManifestError.{ManifestError}
use Rattle.manifest.specs.declared.error.ManifestError.TheVariants as text
use Rattle.manifest.specs.declared.identity.Identity.{Identity}
use Rattle.manifest.specs.Fault.{IsRefusal}
use Rattle.upload.specs.View.{view}
use Rattle.upload.specs.declared.sessions.Upload.{Upload}
use Rattle.machine.specs.Intake.{Setup}
use Rattle.flash_contents.specs.Passing.{StepsTo}
use Rattle.machine.specs.declared.error.Fault.{Fault}
use Rattle.machine.specs.declared.error.Fault.TheVariants as no
use Rattle.machine.specs.declared.reply.Reply.{Reply}
use Rattle.machine.specs.declared.reply.Reply.TheVariants.{Refused}
use Rattle.flash_contents.proofs.Uploading.{steps_bad_manifest, steps_no_memory}
use Rattle.boot_core.specs.Answers.{EndsCall, fault_reply}
use Rattle.boot_core.specs.Device.{seen}
use Rattle.boot_core.specs.Ready.{RefusesText, text_fault}
use Rattle.boot_core.proofs.Stopping.{idle_ends}

pub text_refused : (identity : Identity) (bytes : List ℕ) (error : ManifestError)
    → (error ≢ text.NoMemory → IsRefusal identity bytes error) → RefusesText identity bytes (text_fault error)
text_refused identity bytes text.NoMemory only = tt
text_refused identity bytes text.NotJson only = only (λ e. let f : text.NotJson ≡ text.NoMemory = e in cc)
text_refused identity bytes text.BadKey only = only (λ e. let f : text.BadKey ≡ text.NoMemory = e in cc)
text_refused identity bytes text.BadValue only = only (λ e. let f : text.BadValue ≡ text.NoMemory = e in cc)
text_refused identity bytes text.WrongVendor only = only (λ e. let f : text.WrongVendor ≡ text.NoMemory = e in cc)
text_refused identity bytes text.WrongClass only = only (λ e. let f : text.WrongClass ≡ text.NoMemory = e in cc)
text_refused identity bytes text.NoComponent only = only (λ e. let f : text.NoComponent ≡ text.NoMemory = e in cc)
text_refused identity bytes text.RepeatedComponent only =
    only (λ e. let f : text.RepeatedComponent ≡ text.NoMemory = e in cc)

-- A refused text is a step.
module _ (setup : Setup) (old mid : Chip) (told : List (Option Upload)) (up : Bool) (state : State)
    (is_booted : up ≡ true) (read : (view setup.map old).log ≡ Some state) (rests : state.kind ≡ log.Trial → ⊥)
    (given : Bor (List ℕ)) (same : mid ≡ old) where
  here : (reply : Reply) → StepsTo setup (seen old told up) (seen old told up) (event.Accept given) reply
      → StepsTo setup (seen old told up) (seen mid told up) (event.Accept given) reply
  here reply steps =
      subst (λ chip. StepsTo setup (seen old told up) (seen chip told up) (event.Accept given) reply) (sym same) steps

  pub text_steps : (fault : Fault) → RefusesText setup.identity given.now fault
      → StepsTo setup (seen old told up) (seen mid told up) (event.Accept given) (fault_reply fault)
  text_steps (no.Manifest error) refused = here (Refused (no.Manifest error))
      (steps_bad_manifest setup old told up state is_booted read rests given error refused)
  text_steps no.NoMemory refused = here (Refused no.NoMemory)
      (steps_no_memory setup old told up state is_booted read rests given)
  text_steps no.NotBooted refused = absurd refused
  text_steps no.OnTrial refused = absurd refused
  text_steps no.NotOnTrial refused = absurd refused
  text_steps no.NotProvisioned refused = absurd refused
  text_steps (no.RunningDamaged image) refused = absurd refused
  text_steps no.InvalidSet refused = absurd refused
  text_steps (no.Flash error) refused = absurd refused
  text_steps (no.Upload error) refused = absurd refused

-- How the call of a refused text ends.
pub text_ends : (identity : Identity) (bytes : List ℕ) (old mid : Chip) (told : List (Option Upload)) (up : Bool)
    → mid ≡ old → (fault : Fault) → RefusesText identity bytes fault
    → EndsCall (fault_reply fault) (seen old told up) (seen mid told up)
text_ends identity bytes old mid told up same (no.Manifest error) refused =
    idle_ends old mid told told up up (Refused (no.Manifest error)) refl refl same
text_ends identity bytes old mid told up same no.NoMemory refused =
    idle_ends old mid told told up up (Refused no.NoMemory) refl refl same
text_ends identity bytes old mid told up same no.NotBooted refused = absurd refused
text_ends identity bytes old mid told up same no.OnTrial refused = absurd refused
text_ends identity bytes old mid told up same no.NotOnTrial refused = absurd refused
text_ends identity bytes old mid told up same no.NotProvisioned refused = absurd refused
text_ends identity bytes old mid told up same (no.RunningDamaged image) refused = absurd refused
text_ends identity bytes old mid told up same no.InvalidSet refused = absurd refused
text_ends identity bytes old mid told up same (no.Flash error) refused = absurd refused
text_ends identity bytes old mid told up same (no.Upload error) refused = absurd refused
