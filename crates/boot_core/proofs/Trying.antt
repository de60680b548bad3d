-- What a boot replies that tries a set again, and what it doesn't.
use Rattle.std.proofs.Common.{◌≡◌, ℕ, subst}
use Rattle.flash_model.specs.Chip.{Chip}
use Rattle.sector_map.specs.declared.layout.SectorMap.{SectorMap}
use Rattle.set_log.specs.declared.state.State.{State}
use Rattle.flash_contents.specs.Reading.{HasLeft}
use Rattle.machine.specs.declared.error.Fault.TheVariants.{RunningDamaged}
use Rattle.flash_contents.specs.declared.finding.Passage.{Passage}
use Rattle.flash_contents.specs.declared.finding.Passage.TheVariants.{Stays}
use Rattle.machine.specs.declared.reply.Reply.TheVariants.{Reverted, TrialAgain, Refused}
use Rattle.boot_core.specs.Over.{IsTriedAgain}

pub again_is : (map : SectorMap) (state : State) (old new : Chip) (mask more set left : ℕ)
    → TrialAgain mask more ≡ TrialAgain set left → IsTriedAgain map state old new mask more
    → IsTriedAgain map state old new set left
again_is map state old new mask more set left is tried =
    let sets : mask ≡ set = cc in
    let lefts : more ≡ left = cc in
    subst (λ m. IsTriedAgain map state old new m left) sets
    (subst (λ n. IsTriedAgain map state old new mask n) lefts tried)

pub never_again : (mask set left : ℕ) → Reverted mask ≡ TrialAgain set left → ⊥
never_again mask set left is = cc

pub refused_again : (i set left : ℕ) → Refused (RunningDamaged i) ≡ TrialAgain set left → ⊥
refused_again i set left is = cc

pub stays_none : (left : ℕ) (passage : Passage) → passage ≡ Stays → HasLeft left passage → left ≡ 0
stays_none left passage is has = subst (λ p. HasLeft left p) is has
