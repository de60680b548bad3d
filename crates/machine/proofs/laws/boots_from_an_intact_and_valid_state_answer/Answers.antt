use Rattle.machine.proofs.SoundBoots.{boots_answer, sound_reads}
use Rattle.machine.proofs.laws.boots_from_an_intact_and_valid_state_answer.Goals as goal

pub returns : goal.returns
returns c = λ boots s next reply sound booted. boots_answer boots s reply next (sound_reads s sound) booted
