use Rattle.slice_flash.proofs.Indexed.{all_bits_set}
use Rattle.slice_flash.proofs.index.Index.touch_all.Goals as goal

pub returns-clause-sectors : goal.returns-clause-sectors
returns-clause-sectors c = all_bits_set
