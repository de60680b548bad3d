use Rattle.slice_flash.proofs.Indexed.{index_of_none}
use Rattle.slice_flash.proofs.index.Index.new.Goals as goal

pub returns : goal.returns
returns c = λ size base journal. index_of_none size base journal
