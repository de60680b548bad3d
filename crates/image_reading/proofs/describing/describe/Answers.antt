use Rattle.std.proofs.Common.{ℕ, List, refl, arith}
use Rattle.std.specs.Prelude.{IfErr, IfOk}
use Rattle.image_reading.specs.Fault.{IsFirstFault}
use Rattle.image_reading.specs.Image.{IsIntact}
use Rattle.image_reading.proofs.Answered.{only_description, only_fault, whole_answered}
use Rattle.image_reading.proofs.Spans.{CanRead-span, of_memory}
use Rattle.image_reading.proofs.describing.describe.Goals as goal

pub describe_whole-requires : goal.describe_whole-requires
describe_whole-requires c = CanRead-span _ _ refl (omega arith) (omega arith)

pub returns-clause-described : goal.returns-clause-described
returns-clause-described c = of_memory (λ (bytes : List ℕ). IfOk c.describe_whole.result (IsIntact bytes))
    c.args.bytes.now c.describe_whole.ensures.described

pub returns-clause-fault : goal.returns-clause-fault
returns-clause-fault c = of_memory (λ (bytes : List ℕ). IfErr c.describe_whole.result (IsFirstFault bytes))
    c.args.bytes.now c.describe_whole.ensures.fault

pub returns-clause-only : goal.returns-clause-only
returns-clause-only c =
    let bytes = c.args.bytes.now in
    only_description (IsIntact bytes) (IsFirstFault bytes) c.describe_whole.result (whole_answered bytes)
    (returns-clause-described c) (returns-clause-fault c)

pub returns-clause-refused : goal.returns-clause-refused
returns-clause-refused c =
    let bytes = c.args.bytes.now in
    only_fault (IsIntact bytes) (IsFirstFault bytes) c.describe_whole.result (whole_answered bytes)
    (returns-clause-described c) (returns-clause-fault c)
