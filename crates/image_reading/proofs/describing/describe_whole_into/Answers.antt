use Rattle.std.proofs.Common.{◌<◌, ◌≤◌, length, arith}
use Rattle.common.proofs.Results.{IfErr-passed}
use Rattle.image_reading.specs.Span.{bytes_of}
use Rattle.image_reading.proofs.Descriptions.{first_behind, intact_whole}
use Rattle.image_reading.proofs.describing.describe_whole_into.Goals as goal

pub returns-in_err-describe_front_into-clause-fault : goal.returns-in_err-describe_front_into-clause-fault
returns-in_err-describe_front_into-clause-fault g c =
    IfErr-passed _ _ _ c.from_residual.ensures.1 c.in_err-describe_front_into.ensures.fault.0

pub returns-then-description-bytes-clause-fault : goal.returns-then-description-bytes-clause-fault
returns-then-description-bytes-clause-fault g c =
    let bytes = bytes_of (g.M.Medium.chip c.args.medium.now) c.args.bytes in
    let found = c.describe_front_into.new.description in
    let longer : found.length < length bytes = omega (arith, c.if-description-bytes.true, c.requires.whole) in
    first_behind bytes found c.in_ok-describe_front_into.ensures.described longer

pub returns-clause-described : goal.returns-clause-described
returns-clause-described g c =
    let bytes = bytes_of (g.M.Medium.chip c.args.medium.now) c.args.bytes in
    let found = c.describe_front_into.new.description in
    let whole : length bytes ≤ found.length = omega (arith, c.if-description-bytes.false, c.requires.whole) in
    intact_whole bytes found c.in_ok-describe_front_into.ensures.described whole
