use Rattle.std.proofs.Common.{◌≡◌, true, false, refl}
use Rattle.c_interface.specs.Choosing.{NoReport, Right, Wrong}
use Rattle.c_interface.proofs.choosing.check_at.Goals as goal

pub returns-then-check : goal.returns-then-check
returns-then-check c = Right c.parse_into.new.table c.parse_into-2.new.report c.in_default.ensures.spelled
    c.in_default-parse_into.ensures.spelled (c.check.ensures.exact.0 c.if-check.true) refl refl

pub returns-else-check : goal.returns-else-check
returns-else-check c = Wrong c.parse_into.new.table c.parse_into-2.new.report c.in_default.ensures.spelled
    c.in_default-parse_into.ensures.spelled
    (λ right. let is : false ≡ true = c.if-check.ensures.exact.1 right in absurd cc) refl refl

pub returns-in-Err-parse_into : goal.returns-in-Err-parse_into
returns-in-Err-parse_into c =
    NoReport c.parse_into.new.table c.in_default.ensures.spelled c.in-Err-parse_into.ensures.line refl
