use Rattle.std.proofs.Common.{sym, ◌∙◌}
use Rattle.std.proofs.lemmas.Bool.{false≢true}
use Rattle.reports.specs.Rightness.{HasVersionOf}
use Rattle.checker.proofs.EachPlace.{holds_everywhere, holds_here, holds_one_more}
use Rattle.checker.proofs.images.first_wrong_version.Goals as goal

pub loop-number-preserved : goal.loop-number-preserved
loop-number-preserved c =
    holds_one_more c.args.table.now.images.items (HasVersionOf c.args.report.now) _ _ _
    c.deref-image-items.ensures.0 c.loop-number-test.true c.image-item.is c.loop-number.invariant
    (c.has_its_version.ensures.0 c.if-not-has_its_version.false)

pub returns : goal.returns
returns c =
    holds_everywhere c.args.table.now.images.items (HasVersionOf c.args.report.now) _ _
    c.deref-image-items.ensures.0 c.loop-number-test.false c.loop-number.invariant

pub returns-then-not-has_its_version : goal.returns-then-not-has_its_version
returns-then-not-has_its_version c =
    record {
      fails = λ holds. false≢true (sym c.if-not-has_its_version.true
          ∙ c.has_its_version.ensures.1 (holds_here c.args.table.now.images.items (HasVersionOf c.args.report.now) _ _ _
          c.deref-image-items.ensures.0 c.loop-number-test.true c.image-item.is holds));
      before = c.loop-number.invariant;
    }
