use Rattle.std.proofs.Common.{refl, sym, take, ◌∙◌}
use Rattle.std.proofs.lemmas.Bool.{false≢true}
use Rattle.reports.specs.Reasons.{IsFoundedAfter}
use Rattle.checker.proofs.EachPlace.{holds_everywhere, holds_here, holds_one_more}
use Rattle.checker.proofs.reasons.first_unfounded.Goals as goal

pub loop-place-preserved : goal.loop-place-preserved
loop-place-preserved c =
    let refusals = c.args.refusals.now in
    holds_one_more refusals (λ k. IsFoundedAfter c.args.table.now (take k refusals)) refusals _ _ refl
    c.loop-place-test.true c.index-refusals-place.is c.loop-place.invariant
    (c.reason_holds.ensures.0 c.if-not-reason_holds.false)

pub returns : goal.returns
returns c =
    let refusals = c.args.refusals.now in
    holds_everywhere refusals (λ k. IsFoundedAfter c.args.table.now (take k refusals)) refusals _ refl
    c.loop-place-test.false c.loop-place.invariant

pub returns-then-not-reason_holds : goal.returns-then-not-reason_holds
returns-then-not-reason_holds c =
    let refusals = c.args.refusals.now in
    record {
      fails = λ founded. false≢true (sym c.if-not-reason_holds.true ∙ c.reason_holds.ensures.1
          (holds_here refusals (λ k. IsFoundedAfter c.args.table.now (take k refusals)) refusals _ _ refl
          c.loop-place-test.true c.index-refusals-place.is founded));
      before = c.loop-place.invariant;
    }
