use Rattle.std.proofs.Common.{sym, ◌∙◌, arith}
use Rattle.std.proofs.lemmas.Bool.{eqb-true, eqb-false, true≢false}
use Rattle.image_reading.specs.Area.{values_of}
use Rattle.image_reading.specs.Gathered.{AreKept}
use Rattle.image_reading.proofs.Gathered.{AreKept-bad, AreKept-over, AreKept-push, HasMet-next}
use Rattle.image_reading.proofs.met.ItemFaults.meet.Goals as goal

pub returns-then-is_full-clause-met : goal.returns-then-is_full-clause-met
returns-then-is_full-clause-met g c = λ values left before.
    let so_far = HasMet-next _ _ values c.args.kind _ left c.args.kept.now.items c.args.self.now c.if-entry-kind.false before in
    record {
      bad = so_far.bad;
      kept = λ good. AreKept-over _ _ _ _ _ _ _ _ (so_far.kept good) c.in-Some.ensures.fits c.in-Some.ensures.spelled
          (omega (arith, eqb-true _ _ (sym c.is_full.ensures.value ∙ c.if-is_full.true)));
    }

pub returns-else-is_full-clause-met : goal.returns-else-is_full-clause-met
returns-else-is_full-clause-met g c = λ values left before.
    let so_far = HasMet-next _ _ values c.args.kind _ left c.args.kept.now.items c.args.self.now c.if-entry-kind.false before in
    record {
      bad = so_far.bad;
      kept = λ good. rw c.push.ensures.items (AreKept-push _ _ _ _ _ _ _ _ (so_far.kept good) c.in-Some.ensures.fits
          c.in-Some.ensures.spelled
          (omega (arith, c.is_full.ensures.fits, eqb-false _ _ (sym c.is_full.ensures.value ∙ c.if-is_full.false))));
    }

pub returns-in_default-clause-met : goal.returns-in_default-clause-met
returns-in_default-clause-met g c = λ values left before.
    let items = c.args.kept.now.items in
    let so_far = HasMet-next _ _ values c.args.kind _ left items c.args.self.now c.if-entry-kind.false before in
    record {
      bad = λ _. AreKept-bad _ _ _ _ _ _ _ (so_far.kept c.if-self.false) c.in_default.ensures.none;
      kept = λ good. absurd {A = AreKept g.T.Spelled.spelling g.row.MOST values (values_of c.args.kind left) items
          c.args.self.now.too_many} (true≢false good);
    }
