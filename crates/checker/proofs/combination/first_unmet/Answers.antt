use Rattle.std.proofs.Common.{ℕ, Bool, sym, ◌∙◌}
use Rattle.std.specs.Prelude.{IsTrue}
use Rattle.std.proofs.lemmas.Bool.{false≢true}
use Rattle.reports.specs.declared.table.Image.{Image}
use Rattle.reports.specs.declared.table.Table.{Table}
use Rattle.reports.specs.Combination.{entry_in, meets_all}
use Rattle.reports.specs.Rightness.{taken_in}
use Rattle.checker.proofs.EachPlace.{holds_everywhere, holds_here, holds_one_more}
use Rattle.checker.proofs.combination.first_unmet.Goals as goal

-- The dependencies and groups of the entry that an image contributes are met.
abbrev IsMetAt : Table → (ℕ → Bool) → ℕ → Image → Type 0
IsMetAt table taken j image = IsTrue (meets_all table taken (entry_in image (taken j)))

pub loop-number-preserved : goal.loop-number-preserved
loop-number-preserved c =
    holds_one_more c.args.table.now.images.items (IsMetAt c.args.table.now (taken_in c.args.report.now)) _ _ _
    c.deref-image-items.ensures.0 c.loop-number-test.true c.image-item.is c.loop-number.invariant
    (sym c.can_run_on.ensures ∙ c.if-not-can_run_on.false)

pub returns : goal.returns
returns c =
    holds_everywhere c.args.table.now.images.items (IsMetAt c.args.table.now (taken_in c.args.report.now)) _ _
    c.deref-image-items.ensures.0 c.loop-number-test.false c.loop-number.invariant

pub returns-then-not-can_run_on : goal.returns-then-not-can_run_on
returns-then-not-can_run_on c =
    record {
      fails = λ met. false≢true (sym c.if-not-can_run_on.true ∙ c.can_run_on.ensures
          ∙ holds_here c.args.table.now.images.items (IsMetAt c.args.table.now (taken_in c.args.report.now)) _ _ _
          c.deref-image-items.ensures.0 c.loop-number-test.true c.image-item.is met);
      before = c.loop-number.invariant;
    }
