use Rattle.std.proofs.Common.{◌∷◌, [], ◌++◌, inl, inr, map, subst}
use Rattle.std.proofs.KnownBytes.{Keeps-refl}
use Rattle.std.proofs.lemmas.List.{take_all}
use Rattle.std.specs.List.{AllZip, flat_map}
use Rattle.common.proofs.Mapped.{AllZip-more}
use Rattle.inspecting.proofs.MergingLaws.{IsTallied-part, has_bad-rows}
use Rattle.inspecting.proofs.ResultLaws.{IfOk-then, OnErr-then}
use Rattle.inspecting.proofs.RowsLaws.{IsSumOf-tallied}
use Rattle.inspecting.specs.PlanEnd.{IsAnswerFor}
use Rattle.inspecting.specs.SummaryText.{IsSummaryText}
use Rattle.inspecting.proofs.fleet.merging.merge_over.Goals as goal

-- One more text is added.
pub loop-part-preserved : goal.loop-part-preserved
loop-part-preserved g c =
    let (parts, spelled, tallied) = c.loop-part.invariant in
    let (rows, text, adds) = c.in_default.ensures in (
      parts ++ rows ∷ [],
      AllZip-more IsSummaryText (λ t. t.items) c.args.parts.now parts c.loop-part.part c.index-parts-part.result rows c.loop-part-test.true c.index-parts-part.is
          spelled (rw c.deref.ensures.value at text),
      IsTallied-part parts rows c.loop-part.summary.rows c.add_text.new.summary.rows tallied adds,
    )

-- All texts are added.
pub returns-clause-merges : goal.returns-clause-merges
returns-clause-merges g c = IfOk-then c.write_sum.result (λ answer written.
    let (parts, spelled, tallied) = c.loop-part.invariant in
    record {
      parts = parts;
      spelled = subst (λ texts. AllZip IsSummaryText (map (λ t. t.items) texts) parts) (take_all c.loop-part.part c.args.parts.now c.loop-part-test.false) spelled;
      rows = written.0.rows;
      is = IsSumOf-tallied (flat_map (λ part. part) parts) written.0.rows c.loop-part.summary.rows written.0.are tallied;
      answered = subst (λ bad. IsAnswerFor bad answer) (has_bad-rows written.0.rows c.loop-part.summary.rows written.0.are) written.1;
      notes = written.0.notes;
      written = written.0.written;
    }) c.write_sum.ensures.written

-- A prefix of the sum is written.
pub returns-clause-begun : goal.returns-clause-begun
returns-clause-begun g c = OnErr-then c.write_sum.result (λ begun.
    let (parts, spelled, tallied) = c.loop-part.invariant in
    elim begun [
      | inl kept ↦ inl kept
      | inr some ↦ inr (record {
        parts = parts;
        spelled = subst (λ texts. AllZip IsSummaryText (map (λ t. t.items) texts) parts) (take_all c.loop-part.part c.args.parts.now c.loop-part-test.false) spelled;
        rows = some.0;
        is = IsSumOf-tallied (flat_map (λ part. part) parts) some.0 c.loop-part.summary.rows some.1 tallied;
        notes = some.2;
        begun = some.3;
      })
    ]) c.write_sum.ensures.begun

-- A text can't be added.
pub returns-in-Err-clause-begun : goal.returns-in-Err-clause-begun
returns-in-Err-clause-begun g c = inl (Keeps-refl _)
