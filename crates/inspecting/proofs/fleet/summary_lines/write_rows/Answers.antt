use Rattle.inspecting.proofs.ResultLaws.{OnErr-then, OnOk-then}
use Rattle.inspecting.proofs.fleet.summary_lines.write_rows.Goals as goal

-- The text is written.
pub returns-in-Text-clause-told : goal.returns-in-Text-clause-told
returns-in-Text-clause-told g c =
    OnOk-then c.write_text.result (λ written. rw c.in-Text.is written) c.write_text.ensures.told

pub returns-in-Text-clause-begun : goal.returns-in-Text-clause-begun
returns-in-Text-clause-begun g c =
    OnErr-then c.write_text.result (λ begun. rw c.in-Text.is begun) c.write_text.ensures.begun

-- The object is written.
pub returns-in-Json-clause-told : goal.returns-in-Json-clause-told
returns-in-Json-clause-told g c =
    OnOk-then c.write_object.result (λ written. rw c.in-Json.is written) c.write_object.ensures.told

pub returns-in-Json-clause-begun : goal.returns-in-Json-clause-begun
returns-in-Json-clause-begun g c =
    OnErr-then c.write_object.result (λ begun. rw c.in-Json.is begun) c.write_object.ensures.begun
