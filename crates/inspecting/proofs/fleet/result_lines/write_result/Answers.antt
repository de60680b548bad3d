use Rattle.std.proofs.Common.{[]}
use Rattle.inspecting.proofs.ResultLaws.{OnErr-then, OnOk-then}
use Rattle.inspecting.proofs.fleet.result_lines.write_result.Goals as goal

-- A text has no notes.
pub returns-in-Text-clause-told : goal.returns-in-Text-clause-told
returns-in-Text-clause-told g c =
    OnOk-then c.write_text.result (λ written. ([], rw c.in-Text.is written)) c.write_text.ensures.told

pub returns-in-Text-clause-begun : goal.returns-in-Text-clause-begun
returns-in-Text-clause-begun g c =
    OnErr-then c.write_text.result (λ begun. ([], rw c.in-Text.is begun)) c.write_text.ensures.begun

-- An object has its notes.
pub returns-in-Json-clause-told : goal.returns-in-Json-clause-told
returns-in-Json-clause-told g c = OnOk-then c.write_object.result
    (λ written. (written.0, rw c.in-Json.is written.1)) c.write_object.ensures.told

pub returns-in-Json-clause-begun : goal.returns-in-Json-clause-begun
returns-in-Json-clause-begun g c = OnErr-then c.write_object.result
    (λ begun. (begun.0, rw c.in-Json.is begun.1)) c.write_object.ensures.begun
