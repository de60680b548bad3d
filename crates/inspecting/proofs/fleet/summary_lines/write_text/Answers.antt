use Rattle.std.proofs.Common.{[], inl, inr}
use Rattle.std.proofs.KnownBytes.{Keeps-refl}
use Rattle.inspecting.proofs.ResultLaws.{OnErr-then, OnOk-then}
use Rattle.inspecting.proofs.fleet.summary_lines.write_text.Goals as goal

-- The text of the rows is written. It has no notes.
pub returns-clause-told : goal.returns-clause-told
returns-clause-told g c =
    let made = c.in-Ok.ensures in
    OnOk-then c.write_explained.result
    (λ written. record { rows = made.0; are = made.1; notes = []; written = rw (c.deref.ensures.value, made.2) at written })
    c.write_explained.ensures.told

-- A prefix of it is written.
pub returns-clause-begun : goal.returns-clause-begun
returns-clause-begun g c =
    let made = c.in-Ok.ensures in
    OnErr-then c.write_explained.result
    (λ begun. inr (made.0, made.1, [], rw (c.deref.ensures.value, made.2) at begun)) c.write_explained.ensures.begun

-- There was no memory for the text.
pub returns-in_default-clause-begun : goal.returns-in_default-clause-begun
returns-in_default-clause-begun g c = inl (Keeps-refl _)
