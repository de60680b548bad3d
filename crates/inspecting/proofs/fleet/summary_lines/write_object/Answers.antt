use Rattle.std.proofs.Common.{inl, inr}
use Rattle.std.proofs.KnownBytes.{Keeps-refl}
use Rattle.inspecting.proofs.ResultLaws.{OnErr-then, OnOk-then}
use Rattle.inspecting.proofs.fleet.summary_lines.write_object.Goals as goal

-- The object of the rows is written, with the notes on them.
pub returns-clause-told : goal.returns-clause-told
returns-clause-told g c =
    let made = c.in-Ok.ensures in
    OnOk-then c.write_line.result
    (λ written. record { rows = made.rows; are = made.are; notes = _; written = rw (c.deref.ensures, made.is) at written })
    c.write_line.ensures.told

-- A prefix of it is written.
pub returns-clause-begun : goal.returns-clause-begun
returns-clause-begun g c =
    let made = c.in-Ok.ensures in
    OnErr-then c.write_line.result
    (λ begun. inr (made.rows, made.are, _, rw (c.deref.ensures, made.is) at begun)) c.write_line.ensures.begun

-- There was no memory for the object.
pub returns-in_default-clause-begun : goal.returns-in_default-clause-begun
returns-in_default-clause-begun g c = inl (Keeps-refl _)
