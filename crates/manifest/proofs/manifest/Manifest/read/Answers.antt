use Rattle.std.proofs.Common.{Err, inl, inr, ap, rules}
use Rattle.manifest.proofs.Judged.{answers_manifest, answers_refusal, gives_refusal}
use Rattle.manifest.proofs.manifest.Manifest.read.Goals as goal

pub returns-in_err-value-clause-read : goal.returns-in_err-value-clause-read
returns-in_err-value-clause-read c =
    λ manifest is.
    elim c.in_err-value.ensures.only [
      | inl not_json ↦ absurd (c.in_err-value.ensures.refused (ap Err not_json) is.value is.json)
      | inr memory ↦ inr (search rules)
    ]

pub returns-clause-read : goal.returns-clause-read
returns-clause-read c =
    λ manifest is. inl (answers_manifest _ _ _ c.in_ok-value.ensures.read c.meant.result c.meant.ensures.means c.meant.ensures.fault manifest is)

pub returns-clause-refused : goal.returns-clause-refused
returns-clause-refused c =
    λ fault refused. inl (answers_refusal _ _ _ c.in_ok-value.ensures.read c.meant.result c.meant.ensures.means c.meant.ensures.fault fault refused)

pub returns-clause-only : goal.returns-clause-only
returns-clause-only c = gives_refusal _ _ _ c.in_ok-value.ensures.read c.meant.result c.meant.ensures.fault
