use Rattle.std.proofs.Common.{◌≡◌, Some, length, inl, inr, sym, ap, ◌∙◌, arith}
use Rattle.std.proofs.lemmas.Bool.{false≢true}
use Rattle.std.proofs.lemmas.Option.{same_Some}
use Rattle.checker.specs.declared.checking.Flaw.TheVariants as flaw
use Rattle.checker.proofs.checking.first_flaw.Goals as goal

pub returns-then-not-has_as_many_images-clause-first :
    goal.returns-then-not-has_as_many_images-clause-first
returns-then-not-has_as_many_images-clause-first c =
    let fails : length c.args.report.now.images.items ≡ length c.args.table.now.images.items → ⊥ =
    λ same. false≢true (sym c.if-not-has_as_many_images.true ∙ c.has_as_many_images.ensures.1 same) in
    λ named. (
      λ is. inl (
        0,
        record { fails = fails; before = λ j less. absurd (omega (arith, less)) },
        sym (same_Some flaw.Images named is),
      ),
      λ first. elim first [
        | inl at ↦ ap Some (sym at.2)
        | inr later ↦ absurd (fails (later.0 0))
      ],
    )
