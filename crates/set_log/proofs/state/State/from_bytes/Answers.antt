use Rattle.std.proofs.Common.{sym, ap, ◌∙◌, ◌≡◌, true, false}
use Rattle.std.proofs.lemmas.Bool.Decides.{Decides-eqb}
use Rattle.std.proofs.lemmas.Slice.Eq.{slice_eq-Decides}
use Rattle.set_log.specs.Record.{checked, record_bytes}
use Rattle.set_log.proofs.Spelled.{from_none, from_some, checked_yes, checked_unfit, checked_other}
use Rattle.set_log.proofs.state.State.from_bytes.Goals as goal
use Rattle.set_log.proofs.state.State.from_bytes.Goals.{else-fits-via-then-fits+else-eq, else-fits-via-else-fits}

pub returns-in_err-kind : goal.returns-in_err-kind
returns-in_err-kind c =
    c.from_residual.ensures ∙ sym (from_none c.args.images c.args.bytes.now
    (sym c.from_number.ensures ∙ c.in_err-kind.was))

pub returns-then-eq : goal.returns-then-eq
returns-then-eq c =
    let same : c.args.bytes.now ≡ record_bytes c.from_fields-state.result =
    (slice_eq-Decides Decides-eqb _ _ _ c.eq.ensures).0 c.if-eq.true ∙ c.to_bytes.ensures.is in
    sym (from_some c.args.images c.args.bytes.now c.in_ok-kind.kind (sym c.from_number.ensures ∙ c.in_ok-kind.was)
    ∙ ap (checked c.args.images c.args.bytes.now) (sym c.from_fields-state.ensures)
    ∙ checked_yes _ _ _ (sym c.fits.ensures ∙ c.if-fits.true) same)

pub returns : goal.returns
returns c =
    let start = from_some c.args.images c.args.bytes.now c.in_ok-kind.kind
    (sym c.from_number.ensures ∙ c.in_ok-kind.was)
    ∙ ap (checked c.args.images c.args.bytes.now) (sym c.from_fields-state.ensures) in
    elim c.else-fits.branch [
      | else-fits-via-then-fits+else-eq w ↦ sym (start ∙ checked_other _ _ _ (sym c.fits.ensures ∙ w.if-fits.true)
          (λ same. let wrong : false ≡ true = sym w.if-eq.false
          ∙ (slice_eq-Decides Decides-eqb _ _ _ w.eq.ensures).1 (same ∙ sym w.to_bytes.ensures.is) in cc wrong))
      | else-fits-via-else-fits w ↦ sym (start ∙ checked_unfit _ _ _ (sym c.fits.ensures ∙ w.if-fits.false))
    ]
