use Rattle.std.proofs.Common.{◌≡◌, Some, arith, inl, inr, refl, subst, sym, ⊎_elim, ◌∙◌}
use Rattle.std.proofs.lemmas.Result.{IfOk-weaker}
use Rattle.upload.proofs.Ends.{err_passed}
use Rattle.flash_contents.specs.Reading.{IsFoundAgain}
use Rattle.flash_contents.specs.Wear.{IsSetFound}
use Rattle.decision.specs.Found.{HasTable}
use Rattle.boot_core.specs.FromSwap.{IsSettleRecorded}
use Rattle.boot_core.proofs.Readable.{decided_alone, decided_told}
use Rattle.flash_contents.proofs.Resuming.{swap_finishes}
use Rattle.boot_core.proofs.OnMap.{layout_keeps, layout_then, layout_wider, settled_moved}
use Rattle.boot_core.specs.Found.{StartsFound}
use Rattle.upload.specs.View.{view}
use Rattle.boot_core.proofs.Passed.{passes_err, then_ends}
use Rattle.boot_core.proofs.Undecided.{never_again, starts_settled, decided_in, undecided_in}
use Rattle.decision.specs.Places.{finding_in, read_as}
use Rattle.set_log.specs.Log.{state_of}
use Rattle.set_log.specs.declared.state.RecordKind.TheVariants.{Settle, Swap}
use Rattle.set_log.specs.declared.state.State.{State}
use Rattle.boot_core.proofs.Asking.{asks_next, asks_other}
use Rattle.boot_core.specs.Journal.{is_resting}
use Rattle.boot_core.proofs.swap.finish_swap.Goals as goal

pub settle_found-requires : goal.settle_found-requires
settle_found-requires g c =
    let forth = c.in_ok-finding.ensures.done in
    rw c.settling-settle.ensures (record {
      laid_out = c.swap_forth.ensures.laid;
      read = subst
          (λ found. IsSettleRecorded c.args.map.now c.args.state.now (g.F.Flash.chip c.swap_forth.new.flash) found)
          (decided_in c.swap_forth.new.table c.swap_forth.new.report _ c.in-Decided.is) forth.recorded;
      kind = refl;
      few = c.requires.few;
      found = λ s table permanent can decision.
          subst (λ found. IsFoundAgain s c.args.state.now.mask found) (decided_in c.swap_forth.new.table c.swap_forth.new.report _ c.in-Decided.is)
          (forth.found s table permanent can decision);
      rows = subst (λ found. HasTable c.args.map.now.images found) (decided_in c.swap_forth.new.table c.swap_forth.new.report _ c.in-Decided.is) forth.rows;
    })

pub returns-in_err-finding : goal.returns-in_err-finding
returns-in_err-finding g c =
    rw (err_passed c.from_residual.result c.in_err-finding.field-0.0 c.from_residual.ensures.1)
    (record {
      passes = passes_err c.swap_forth.ensures.layout (λ s table was. inl (c.swap_forth.ensures.stands s table was))
          c.in_err-finding.ensures.ends;
      settles = inl c.swap_forth.ensures.moving;
      journal = c.swap_forth.ensures.journal;
    })

pub returns-in-Decided : goal.returns-in-Decided
returns-in-Decided g c =
    let map = c.args.map.now in
    let state = c.args.state.now in
    let forth = c.in_ok-finding.ensures.done in
    let settles = rw c.settling-settle.ensures at c.settle_found.ensures in
    record {
      settles = ⊎_elim (λ still. inl (_, still, refl)) (λ taken. inr taken.1) settles.settles;
      journal = ⊎_elim (λ still. asks_next map state _ _ _ still unlike) (λ taken.
          asks_other map state _ _ is_resting Swap taken.0 c.requires.recorded.kind refl) settles.settles;
      passes = record {
        layout = layout_then c.swap_forth.ensures.layout
            (layout_wider (settled_moved state.mask) c.swap_forth.ensures.laid settles.layout);
        stands = swap_finishes map _ _ _ state c.args.left (λ s table was. (forth.ok s table was).1) settles.stands;
        done = IfOk-weaker (read_as (finding_in c.swap_forth.new.table c.swap_forth.new.report) c.settle_found.result) _ _ (λ answer done. record {
          ok = λ s table was. done.0.ok s table (forth.ok s table was).1;
          erases = λ s table permanent was. omega (arith, forth.erases s table permanent was, done.0.erases);
          tells = record {
            set = subst (λ found. IsSetFound state.mask found) ((decided_in c.swap_forth.new.table c.swap_forth.new.report _ c.in-Decided.is) ∙ sym done.1) forth.tells.set;
            told = decided_told map _ state answer _ _ done.1;
            alone = decided_alone map _ _ state answer _ _ done.1;
            starts = starts_settled map state.mask _ _ answer (layout_keeps settles.layout)
                (subst (λ found. StartsFound (view map (g.F.Flash.chip c.swap_forth.new.flash)) found)
                ((decided_in c.swap_forth.new.table c.swap_forth.new.report _ c.in-Decided.is) ∙ sym done.1) forth.tells.starts);
          };
        }) settles.done;
        ends = then_ends c.in_ok-finding.ensures.ends settles.ends;
      };
    } where
      unlike : Settle ≡ c.args.state.now.kind → ⊥
      unlike is = let same : Settle ≡ Swap = is ∙ c.requires.recorded.kind in cc

pub returns-in_default : goal.returns-in_default
returns-in_default g c =
    let forth = c.in_ok-finding.ensures.done in
    record {
      settles = inl c.swap_forth.ensures.moving;
      journal = c.swap_forth.ensures.journal;
      passes = record {
        layout = c.swap_forth.ensures.layout;
        stands = λ s table was. inl (c.swap_forth.ensures.stands s table was);
        done = record {
          ok = λ s table was. absurd (never_again s c.args.state.now.mask _ (undecided_in c.swap_forth.new.table c.swap_forth.new.report _ c.in_default.not-Decided)
              (forth.ok s table was).0);
          erases = λ s table permanent was. omega (arith, forth.erases s table permanent was);
          tells = forth.tells;
        };
        ends = c.in_ok-finding.ensures.ends;
      };
    }
