use Rattle.std.proofs.Common.{arith, inl, inr, refl, subst, sym}
use Rattle.sector_map.proofs.Parts.{keeps_wider, laid_out_kept}
use Rattle.set_log.specs.declared.state.RecordKind.TheVariants.{Settle, Swap}
use Rattle.reports.specs.declared.table.Table.{Table}
use Rattle.machine.specs.Device.{DeviceState}
use Rattle.upload.proofs.Ends.{err_passed}
use Rattle.upload.proofs.Views.{view_kept}
use Rattle.flash_contents.specs.Passing.{IsSwappingSome}
use Rattle.flash_contents.specs.Reading.{IsFoundAgain}
use Rattle.flash_contents.specs.Wear.{IsSetFound}
use Rattle.flash_contents.specs.declared.finding.Finding.TheVariants.{Decided}
use Rattle.decision.specs.Found.{HasTable}
use Rattle.flash_contents.proofs.Resuming.{never_swapped}
use Rattle.flash_contents.proofs.Swapping.{settle_either, settle_ok, swap_done, swap_resumes}
use Rattle.boot_core.proofs.Readable.{can_read_before}
use Rattle.boot_core.proofs.Records.{fits_next, kind_of_read, one_erase, read_kept, stands_within, state_kept}
use Rattle.boot_core.proofs.OnMap.{layout_kept, layout_more, log_moved, log_settled, swap_moved}
use Rattle.boot_core.proofs.Passed.{passes_err, then_ends, then_ok}
use Rattle.boot_core.proofs.Undecided.{alone_for, never_again, never_recorded, starts_settled, decided_in, undecided_in}
use Rattle.boot_core.specs.Found.{StartsFound}
use Rattle.boot_core.specs.Moving.{settled_parts}
use Rattle.sector_map.specs.Part.{Log, only}
use Rattle.common.specs.Masks.{is_member}
use Rattle.sector_map.specs.declared.layout.Side.TheVariants.{Primary}
use Rattle.upload.specs.View.{view}
use Rattle.boot_core.proofs.Asking.{asks_record, asks_swap, either_kind, this_kind}
use Rattle.boot_core.specs.Journal.{CountsOn, is_moving}
use Rattle.boot_core.proofs.swap.swap_forth.Goals as goal

pub swap_set-requires : goal.swap_set-requires
swap_set-requires g c = record {
  images = record {
    laid_out = c.requires.laid_out;
    within = stands_within c.args.map.now _ c.args.state.now c.requires.read;
  };
}

pub find_again-requires : goal.find_again-requires
find_again-requires g c = record {
  laid_out = laid_out_kept c.args.map.now _ _ _ c.requires.laid_out c.swap_set.ensures.outside;
}

pub append-requires : goal.append-requires
append-requires g c =
    let map = c.args.map.now in
    let state = c.args.state.now in
    rw (c.settling.ensures, c.find_again.ensures.same) (record {
      laid_out = laid_out_kept map _ _ _ c.requires.laid_out c.swap_set.ensures.outside;
      has_state = state_kept map _ _ _ state c.swap_set.ensures.outside refl c.requires.read;
      fits = fits_next map _ state Settle state.permanent state.left c.requires.read
          (kind_of_read map _ state Swap c.requires.read c.requires.kind);
    })

pub returns-in_err-swap_set : goal.returns-in_err-swap_set
returns-in_err-swap_set g c =
    let swaps = c.swap_set.ensures in
    rw (err_passed c.from_residual.result c.in_err-swap_set.field-0.0 c.from_residual.ensures.1)
    (record {
      passes = passes_err (layout_kept (swap_moved c.args.state.now.mask Primary) c.requires.laid_out swaps.outside)
          (λ s table was. inl (swap_resumes c.args.map.now _ _ c.args.state.now.mask swaps.outside swaps.resumes s table _ was))
          c.in_err-swap_set.ensures.ends;
      moving = this_kind is_moving _ c.args.state.now Swap
          (read_kept c.args.map.now _ _ _ c.args.state.now swaps.outside refl c.requires.read) c.requires.kind refl;
      journal = asks_swap c.args.map.now c.args.state.now _ Primary
          (subst (λ k. CountsOn k Primary) (sym c.requires.kind) tt) _ swaps.forward swaps.journal;
    })

pub returns-in_err-finding : goal.returns-in_err-finding
returns-in_err-finding g c =
    let swaps = c.in_ok-swap_set.ensures in
    rw (
      err_passed c.from_residual-in_err-finding.result c.in_err-finding.field-0.0 c.from_residual-in_err-finding.ensures.1,
      c.find_again.ensures.same,
    ) (record {
      passes = passes_err (layout_kept (swap_moved c.args.state.now.mask Primary) c.requires.laid_out swaps.outside)
          (λ s table was. inl (swap_resumes c.args.map.now _ _ c.args.state.now.mask swaps.outside swaps.resumes s table _ was))
          (rw c.find_again.ensures.same at (then_ends swaps.ends c.in_err-finding.ensures.ends));
      moving = this_kind is_moving _ c.args.state.now Swap
          (read_kept c.args.map.now _ _ _ c.args.state.now swaps.outside refl c.requires.read) c.requires.kind refl;
      journal = asks_swap c.args.map.now c.args.state.now _ Primary
          (subst (λ k. CountsOn k Primary) (sym c.requires.kind) tt) _ swaps.forward swaps.journal;
    })

pub returns-in_err-append-in-Decided : goal.returns-in_err-append-in-Decided
returns-in_err-append-in-Decided g c =
    let map = c.args.map.now in
    let state = c.args.state.now in
    let swaps = c.in_ok-swap_set.ensures in
    let records = rw (c.settling.ensures, c.find_again.ensures.same) at c.append.ensures in
    rw (err_passed c.from_residual-in_err-append-in-Decided.result c.in_err-append-in-Decided.field-0.0
    c.from_residual-in_err-append-in-Decided.ensures.1)
    (record {
      passes = passes_err (layout_more (log_moved (is_member c.args.state.now.mask)) (layout_kept (swap_moved c.args.state.now.mask Primary) c.requires.laid_out swaps.outside) records.outside)
          (λ s table was. settle_either map _ _ (laid_out_kept map _ _ _ c.requires.laid_out swaps.outside) state
          (read_kept map _ _ _ state swaps.outside refl c.requires.read) records.outside records.either s table _ _
          (swap_resumes map _ _ state.mask swaps.outside swaps.resumes s table _ was)
          (swap_done map _ _ state.mask swaps.outside swaps.swapped s table _ was))
          (then_ends (then_ends swaps.ends c.in_ok-finding.ensures.ends) c.in_err-append-in-Decided.ensures.ends);
      moving = either_kind is_moving _ _ _ records.either (this_kind is_moving _ state Swap
          (read_kept map _ _ _ state swaps.outside refl c.requires.read) c.requires.kind refl) refl;
      journal = asks_record map state _ Primary (subst (λ k. CountsOn k Primary) (sym c.requires.kind) tt) _
          swaps.forward _ swaps.journal_ok records.outside records.journal;
    })

pub returns-in_ok-append-in-Decided : goal.returns-in_ok-append-in-Decided
returns-in_ok-append-in-Decided g c =
    let map = c.args.map.now in
    let state = c.args.state.now in
    let old = g.F.Flash.chip c.args.flash.now in
    let swaps = c.in_ok-swap_set.ensures in
    let finds = c.in_ok-finding.ensures in
    let records = rw (c.settling.ensures, c.find_again.ensures.same) at c.in_ok-append-in-Decided.ensures in
    let read = read_kept map _ _ _ state swaps.outside refl c.requires.read in
    let swapped = swap_done map _ _ state.mask swaps.outside swaps.swapped in
    let settled = λ (s : DeviceState) (table : Table) (was : IsSwappingSome map old s table state.mask state.permanent).
    settle_ok map _ _ state read records.outside records.ok s table _ _ (swapped s table state.permanent was) in
    record {
      moving = (_, records.ok, refl);
      journal = asks_record map state old Primary (subst (λ k. CountsOn k Primary) (sym c.requires.kind) tt) _
          swaps.forward _ swaps.journal_ok records.outside records.journal;
      passes = record {
        layout = layout_more (log_moved (is_member c.args.state.now.mask)) (layout_kept (swap_moved c.args.state.now.mask Primary) c.requires.laid_out swaps.outside) records.outside;
        stands = λ s table was. inr (settled s table was);
        done = record {
          ok = λ s table was. (
            never_swapped map _ _ state _ _ c.requires.read ((view_kept map _ _ _ swaps.outside).log refl) swapped
                finds.ok (decided_in c.find_again.new.table c.find_again.new.report _ c.in-Decided.is) s table was,
            settled s table was,
          );
          recorded = records.ok;
          found = λ s table permanent can decision. subst (λ found. IsFoundAgain s state.mask found) (decided_in c.find_again.new.table c.find_again.new.report _ c.in-Decided.is)
              (finds.ok s table permanent (can_read_before map _ _ s state.mask _ records.outside can) decision);
          rows = subst (λ found. HasTable map.images found) (decided_in c.find_again.new.table c.find_again.new.report _ c.in-Decided.is) finds.rows;
          tells = record {
            set = subst (λ found. IsSetFound state.mask found) (decided_in c.find_again.new.table c.find_again.new.report _ c.in-Decided.is) finds.set;
            told = tt;
            alone = tt;
            starts = starts_settled map state.mask _ _ (Decided c.find_again.new.table c.find_again.new.report)
                (keeps_wider map (only Log) (settled_parts state.mask) _ _ (log_settled state.mask) records.outside)
                (subst (λ found. StartsFound (view map (g.F.Flash.chip c.swap_set.new.flash)) found)
                (decided_in c.find_again.new.table c.find_again.new.report _ c.in-Decided.is) finds.starts);
          };
          erases = λ s table permanent was. omega (arith, swaps.erases was.0 was.1 was.2.place, one_erase _ _ _ records.erases);
        };
        ends = then_ok swaps.ends records.ends;
      };
    }

pub returns-in_default : goal.returns-in_default
returns-in_default g c =
    let map = c.args.map.now in
    let state = c.args.state.now in
    let swaps = c.in_ok-swap_set.ensures in
    let finds = c.in_ok-finding.ensures in
    let swapped = swap_done map _ _ state.mask swaps.outside swaps.swapped in
    rw c.find_again.ensures.same (record {
      moving = this_kind is_moving _ state Swap (read_kept map _ _ _ state swaps.outside refl c.requires.read)
          c.requires.kind refl;
      journal = asks_swap map state _ Primary (subst (λ k. CountsOn k Primary) (sym c.requires.kind) tt) _
          swaps.forward swaps.journal;
      passes = record {
        layout = layout_kept (swap_moved c.args.state.now.mask Primary) c.requires.laid_out swaps.outside;
        stands = λ s table was. inl (swap_resumes map _ _ state.mask swaps.outside swaps.resumes s table _ was);
        done = record {
          ok = λ s table was. absurd (never_again s state.mask _ (undecided_in c.find_again.new.table c.find_again.new.report _ c.in_default.not-Decided)
              (never_swapped map _ _ state _ _ c.requires.read ((view_kept map _ _ _ swaps.outside).log refl) swapped
              finds.ok refl s table was));
          recorded = never_recorded map state _ _ (undecided_in c.find_again.new.table c.find_again.new.report _ c.in_default.not-Decided);
          found = finds.ok;
          rows = finds.rows;
          tells = record {
            set = finds.set;
            told = finds.told;
            alone = alone_for map state.mask _ _ _ swaps.outside;
            starts = finds.starts;
          };
          erases = λ s table permanent was. omega (arith, swaps.erases was.0 was.1 was.2.place);
        };
        ends = rw c.find_again.ensures.same at (then_ends swaps.ends finds.ends);
      };
    })
