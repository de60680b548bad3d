use Rattle.std.proofs.Common.{rules, arith, ◌≤◌, inl, refl, subst, sym}
use Rattle.upload.proofs.Ends.{err_passed}
use Rattle.flash_contents.proofs.Resuming.{never_found, settle_reports, settle_stands}
use Rattle.decision.specs.Found.{HasTable}
use Rattle.boot_core.proofs.OnMap.{layout_same}
use Rattle.boot_core.proofs.Passed.{here_ends, ok_ends, passes_err}
use Rattle.boot_core.proofs.Undecided.{kept_for, never_again, decided_in, undecided_in}
use Rattle.decision.specs.Places.{finding_in}
use Rattle.boot_core.proofs.settle.settle_found.Goals as goal

pub settle_and_record-requires-clause-rest : goal.settle_and_record-requires-clause-rest
settle_and_record-requires-clause-rest g c = λ i le.
    let rows = subst (λ found. HasTable c.args.map.now.images found) (decided_in c.args.table.now c.args.report.now _ c.in-Decided.is) c.requires.rows in
    c.raised_floors-floors.ensures.rest i (subst (λ n. n ≤ i) (sym rows) le)

pub returns-in_err-settle_and_record-in-Decided : goal.returns-in_err-settle_and_record-in-Decided
returns-in_err-settle_and_record-in-Decided g c =
    rw (err_passed c.from_residual.result c.in_err-settle_and_record-in-Decided.field-0.0 c.from_residual.ensures.1)
    (record {
      passes = passes_err c.settle_and_record.ensures.layout
          (settle_stands c.args.map.now _ _ _ _ c.args.left _ _ _ _ c.requires.read refl c.requires.found (decided_in c.args.table.now c.args.report.now _ c.in-Decided.is)
          c.raised_floors-floors.ensures c.settle_and_record.ensures.stands)
          c.in_err-settle_and_record-in-Decided.ensures.ends;
      settles = c.settle_and_record.ensures.settles;
      journal = c.settle_and_record.ensures.journal;
    })

pub returns-in_ok-settle_and_record-in-Decided : goal.returns-in_ok-settle_and_record-in-Decided
returns-in_ok-settle_and_record-in-Decided g c =
    let records = c.in_ok-settle_and_record-in-Decided.ensures in
    record {
      settles = records.settles;
      journal = records.journal;
      passes = record {
        layout = records.layout;
        stands = settle_stands c.args.map.now _ _ _ _ c.args.left _ _ _ _ c.requires.read refl c.requires.found
            (decided_in c.args.table.now c.args.report.now _ c.in-Decided.is) c.raised_floors-floors.ensures records.stands;
        done = (
          record {
            ok = settle_reports c.args.map.now _ _ _ _ c.args.left _ _ _ _ c.requires.read refl c.requires.found
                (decided_in c.args.table.now c.args.report.now _ c.in-Decided.is) c.raised_floors-floors.ensures records.done.ok;
            erases = records.done.erases;
            kept = tt;
          },
          sym (decided_in c.args.table.now c.args.report.now _ c.in-Decided.is),
        );
        ends = ok_ends records.ends;
      };
    }

pub returns-in_default : goal.returns-in_default
returns-in_default g c = record {
  settles = inl c.requires.read;
  journal = omega arith;
  passes = record {
    layout = layout_same c.requires.laid_out refl;
    stands = λ s table was. inl was;
    done = (
      record {
        ok = λ s table was. absurd (never_again s c.args.state.now.mask _ (undecided_in c.args.table.now c.args.report.now _ c.in_default.not-Decided)
            (never_found c.args.map.now _ _ _ _ c.requires.read c.requires.found refl s table was));
        erases = search rules;
        kept = kept_for _ (finding_in c.args.table.now c.args.report.now c.args.verdict);
      },
      refl,
    );
    ends = here_ends;
  };
}
