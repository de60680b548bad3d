use Rattle.boot_core.proofs.Keeping.{kept_by_piece}
use Rattle.boot_core.proofs.Pieces.{piece_declined, piece_passed}
use Rattle.boot_core.proofs.Taken.{laid_now, piece_event, takes_here}
use Rattle.boot_core.proofs.intake.piece.Goals as goal

pub returns-in_err-ready : goal.returns-in_err-ready
returns-in_err-ready g c =
    piece_declined _ _ c.args.more _ _ _ _ c.in_err-ready.ensures c.from_residual.ensures.1 c.requires.laid_out

pub returns : goal.returns
returns g c =
    piece_passed _ _ c.args.more _ _ _ _ _ _ _ _ _ _ c.in_ok-ready.ensures
    (takes_here _ _ _ _ _ _ _ _ _ _ _ _ (piece_event c.args.image c.args.more) c.requires.laid_out
    c.in_ok-ready.ensures _ _ (record {
      outside = c.piece.ensures.outside;
      opens = c.piece.ensures.all_open;
      ends = c.piece.ensures.ends;
      kept = kept_by_piece _ _ _ _ _ c.piece.ensures.nothing c.piece.ensures.stays;
      journal = c.piece.ensures.journal;
      row = c.piece.ensures.row;
    }) c.piece.ensures.nothing c.pass_on.ensures) c.piece.ensures.rests c.piece.ensures.matched
    c.piece.ensures.lacks c.piece.ensures.only_lacking c.pass_on.ensures

pub piece-requires : goal.piece-requires
piece-requires g c = record { laid_out = laid_now _ _ _ c.in_ok-ready.ensures c.requires.laid_out }
