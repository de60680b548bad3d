use Rattle.std.proofs.Common.{refl}
use Rattle.upload.proofs.Ends.{err_passed}
use Rattle.boot_core.proofs.Passed.{err_ends, ok_ends}
use Rattle.boot_core.proofs.Records.{one_erase}
use Rattle.boot_core.proofs.recording.append_state.Goals as goal

pub returns-in_err-append : goal.returns-in_err-append
returns-in_err-append g c =
    rw (err_passed c.from_residual.result c.in_err-append.field-0.0 c.from_residual.ensures.1) (record {
      outside = c.append.ensures.outside;
      either = c.append.ensures.either;
      done = tt;
      journal = c.append.ensures.journal;
      ends = err_ends c.in_err-append.ensures.ends;
    })

pub returns : goal.returns
returns g c = record {
  outside = c.append.ensures.outside;
  either = c.append.ensures.either;
  done = record {
    says = c.in_ok-append.ensures.ok;
    recorded = c.in_ok-append.ensures.ok;
    is = refl;
    appended = c.in_ok-append.ensures;
    erases = one_erase _ _ _ c.in_ok-append.ensures.erases;
  };
  journal = c.append.ensures.journal;
  ends = ok_ends c.in_ok-append.ensures.ends;
}
