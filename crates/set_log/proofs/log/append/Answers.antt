use Rattle.std.proofs.Common.{◌∙◌, Some}
use Rattle.std.proofs.lemmas.Result.{on_ok_weaker}
use Rattle.set_log.proofs.LastRecord.{said, said_either, has_record}
use Rattle.set_log.proofs.log.append.Goals as goal

pub append_record-requires-clause-has_record : goal.append_record-requires-clause-has_record
append_record-requires-clause-has_record g c =
    has_record c.args.map.now (g.F.Flash.chip c.args.flash.now) c.requires.has_state

pub returns : goal.returns
returns g c =
    let back = c.to_bytes-body.ensures.back c.args.map.now.images c.requires.fits in
    record {
      outside = c.append_record.ensures.outside;
      either = said_either c.args.map.now _ _ _ _ back c.append_record.ensures.either;
      ok = on_ok_weaker c.append_record.result (λ stands.
          said c.args.map.now (g.F.Flash.chip c.append_record.new.flash) (Some c.to_bytes-body.result) stands ∙ back)
          c.append_record.ensures.ok;
      put = rw c.to_bytes-body.ensures.is at c.append_record.ensures.put;
      erases = c.append_record.ensures.erases;
      journal = c.append_record.ensures.journal;
      off = c.append_record.ensures.off;
      ends = c.append_record.ensures.ends;
    }
