use Rattle.std.proofs.Common.{◌∙◌, Some}
use Rattle.std.proofs.lemmas.Result.{on_ok_weaker}
use Rattle.set_log.proofs.LastRecord.{said}
use Rattle.set_log.proofs.log.start.Goals as goal

pub returns : goal.returns
returns g c =
    let back = c.to_bytes-body.ensures.back c.args.map.now.images c.requires.fits in
    let stands = said c.args.map.now (g.F.Flash.chip c.start_record.new.flash) (Some c.to_bytes-body.result) in
    record {
      outside = c.start_record.ensures.outside;
      ok = on_ok_weaker c.start_record.result (λ found. stands found ∙ back) c.start_record.ensures.ok;
      written = rw c.to_bytes-body.ensures.is at c.start_record.ensures.written;
      last = λ three closed. stands (c.start_record.ensures.last three closed) ∙ back;
      erases = c.start_record.ensures.erases;
      journal = c.start_record.ensures.journal;
      off = c.start_record.ensures.off;
      ends = c.start_record.ensures.ends;
    }
