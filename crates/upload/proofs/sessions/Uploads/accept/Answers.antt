use Rattle.upload.proofs.TakenRow.{accept_row, accept_open, accept_ends, table_stays}
use Rattle.upload.proofs.sessions.Uploads.accept.Goals as goal

pub returns : goal.returns
returns g c =
    let map = c.args.map.now in
    let told = c.args.self.now.sessions in
    let sequence = c.args.manifest.now.sequence in
    let cs = c.args.manifest.now.components.items in
    let taken = c.take_manifest-answer.ensures in
    record {
      taken = record {
        outside = taken.outside;
        accepts = accept_ends map _ _ told _ _ sequence cs _ taken.accepts c.close_after.ensures;
        nothing = taken.nothing;
        stays = table_stays _ told _ _ taken.stays c.close_after.ensures;
        off = taken.off;
        equal = taken.equal;
        erases = taken.erases;
        idle = taken.idle;
        journal = taken.journal;
        ends = taken.ends;
      };
      all_open = accept_open map _ _ told _ _ sequence cs c.requires.there _ taken.accepts c.close_after.ensures;
      closed = c.close_after.ensures.closed;
      row = accept_row map _ _ told _ _ sequence cs c.requires.there _ taken.accepts c.close_after.ensures;
    }
