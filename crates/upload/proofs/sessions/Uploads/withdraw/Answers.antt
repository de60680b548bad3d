use Rattle.std.proofs.Common.{rules, arith}
use Rattle.upload.proofs.Views.{view_kept}
use Rattle.upload.proofs.WithdrawRow.{withdraw_row, withdraw_open}
use Rattle.upload.proofs.sessions.Uploads.withdraw.Goals as goal

pub returns : goal.returns
returns g c =
    let done = c.withdraw_standing-answer.ensures in
    let kept = view_kept c.args.map.now _ _ _ done.outside in
    let told = c.args.self.now.sessions in
    record {
      outside = done.outside;
      all_open = withdraw_open c.args.image _ _ (omega arith) kept told _ _ done.withdraws c.close_after.ensures;
      withdraws = λ there. done.withdraws;
      unknown = search rules;
      off = λ off there. done.off off;
      nothing = done.nothing;
      erases = done.erases;
      table = c.close_after.ensures;
      row = withdraw_row c.args.image _ _ (omega arith) kept told _ _ done.withdraws c.close_after.ensures;
      journal = done.journal;
      ends = done.ends;
    }
