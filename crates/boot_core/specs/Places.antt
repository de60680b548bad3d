-- The reply of a boot that fills places of its caller.
use Rattle.reports.specs.declared.table.Table.{Table}
use Rattle.reports.specs.declared.report.Report.{Report}
use Rattle.machine.specs.declared.reply.Reply.{Reply}
use Rattle.machine.specs.declared.reply.Reply.TheVariants as reply
use Rattle.boot_core.specs.declared.outcome.Outcome.{Outcome}
use Rattle.boot_core.specs.declared.outcome.Outcome.TheVariants.{Booted, Reverted, TrialAgain, Refused}

-- The reply with the table and the report in their places.
abbrev pub reply_in : Table → Report → Outcome → Reply
reply_in table report (Booted permanent) = reply.Booted table report permanent
reply_in table report (Reverted set) = reply.Reverted set
reply_in table report (TrialAgain set left) = reply.TrialAgain set left
reply_in table report (Refused fault) = reply.Refused fault
