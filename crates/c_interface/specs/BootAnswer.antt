-- What a boot answers, as a reply of the machine.
use Rattle.boot_core.specs.Answers.{reply_of_boot}
use Rattle.boot_core.specs.Places.{reply_in}
use Rattle.decision.specs.Places.{read_as}
use Rattle.machine.specs.declared.reply.Reply.{Reply}
use Rattle.c_interface.specs.declared.boot_answer.BootAnswer.{BootAnswer}

-- The reply to a boot with this outcome, and with this table and report if it decided.
abbrev pub boot_reply : BootAnswer → Reply
boot_reply answer = reply_of_boot (read_as (reply_in answer.table answer.report) answer.outcome)
