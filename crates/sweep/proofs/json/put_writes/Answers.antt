use Rattle.std.proofs.Common.{rules, sym}
use Rattle.serde_json.specs.View.{members_view}
use Rattle.device_texts.specs.Json.{with_member}
use Rattle.sweep.proofs.FoundLaws.{writes-some}
use Rattle.sweep.proofs.json.put_writes.Goals as goal

-- There are writes, so there are two members.
pub returns : goal.returns
unfolding with_member
returns c =
    rw (writes-some c.args.writes.before c.args.writes.marks.now (members_view c.args.object.now.entries)
    (sym c.if-is_empty.ensures)) (search rules)
