use Rattle.device_texts.specs.Json.{with_member}
use Rattle.device_texts.proofs.json.put_value.Goals as goal

-- The object has the member.
pub returns : goal.returns
unfolding with_member
returns c = c.put.ensures.ok
