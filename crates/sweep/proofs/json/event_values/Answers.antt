use Rattle.std.proofs.Common.{refl}
use Rattle.device_texts.proofs.JsonLaws.{one-made}
use Rattle.sweep.specs.FoundJson.{place_json}
use Rattle.sweep.proofs.FoundLaws.{numbered-more}
use Rattle.sweep.proofs.json.event_values.Goals as goal

-- The object of one more event is added.
pub loop-place-preserved : goal.loop-place-preserved
loop-place-preserved c =
    let seen = rw (c.writes_of.ensures.before, c.writes_of.ensures.marks) at c.in_ok-value.ensures in
    rw c.in_ok-push.ensures.ok
    (one-made c.loop-place.values.items c.in_ok-value.value _ _ _ _
    (numbered-more (place_json c.args.found.now) c.args.events.now c.loop-place.place _ c.loop-place-test.true)
    refl c.loop-place.invariant seen)
