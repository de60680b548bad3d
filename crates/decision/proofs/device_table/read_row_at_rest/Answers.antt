use Rattle.std.proofs.Common.{rules, subst}
use Rattle.sector_map.specs.declared.layout.Side.TheVariants.{Secondary}
use Rattle.image_reading.specs.Slot.{slot_bytes}
use Rattle.decision.specs.Found.{IsRequestHeld}
use Rattle.decision.proofs.Described.{none_asked_for}
use Rattle.decision.proofs.device_table.read_row_at_rest.Goals as goal

pub returns : goal.returns
returns g c = record {
  same = search rules;
  ok = search rules;
  front = search rules;
  held = search rules;
  asked = none_asked_for c.args.map.now _ _ c.args.image _ c.read_slot_into.ensures.same c.in_ok-read_request_into.ensures.ok;
  wanted = subst (λ chip. IsRequestHeld (slot_bytes c.args.map.now chip c.args.image Secondary)
      c.read_request_into.new.request) c.read_slot_into.ensures.same c.in_ok-read_request_into.ensures.held;
  ends = search rules;
}
