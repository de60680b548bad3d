-- Events with other bytes.
use Rattle.machine.specs.declared.event.Event.{Event}
use Rattle.machine.specs.declared.event.Event.TheVariants as event

-- The same event, with a function applied to its bytes.
abbrev pub event_map : {A B : Type 0} → (A → B) → Event A → Event B
event_map f (event.Accept bytes) = event.Accept (f bytes)
event_map f (event.Piece image bytes) = event.Piece image (f bytes)
event_map f (event.Finish image) = event.Finish image
event_map f (event.Withdraw image) = event.Withdraw image
event_map f (event.Confirm image) = event.Confirm image
event_map f event.Boot = event.Boot
event_map f event.Reset = event.Reset
