-- The order of a script's lines.
use Rattle.std.specs.Prelude.{ℕ, ◌<◌, List, [], ◌∷◌, MatchBool}
use Rattle.device_texts.specs.declared.line_order.LineOrder.{LineOrder}
use Rattle.device_texts.specs.Said.{Said, Cut, Event}

-- Only events.
abbrev pub AreEvents : List Said → Type 0
AreEvents [] = Unit {0}
AreEvents (Cut write torn ∷ lines) = ⊥
AreEvents (Event event ∷ lines) = AreEvents lines

-- First cuts, of writes with ascending numbers above this one, and then only events. A complete
-- script is in order above 0.
abbrev pub AreInOrder : ℕ → List Said → Type 0
AreInOrder above [] = Unit {0}
AreInOrder above (Cut write torn ∷ lines) = (above < write) × AreInOrder write lines
AreInOrder above (Event event ∷ lines) = AreEvents lines

-- The lines that can follow the lines that were read.
abbrev pub CanFollow : LineOrder → List Said → Type 0
CanFollow order lines =
    MatchBool order.has_event (AreEvents lines) (AreInOrder order.last_cut lines)
