-- Texts that are kept only as long as they aren't too long.
use Rattle.std.specs.Prelude.{◌≡◌, ℕ, ◌<◌, ◌≤◌, true, false, List, length}
use Rattle.inspecting.specs.declared.fleet.bounded.Bounded.{Bounded}

-- This text is kept, if it has at most 65,536 bytes.
pub record Holds (text : List ℕ) (kept : Bounded) : Type 0 where
  pub whole : kept.is_too_long ≡ false → kept.bytes.items ≡ text
  pub few : kept.is_too_long ≡ false → length text ≤ 65536
  pub many : kept.is_too_long ≡ true → 65536 < length text
