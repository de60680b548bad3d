use Rattle.std.proofs.Common.{string_bytes, arith, refl}
use Rattle.std.proofs.lemmas.Map.Text.{btree_map_updates_text}
use Rattle.inspecting.proofs.RowsLaws.{AddsRow-set}
use Rattle.inspecting.proofs.fleet.rows.add_key.Goals as goal

-- The key has its first tally.
pub returns : goal.returns
returns c =
    let sets = btree_map_updates_text (string_bytes c.in-Ok.key) c.args.rows.now c.insert.new.self _ c.in-Ok-insert.ensures.updates in
    AddsRow-set (record { count = c.args.tally.count; first = string_bytes c.args.tally.first; key = c.args.key.now }) c.args.tally
    (rw c.in-Ok.ensures.ok at sets) (rw c.requires (omega arith)) (rw c.requires refl)
