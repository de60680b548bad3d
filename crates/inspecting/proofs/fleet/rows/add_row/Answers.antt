use Rattle.std.proofs.Common.{Some, ap, rules, string_bytes}
use Rattle.std.proofs.lemmas.Map.Text.{btree_map_updates_text}
use Rattle.inspecting.proofs.ResultLaws.{OnOk-then}
use Rattle.inspecting.proofs.RowsLaws.{AddsRow-set}
use Rattle.inspecting.proofs.fleet.rows.add_row.Goals as goal

-- The tally of the key is raised.
pub returns-in-Some : goal.returns-in-Some
returns-in-Some c = OnOk-then c.raise.result (λ raised.
    let tally = c.raise.new.tally in
    let sets = btree_map_updates_text c.args.key.now c.args.rows.now (c.get_mut.follows.lender tally) _ ((c.get_mut.follows.holds tally).3 (search rules)) in
    AddsRow-set (record { count = c.args.count; first = c.args.first.now; key = c.args.key.now }) tally sets
    (rw (← c.in-Some.ensures.value) raised)
    (rw (← c.in-Some.ensures.value) (ap (λ first. Some (string_bytes first)) c.raise.ensures.first))) c.raise.ensures.count
