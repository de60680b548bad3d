use Rattle.std.proofs.Common.{◌≢◌, [], ◌++◌, ◌∙◌, subst, sym}
use Rattle.std.proofs.lemmas.Bool.{false≢true}
use Rattle.std.proofs.lemmas.List.{append-nil}
use Rattle.inspecting.proofs.ResultLaws.{OnErr-then, OnOk-then}
use Rattle.inspecting.proofs.FleetReadingLaws.{IsReadAs-end, IsReadAs-unended, told-none}
use Rattle.inspecting.specs.Planning.{BreaksLines, HasRead, ReadsLines}
use Rattle.inspecting.proofs.fleet.planner.Planner.end_last_line.Goals as goal

-- The fleet ends with a line feed, or is empty.
pub returns-then-is_empty-clause-lines : goal.returns-then-is_empty-clause-lines
returns-then-is_empty-clause-lines g c telling bytes plan stands =
    let ended = IsReadAs-end bytes stands.lines stands.prefix stands.read ((c.is_empty.ensures stands.prefix stands.line).0 c.if-is_empty.true) in
    record {
      more = [];
      has = subst (λ lines. HasRead c.args.requests.now.entries telling c.args.self.now lines (plan ++ [])) (sym ended)
          (subst (HasRead c.args.requests.now.entries telling c.args.self.now stands.lines) (sym (append-nil plan)) stands.has);
      written = told-none telling (g.W.Write.contents c.args.out.now);
    }

-- The last line has no line feed.
pub returns-clause-lines : goal.returns-clause-lines
returns-clause-lines g c = OnOk-then c.end_line.result (λ taken telling bytes plan stands.
    let some : stands.prefix ≢ [] = λ none. false≢true (sym c.if-is_empty.false ∙ (c.is_empty.ensures stands.prefix stands.line).1 none) in
    subst (λ lines. ReadsLines c.args.requests.now.entries telling c.end_line.new.self lines plan (g.W.Write.contents c.args.out.now) (g.W.Write.contents c.end_line.new.out))
    (sym (IsReadAs-unended bytes stands.lines stands.prefix stands.read some))
    (taken telling stands.prefix stands.lines plan stands.line stands.has)) c.end_line.ensures.lines

-- The last line has an error.
pub returns-clause-begun : goal.returns-clause-begun
returns-clause-begun g c = OnErr-then c.end_line.result (λ breaks telling bytes plan stands.
    let some : stands.prefix ≢ [] = λ none. false≢true (sym c.if-is_empty.false ∙ (c.is_empty.ensures stands.prefix stands.line).1 none) in
    subst (λ lines. BreaksLines c.args.requests.now.entries telling lines plan (g.W.Write.contents c.args.out.now) (g.W.Write.contents c.end_line.new.out))
    (sym (IsReadAs-unended bytes stands.lines stands.prefix stands.read some))
    (breaks telling stands.prefix stands.lines [] plan stands.line stands.begun stands.has)) c.end_line.ensures.begun
