use Rattle.std.proofs.Common.{◌≡◌, ◌∙◌, ◌++◌, ℕ, List, string_bytes, ap, subst}
use Rattle.repo_world.specs.Flows.{clients_in}
use Rattle.repo_world.specs.Reports.{IsReport, IsStoreLine, client_lines}
use Rattle.repo_world.specs.Stages.{Stage, seen}
use Rattle.repo_world.proofs.worlds.World.report.Goals as goal

pub returns-clause-report : goal.returns-clause-report
returns-clause-report g c =
    let store = g.S.Shelf.store in
    let device = c.self.inside.shelf.inner.inner in
    let line : List ℕ = string_bytes c.in_ok-line.line in
    let lines : List ℕ = client_lines 0 (clients_in c.self.inside.flow) in
    let text : string_bytes c.in_ok-text.text ≡ lines = c.in_ok-text.ensures in
    let stored : IsStoreLine (store device) line = c.in_ok-line.ensures.line (c.self.invariant.honest, c.self.invariant.agrees) in
    let is : string_bytes c.push_str.new.self ≡ lines ++ line = c.in_ok-push_str.ensures.bytes ∙ ap (λ l. l ++ c.as_str.result.now) text ∙ ap (λ l. lines ++ l) c.as_str.ensures.value in
    subst (λ (stage : Stage g.row.S.Denot). IsReport (seen store stage) (string_bytes c.push_str.new.self)) c.self.view_is (line, stored, is)
