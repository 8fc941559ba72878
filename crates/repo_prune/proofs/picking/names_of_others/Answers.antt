use Rattle.std.proofs.Common.{rules, ◌≡◌, ◌≢◌, ◌+◌, ◌++◌, ◌∷◌, [], List, Some, length, take, slice_get, refl, sym, ap, subst, ◌∙◌}
use Rattle.std.proofs.lemmas.Option.{slice_get_read}
use Rattle.std.proofs.Math.Seq.{take-length}
use Rattle.repo_name.specs.declared.names.Name.{Name}
use Rattle.repo_prune.specs.Keeping.{Row}
use Rattle.repo_prune.specs.inner.Picking.{AreOfOthers}
use Rattle.repo_prune.proofs.Hosts.{next_added, next_passed}
use Rattle.repo_prune.proofs.picking.names_of_others.Goals as goal
use Rattle.repo_prune.proofs.picking.names_of_others.Goals.{then-ne+in_ok-push, else-ne}

pub loop-row-preserved : goal.loop-row-preserved
loop-row-preserved c =
    let host = c.args.host.now in
    let rows = c.args.rows.now in
    let i = c.loop-row.row-index in
    let row : Row = c.row-item.result in
    let names = c.loop-row.names.items in
    let here : slice_get rows i ≡ Some row = slice_get_read rows (length rows) i row refl c.loop-row-test.true c.row-item.is in
    let N : List Name → Type 0 = λ l. AreOfOthers host (take (i + 1) rows) l in
    elim c.if-ne.branch [
      | then-ne+in_ok-push w ↦ (let is : c.if-ne.names.items ≡ names ++ row.0 ∷ [] = search rules in let other : row.1.host ≢ host = search rules in subst N (sym is) (next_added host rows names i row here c.loop-row.invariant other))
      | else-ne w ↦ (let is : c.if-ne.names.items ≡ names = ap (λ v. v.items) w.names-is in let same : row.1.host ≡ host = search rules in subst N (sym is) (next_passed host rows names i row here c.loop-row.invariant same))
    ]

pub returns : goal.returns
returns c =
    let host = c.args.host.now in
    let rows = c.args.rows.now in
    let end : c.loop-row.row-index ≡ length rows = search rules in
    let all : take c.loop-row.row-index rows ≡ rows = ap (λ i. take i rows) end ∙ take-length rows in
    record { others = subst (λ rs. AreOfOthers host rs c.loop-row.names.items) all c.loop-row.invariant }
