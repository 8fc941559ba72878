use Rattle.std.proofs.Common.{◌++◌, ◌∷◌, [], ℕ, List, Result, Ok, Err, IfOk, refl, subst, sym, append_assoc, ◌∙◌}
use Rattle.repo_name.specs.declared.names.Name.{Name}
use Rattle.repo_index.specs.declared.facts.Fact.{Fact}
use Rattle.repo_session.specs.declared.emissions.Emission.{Emission}
use Rattle.repo_tree.specs.declared.nodes.NodeKind.{NodeKind}
use Rattle.repo_restore.specs.declared.nodes.Begun.{Begun}
use Rattle.repo_restore.specs.Nodes.{BlobFollows, FileBegins}
use Rattle.repo_restore.specs.Restoring.{Sums}
use Rattle.repo_restore.specs.Walking.{NodeBegins}
use Rattle.repo_restore.proofs.Summing.{summed_place}
use Rattle.repo_restore.proofs.steps.begin_node.Goals as goal

module _ (facts : List Fact) (tree : Name) (path : List (List ℕ)) (size : ℕ) where
  begun_file : (content : List Name) (old new : List Emission) (begun : Begun) → Sums facts content size → BlobFollows facts content 0 (old ++ Emission.File path ∷ []) new begun
      → FileBegins facts tree path size content old new begun
  begun_file [] old new Begun.Done sums h = (refl, sums, h.1 ∙ append_assoc old (Emission.File path ∷ []) (Emission.Close ∷ []))
  begun_file (n ∷ ns) old new Begun.Done sums h = absurd (let q = h.0 in absurd (cc))
  begun_file content old new (Begun.Waits fact) sums h = (h.0, h.1, sums, h.2)
  begun_file content old new (Begun.GoesOn fact) sums h = absurd h
  begun_file content old new (Begun.Ended end) sums h = absurd (summed_place facts content size 0 h.0 sums h.2 h.3)

  begun_result : {E : Type 0} (content : List Name) (old new : List Emission) (result : Result Begun E) → Sums facts content size
      → IfOk result (BlobFollows facts content 0 (old ++ Emission.File path ∷ []) new) → IfOk result (FileBegins facts tree path size content old new)
  begun_result content old new (Ok begun) sums h = begun_file content old new begun sums h
  begun_result content old new (Err e) sums h = tt

pub returns-in-Even : goal.returns-in-Even
returns-in-Even c =
    let facts = c.args.lookup.now in
    let tree = c.args.level.now.tree in
    let size = c.in-File.size in
    let content = c.in-File.content in
    let old = c.args.out.now.items in
    let new = c.begin_file.new.out.items in
    let result = c.begin_file.result in
    let sums = subst (λ (names : List Name). Sums facts names size) c.as_slice.ensures.value c.in-Even.ensures in
    let follows = subst (λ (names : List Name). IfOk result (BlobFollows facts names 0 (old ++ Emission.File c.in_ok-path.path ∷ []) new)) c.as_slice-in-Even.ensures.value c.begin_file.ensures in
    let begins = begun_result facts tree c.in_ok-path.path size content old new result sums follows in
    let Begins : List (List ℕ) → NodeKind → Type 0 = λ path what. IfOk result (NodeBegins facts tree path what old new) in
    subst (λ path. Begins path c.args.node.now.what) c.in_ok-path.ensures (subst (Begins c.in_ok-path.path) (sym c.in-File.is) begins)
