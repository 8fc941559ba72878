use Rattle.std.proofs.Common.{◌≡◌, ℕ, List, Some, None, sym, ap, ◌∙◌}
use Rattle.std.proofs.lemmas.Option.{same_Some}
use Rattle.repo_name.specs.declared.names.Name.{Name}
use Rattle.repo_tree.specs.declared.nodes.Node.{Node}
use Rattle.repo_tree.specs.declared.nodes.NodeKind.{NodeKind}
use Rattle.repo_restore.proofs.walks.begun_content.Goals as goal

file_same : (what : NodeKind) (m n : ℕ) (xs ys : List Name) → what ≡ NodeKind.File m xs → what ≡ NodeKind.File n ys → xs ≡ ys
file_same what m n xs ys p q = cc

dir_file : (what : NodeKind) (t : Name) (n : ℕ) (ys : List Name) → what ≡ NodeKind.Dir t → what ≡ NodeKind.File n ys → ⊥
dir_file what t n ys p q = absurd (cc)

none_some : (node : Node) → None ≡ Some node → ⊥
none_some node p = absurd (cc)

pub returns-in-File : goal.returns-in-File
returns-in-File c = λ node size content h is.
    let same = same_Some c.in-Some.node.now node (c.in-Some.ensures node h) in
    c.as_slice.ensures.value ∙ file_same node.what c.in-File.size size c.in-File.content content (ap (λ (n : Node). n.what) (sym same) ∙ c.in-File.is) is

pub returns-in-Dir : goal.returns-in-Dir
returns-in-Dir c = λ node size content h is.
    let same = same_Some c.in-Some.node.now node (c.in-Some.ensures node h) in
    absurd (dir_file node.what c.in-Dir.subtree size content (ap (λ (n : Node). n.what) (sym same) ∙ c.in-Dir.is) is)

pub returns-in-None : goal.returns-in-None
returns-in-None c = λ node size content h is. absurd (none_some node (c.in-None.ensures node h))
