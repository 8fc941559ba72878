use Rattle.std.proofs.Common.{◌≡◌, subst, ◌∙◌}
use Rattle.repo_name.specs.NameMaps.{found}
use Rattle.repo_name.specs.declared.kinds.BlobKind.{BlobKind}
use Rattle.repo_writing.specs.Blobs.{HasItem}
use Rattle.repo_backup.proofs.PackingLemmas.{noted_less, noted_but, content_no_tree}
use Rattle.repo_backup.proofs.added.Added.remove.Goals as goal

pub returns-in-Content : goal.returns-in-Content
returns-in-Content c = λ items item p q none notes.
    let n = c.args.name.now in
    let k : item.kind ≡ BlobKind.Content = p ∙ c.in-Content.is in
    record {
      content = noted_less (found c.args.self.now.content) (found c.remove_named.new.map) n item BlobKind.Content items k q (subst (λ x. HasItem items x n → ⊥) c.in-Content.is none) c.remove_named.ensures notes.content;
      trees = noted_but (found c.args.self.now.trees) item BlobKind.Tree items (λ t. content_no_tree item.kind k t) notes.trees;
    }

pub returns-in-Tree : goal.returns-in-Tree
returns-in-Tree c = λ items item p q none notes.
    let n = c.args.name.now in
    let k : item.kind ≡ BlobKind.Tree = p ∙ c.in-Tree.is in
    record {
      content = noted_but (found c.args.self.now.content) item BlobKind.Content items (λ t. content_no_tree item.kind t k) notes.content;
      trees = noted_less (found c.args.self.now.trees) (found c.remove_named-in-Tree.new.map) n item BlobKind.Tree items k q (subst (λ x. HasItem items x n → ⊥) c.in-Tree.is none) c.remove_named-in-Tree.ensures notes.trees;
    }
