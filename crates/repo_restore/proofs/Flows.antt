-- The order in which parts are given out, over steps of a walk.
use Rattle.std.proofs.Common.{◌≡◌, ◌++◌, ◌∷◌, [], ℕ, List, Bool, true, false, refl, sym, ap, subst, append_assoc, ◌∙◌}
use Rattle.std.proofs.lemmas.List.{append-nil}
use Rattle.repo_name.specs.declared.names.Name.{Name}
use Rattle.repo_index.specs.declared.facts.Fact.{Fact}
use Rattle.repo_tree.specs.declared.nodes.NodeKind.{NodeKind}
use Rattle.repo_tree.specs.Parts.{Blobs}
use Rattle.repo_session.specs.declared.emissions.Emission.{Emission}
use Rattle.repo_session.specs.Rebuilding.{Follow}
use Rattle.repo_session.specs.Traces.{Each}
use Rattle.repo_session.proofs.Receiving.{each_both}
use Rattle.repo_restore.specs.declared.nodes.Begun.{Begun}
use Rattle.repo_restore.specs.Walking.{NodeBegins}
use Rattle.repo_restore.specs.Walks.{WalkGives, WalkGave}

-- one part after another
pub follow_both : (a b c : Bool) (xs ys : List Emission) → Follow a xs b → Follow b ys c → Follow a (xs ++ ys) c
follow_both a b c [] ys f g = subst (λ x. Follow x ys c) f g
follow_both a b c (x ∷ xs) ys f g = (f.0, f.1, follow_both f.0 b c xs ys f.2 g)

pub follow_split : (a c : Bool) (xs ys : List Emission) → Follow a (xs ++ ys) c → (b : Bool) × Follow a xs b × Follow b ys c
follow_split a c [] ys f = (a, refl, f)
follow_split a c (x ∷ xs) ys f = let r = follow_split f.0 c xs ys f.2 in (r.0, (f.0, f.1, r.1), r.2)

-- a directory, an empty file, a file that begins, and a piece of one
pub dir_follows : (path : List (List ℕ)) → Follow false (Emission.Dir path ∷ []) false
dir_follows path = (false, (refl, refl), refl)

pub empty_follows : (path : List (List ℕ)) → Follow false (Emission.File path ∷ Emission.Close ∷ []) false
empty_follows path = (true, (refl, refl), (false, (refl, refl), refl))

pub file_follows : (path : List (List ℕ)) → Follow false (Emission.File path ∷ []) true
file_follows path = (true, (refl, refl), refl)

pub piece_follows : (bytes : List ℕ) → Follow true (Emission.Piece bytes ∷ []) true
piece_follows bytes = (true, (refl, refl), refl)

-- a node alone goes on in no part
pub node_stays : (facts : List Fact) (tree : Name) (path : List (List ℕ)) (what : NodeKind) (old new : List Emission) (fact : Fact) → NodeBegins facts tree path what old new (Begun.GoesOn fact) → ⊥
node_stays facts tree path (NodeKind.File size content) old new fact h = h
node_stays facts tree path (NodeKind.Dir subtree) old new fact h = h

-- nothing more was given out
pub gave_none : (facts : List Fact) (version : ℕ) (B : Blobs) (root : Name) (within : Bool) (old out : List Emission) → out ≡ [] → Follow false old within → WalkGave facts version B root within old out
gave_none facts version B root within old out none h = record {
  each = subst (λ e. Each (WalkGives facts version B root) e) (sym none) tt;
  order = subst (λ e. Follow false e within) (sym (ap (λ e. old ++ e) none ∙ append-nil old)) h;
}

-- some more was
pub gave_more : (facts : List Fact) (version : ℕ) (B : Blobs) (root : Name) (before after : Bool) (old mid new last : List Emission) → new ≡ mid ++ last → WalkGave facts version B root before old mid → Each (WalkGives facts version B root) last
    → Follow before last after → WalkGave facts version B root after old new
gave_more facts version B root before after old mid new last p h each follows = record {
  each = subst (λ e. Each (WalkGives facts version B root) e) (sym p) (each_both (WalkGives facts version B root) mid last h.each each);
  order = subst (λ e. Follow false e after) (sym (ap (λ e. old ++ e) p ∙ sym (append_assoc old mid last))) (follow_both false before after (old ++ mid) last h.order follows);
}
