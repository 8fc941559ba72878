-- The blob that comes next is one that the tree of the root reaches.
use Rattle.std.proofs.Common.{◌∷◌, ◌++◌, [], ℕ, zero, suc, List, Contains, inl, inr, subst}
use Rattle.std.proofs.lemmas.List.Elements.{Contains-append_right}
use Rattle.repo_name.specs.declared.kinds.BlobKind.{BlobKind}
use Rattle.repo_name.specs.declared.names.Name.{Name}
use Rattle.repo_name.proofs.Containing.{first_contained}
use Rattle.repo_tree.specs.declared.entries.Entry.{Entry}
use Rattle.repo_tree.specs.declared.nodes.Node.{Node}
use Rattle.repo_tree.specs.declared.nodes.NodeKind.{NodeKind}
use Rattle.repo_tree.specs.Parts.{Blobs, GoesOn, IsPartBy, HasNode}
use Rattle.repo_tree.specs.Spelling.{Reach}
use Rattle.repo_session.specs.declared.emissions.Emission.{Emission}
use Rattle.repo_session.specs.Trees.{Under}
use Rattle.repo_session.proofs.Descending.{part_self}
use Rattle.repo_session.proofs.Reaching.{under_reached, file_reached}
use Rattle.repo_restore.specs.Laws.{NextIsReached}
use Rattle.repo_restore.specs.Positions.{LeadsThrough, ComesBehind, IsNextNode, LeadsDown, IsOwnTree, IsFurtherTree, IsNextContent}
use Rattle.repo_restore.proofs.Closing.{node_stands, first_lists}
use Rattle.repo_restore.proofs.Trees.{below_shallow}

last_contained : {A : Type 0} (xs : List A) (x : A) (more : List A) → Contains (xs ++ x ∷ more) x
last_contained xs x more = Contains-append_right xs (x ∷ more) x (first_contained x more)

node_listed : (version : ℕ) (B : Blobs) (tree : Name) (path : List (List ℕ)) (entries : List Entry) (node : Node) → IsNextNode version B tree path entries node → HasNode version B tree node
node_listed version B tree path entries node h = first_lists version B tree (h.nodes ++ node ∷ []) node h.has (last_contained h.nodes node [])

-- the names that lead down to a directory are the path of each of its trees
pub down_under : (version : ℕ) (B : Blobs) (from : Name) (path names : List (List ℕ)) (tree : Name) (entries : List Entry) (part : Name) → LeadsDown version B from path names tree entries → IsPartBy version B tree part → Under version B from names part
down_under version B from path [] tree entries part h on = subst (λ t. IsPartBy version B t part) h.0 on
down_under version B from path (name ∷ names) tree entries part h on =
    (h.0, node_listed version B from path h.1 (record { name = name; what = NodeKind.Dir h.0 }) h.3, down_under version B h.0 (path ++ name ∷ []) names tree h.2 part h.4 on)

pub through_goes : (B : Blobs) (first : Name) (parts : List (List Node)) (tree : Name) → LeadsThrough B first parts tree → (through : List Name) × GoesOn B first through tree
through_goes B first [] tree h = ([], h)
through_goes B first (nodes ∷ parts) tree h = let r = through_goes B h.0 parts tree h.2 in (h.0 ∷ r.0, (nodes, h.1, r.1))

behind_part : (version : ℕ) (B : Blobs) (first : Name) (parts : List (List Node)) (tree : Name) → ComesBehind version B first parts tree → IsPartBy version B first tree
behind_part (suc (suc zero)) B first parts tree h = through_goes B first parts tree h
behind_part _ B first parts tree h = h.0

module _ (version : ℕ) (B : Blobs) (root : Name) (emitted : List Emission) (name : Name) where
  own_reached : IsOwnTree version B root emitted name → Reach version B root BlobKind.Tree name
  own_reached h = under_reached version B root h.path name h.shallow (down_under version B root [] h.path name _ name h.leads (part_self version B name))

  further_reached : IsFurtherTree version B root emitted name → Reach version B root BlobKind.Tree name
  further_reached h = under_reached version B root h.path name h.shallow (down_under version B root [] h.path h.first h.before name h.leads (behind_part version B h.first h.parts name h.behind))

  content_reached : IsNextContent version B root emitted name → Reach version B root BlobKind.Content name
  content_reached h =
      let node : Node = record { name = h.file; what = NodeKind.File h.size (h.sent ++ name ∷ h.later) } in
      let under = down_under version B root [] h.path h.directory h.before h.directory h.leads (part_self version B h.directory) in
      let at = node_stands version B root h.path h.directory node under (node_listed version B h.directory h.path h.inside node h.next) in
      file_reached version B root (h.path ++ h.file ∷ []) h.size (h.sent ++ name ∷ h.later) name (below_shallow h.path h.file h.shallow) at (last_contained h.sent name h.later)

pub next_is_reached : (B : Blobs) → NextIsReached B
next_is_reached B version root emitted BlobKind.Tree name (inl own) = own_reached version B root emitted name own
next_is_reached B version root emitted BlobKind.Tree name (inr further) = further_reached version B root emitted name further
next_is_reached B version root emitted BlobKind.Content name next = content_reached version B root emitted name next
