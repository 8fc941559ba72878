-- What is known of a walk stays where more was received.
use Rattle.std.proofs.Common.{◌++◌, ◌∷◌, [], ℕ, zero, suc, Bool, true, false, List, Option, Some, length, take}
use Rattle.repo_name.specs.declared.kinds.BlobKind.{BlobKind}
use Rattle.repo_name.specs.declared.names.Name.{Name}
use Rattle.repo_index.specs.declared.facts.Fact.{Fact}
use Rattle.repo_tree.specs.declared.entries.Entry.{Entry}
use Rattle.repo_tree.specs.declared.nodes.Node.{Node}
use Rattle.repo_tree.specs.Laws.{Grows}
use Rattle.repo_tree.specs.Parts.{Blobs, IsPart, IsTree}
use Rattle.repo_tree.proofs.SpellingLemmas.{nodes_grown, joined_move}
use Rattle.repo_session.specs.declared.emissions.Emission.{Emission}
use Rattle.repo_session.proofs.Descending.{under_grows}
use Rattle.repo_restore.specs.declared.nodes.Level.{Level}
use Rattle.repo_restore.specs.Walking.{FileWaits, TreeWaitsBy, WaitsByKind, WalkWaits}
use Rattle.repo_restore.specs.Positions.{LeadsThrough, ComesBehind, nodes_in, ArePiecesOf}
use Rattle.repo_restore.specs.Walks.{PartIs, IsOpenLevel, DirectoryIsBegun, LeadsOn}

tree_grows : (B C : Blobs) → Grows B C → (t : Name) (nodes : List Node) → IsTree B t nodes → IsTree C t nodes
tree_grows B C grows t nodes h = record { text = h.text; among = grows BlobKind.Tree h.text h.among; named = h.named; reads = h.reads }

part_stays : (B C : Blobs) → Grows B C → (t : Name) (nodes : List Node) (next : Option Name) → IsPart B t nodes next → IsPart C t nodes next
part_stays B C grows t nodes next h = record { text = h.text; among = grows BlobKind.Tree h.text h.among; named = h.named; reads = h.reads }

part_grows : (version : ℕ) (B C : Blobs) → Grows B C → (t : Name) (nodes : List Node) (next : Option Name) → PartIs version B t nodes next → PartIs version C t nodes next
part_grows (suc (suc zero)) B C grows t nodes next h = part_stays B C grows t nodes next h
part_grows _ B C grows t nodes next h = (tree_grows B C grows t nodes h.0, h.1)

through_grows : (B C : Blobs) → Grows B C → (first : Name) (parts : List (List Node)) (tree : Name) → LeadsThrough B first parts tree → LeadsThrough C first parts tree
through_grows B C grows first [] tree h = h
through_grows B C grows first (nodes ∷ parts) tree h = (h.0, part_stays B C grows first nodes (Some h.0) h.1, through_grows B C grows h.0 parts tree h.2)

behind_grows : (version : ℕ) (B C : Blobs) → Grows B C → (first : Name) (parts : List (List Node)) (tree : Name) → ComesBehind version B first parts tree → ComesBehind version C first parts tree
behind_grows (suc (suc zero)) B C grows first parts tree h = through_grows B C grows first parts tree h
behind_grows _ B C grows first parts tree h = h

open_grows : (version : ℕ) (B C : Blobs) → Grows B C → (root first tree : Name) (path : List (List ℕ)) (nodes : List Node) (next : Option Name) (begun : ℕ) (inside : List Entry) → IsOpenLevel version B root first tree path nodes next begun inside
    → IsOpenLevel version C root first tree path nodes next begun inside
open_grows version B C grows root first tree path nodes next begun inside h = record {
  parts = h.parts;
  behind = behind_grows version B C grows first h.parts tree h.behind;
  later = h.later;
  full = h.full;
  under = under_grows version B C grows root path tree h.under;
  within = h.within;
  read = part_grows version B C grows tree nodes next h.read;
  ordered = h.ordered;
  shallow = h.shallow;
  spelled = nodes_grown version B C grows path (nodes_in h.parts ++ take begun nodes) inside h.spelled;
}

begun_grows : (version : ℕ) (B C : Blobs) → Grows B C → (root first : Name) (level : Level) (inside : List Entry) (node : Node) → DirectoryIsBegun version B root first level inside node → DirectoryIsBegun version C root first level inside node
begun_grows version B C grows root first level inside node h =
    record { at = h.at; counts = h.counts; node_is = h.node_is; opened = open_grows version B C grows root first level.tree level.path level.nodes.items level.next h.at inside h.opened }

leads_grow : (version : ℕ) (B C : Blobs) → Grows B C → (root from : Name) (path : List (List ℕ)) (outer : List Entry) (levels : List Level) (tree : Name) (last : List (List ℕ)) (all : List Entry) → LeadsOn version B root from path outer levels tree last all
    → LeadsOn version C root from path outer levels tree last all
leads_grow version B C grows root from path outer [] tree last all h = h
leads_grow version B C grows root from path outer (l ∷ levels) tree last all h =
    (h.0, h.1, h.2, h.3, begun_grows version B C grows root from l h.0 h.1 h.4, h.5, leads_grow version B C grows root h.2 _ _ levels tree last all h.6)

pieces_grow : (B C : Blobs) → Grows B C → (names : List Name) (emitted : List Emission) → ArePiecesOf B names emitted → ArePiecesOf C names emitted
pieces_grow B C grows [] emitted h = h
pieces_grow B C grows (name ∷ names) emitted h = (h.0, h.1, grows BlobKind.Content h.0 h.2, h.3, h.4, pieces_grow B C grows names h.1 h.5)

file_grows : (facts : List Fact) (version : ℕ) (B C : Blobs) → Grows B C → (root : Name) (levels : List Level) (sent : ℕ) (fact : Fact) (emitted : List Emission) → FileWaits facts version B root levels sent fact emitted
    → FileWaits facts version C root levels sent fact emitted
file_grows facts version B C grows root levels sent fact emitted h = record {
  above = h.above;
  level = h.level;
  before = h.before;
  inside = h.inside;
  node = h.node;
  size = h.size;
  content = h.content;
  bytes = h.bytes;
  levels_are = h.levels_are;
  first = h.first;
  leads = leads_grow version B C grows root root [] [] h.above h.first h.level.path h.before h.leads;
  begun = begun_grows version B C grows root h.first h.level h.inside h.node h.begun;
  file = h.file;
  asked = h.asked;
  part = record {
    joined = joined_move B C (take sent h.content) h.bytes h.part.joined (λ n is x b same. grows BlobKind.Content x b);
    left = h.part.left;
    sums = h.part.sums;
    even = h.part.even;
  };
  writing = h.writing;
  pieces = pieces_grow B C grows (take sent h.content) h.writing.last h.pieces;
}

tree_waits_grows : (onward : Bool) (version : ℕ) (B C : Blobs) → Grows B C → (root : Name) (levels : List Level) (fact : Fact) (emitted : List Emission) → TreeWaitsBy onward version B root levels fact emitted → TreeWaitsBy onward version C root levels fact emitted
tree_waits_grows true version B C grows root levels fact emitted h = record {
  above = h.above;
  level = h.level;
  first = h.first;
  before = h.before;
  inside = h.inside;
  levels_are = h.levels_are;
  leads = leads_grow version B C grows root root [] [] h.above h.first h.level.path h.before h.leads;
  opened = open_grows version B C grows root h.first h.level.tree h.level.path h.level.nodes.items h.level.next (length h.level.nodes.items) h.inside h.opened;
  goes_on = h.goes_on;
  whole = h.whole;
}
tree_waits_grows false version B C grows root levels fact emitted h = (h.0, leads_grow version B C grows root root [] [] levels fact.name h.0 _ h.1, under_grows version B C grows root h.0 fact.name h.2, h.3)

kind_grows : (kind : BlobKind) (facts : List Fact) (version : ℕ) (B C : Blobs) → Grows B C → (root : Name) (levels : List Level) (sent : ℕ) (onward : Bool) (fact : Fact) (emitted : List Emission) → WaitsByKind kind facts version B root levels sent onward fact emitted
    → WaitsByKind kind facts version C root levels sent onward fact emitted
kind_grows BlobKind.Content facts version B C grows root levels sent onward fact emitted h = file_grows facts version B C grows root levels sent fact emitted h
kind_grows BlobKind.Tree facts version B C grows root levels sent onward fact emitted h = tree_waits_grows onward version B C grows root levels fact emitted h

pub walk_grows : (facts : List Fact) (version : ℕ) (B C : Blobs) → Grows B C → (root : Name) (levels : List Level) (sent : ℕ) (onward : Bool) (entries : ℕ) (fact : Fact) (emitted : List Emission)
    → WalkWaits facts version B root levels sent onward entries fact emitted → WalkWaits facts version C root levels sent onward entries fact emitted
walk_grows facts version B C grows root levels sent onward entries fact emitted h =
    record { least = h.least; count = h.count; waits = kind_grows fact.kind facts version B C grows root levels sent onward fact emitted h.waits; order = h.order }
