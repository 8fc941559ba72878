-- What is known of the text of a tree that was read.
use Rattle.std.proofs.Common.{◌≡◌, ◌⊎◌, inl, inr, ◌++◌, ◌-◌, ◌∷◌, [], ℕ, Bool, true, false, List, length, slice_get, Option, Some, None, refl, sym, ap, subst, ◌∙◌, Contains}
use Rattle.std.proofs.lemmas.Option.{same_Some, none-some}
use Rattle.std.specs.Ordering.{nat_cmp}
use Rattle.std.specs.declared.cmp.Ordering.{Ordering}
use Rattle.std.specs.Cmp.Lexicographic.{slice_cmp}
use Rattle.repo_name.specs.Naming as naming
use Rattle.repo_name.specs.declared.names.Name.{Name}
use Rattle.repo_tree.specs.Parts.{IsPart, IsPartText, ListsBy}
use Rattle.repo_tree.specs.TreeText.{AreInOrder, IsTreeText, last_name}
use Rattle.repo_tree.specs.declared.nodes.Node.{Node}
use Rattle.repo_tree.proofs.OrderLemmas.{last_name_is}
use Rattle.repo_reach.specs.Collected.{tree_blobs, version_by, LeadsTo}
use Rattle.repo_reach.specs.Joints.{IsNoPartText, SaysNext, HasEnds, MayFollow, tree_next}
use Rattle.repo_reach.specs.Links.{LeadTo}
use Rattle.repo_reach.specs.Walks.{links_in_part, links_by, next_by, HasText, IsSameTree}
use Rattle.repo_reach.specs.declared.joints.Ends.{Ends}
use Rattle.repo_reach.specs.declared.joints.Joint.{Joint}
use Rattle.repo_reach.specs.declared.joints.Next.{Next}
use Rattle.repo_reach.specs.declared.links.Links.{Links}
use Rattle.repo_reach.specs.declared.looks.Seen.{Seen}
use Rattle.repo_reach.specs.declared.roots.Root.{Root}
use Rattle.repo_reach.proofs.Leading.{leads_onward}

part_tree : (text : List ℕ) (nodes : List Node) (next : Option Name) → IsPartText text nodes next → IsTreeText text nodes
part_tree text nodes next h = record { root = h.root; json = h.json; tree = h.tree }

-- it is that of a tree
pub says_tree : (text : List ℕ) (nodes : List Node) (next : Next) → SaysNext text nodes next → IsTreeText text nodes
says_tree text nodes Next.Absent h = part_tree text nodes None h
says_tree text nodes (Next.Tree n) h = part_tree text nodes (Some n) h
says_tree text nodes Next.Malformed h = h.0

-- ---- the same tree

pub text_over : (texts : List (List ℕ)) (a b : Seen) → IsSameTree a b → HasText texts a.name a.joint a.links → HasText texts b.name b.joint b.links
text_over texts a b same h =
    subst (λ n. HasText texts n b.joint b.links) (sym same.name) (subst (λ j. HasText texts a.name j b.links) (sym same.joint) (subst (λ ls. HasText texts a.name a.joint ls) (sym same.links) h))

pub links_over : (a b : Seen) (follows : Bool) → IsSameTree a b → links_by follows b ≡ links_by follows a
links_over a b true same = ap (λ (j : Joint). links_in_part j.next b.links) same.joint ∙ ap (λ ls. links_in_part a.joint.next ls) same.links
links_over a b false same = same.links

pub next_over : (a b : Seen) (follows : Bool) → IsSameTree a b → next_by follows b ≡ next_by follows a
next_over a b true same = ap (λ (j : Joint). tree_next j.next) same.joint
next_over a b false same = refl

-- ---- as it is read

part_links : (next : Next) (links : Option Links) (l : Links) → links_in_part next links ≡ Some l → links ≡ Some l
part_links Next.Absent links l h = h
part_links (Next.Tree n) links l h = h
part_links Next.Malformed links l h = absurd (none-some l h)

pub links_are : (seen : Seen) (follows : Bool) (l : Links) → links_by follows seen ≡ Some l → seen.links ≡ Some l
links_are seen true l h = part_links seen.joint.next seen.links l h
links_are seen false l h = h

says_lists : (texts : List (List ℕ)) (t : Name) (text : List ℕ) (nodes : List Node) (next : Next) (links : Option Links) (l : Links) → Contains texts text → naming.name text ≡ t → SaysNext text nodes next → links_in_part next links ≡ Some l
    → (n : Option Name) × IsPart (tree_blobs texts) t nodes n
says_lists texts t text nodes Next.Absent links l among named says h = (None, record { text = text; among = (refl, among); named = named; reads = says })
says_lists texts t text nodes (Next.Tree n) links l among named says h = (Some n, record { text = text; among = (refl, among); named = named; reads = says })
says_lists texts t text nodes Next.Malformed links l among named says h = absurd (none-some l h)

-- what is read of it
pub record IsReadBy (texts : List (List ℕ)) (follows : Bool) (seen : Seen) (l : Links) : Type 0 where
  pub nodes : List Node
  pub lists : ListsBy (version_by follows) (tree_blobs texts) seen.name nodes
  pub ends : HasEnds nodes seen.joint.ends
  pub lead : LeadTo nodes l

pub read_by : (texts : List (List ℕ)) (follows : Bool) (seen : Seen) (l : Links) → HasText texts seen.name seen.joint seen.links → links_by follows seen ≡ Some l → IsReadBy texts follows seen l
read_by texts true seen l h is =
    let t : HasText texts seen.name seen.joint (Some l) = subst (λ ls. HasText texts seen.name seen.joint ls) (links_are seen true l is) h in
    record { nodes = t.1; lists = says_lists texts seen.name t.0 t.1 seen.joint.next seen.links l t.2 t.3 t.4 is; ends = t.5; lead = t.6 }
read_by texts false seen l h is =
    let t : HasText texts seen.name seen.joint (Some l) = subst (λ ls. HasText texts seen.name seen.joint ls) is h in
    record { nodes = t.1; lists = record { text = t.0; among = (refl, t.2); named = t.3; reads = says_tree t.0 t.1 seen.joint.next t.4 }; ends = t.5; lead = t.6 }

-- ---- where it goes on

pub record GoesOnTo (texts : List (List ℕ)) (t : Name) (joint : Joint) (n : Name) : Type 0 where
  pub nodes : List Node
  pub part : IsPart (tree_blobs texts) t nodes (Some n)
  pub ends : HasEnds nodes joint.ends

says_part : (texts : List (List ℕ)) (t n : Name) (text : List ℕ) (nodes : List Node) (next : Next) → Contains texts text → naming.name text ≡ t → SaysNext text nodes next → tree_next next ≡ Some n → IsPart (tree_blobs texts) t nodes (Some n)
says_part texts t n text nodes Next.Absent among named says h = absurd (none-some n h)
says_part texts t n text nodes (Next.Tree m) among named says h = subst (λ o. IsPart (tree_blobs texts) t nodes o) h (record { text = text; among = (refl, among); named = named; reads = says })
says_part texts t n text nodes Next.Malformed among named says h = absurd (none-some n h)

pub goes_on_to : (texts : List (List ℕ)) (t : Name) (joint : Joint) (links : Option Links) (n : Name) → HasText texts t joint links → tree_next joint.next ≡ Some n → GoesOnTo texts t joint n
goes_on_to texts t joint None n h is = absurd (none-some n (sym (ap tree_next h) ∙ is))
goes_on_to texts t joint (Some links) n h is = record { nodes = h.1; part = says_part texts t n h.0 h.1 joint.next h.2 h.3 h.4 is; ends = h.5 }

pub led_onward : (texts : List (List ℕ)) (roots : List Root) (follows : Bool) (depth : ℕ) (seen : Seen) (n : Name) → HasText texts seen.name seen.joint seen.links → next_by follows seen ≡ Some n → LeadsTo texts roots follows depth seen.name → LeadsTo texts roots follows depth n
led_onward texts roots true depth seen n h is led = let g = goes_on_to texts seen.name seen.joint seen.links n h is in leads_onward texts roots depth seen.name n g.nodes led g.part
led_onward texts roots false depth seen n h is led = absurd (none-some n is)

-- a tree of a malformed `next` was read
pub malformed_text : (texts : List (List ℕ)) (t : Name) (joint : Joint) (links : Option Links) → HasText texts t joint links → joint.next ≡ Next.Malformed → (text : List ℕ) × Contains texts text × (naming.name text ≡ t) × IsNoPartText text
malformed_text texts t joint None h is = absurd (let e : Next.Absent ≡ Next.Malformed = sym h ∙ is in cc)
malformed_text texts t joint (Some links) h is = let says : SaysNext h.0 h.1 Next.Malformed = subst (λ n. SaysNext h.0 h.1 n) is h.4 in (h.0, h.2, h.3, says.1)

-- ---- names that ascend from part to part

last_less : (nodes : List Node) (last : List ℕ) (first : Node) (more : List Node) → AreInOrder (nodes ++ first ∷ more) → last_name nodes ≡ Some last → slice_cmp nat_cmp last first.name ≡ Ordering.Less
last_less [] last first more o h = absurd (none-some last h)
last_less (n ∷ []) last first more o h = subst (λ l. slice_cmp nat_cmp l first.name ≡ Ordering.Less) (same_Some n.name last h) o.1
last_less (n ∷ k ∷ nodes) last first more o h = last_less (k ∷ nodes) last first more o.2 h

pub wrong_order : (nodes behind : List Node) (before after : Option Ends) → HasEnds nodes before → HasEnds behind after → ¬ MayFollow before after → (behind ≡ []) ⊎ ¬ AreInOrder (nodes ++ behind)
wrong_order nodes behind before None h g wrong = inl g
wrong_order nodes behind None (Some after) h g wrong = absurd (wrong tt)
wrong_order nodes behind (Some before) (Some after) h g wrong =
    inr (λ o. wrong (subst (λ x. slice_cmp nat_cmp before.last x ≡ Ordering.Less) (sym g.3) (last_less nodes before.last g.0 g.1 (subst (λ ns. AreInOrder (nodes ++ ns)) g.2 o) h.4)))

pub ends_are : (nodes : List Node) (first last : Node) (a b : List ℕ) → Some first ≡ slice_get nodes 0 → Some last ≡ slice_get nodes (length nodes - 1) → a ≡ first.name → b ≡ last.name
    → (x : Node) × (more : List Node) × (nodes ≡ x ∷ more) × (a ≡ x.name) × (last_name nodes ≡ Some b)
ends_are [] first last a b h g is at = absurd (none-some first (sym h))
ends_are (n ∷ nodes) first last a b h g is at = (n, nodes, refl, is ∙ ap (λ (m : Node). m.name) (same_Some first n h), last_name_is (n ∷ nodes) last g ∙ ap (λ x. Some x) (sym at))
