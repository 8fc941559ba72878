-- What is kept of the trees that came is what they say.
use Rattle.std.proofs.Common.{◌≡◌, ℕ, Bool, true, false, List, Option, Some, None, refl, sym, ap, subst, ◌∙◌, Contains}
use Rattle.std.proofs.lemmas.Option.{same_Some, none-some}
use Rattle.repo_name.specs.Naming as naming
use Rattle.repo_name.specs.declared.kinds.BlobKind.TheVariants.{Tree}
use Rattle.repo_name.specs.declared.names.Name.{Name}
use Rattle.repo_pack.specs.declared.places.Place.{Place}
use Rattle.repo_index.specs.Lookups.{IsLeast}
use Rattle.repo_index.specs.declared.facts.Fact.{Fact}
use Rattle.repo_reach.specs.Collected.{version_by}
use Rattle.repo_reach.specs.Joints.{HasEnds, IsNoPartText, SaysNext, tree_next}
use Rattle.repo_reach.specs.Links.{LeadTo}
use Rattle.repo_reach.specs.Walks.{links_in_part}
use Rattle.repo_reach.specs.declared.joints.Next.{Next}
use Rattle.repo_reach.specs.declared.links.Links.{Links}
use Rattle.repo_session.specs.Traces.{Trace}
use Rattle.repo_session.specs.declared.outcomes.FaultKind.{FaultKind}
use Rattle.repo_tree.proofs.DirectoryLemmas.{part_texts_one}
use Rattle.repo_tree.proofs.TreeLemmas.{tree_texts_one}
use Rattle.repo_tree.specs.Parts.{Blobs, IsPart, IsPartText, IsTree, ListsBy}
use Rattle.repo_tree.specs.TreeText.{IsTreeText}
use Rattle.repo_tree.specs.declared.nodes.Node.{Node}
use Rattle.repo_check.specs.Answers.{Answer, Gathered, TreesOf}
use Rattle.repo_check.specs.Keeping.{links_of, next_of}
use Rattle.repo_check.specs.Measures.{IsReadAs}
use Rattle.repo_check.specs.Surveys.{RoundsView}
use Rattle.repo_check.specs.Walks.{IsTold, WalkView}
use Rattle.repo_check.specs.declared.keeping.Kept.{Kept}
use Rattle.repo_check.proofs.Gathered.{HasCome, answers_of, came_as, lies_of}

-- ---- what a part's text says

says_same : (text : List ℕ) (nodes own : List Node) (next : Next) (n : Option Name) → SaysNext text nodes next → IsPartText text own n → tree_next next ≡ n
says_same text nodes own Next.Absent n h part = (part_texts_one text nodes own None n h part).1
says_same text nodes own (Next.Tree m) n h part = (part_texts_one text nodes own (Some m) n h part).1
says_same text nodes own Next.Malformed n h part = absurd (h.1 own n part)

pub part_not_malformed : (text : List ℕ) (nodes own : List Node) (next : Next) (n : Option Name) → SaysNext text nodes next → IsPartText text own n → next ≡ Next.Malformed → ⊥
part_not_malformed text nodes own Next.Absent n h part is = cc is
part_not_malformed text nodes own (Next.Tree m) n h part is = cc is
part_not_malformed text nodes own Next.Malformed n h part is = h.1 own n part

read_as_part : (text : List ℕ) (nodes own : List Node) (next : Next) (n : Option Name) (links : Option Links) → SaysNext text nodes next → IsPartText text own n → links_in_part next links ≡ links
read_as_part text nodes own Next.Absent n links h part = refl
read_as_part text nodes own (Next.Tree m) n links h part = refl
read_as_part text nodes own Next.Malformed n links h part = absurd (h.1 own n part)

-- it is a part's text, unless it is malformed
pub part_said : (text : List ℕ) (nodes : List Node) (next : Next) → SaysNext text nodes next → (next ≡ Next.Malformed → ⊥) → IsPartText text nodes (tree_next next)
part_said text nodes Next.Absent h not = h
part_said text nodes (Next.Tree m) h not = h
part_said text nodes Next.Malformed h not = absurd (not refl)

pub no_part_said : (text : List ℕ) (nodes : List Node) (next : Next) → SaysNext text nodes next → next ≡ Next.Malformed → IsNoPartText text
no_part_said text nodes Next.Absent h is = absurd (cc is)
no_part_said text nodes (Next.Tree m) h is = absurd (cc is)
no_part_said text nodes Next.Malformed h is = h.1

links_not_malformed : (next : Next) (links : Option Links) (l : Links) → links_in_part next links ≡ Some l → (links ≡ Some l) × (next ≡ Next.Malformed → ⊥)
links_not_malformed Next.Absent links l h = (h, λ is. cc is)
links_not_malformed (Next.Tree m) links l h = (h, λ is. cc is)
links_not_malformed Next.Malformed links l h = absurd (none-some l h)

next_not_malformed : (next : Next) (n : Name) → tree_next next ≡ Some n → next ≡ Next.Malformed → ⊥
next_not_malformed Next.Absent n h is = none-some n h
next_not_malformed (Next.Tree m) n h is = cc is
next_not_malformed Next.Malformed n h is = none-some n h

-- what was told of a tree that reads
told_read : (facts : List Fact) (place : Place) (a : Answer) (l : Option Kept) (f : Option FaultKind) → IsTold facts place a l f → (kept : Kept) → l ≡ Some kept → (right : Bool) × IsReadAs facts place a kept right
told_read facts place a (Some x) None told kept is = (true, subst (λ y. IsReadAs facts place a y true) (same_Some x kept is) told)
told_read facts place a (Some x) (Some what) told kept is = (false, subst (λ y. IsReadAs facts place a y false) (same_Some x kept is) told.1)
told_read facts place a None f told kept is = absurd (cc is)

module _ (rounds : RoundsView) (walk : WalkView) (es : Trace) (s : HasCome rounds walk es) where
  abbrev A : Gathered
  A = answers_of s

  abbrev T : Blobs
  T = TreesOf A

  -- the tree of which this is kept
  pub record IsKept (t : Name) (kept : Kept) : Type 0 where
    pub text : List ℕ
    pub nodes : List Node
    pub among : T Tree text
    pub named : naming.name text ≡ t
    pub reads : IsTreeText text nodes
    pub lead : LeadTo nodes kept.links
    pub says : SaysNext text nodes kept.joint.next
    pub ends : HasEnds nodes kept.joint.ends

  read_kept : (a : Answer) (place : Place) (kept : Kept) (right : Bool) → Contains s.answers a → IsReadAs walk.known.facts place a kept right → IsLeast walk.known.facts Tree a.name place → IsKept a.name kept
  read_kept a place kept right c read least = record {
    text = read.bytes;
    nodes = read.nodes;
    among = (refl, (a.name, place, came_as s.answers a read.bytes c read.has, lies_of rounds walk es s Tree a.name place least));
    named = read.has.1;
    reads = read.tree;
    lead = read.lead;
    says = read.says;
    ends = read.ends;
  }

  pub kept_of : (t : Name) (kept : Kept) → walk.known.kept t ≡ Some kept → IsKept t kept
  kept_of t kept is =
      let found = s.reads.seen.kept t kept is in
      let a = found.0 in
      let seen = s.reads.seen.each a found.1 in
      let read = told_read walk.known.facts seen.place a (walk.known.kept a.name) (walk.known.faults a.name) seen.told kept (ap walk.known.kept found.2 ∙ is) in
      subst (λ m. IsKept m kept) found.2 (read_kept a seen.place kept read.0 found.1 read.1 seen.least)

  told_tree : (n : Name) (x : List ℕ) (place : Place) (nodes : List Node) (l : Option Kept) (f : Option FaultKind) → naming.name x ≡ n → IsTreeText x nodes
      → IsTold walk.known.facts place (record { name = n; bytes = Some x }) l f → (kept : Kept) × (l ≡ Some kept)
  told_tree n x place nodes (Some kept) f named reads told = (kept, refl)
  told_tree n x place nodes None None named reads told = absurd told
  told_tree n x place nodes None (Some FaultKind.Missing) named reads told = absurd (cc told)
  told_tree n x place nodes None (Some FaultKind.Name) named reads told = absurd (told.2 (ap naming.name (same_Some told.0 x (sym told.1)) ∙ named))
  told_tree n x place nodes None (Some FaultKind.Unreadable) named reads told =
      let y : x ≡ told.0 = same_Some x told.0 told.1.0 in
      absurd (told.2 nodes (subst (λ z. IsTreeText z nodes) y reads))
  told_tree n x place nodes None (Some FaultKind.Place) named reads told = absurd told
  told_tree n x place nodes None (Some FaultKind.Unindexed) named reads told = absurd told

  -- what came under a name is what is kept of it
  one_came : (a b : Answer) (x y : List ℕ) → Contains s.answers a → Contains s.answers b → a.name ≡ b.name → a.bytes ≡ Some x → b.bytes ≡ Some y → x ≡ y
  one_came a b x y c d same h g = same_Some x y (sym h ∙ ap (λ (z : Answer). z.bytes) (s.reads.seen.once a b c d same) ∙ g)

  -- a tree that came and reads is kept, and by its own text
  pub tree_kept : (t : Name) (nodes : List Node) (h : IsTree T t nodes) → (kept : Kept) × (walk.known.kept t ≡ Some kept) × ((k : IsKept t kept) → k.text ≡ h.text)
  tree_kept t nodes h =
      let n = h.among.1.0 in
      let place = h.among.1.1 in
      let came = h.among.1.2 in
      let seen = s.reads.seen.each (record { name = n; bytes = Some h.text }) came.among in
      let told = told_tree n h.text seen.place nodes (walk.known.kept n) (walk.known.faults n) came.named h.reads seen.told in (
        told.0,
        ap walk.known.kept (sym h.named ∙ came.named) ∙ told.1,
        λ k.
            let m = k.among.1.0 in
            let other = k.among.1.2 in
            let names : m ≡ n = sym other.named ∙ k.named ∙ sym h.named ∙ came.named in
            one_came (record { name = m; bytes = Some k.text }) (record { name = n; bytes = Some h.text }) k.text h.text other.among came.among names refl refl,
      )

  -- ---- what is listed

  pub links_lists : (follows : Bool) (t : Name) (links : Links) → links_of (walk.known.kept t) follows ≡ Some links → (nodes : List Node) × ListsBy (version_by follows) T t nodes × LeadTo nodes links
  links_lists follows t links h = by follows (walk.known.kept t) refl h
    where
      by : (follows : Bool) (o : Option Kept) → walk.known.kept t ≡ o → links_of o follows ≡ Some links → (nodes : List Node) × ListsBy (version_by follows) T t nodes × LeadTo nodes links
      by follows None is h = absurd (none-some links h)
      by true (Some kept) is h =
          let k = kept_of t kept is in
          let l = links_not_malformed kept.joint.next (Some kept.links) links h in
          (k.nodes, (tree_next kept.joint.next, record { text = k.text; among = k.among; named = k.named; reads = part_said k.text k.nodes kept.joint.next k.says l.1 }), subst (λ ls. LeadTo k.nodes ls) (same_Some kept.links links l.0) k.lead)
      by false (Some kept) is h =
          let k = kept_of t kept is in
          (k.nodes, record { text = k.text; among = k.among; named = k.named; reads = k.reads }, subst (λ ls. LeadTo k.nodes ls) (same_Some kept.links links h) k.lead)

  abbrev part_tree : (t : Name) (nodes : List Node) (next : Option Name) → IsPart T t nodes next → IsTree T t nodes
  part_tree t nodes next h = record { text = h.text; among = h.among; named = h.named; reads = record { root = h.reads.root; json = h.reads.json; tree = h.reads.tree } }

  pub lists_links : (follows : Bool) (t : Name) (nodes : List Node) → ListsBy (version_by follows) T t nodes → (links : Links) × (links_of (walk.known.kept t) follows ≡ Some links) × LeadTo nodes links
  lists_links true t nodes (next, part) =
      let tree = part_tree t nodes next part in
      let found = tree_kept t nodes tree in
      let k = kept_of t found.0 found.1 in
      let same = found.2 k in
      let own : IsPartText k.text nodes next = subst (λ x. IsPartText x nodes next) (sym same) part.reads in
      let ns : k.nodes ≡ nodes = tree_texts_one k.text k.nodes nodes k.reads (subst (λ x. IsTreeText x nodes) (sym same) tree.reads) in (
        found.0.links,
        ap (λ o. links_of o true) found.1 ∙ read_as_part k.text k.nodes nodes found.0.joint.next next (Some found.0.links) k.says own,
        subst (λ ms. LeadTo ms found.0.links) ns k.lead,
      )
  lists_links false t nodes tree =
      let found = tree_kept t nodes tree in
      let k = kept_of t found.0 found.1 in
      let ns : k.nodes ≡ nodes = tree_texts_one k.text k.nodes nodes k.reads (subst (λ x. IsTreeText x nodes) (sym (found.2 k)) tree.reads) in
      (found.0.links, ap (λ o. links_of o false) found.1, subst (λ ms. LeadTo ms found.0.links) ns k.lead)

  -- ---- where parts go on

  -- a part that came is kept as it says
  pub record IsKeptPart (t : Name) (nodes : List Node) (next : Option Name) : Type 0 where
    pub kept : Kept
    pub is : walk.known.kept t ≡ Some kept
    pub next_is : tree_next kept.joint.next ≡ next
    pub right : kept.joint.next ≡ Next.Malformed → ⊥
    pub ends : HasEnds nodes kept.joint.ends

  pub part_kept : (t : Name) (nodes : List Node) (next : Option Name) → IsPart T t nodes next → IsKeptPart t nodes next
  part_kept t nodes next part =
      let tree = part_tree t nodes next part in
      let found = tree_kept t nodes tree in
      let k = kept_of t found.0 found.1 in
      let same = found.2 k in
      let own : IsPartText k.text nodes next = subst (λ x. IsPartText x nodes next) (sym same) part.reads in
      let ns : k.nodes ≡ nodes = tree_texts_one k.text k.nodes nodes k.reads (subst (λ x. IsTreeText x nodes) (sym same) tree.reads) in
      record {
        kept = found.0;
        is = found.1;
        next_is = says_same k.text k.nodes nodes found.0.joint.next next k.says own;
        right = part_not_malformed k.text k.nodes nodes found.0.joint.next next k.says own;
        ends = subst (λ ms. HasEnds ms found.0.joint.ends) ns k.ends;
      }

  pub kept_part : (t : Name) (kept : Kept) → walk.known.kept t ≡ Some kept → (kept.joint.next ≡ Next.Malformed → ⊥) → (nodes : List Node) × IsPart T t nodes (tree_next kept.joint.next) × HasEnds nodes kept.joint.ends
  kept_part t kept is right =
      let k = kept_of t kept is in
      (k.nodes, record { text = k.text; among = k.among; named = k.named; reads = part_said k.text k.nodes kept.joint.next k.says right }, k.ends)

  pub part_next : (t n : Name) (nodes : List Node) → IsPart T t nodes (Some n) → next_of (walk.known.kept t) true ≡ Some n
  part_next t n nodes part = let k = part_kept t nodes (Some n) part in ap (λ o. next_of o true) k.is ∙ k.next_is

  pub next_part : (t n : Name) → next_of (walk.known.kept t) true ≡ Some n → (nodes : List Node) × IsPart T t nodes (Some n)
  next_part t n h = by (walk.known.kept t) refl h
    where
      by : (o : Option Kept) → walk.known.kept t ≡ o → next_of o true ≡ Some n → (nodes : List Node) × IsPart T t nodes (Some n)
      by None is h = absurd (none-some n h)
      by (Some kept) is h =
          let p = kept_part t kept is (next_not_malformed kept.joint.next n h) in
          (p.0, subst (λ o. IsPart T t p.0 o) h p.1)
