-- What a walk that is done came upon is what the roots reach.
use Rattle.std.proofs.Common.{arith, zero, suc, ◌≡◌, ◌≤◌, ◌+◌, ◌∷◌, [], ℕ, Bool, true, false, List, Option, Some, None, slice_get, refl, sym, ap, subst, inl, inr, ◌↔◌, ◌∙◌, Contains}
use Rattle.std.proofs.lemmas.Option.{slice_get_within, same_Some}
use Rattle.repo_name.specs.declared.kinds.BlobKind.{BlobKind}
use Rattle.repo_name.specs.declared.kinds.BlobKind.TheVariants.{Content, Tree}
use Rattle.repo_name.specs.declared.names.Name.{Name}
use Rattle.repo_tree.specs.Laws.{Agree}
use Rattle.repo_tree.specs.Parts.{Blobs, IsPart, IsPartText, IsPartBy, ListsBy, GoesOn}
use Rattle.repo_tree.specs.Spelling.{greatest_depth}
use Rattle.repo_tree.specs.declared.nodes.Node.{Node}
use Rattle.repo_name.proofs.Containing.{none_contained, stands_at}
use Rattle.repo_tree.proofs.DirectoryLemmas.{lists_once, part_texts_one}
use Rattle.repo_reach.specs.Collected.{tree_blobs, version_by, LeadsTo, IsReachedBy, IsReached}
use Rattle.repo_reach.specs.Joints.{SaysNext, tree_next}
use Rattle.repo_reach.specs.Laws.{IsUsedBy, IsUsed, IsWholeWalk, UsedIsReached}
use Rattle.repo_reach.specs.Links.{trees_of, content_of}
use Rattle.repo_reach.specs.Walks.{WasAt, IsLooked, HasText, IsMet, IsWalk, links_by, links_in_part, next_by, visit_at}
use Rattle.repo_reach.specs.declared.joints.Next.{Next}
use Rattle.repo_reach.specs.declared.links.Links.{Links}
use Rattle.repo_reach.specs.declared.looks.Seen.{Seen}
use Rattle.repo_reach.specs.declared.roots.Root.{Root}
use Rattle.repo_reach.specs.declared.trees.Trees.{Trees}
use Rattle.repo_reach.specs.declared.trees.Visit.{Visit}
use Rattle.repo_reach.proofs.Leading.{given_reached, reached_given}
use Rattle.repo_reach.proofs.Reading.{read_by}

-- ---- what a part's text says of `next`

some_next : (n m : Option Name) (x y : Name) → n ≡ m → n ≡ Some x → m ≡ Some y → x ≡ y
some_next n m x y same h g = same_Some x y (sym h ∙ same ∙ g)

says_next : (text : List ℕ) (nodes own : List Node) (next : Next) (n : Option Name) → SaysNext text nodes next → IsPartText text own n → tree_next next ≡ n
says_next text nodes own Next.Absent n h part = (part_texts_one text nodes own None n h part).1
says_next text nodes own (Next.Tree m) n h part = (part_texts_one text nodes own (Some m) n h part).1
says_next text nodes own Next.Malformed n h part = absurd (h.1 own n part)

is_part : (text : List ℕ) (nodes own : List Node) (next : Next) (n : Option Name) (links : Option Links) → SaysNext text nodes next → IsPartText text own n → links_in_part next links ≡ links
is_part text nodes own Next.Absent n links h part = refl
is_part text nodes own (Next.Tree m) n links h part = refl
is_part text nodes own Next.Malformed n links h part = absurd (h.1 own n part)

module _ (texts : List (List ℕ)) (c : Trees) (w : IsWalk texts c) where
  abbrev B : Blobs
  B = tree_blobs texts

  abbrev all : List Seen
  all = c.seen.items

  abbrev roots : List Root
  roots = c.roots.items

  -- ---- what the walk came upon is reached

  within : (i : ℕ) (seen : Seen) (follows : Bool) (depth : ℕ) → slice_get all i ≡ Some seen → WasAt seen follows depth → depth ≤ greatest_depth
  within i seen follows depth there was =
      let few = slice_get_within _ depth _ was in
      let flags = (w.seen.each i seen there).flags follows in
      omega (arith, few, flags)

  to_reached : (follows : Bool) (k : BlobKind) (n : Name) → IsUsedBy all follows k n → IsReachedBy texts roots follows k n
  to_reached follows Tree n (depth, l) =
      let leads = subst (λ m. LeadsTo texts roots follows depth m) l.3 (w.met.looked l.0 l.1 follows depth l.2 l.4) in
      given_reached texts roots follows greatest_depth Tree n (depth, within l.0 l.1 follows depth l.2 l.4, leads)
  to_reached follows Content n (i, seen, depth, there, holds) =
      let read = read_by texts follows seen holds.links (w.seen.each i seen there).text holds.read in
      let among = subst (λ ns. Contains ns n) read.lead.content holds.among in
      given_reached texts roots follows greatest_depth Content n (depth, seen.name, read.nodes, holds.above, w.met.looked i seen follows depth there holds.was, read.lists, among)

  -- ---- what is reached the walk came upon

  module _ (done : IsWholeWalk c) where
    agree : Agree B B
    agree k x y h g same = w.seen.one x y h.1 g.1 same

    now_looked : (n : Name) (follows : Bool) (depth : ℕ) → IsMet all c.waiting.items n follows depth → IsLooked all n follows depth
    now_looked n follows depth (inl l) = l
    now_looked n follows depth (inr h) = absurd (none_contained _ (subst (λ (vs : List Visit). Contains vs (visit_at follows depth n)) done.waiting h))

    -- the text of a tree that was seen is that of its name
    own_text : (seen : Seen) (i : ℕ) → slice_get all i ≡ Some seen → (links : Links) × (seen.links ≡ Some links) × HasText texts seen.name seen.joint (Some links)
    own_text seen i there =
        let read = done.read i seen there in
        (read.0, read.1, subst (λ ls. HasText texts seen.name seen.joint ls) read.1 (w.seen.each i seen there).text)

    own_part : (seen : Seen) (i : ℕ) (nodes : List Node) (n : Option Name) → slice_get all i ≡ Some seen → IsPart B seen.name nodes n → (next_by true seen ≡ n) × (links_by true seen ≡ seen.links)
    own_part seen i nodes n there part =
        let t = (own_text seen i there).2 in
        let same : part.text ≡ t.0 = w.seen.one part.text t.0 part.among.1 t.2 (part.named ∙ sym t.3) in
        let reads : IsPartText t.0 nodes n = subst (λ x. IsPartText x nodes n) same part.reads in
        (says_next t.0 t.1 nodes seen.joint.next n t.4 reads, is_part t.0 t.1 nodes seen.joint.next n seen.links t.4 reads)

    links_read : (follows : Bool) (seen : Seen) (i : ℕ) (nodes : List Node) → slice_get all i ≡ Some seen → ListsBy (version_by follows) B seen.name nodes → links_by follows seen ≡ seen.links
    links_read true seen i nodes there lists = (own_part seen i nodes lists.0 there lists.1).1
    links_read false seen i nodes there lists = refl

    -- what the nodes of a tree that was seen lead to is known
    lead : (follows : Bool) (seen : Seen) (i : ℕ) (nodes : List Node) → slice_get all i ≡ Some seen → ListsBy (version_by follows) B seen.name nodes → (links : Links) × (links_by follows seen ≡ Some links) × (links.trees.items ≡ trees_of nodes) × (links.content.items ≡ content_of nodes)
    lead follows seen i nodes there lists =
        let own = own_text seen i there in
        let read : links_by follows seen ≡ Some own.0 = links_read follows seen i nodes there lists ∙ own.1 in
        let r = read_by texts follows seen own.0 (w.seen.each i seen there).text read in
        let same : r.nodes ≡ nodes = lists_once (version_by follows) B B agree seen.name r.nodes nodes r.lists lists in
        (own.0, read, r.lead.trees ∙ ap trees_of same, r.lead.content ∙ ap content_of same)

    -- the parts of a directory of which the first tree was looked at were
    through : (depth : ℕ) (between : List Name) (top t : Name) → IsLooked all top true depth → GoesOn B top between t → IsLooked all t true depth
    through depth [] top t l on = subst (λ m. IsLooked all m true depth) (sym on) l
    through depth (next ∷ between) top t l on =
        let part : IsPart B l.1.name on.0 (Some next) = subst (λ m. IsPart B m on.0 (Some next)) (sym l.3) on.1 in
        let goes = (own_part l.1 l.0 on.0 (Some next) l.2 part).0 in
        through depth between next t (now_looked next true depth (w.met.onward l.0 l.1 true depth next l.2 goes l.4).1) on.2

    parts_looked : (follows : Bool) (depth : ℕ) (top t : Name) → IsLooked all top follows depth → IsPartBy (version_by follows) B top t → IsLooked all t follows depth
    parts_looked true depth top t l on = through depth on.0 top t l on.1
    parts_looked false depth top t l on = subst (λ m. IsLooked all m false depth) (sym on) l

    led_looked : (follows : Bool) (depth : ℕ) (t : Name) → LeadsTo texts roots follows depth t → depth ≤ greatest_depth → IsLooked all t follows depth
    led_looked follows zero t (top, among, belongs) few =
        let root : Root = record { tree = top; follows = follows } in
        let p = stands_at roots root among in
        let inside = slice_get_within roots p.0 root p.1 in
        let counted = done.roots in
        parts_looked follows 0 top t (w.met.begun p.0 root (omega (arith, inside, counted)) p.1) belongs
    led_looked follows (suc depth) t (above, nodes, subtree, leads, lists, among, belongs) few =
        let l = led_looked follows depth above leads (omega (arith, few)) in
        let links = lead follows l.1 l.0 nodes l.2 (subst (λ m. ListsBy (version_by follows) B m nodes) (sym l.3) lists) in
        let met = w.met.below l.0 l.1 links.0 follows depth subtree l.2 links.1 l.4 (omega (arith, few)) (subst (λ ts. Contains ts subtree) (sym links.2) among) in
        let deeper : depth + 1 ≡ suc depth = omega arith in
        parts_looked follows (suc depth) subtree t (subst (λ d. IsLooked all subtree follows d) deeper (now_looked subtree follows (depth + 1) met)) belongs

    to_used : (follows : Bool) (k : BlobKind) (n : Name) → IsReachedBy texts roots follows k n → IsUsedBy all follows k n
    to_used follows Tree n reached =
        let g = reached_given texts roots follows greatest_depth Tree n reached in
        (g.0, led_looked follows g.0 n g.2 g.1)
    to_used follows Content n reached =
        let g = reached_given texts roots follows greatest_depth Content n reached in
        let above = g.3 in
        let l = led_looked follows g.0 g.1 g.4 (omega (arith, above)) in
        let links = lead follows l.1 l.0 g.2 l.2 (subst (λ m. ListsBy (version_by follows) B m g.2) (sym l.3) g.5) in
        (l.0, l.1, g.0, l.2, record { links = links.0; read = links.1; was = l.4; above = above; among = subst (λ ns. Contains ns n) (sym links.3) g.6 })

pub used_is_reached : UsedIsReached
used_is_reached texts c w done follows k n = (to_used texts c w done follows k n, to_reached texts c w follows k n)

-- so over all ways
pub all_reached : (texts : List (List ℕ)) (c : Trees) → IsWalk texts c → IsWholeWalk c → (k : BlobKind) (n : Name) → IsReached texts c.roots.items k n ↔ IsUsed c.seen.items k n
all_reached texts c w done k n = (λ h. (h.0, to_used texts c w done h.0 k n h.1), λ h. (h.0, to_reached texts c w h.0 k n h.1))
