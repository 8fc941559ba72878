-- Names that ascend from one part of a directory to the next, and the last names of the trees that came.
use Rattle.std.proofs.Common.{◌≡◌, ◌≢◌, ◌++◌, ◌∷◌, [], ℕ, Bool, true, false, List, codes, Option, Some, None, refl, sym, ap, subst, inl, inr, ◌∙◌, Contains}
use Rattle.std.specs.Prelude.{IfSome, option_and_then}
use Rattle.std.specs.Ordering.{nat_cmp}
use Rattle.std.specs.declared.cmp.Ordering.{Ordering}
use Rattle.std.specs.Cmp.Lexicographic.{slice_cmp}
use Rattle.std.proofs.lemmas.Option.{none-some, same_Some}
use Rattle.serde_json.specs.Data.{Data, Items, no_items, item}
use Rattle.serde_json.specs.Read.{read}
use Rattle.repo_json.specs.JsonText.{items_at, text_at}
use Rattle.repo_json.specs.Listing.{AreAll}
use Rattle.repo_name.specs.declared.names.Name.{Name}
use Rattle.repo_name.proofs.Containing.{contained_or, none_contained}
use Rattle.repo_reach.specs.Joints.{HasEnds, MayFollow, tree_next}
use Rattle.repo_reach.specs.declared.joints.Ends.{Ends}
use Rattle.repo_reach.specs.declared.joints.Next.{Next}
use Rattle.repo_tree.specs.TreeText.{AreInOrder, Follows, IsNode, IsTreeText, last_name}
use Rattle.repo_tree.specs.declared.nodes.Node.{Node}
use Rattle.repo_tree.proofs.FiniteLemmas.{HasName}
use Rattle.repo_check.specs.Answers.{Answer}
use Rattle.repo_check.specs.Keeping.{next_kept}
use Rattle.repo_check.specs.declared.keeping.Kept.{Kept}

pub next_tree : (next : Next) (n : Name) → tree_next next ≡ Some n → next ≡ Next.Tree n
next_tree Next.Absent n h = absurd (none-some n h)
next_tree (Next.Tree m) n h = ap Next.Tree (same_Some m n h)
next_tree Next.Malformed n h = absurd (none-some n h)

-- a tree that goes on is a part, by a name
pub next_follows : (kept : Kept) (follows : Bool) (n : Name) → next_kept kept follows ≡ Some n → (follows ≡ true) × (kept.joint.next ≡ Next.Tree n)
next_follows kept true n h = (refl, next_tree kept.joint.next n h)
next_follows kept false n h = absurd (none-some n h)

-- ---- order

joined_order : (nodes : List Node) (first : Node) (more : List Node) → AreInOrder nodes → AreInOrder (first ∷ more) → Follows nodes first.name → AreInOrder (nodes ++ first ∷ more)
joined_order [] first more h g last = g
joined_order (n ∷ []) first more h g last = (h.0, last, g)
joined_order (n ∷ k ∷ nodes) first more h g last = (h.0, h.1, joined_order (k ∷ nodes) first more h.2 g last)

last_less : (nodes : List Node) (first : Node) (more : List Node) → AreInOrder (nodes ++ first ∷ more) → Follows nodes first.name
last_less [] first more o = tt
last_less (n ∷ []) first more o = o.1
last_less (n ∷ k ∷ nodes) first more o = last_less (k ∷ nodes) first more o.2

follows_some : (last : List ℕ) (nodes : List Node) (name : List ℕ) → last_name nodes ≡ Some last → slice_cmp nat_cmp last name ≡ Ordering.Less → Follows nodes name
follows_some last nodes name is less =
    let P : Option (List ℕ) → Type 0 = λ p. IfSome p (λ l. slice_cmp nat_cmp l name ≡ Ordering.Less) in
    subst P (sym is) less

pub may_nodes : (nodes behind : List Node) (before after : Option Ends) → HasEnds nodes before → HasEnds behind after → MayFollow before after → behind ≢ []
may_nodes nodes behind before None h g may = absurd may
may_nodes nodes behind before (Some after) h g may = λ none. absurd (let e : g.0 ∷ g.1 ≡ [] = sym g.2 ∙ none in cc e)

pub may_order : (nodes behind : List Node) (before after : Option Ends) → AreInOrder nodes → AreInOrder behind → HasEnds nodes before → HasEnds behind after → MayFollow before after → AreInOrder (nodes ++ behind)
may_order nodes behind before None o p h g may = absurd may
may_order nodes behind None (Some after) o p h g may = subst (λ ns. AreInOrder (ns ++ behind)) (sym h) p
may_order nodes behind (Some before) (Some after) o p h g may =
    let less : slice_cmp nat_cmp before.last g.0.name ≡ Ordering.Less = subst (λ x. slice_cmp nat_cmp before.last x ≡ Ordering.Less) g.3 may in
    subst (λ ns. AreInOrder (nodes ++ ns)) (sym g.2) (joined_order nodes g.0 g.1 o (subst AreInOrder g.2 p) (follows_some before.last nodes g.0.name h.4 less))

-- whether names ascend across can be told
cmp_stable : (o : Ordering) → ((o ≡ Ordering.Less → ⊥) → ⊥) → o ≡ Ordering.Less
cmp_stable Ordering.Less nn = refl
cmp_stable Ordering.Equal nn = absurd (nn (λ e. cc e))
cmp_stable Ordering.Greater nn = absurd (nn (λ e. cc e))

follows_stable : (o : Option (List ℕ)) (name : List ℕ) → ((IfSome o (λ l. slice_cmp nat_cmp l name ≡ Ordering.Less) → ⊥) → ⊥) → IfSome o (λ l. slice_cmp nat_cmp l name ≡ Ordering.Less)
follows_stable None name nn = tt
follows_stable (Some last) name nn = cmp_stable (slice_cmp nat_cmp last name) nn

pub order_stable : (nodes more : List Node) → more ≢ [] → AreInOrder nodes → AreInOrder more → ((AreInOrder (nodes ++ more) → ⊥) → ⊥) → AreInOrder (nodes ++ more)
order_stable nodes [] some o p nn = absurd (some refl)
order_stable nodes (first ∷ more) some o p nn = joined_order nodes first more o p (follows_stable (last_name nodes) first.name (λ not. nn (λ all. not (last_less nodes first more all))))

-- ---- the last name that a text gives

abbrev last_item : Items → Option Data
last_item no_items = None
last_item (item d no_items) = Some d
last_item (item d (item e rest)) = last_item (item e rest)

abbrev pub last_read : List ℕ → Option (List ℕ)
last_read x = option_and_then (λ (d : Data). option_and_then (λ items. option_and_then (λ (e : Data). text_at (codes "name") e) (last_item items)) (items_at (codes "nodes") d)) (read x)

items_last : (items : Items) (nodes : List Node) (last : List ℕ) → AreAll IsNode items nodes → last_name nodes ≡ Some last → option_and_then (λ (e : Data). text_at (codes "name") e) (last_item items) ≡ Some last
items_last items [] last all is = absurd (none-some last is)
items_last no_items (n ∷ nodes) last all is = absurd all
items_last (item d no_items) (n ∷ []) last all is = all.0.0 ∙ is
items_last (item d no_items) (n ∷ m ∷ nodes) last all is = absurd all.1
items_last (item d (item e rest)) (n ∷ []) last all is = absurd (let w = all.1 in cc w)
items_last (item d (item e rest)) (n ∷ m ∷ nodes) last all is = items_last (item e rest) (m ∷ nodes) last all.1 is

pub last_is : (x : List ℕ) (nodes : List Node) (last : List ℕ) → IsTreeText x nodes → last_name nodes ≡ Some last → last_read x ≡ Some last
last_is x nodes last t is =
    ap (option_and_then (λ (d : Data). option_and_then (λ items. option_and_then (λ (e : Data). text_at (codes "name") e) (last_item items)) (items_at (codes "nodes") d))) t.json.is.reads
    ∙ ap (option_and_then (λ items. option_and_then (λ (e : Data). text_at (codes "name") e) (last_item items))) t.tree.listed ∙ items_last t.tree.items nodes last t.tree.nodes_are is

-- those of all answers
abbrev with_last : Option (List ℕ) → List (List ℕ) → List (List ℕ)
with_last None names = names
with_last (Some last) names = last ∷ names

abbrev pub last_names : List Answer → List (List ℕ)
last_names [] = []
last_names (a ∷ answers) = with_last (option_and_then last_read a.bytes) (last_names answers)

with_has : (o : Option (List ℕ)) (names : List (List ℕ)) (last : List ℕ) → (o ≡ Some last) → HasName (with_last o names) last
with_has None names last is = absurd (none-some last is)
with_has (Some l) names last is = inl (same_Some l last is)

with_more : (o : Option (List ℕ)) (names : List (List ℕ)) (last : List ℕ) → HasName names last → HasName (with_last o names) last
with_more None names last h = h
with_more (Some l) names last h = inr h

pub name_among : (answers : List Answer) (n : Name) (x last : List ℕ) → Contains answers (record { name = n; bytes = Some x }) → last_read x ≡ Some last → HasName (last_names answers) last
name_among [] n x last c is = absurd (none_contained _ c)
name_among (a ∷ answers) n x last c is = elim (contained_or a answers (record { name = n; bytes = Some x }) c) [
  | inl same ↦ with_has (option_and_then last_read a.bytes) (last_names answers) last (ap (λ (z : Answer). option_and_then last_read z.bytes) same ∙ is)
  | inr more ↦ with_more (option_and_then last_read a.bytes) (last_names answers) last (name_among answers n x last more is)
]
