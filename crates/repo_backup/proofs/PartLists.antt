-- The parts of a directory, those left and those made.
use Rattle.std.proofs.Common.{arith, ◌≡◌, ◌≢◌, ◌≤◌, ◌+◌, ◌-◌, ◌++◌, ◌∷◌, [], ℕ, zero, suc, List, length, map, take, drop, None, refl, sym, ap, subst, ◌∙◌, append_assoc, append-nil, length-append, Contains}
use Rattle.std.proofs.Math.Seq.{take-append_seam, drop-append_seam}
use Rattle.std.proofs.lemmas.List.{map-append}
use Rattle.std.proofs.lemmas.List.Concat.{flat_map-append}
use Rattle.std.proofs.lemmas.List.Elements.{Contains-append_left, Contains-push}
use Rattle.repo_name.specs.declared.kinds.BlobKind.TheVariants.{Tree}
use Rattle.repo_pack.specs.PackLayout.{item_of}
use Rattle.repo_tree.specs.Parts.{IsPartText}
use Rattle.repo_tree.specs.PartWriting.{ArePartTexts, HasTexts, first_text, part_text, part_texts, root_text, tree_texts}
use Rattle.repo_tree.specs.TreeText.{IsTreeText}
use Rattle.repo_tree.specs.TreeWriting.{tree_text}
use Rattle.repo_tree.specs.declared.nodes.Node.{Node}
use Rattle.repo_tree.proofs.PartLemmas.{parts_join, parts_are}
use Rattle.repo_backup.specs.Folders.{tree_items}
use Rattle.repo_backup.specs.PartsMade.{parts_by, nodes_in, next_of}
use Rattle.repo_backup.specs.declared.parts.PartsLeft.{PartsLeft}

-- ---- by the version

-- the parts have all nodes, in order
pub parts_whole : (version : ℕ) (nodes : List Node) → nodes_in (parts_by version nodes) ≡ nodes
parts_whole (suc (suc zero)) nodes = parts_join (length nodes) nodes
parts_whole zero nodes = append-nil nodes
parts_whole (suc zero) nodes = append-nil nodes
parts_whole (suc (suc (suc v))) nodes = append-nil nodes

-- their texts are those of the trees
pub texts_by : (version : ℕ) (nodes : List Node) → tree_texts version nodes ≡ part_texts (parts_by version nodes)
texts_by (suc (suc zero)) nodes = refl
texts_by zero nodes = refl
texts_by (suc zero) nodes = refl
texts_by (suc (suc (suc v))) nodes = refl

pub root_by : (version : ℕ) (nodes : List Node) → root_text version nodes ≡ first_text (parts_by version nodes)
root_by (suc (suc zero)) nodes = refl
root_by zero nodes = refl
root_by (suc zero) nodes = refl
root_by (suc (suc (suc v))) nodes = refl

whole_text : (nodes : List Node) → IsPartText (tree_text nodes) nodes None → IsTreeText (tree_text nodes) nodes
whole_text nodes h = record { root = h.root; json = h.json; tree = h.tree }

pub has_by : (version : ℕ) (nodes : List Node) → ArePartTexts (parts_by version nodes) → HasTexts version nodes
has_by (suc (suc zero)) nodes h = h
has_by zero nodes h = whole_text nodes h
has_by (suc zero) nodes h = whole_text nodes h
has_by (suc (suc (suc v))) nodes h = whole_text nodes h

one_some : (part : List Node) (more : List (List Node)) → part ∷ more ≢ []
one_some part more e = absurd (cc)

pub parts_some : (version : ℕ) (nodes : List Node) → parts_by version nodes ≢ []
parts_some (suc (suc zero)) nodes = let k = parts_are nodes in subst (λ (l : List (List Node)). l ≢ []) (sym k.is) (one_some k.first k.more)
parts_some zero nodes = one_some nodes []
parts_some (suc zero) nodes = one_some nodes []
parts_some (suc (suc (suc v))) nodes = one_some nodes []

-- ---- texts

pub first_one : (part : List Node) (made : List (List Node)) → first_text (part ∷ made) ≡ part_text part (next_of made)
first_one part [] = refl
first_one part (second ∷ more) = refl

pub texts_more : (part : List Node) (made : List (List Node)) → IsPartText (part_text part (next_of made)) part (next_of made) → ArePartTexts made → ArePartTexts (part ∷ made)
texts_more part [] h texts = h
texts_more part (second ∷ more) h texts = (h, texts)

-- the texts of those made come first
pub made_first : (left made : List (List Node)) → (more : List (List ℕ)) × (part_texts (left ++ made) ≡ part_texts made ++ more)
made_first [] made = ([], sym (append-nil (part_texts made)))
made_first (part ∷ left) made =
    let k = made_first left made in
    let text = first_text (part ∷ left ++ made) in
    (k.0 ++ text ∷ [], ap (λ l. l ++ text ∷ []) k.1 ∙ append_assoc (part_texts made) k.0 (text ∷ []))

-- one more part, as blobs
pub items_more : (part : List Node) (made : List (List Node)) → tree_items (part_texts (part ∷ made)) ≡ tree_items (part_texts made) ++ item_of Tree (first_text (part ∷ made)) ∷ []
items_more part made = map-append (λ text. item_of Tree text) (part_texts made) (first_text (part ∷ made) ∷ [])

-- it is among those of all
pub item_among : (before : List (List Node)) (part : List Node) (made : List (List Node)) → Contains (tree_items (part_texts (before ++ part ∷ made))) (item_of Tree (first_text (part ∷ made)))
item_among before part made =
    let k = made_first before (part ∷ made) in
    let item = item_of Tree (first_text (part ∷ made)) in
    let all : tree_items (part_texts (before ++ part ∷ made)) ≡ (tree_items (part_texts made) ++ item ∷ []) ++ tree_items k.0 =
    ap tree_items k.1 ∙ map-append (λ text. item_of Tree text) (part_texts (part ∷ made)) k.0 ∙ ap (λ l. l ++ tree_items k.0) (items_more part made) in
    subst (λ l. Contains l item) (sym all) (Contains-append_left (tree_items (part_texts made) ++ item ∷ []) (tree_items k.0) item (Contains-push (tree_items (part_texts made)) item))

-- ---- the last part that is left

joined_both : (xs ys : List (List Node)) → nodes_in (xs ++ ys) ≡ nodes_in xs ++ nodes_in ys
joined_both xs ys = flat_map-append (λ part. part) xs ys

no_push : {A : Type 0} (xs : List A) (x : A) → [] ≡ xs ++ x ∷ [] → ⊥
no_push [] x e = absurd (cc)
no_push (y ∷ xs) x e = absurd (cc)

-- parts of so many nodes, the last of which has this many
pub record Lasts (left : List (List Node)) (sizes : List ℕ) (size : ℕ) : Type 0 where
  pub before : List (List Node)
  pub part : List Node
  pub split : left ≡ before ++ part ∷ []
  pub sizes_are : map length before ≡ sizes
  pub size_is : length part ≡ size

pub last_part : (left : List (List Node)) (sizes : List ℕ) (size : ℕ) → map length left ≡ sizes ++ size ∷ [] → Lasts left sizes size
last_part [] sizes size e = absurd (no_push sizes size e)
last_part (part ∷ []) [] size e = record { before = []; part = part; split = refl; sizes_are = refl; size_is = cc }
last_part (part ∷ []) (s ∷ sizes) size e = absurd (no_push sizes size (tail_same e))
  where
    tail_same : length part ∷ [] ≡ s ∷ sizes ++ size ∷ [] → [] ≡ sizes ++ size ∷ []
    tail_same h = ap (drop 1) h
last_part (part ∷ second ∷ left) [] size e = absurd (no_cons (length second) (map length left) (ap (drop 1) e))
  where
    no_cons : (x : ℕ) (xs : List ℕ) → x ∷ xs ≡ [] → ⊥
    no_cons x xs h = absurd (cc)
last_part (part ∷ second ∷ left) (s ∷ sizes) size e =
    let k = last_part (second ∷ left) sizes size (ap (drop 1) e) in
    let head : length part ≡ s = cc in
    record { before = part ∷ k.before; part = k.part; split = ap (λ l. part ∷ l) k.split; sizes_are = (λ i. head i ∷ k.sizes_are i); size_is = k.size_is }

-- where it stands among all nodes
pub record Ranges (p : PartsLeft) (all : List Node) (before made : List (List Node)) (part : List Node) (size : ℕ) : Type 0 where
  pub count : p.count - size ≡ length (nodes_in before)
  pub within : p.count ≤ length all
  pub range : drop (p.count - size) (take p.count all) ≡ part

pub ranges : (p : PartsLeft) (all : List Node) (left made : List (List Node)) (sizes : List ℕ) (size : ℕ) (l : Lasts left sizes size) → p.count ≡ length (nodes_in left) → all ≡ nodes_in (left ++ made) → Ranges p all l.before made l.part size
ranges p all left made sizes size l counted whole =
    let front : nodes_in left ≡ nodes_in l.before ++ l.part = ap nodes_in l.split ∙ joined_both l.before (l.part ∷ []) ∙ ap (λ ns. nodes_in l.before ++ ns) (append-nil l.part) in
    let many : p.count ≡ length (nodes_in l.before) + size = counted ∙ ap length front ∙ length-append (nodes_in l.before) l.part ∙ ap (λ n. length (nodes_in l.before) + n) l.size_is in
    let less : p.count - size ≡ length (nodes_in l.before) = omega (arith, many) in
    let all_is : all ≡ nodes_in left ++ nodes_in made = whole ∙ joined_both left made in
    let taken : take p.count all ≡ nodes_in left = (λ i. take (counted i) (all_is i)) ∙ take-append_seam (nodes_in left) (nodes_in made) in
    record {
      count = less;
      within = omega (arith, counted, ap length all_is, length-append (nodes_in left) (nodes_in made));
      range = (λ i. drop (less i) ((taken ∙ front) i)) ∙ drop-append_seam (nodes_in l.before) l.part;
    }

pub one_of : (xs : List ℕ) → length xs ≡ 1 → (x : ℕ) × (xs ≡ x ∷ [])
one_of [] e = absurd (omega (arith, e))
one_of (x ∷ []) e = (x, refl)
one_of (x ∷ y ∷ xs) e = absurd (omega (arith, e))
