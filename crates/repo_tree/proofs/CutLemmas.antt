-- The parts of a directory by the lengths of its nodes' texts.
use Rattle.std.specs.Prelude.{cond, nat_le, nat_lt, nat_eq, replicate, slice_index}
use Rattle.std.proofs.Common.{◌≡◌, ◌≢◌, ◌⊎◌, inl, inr, ⊎_elim, ◌<◌, ◌≤◌, ◌+◌, ◌-◌, ◌++◌, ◌∷◌, [], ℕ, zero, suc, Bool, true, false, List, length, map, take, drop, get_or, codes, Some, None, refl, sym, ap, subst, ◌∙◌, append_assoc, append-nil, length-append, arith}
use Rattle.std.proofs.lemmas.Bool.{cases_Bool, le-ltb, leb-true, le-leb, ltb-true, lt-ltb, eqb-true, eq-eqb}
use Rattle.std.proofs.lemmas.List.{length-take-le, length-map, length-drop, drop-drop, drop-map, take_more}
use Rattle.std.proofs.Math.ListN.{drop_of_length-le}
use Rattle.repo_json.proofs.ListingLemmas.{drop_here}
use Rattle.std.proofs.Math.Seq.{drop-length}
use Rattle.serde_json.specs.Data.{Data, string, array, object, Items, no_items, item, Members, member, no_members}
use Rattle.serde_json.specs.Written.{compact_text, items_text, members_text}
use Rattle.repo_name.specs.Naming.{IsName, hex_of}
use Rattle.repo_name.specs.Limits.{blob_limit}
use Rattle.repo_json.proofs.LengthLemmas.{plain_length, name_length}
use Rattle.repo_tree.specs.PartSizes.{node_length, node_lengths, spent, fitting, next_size, last_frame, part_frame}
use Rattle.repo_tree.specs.PartWriting.{Cut, part_data, part_text, any_name, fits_last, fits_part, cut_behind, parts_with, parts_to, parts_of}
use Rattle.repo_tree.specs.TreeWriting.{kind_data, node_items, tree_text}
use Rattle.repo_tree.specs.declared.nodes.Node.{Node}

-- ---- the length of a text

items_spent : (nodes : List Node) → length (items_text true (node_items nodes)) ≡ 1 + spent (node_lengths nodes)
items_spent [] = refl
items_spent (node ∷ nodes) = omega (arith, length-append (compact_text (kind_data node.name node.what)) (items_text true (node_items nodes)), items_spent nodes)

array_spent : (node : Node) (nodes : List Node) → length (compact_text (array (node_items (node ∷ nodes)))) ≡ 1 + spent (node_lengths (node ∷ nodes))
array_spent node nodes = omega (arith, length-append (compact_text (kind_data node.name node.what)) (items_text true (node_items nodes)), items_spent nodes)

members_spent : (k : List ℕ) (d : Data) (ms : Members) → length (members_text false (member k d ms)) ≡ length (compact_text (string k)) + 1 + length (compact_text d) + length (members_text true ms)
members_spent k d ms =
    let inner = length-append (compact_text d) (members_text true ms) in
    let outer = length-append (compact_text (string k)) (58 ∷ (compact_text d ++ members_text true ms)) in
    omega (arith, inner, outer)

more_spent : (k : List ℕ) (d : Data) (ms : Members) → length (members_text true (member k d ms)) ≡ 1 + length (members_text false (member k d ms))
more_spent k d ms = omega arith

pub last_spent : (node : Node) (nodes : List Node) → length (part_text (node ∷ nodes) None) ≡ last_frame + spent (node_lengths (node ∷ nodes))
last_spent node nodes =
    let key = plain_length (codes "nodes") refl in
    let five : length (codes "nodes") ≡ 5 = refl in
    omega (arith, key, five, array_spent node nodes, members_spent (codes "nodes") (array (node_items (node ∷ nodes))) no_members)

zeros_are : (k i : ℕ) → slice_index (replicate k 0) i < 256
zeros_are zero i = omega arith
zeros_are (suc k) zero = omega arith
zeros_are (suc k) (suc i) = zeros_are k i

any_is_name : IsName any_name
any_is_name = (refl, λ i. zeros_are 32 i)

pub part_spent : (node : Node) (nodes : List Node) → length (part_text (node ∷ nodes) (Some any_name)) ≡ part_frame + spent (node_lengths (node ∷ nodes))
part_spent node nodes =
    let key = plain_length (codes "nodes") refl in
    let five : length (codes "nodes") ≡ 5 = refl in
    let first = plain_length (codes "next") refl in
    let four : length (codes "next") ≡ 4 = refl in
    let hex = name_length any_name any_is_name in
    let onward = members_spent (codes "nodes") (array (node_items (node ∷ nodes))) no_members in
    let all = members_spent (codes "next") (string (hex_of any_name)) (member (codes "nodes") (array (node_items (node ∷ nodes))) no_members) in
    let more = more_spent (codes "nodes") (array (node_items (node ∷ nodes))) no_members in
    omega (arith, key, five, first, four, hex, onward, all, more, array_spent node nodes)

-- ---- tests

same_test : (p q : Bool) → (p ≡ true → q ≡ true) → (q ≡ true → p ≡ true) → p ≡ q
same_test true q f g = sym (f refl)
same_test false true f g = g refl
same_test false false f g = refl

-- ---- whether all find room

all_fit : (lens : List ℕ) (room : ℕ) → spent lens ≤ room → fitting room lens ≡ length lens
all_fit [] room h = refl
all_fit (len ∷ lens) room h = rw (lt-ltb len room (omega (arith, h))) (ap suc (all_fit lens (room - (len + 1)) (omega (arith, h))))

fit_spent : (lens : List ℕ) (room : ℕ) → fitting room lens ≡ length lens → spent lens ≤ room
fit_spent [] room h = omega arith
fit_spent (len ∷ lens) room h = elim (cases_Bool (nat_lt len room)) [
  | inl e ↦
      let less : len < room = ltb-true len room e in
      let step : suc (fitting (room - (len + 1)) lens) ≡ suc (length lens) = rw e at h in
      let same : fitting (room - (len + 1)) lens ≡ length lens = omega (arith, step) in
      omega (arith, less, fit_spent lens (room - (len + 1)) same)
  | inr e ↦ let step : 0 ≡ suc (length lens) = rw e at h in absurd (omega (arith, step))
]

fit_few : (lens : List ℕ) (room : ℕ) → fitting room lens ≤ length lens
fit_few [] room = omega arith
fit_few (len ∷ lens) room = elim (cases_Bool (nat_lt len room)) [
  | inl e ↦ rw e (omega (arith, fit_few lens (room - (len + 1))))
  | inr e ↦ rw e (omega arith)
]

-- the test of the definition is that of the lengths
last_test : (node : Node) (nodes : List Node) → fits_last (node ∷ nodes) ≡ nat_eq (fitting (blob_limit - last_frame) (node_lengths (node ∷ nodes))) (length (node_lengths (node ∷ nodes)))
last_test node nodes = same_test _ _
    (λ e. let a = leb-true (length (part_text (node ∷ nodes) None)) blob_limit e in
    let b = all_fit (node_lengths (node ∷ nodes)) (blob_limit - last_frame) (omega (arith, a, last_spent node nodes)) in
    eq-eqb _ _ b)
    (λ e. let a = eqb-true _ _ e in
    let b = fit_spent (node_lengths (node ∷ nodes)) (blob_limit - last_frame) a in
    le-leb (length (part_text (node ∷ nodes) None)) blob_limit (omega (arith, b, last_spent node nodes)))

-- ---- where the next part is cut

spent_push : (nodes : List Node) (node : Node) → spent (node_lengths (nodes ++ node ∷ [])) ≡ spent (node_lengths nodes) + (node_length node + 1)
spent_push [] node = omega arith
spent_push (n ∷ nodes) node = omega (arith, spent_push nodes node)

pub record CutIs (c : Cut) (part nodes : List Node) (k : ℕ) : Type 0 where
  pub part_is : c.part ≡ part ++ take k nodes
  pub left_is : c.left ≡ drop k nodes

part_test : (first : Node) (part : List Node) (node : Node) (room : ℕ) → room ≡ blob_limit - part_frame - spent (node_lengths (first ∷ part)) → fits_part (first ∷ part ++ node ∷ []) ≡ nat_lt (node_length node) room
part_test first part node room e = same_test _ _
    (λ h. let a = leb-true (length (part_text (first ∷ part ++ node ∷ []) (Some any_name))) blob_limit h in
    lt-ltb (node_length node) room (omega (arith, e, a, part_spent first (part ++ node ∷ []), spent_push (first ∷ part) node)))
    (λ h. let a = ltb-true (node_length node) room h in
    le-leb (length (part_text (first ∷ part ++ node ∷ []) (Some any_name))) blob_limit (omega (arith, e, a, part_spent first (part ++ node ∷ []), spent_push (first ∷ part) node)))

cut_is : (first : Node) (part nodes : List Node) (room : ℕ) → room ≡ blob_limit - part_frame - spent (node_lengths (first ∷ part)) → CutIs (cut_behind (first ∷ part) nodes) (first ∷ part) nodes (fitting room (node_lengths nodes))
cut_is first part [] room e = record { part_is = sym (append-nil (first ∷ part)); left_is = refl }
cut_is first part (node ∷ nodes) room e =
    let test = part_test first part node room e in
    let more = cut_is first (part ++ node ∷ []) nodes (room - (node_length node + 1)) (omega (arith, e, spent_push (first ∷ part) node)) in
    elim (cases_Bool (nat_lt (node_length node) room)) [
      | inl h ↦ rw (test ∙ h, h) (record { part_is = more.part_is ∙ append_assoc (first ∷ part) (node ∷ []) (take (fitting (room - (node_length node + 1)) (node_lengths nodes)) nodes); left_is = more.left_is })
      | inr h ↦ rw (test ∙ h, h) (record { part_is = sym (append-nil (first ∷ part)); left_is = refl })
    ]

-- ---- the sizes of all parts

-- those of the parts of what is left, if something is
abbrev pub rest_sizes : ℕ → List Node → List ℕ
rest_sizes k [] = []
rest_sizes k (node ∷ nodes) = map length (parts_to k (node ∷ nodes))

with_sizes : (k : ℕ) (part left : List Node) → map length (parts_with (parts_to k) part left) ≡ length part ∷ rest_sizes k left
with_sizes k part [] = refl
with_sizes k part (node ∷ nodes) = refl

pub one_size : (k : ℕ) (node : Node) (nodes : List Node) → map length (parts_to (suc k) (node ∷ nodes)) ≡ next_size (node_length node) (node_lengths nodes) ∷ rest_sizes k (drop (next_size (node_length node) (node_lengths nodes)) (node ∷ nodes))
one_size k node nodes =
    let test = last_test node nodes in
    let all : length (node_lengths nodes) ≡ length nodes = length-map nodes node_length in
    let room = blob_limit - part_frame - (node_length node + 1) in
    let cut = cut_is node [] nodes room (omega arith) in
    let few = fit_few (node_lengths nodes) room in
    elim (cases_Bool (nat_eq (fitting (blob_limit - last_frame) (node_lengths (node ∷ nodes))) (length (node_lengths (node ∷ nodes))))) [
      | inl h ↦ rw (test ∙ h, h, all, drop-length nodes) refl
      | inr h ↦
          let long : length (take (fitting room (node_lengths nodes)) nodes) ≡ fitting room (node_lengths nodes) = length-take-le (fitting room (node_lengths nodes)) nodes (omega (arith, few, all)) in
          rw (test ∙ h, h, with_sizes k (cut_behind (node ∷ []) nodes).part (cut_behind (node ∷ []) nodes).left, cut.part_is, cut.left_is, long) refl
    ]

-- how many more parts there may be doesn't matter where there are as many as nodes
size_some : (len : ℕ) (lens : List ℕ) → 1 ≤ next_size len lens
size_some len lens = elim (cases_Bool (nat_eq (fitting (blob_limit - last_frame) (len ∷ lens)) (length (len ∷ lens)))) [ inl e ↦ rw e (omega arith) | inr e ↦ rw e (omega arith) ]

pub fuel_same : (k m : ℕ) (nodes : List Node) → length nodes ≤ k → length nodes ≤ m → rest_sizes k nodes ≡ rest_sizes m nodes
fuel_same k m [] h g = refl
fuel_same zero m (node ∷ nodes) h g = absurd (omega (arith, h))
fuel_same (suc k) zero (node ∷ nodes) h g = absurd (omega (arith, g))
fuel_same (suc k) (suc m) (node ∷ nodes) h g =
    let size = next_size (node_length node) (node_lengths nodes) in
    let some : 1 ≤ size = size_some (node_length node) (node_lengths nodes) in
    let short = length-drop size (node ∷ nodes) in
    one_size k node nodes ∙ ap (λ ss. size ∷ ss) (fuel_same k m (drop size (node ∷ nodes)) (omega (arith, some, short, h)) (omega (arith, some, short, g))) ∙ sym (one_size m node nodes)

-- one part more, as the sizes are found: behind those found come that of the next part and those of what is left behind it
pub next_found : (nodes : List Node) (at : ℕ) (node : Node) (left : List Node) (sizes : List ℕ) → drop at nodes ≡ node ∷ left → map length (parts_of nodes) ≡ sizes ++ rest_sizes (length nodes) (drop at nodes)
    → map length (parts_of nodes) ≡ (sizes ++ next_size (node_length node) (node_lengths left) ∷ []) ++ rest_sizes (length nodes) (drop (at + next_size (node_length node) (node_lengths left)) nodes)
next_found nodes at node left sizes here found =
    let size = next_size (node_length node) (node_lengths left) in
    let some : 1 ≤ size = size_some (node_length node) (node_lengths left) in
    let long = length-drop at nodes in
    let few : length (node ∷ left) ≤ length nodes = subst (λ (ns : List Node). length ns ≤ length nodes) here (omega (arith, long)) in
    let short = length-drop size (node ∷ left) in
    let first : rest_sizes (length nodes) (node ∷ left) ≡ rest_sizes (suc (length left)) (node ∷ left) = fuel_same (length nodes) (suc (length left)) (node ∷ left) few (omega arith) in
    let rest : rest_sizes (length left) (drop size (node ∷ left)) ≡ rest_sizes (length nodes) (drop size (node ∷ left)) = fuel_same (length left) (length nodes) (drop size (node ∷ left)) (omega (arith, some, short)) (omega (arith, some, short, few)) in
    let behind : drop size (node ∷ left) ≡ drop (at + size) nodes = ap (drop size) (sym here) ∙ drop-drop size at nodes in
    found ∙ ap (λ ss. sizes ++ ss) (ap (rest_sizes (length nodes)) here ∙ first ∙ one_size (length left) node left ∙ ap (λ ss. size ∷ ss) (rest ∙ ap (rest_sizes (length nodes)) behind)) ∙ sym (append_assoc sizes (size ∷ []) (rest_sizes (length nodes) (drop (at + size) nodes)))

-- ---- loops

pub lens_grow : (nodes : List Node) (i : ℕ) (n : Node) → i < length nodes → n ≡ get_or nodes i n → node_lengths (take i nodes) ++ node_length n ∷ [] ≡ node_lengths (take (i + 1) nodes)
lens_grow nodes i n lt at = sym (ap node_lengths (take_more nodes i n lt ∙ ap (λ m. take i nodes ++ m ∷ []) (sym at)) ∙ lens_push (take i nodes) n)
  where
    lens_push : (ns : List Node) (m : Node) → node_lengths (ns ++ m ∷ []) ≡ node_lengths ns ++ node_length m ∷ []
    lens_push [] m = refl
    lens_push (k ∷ ns) m = ap (λ ls. node_length k ∷ ls) (lens_push ns m)

pub fit_stop : (lens : List ℕ) (i len left room : ℕ) → i < length lens → len ≡ get_or lens i len → left ≤ len → fitting room lens ≡ i + fitting left (drop i lens) → i ≡ fitting room lens
fit_stop lens i len left room lt at full same =
    let here : drop i lens ≡ len ∷ drop (i + 1) lens = drop_here lens i len lt at in
    let none : fitting left (len ∷ drop (i + 1) lens) ≡ 0 = rw (le-ltb len left full) refl in
    omega (arith, same, ap (fitting left) here, none)

pub fit_next : (lens : List ℕ) (i len left room : ℕ) → i < length lens → len ≡ get_or lens i len → len < left → fitting room lens ≡ i + fitting left (drop i lens) → fitting room lens ≡ i + 1 + fitting (left - (len + 1)) (drop (i + 1) lens)
fit_next lens i len left room lt at some same =
    let here : drop i lens ≡ len ∷ drop (i + 1) lens = drop_here lens i len lt at in
    let one : fitting left (len ∷ drop (i + 1) lens) ≡ suc (fitting (left - (len + 1)) (drop (i + 1) lens)) = rw (lt-ltb len left some) refl in
    omega (arith, same, ap (fitting left) here, one)

pub fit_end : (lens : List ℕ) (i left room : ℕ) → length lens ≤ i → i ≤ length lens → fitting room lens ≡ i + fitting left (drop i lens) → length lens ≡ fitting room lens
fit_end lens i left room h g same =
    let none : drop i lens ≡ [] = drop_of_length-le lens h in
    omega (arith, same, ap (fitting left) none, h, g)

behind_some : (ns : List Node) → 1 ≤ length ns → (n : Node) × (left : List Node) × (ns ≡ n ∷ left)
behind_some [] h = absurd (omega (arith, h))
behind_some (n ∷ left) h = (n, left, refl)

pub size_more : (nodes : List Node) (lens : List ℕ) (at size : ℕ) (sizes new : List ℕ) → lens ≡ node_lengths nodes → at < length lens → ((len : ℕ) (rest : List ℕ) → drop at lens ≡ len ∷ rest → size ≡ next_size len rest)
    → new ≡ sizes ++ size ∷ [] → map length (parts_of nodes) ≡ sizes ++ rest_sizes (length nodes) (drop at nodes) → map length (parts_of nodes) ≡ new ++ rest_sizes (length nodes) (drop (at + size) nodes)
size_more nodes lens at size sizes new of_nodes lt next pushed found =
    let many : length lens ≡ length nodes = ap length of_nodes ∙ length-map nodes node_length in
    let long = length-drop at nodes in
    let b = behind_some (drop at nodes) (omega (arith, long, lt, many)) in
    let here : drop at lens ≡ node_length b.0 ∷ node_lengths b.1 = ap (drop at) of_nodes ∙ drop-map node_length at nodes ∙ ap node_lengths b.2 in
    let is : size ≡ next_size (node_length b.0) (node_lengths b.1) = next (node_length b.0) (node_lengths b.1) here in
    let all = next_found nodes at b.0 b.1 sizes b.2 found in
    subst (λ (s : List ℕ). map length (parts_of nodes) ≡ s ++ rest_sizes (length nodes) (drop (at + size) nodes)) (sym pushed)
    (subst (λ (s : ℕ). map length (parts_of nodes) ≡ (sizes ++ s ∷ []) ++ rest_sizes (length nodes) (drop (at + s) nodes)) (sym is) all)
