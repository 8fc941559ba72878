-- What a walk's turns make of what is known.
use Rattle.std.proofs.Common.{arith, get_or, IsTrue, IfSome, slice_set, ◌↔◌, ◌≡◌, ◌≢◌, ◌≤◌, ◌<◌, ◌+◌, ◌-◌, ◌++◌, ◌∷◌, [], ℕ, zero, suc, Bool, true, false, Option, List, length, take, drop, slice_get, Some, None, refl, sym, ap, subst, inl, inr, ◌⊎◌, ⊎_elim, append_assoc, length-append, ◌∙◌, Contains}
use Rattle.std.proofs.lemmas.List.{append-nil, take_all}
use Rattle.std.proofs.lemmas.Option.{same_Some, none-some, slice_get-get_or}
use Rattle.std.specs.Ordering.{nat_cmp}
use Rattle.std.specs.declared.cmp.Ordering.{Ordering}
use Rattle.std.specs.Cmp.Lexicographic.{slice_cmp}
use Rattle.repo_tree.proofs.OrderLemmas.{last_name_is}
use Rattle.repo_name.specs.Naming as naming
use Rattle.repo_name.specs.declared.kinds.BlobKind.{BlobKind}
use Rattle.repo_name.specs.declared.names.Name.{Name}
use Rattle.repo_index.specs.declared.facts.Fact.{Fact}
use Rattle.repo_index.specs.Lookups.{IsLeast}
use Rattle.repo_tree.specs.declared.entries.Entry.{Entry}
use Rattle.repo_tree.specs.declared.nodes.Node.{Node}
use Rattle.repo_tree.specs.declared.nodes.NodeKind.{NodeKind}
use Rattle.repo_tree.specs.Parts.{Blobs, IsPart}
use Rattle.repo_tree.specs.TreeText.{AreInOrder, Follows}
use Rattle.repo_tree.proofs.OnwardLemmas.{order_join}
use Rattle.repo_tree.specs.Spelling.{Joined, NodeSpells, NodesSpell, Spells, file_entry, greatest_depth}
use Rattle.repo_session.specs.declared.emissions.Emission.{Emission}
use Rattle.repo_session.specs.declared.outcomes.End.{End}
use Rattle.repo_session.specs.Rebuilding.{rebuilt, Follow}
use Rattle.repo_session.specs.Traces.{Each}
use Rattle.repo_restore.specs.declared.nodes.Begun.{Begun}
use Rattle.repo_restore.specs.declared.nodes.Level.{Level}
use Rattle.repo_restore.specs.Nodes.{WaitsFor, BlobFollows}
use Rattle.repo_session.specs.Trees.{Under}
use Rattle.repo_restore.specs.Restoring.{counted, Sums}
use Rattle.repo_restore.specs.Walking.{WaitsIn, WaitsBehind, WaitsAs, with_begun, IsNextPath, MayFollow, FileWaits, TreeWaits, PartWaits, WaitsByKind, WalkWaits}
use Rattle.repo_restore.specs.Positions.{LeadsThrough, ComesBehind, HaveNodes, LaterHaveNodes, nodes_in, ArePiecesOf}
use Rattle.repo_restore.specs.Walks.{PartIs, IsOpenLevel, DirectoryIsBegun, IsFile, IsWriting, LeadsOn, AtLevel, AtOpen, WalkGives, is_open, WalkGave}
use Rattle.repo_session.proofs.Descending.{under_more}
use Rattle.repo_restore.proofs.Rebuilds.{rebuilt_length, writing_more, more_last, writing_done, pieces_push}
use Rattle.repo_restore.proofs.Flows.{follow_both, piece_follows}
use Rattle.repo_restore.proofs.Summing.{one_more, sums_drop, dropped_place}
use Rattle.repo_name.proofs.Containing.{contains_got}
use Rattle.repo_restore.proofs.Trees.{LastOpen, part_lists, part_ordered, no_next, under_onward, leads_push, leads_pop, open_shallow, below_shallow, open_more}
use Rattle.repo_tree.proofs.SpellingLemmas.{joined_push}

-- what is counted goes on
pub counted_more : (entries more now : ℕ) (old out : List Emission) → entries ≡ counted (length (rebuilt old)) → more ≡ counted (length (rebuilt out)) → now ≡ counted (entries + more) → now ≡ counted (length (rebuilt (old ++ out)))
counted_more entries more now old out p q r = omega (arith, p, q, r, rebuilt_length old out)

least_of : (facts : List Fact) (kind : BlobKind) (name : Name) (fact : Fact) → WaitsFor facts kind name fact → IsLeast facts fact.kind fact.name fact.place
least_of facts kind name fact h = subst (λ k. IsLeast facts k fact.name fact.place) (sym h.0) (subst (λ n. IsLeast facts kind n fact.place) (sym h.1) h.2)

-- the innermost level waits: it stays open, with so many nodes begun
module _ (facts : List Fact) (version : ℕ) (B : Blobs) (root first : Name) (levels : List Level) (level : Level) (begun : ℕ) (before : List Entry) (old out : List Emission) (fact : Fact) where
  waits_by : (what : NodeKind) (w : WaitsIn facts version B root first level begun before old out fact) → LeadsOn version B root root [] [] levels first level.path before → w.node.what ≡ what
      → WaitsAs facts what (level.path ++ w.node.name ∷ []) fact (before ++ w.inside) (old ++ out)
      → IsLeast facts fact.kind fact.name fact.place × WaitsByKind fact.kind facts version B root (levels ++ with_begun level begun ∷ []) 0 false fact (old ++ out)
  waits_by (NodeKind.Dir subtree) w leads is h =
      let now : Level = with_begun level begun in
      let path : List (List ℕ) = level.path ++ w.node.name ∷ [] in
      let dir : w.node.what ≡ NodeKind.Dir fact.name = is ∙ ap (λ n. NodeKind.Dir n) (sym h.0.1) in
      let last : LastOpen version B root root [] [] levels now fact.name path (rebuilt (old ++ out)) = record {
        first = first;
        before = before;
        inside = w.inside;
        node = w.node;
        leads = leads;
        begun = record { at = w.at; counts = w.counts; node_is = w.node_is; opened = w.opened };
        dir = dir;
        below = refl;
        whole = h.1;
      } in
      let among : Contains level.nodes.items (record { name = w.node.name; what = NodeKind.Dir fact.name }) = (let P : NodeKind → Type 0 = λ what. Contains level.nodes.items (record { name = w.node.name; what = what }) in subst P dir (contains_got level.nodes.items w.at w.node w.node_is)) in
      let waits : TreeWaits version B root (levels ++ now ∷ []) fact (old ++ out) = (
        path,
        leads_push version B root root [] [] levels now fact.name path (rebuilt (old ++ out)) last,
        under_more version B root level.path level.tree level.nodes.items w.node.name fact.name w.opened.under (part_lists version B level.tree level.nodes.items level.next w.opened.read) among,
        below_shallow level.path w.node.name (open_shallow version B root first level.tree level.path level.nodes.items level.next w.at w.at w.inside w.node w.opened w.node_is),
      ) in
      (least_of facts BlobKind.Tree subtree fact h.0, subst (λ k. WaitsByKind k facts version B root (levels ++ now ∷ []) 0 false fact (old ++ out)) (sym h.0.0) waits)
  waits_by (NodeKind.File size content) w leads is h =
      let now : Level = with_begun level begun in
      let waits : FileWaits facts version B root (levels ++ now ∷ []) 0 fact (old ++ out) = record {
        above = levels;
        level = now;
        before = before;
        inside = w.inside;
        node = w.node;
        size = size;
        content = content;
        bytes = [];
        levels_are = refl;
        first = first;
        leads = leads;
        begun = record { at = w.at; counts = w.counts; node_is = w.node_is; opened = w.opened };
        file = is;
        asked = h.0;
        part = record { joined = refl; left = size; sums = h.2; even = omega arith };
        writing = h.3.0;
        pieces = h.3.1;
      } in
      (least_of facts BlobKind.Content fact.name fact h.1, subst (λ k. WaitsByKind k facts version B root (levels ++ now ∷ []) 0 false fact (old ++ out)) (sym h.1.0) waits)

  pub kept_open : (entries : ℕ) → WaitsIn facts version B root first level begun before old out fact → LeadsOn version B root root [] [] levels first level.path before → entries ≡ counted (length (rebuilt (old ++ out)))
      → WalkWaits facts version B root (levels ++ with_begun level begun ∷ []) 0 false entries fact (old ++ out)
  kept_open entries w leads count =
      let r = waits_by w.node.what w leads refl w.waits in
      record { least = r.0; count = count; waits = r.1; order = w.given.order }

-- so where the next part waits
pub part_open : (facts : List Fact) (version : ℕ) (B : Blobs) (root first : Name) (levels : List Level) (level : Level) (begun : ℕ) (before : List Entry) (old out : List Emission) (fact : Fact) (entries : ℕ)
    → WaitsBehind facts version B root first level before old out fact → LeadsOn version B root root [] [] levels first level.path before → entries ≡ counted (length (rebuilt (old ++ out)))
    → WalkWaits facts version B root (levels ++ with_begun level begun ∷ []) 0 true entries fact (old ++ out)
part_open facts version B root first levels level begun before old out fact entries w leads count =
    let now : Level = with_begun level begun in
    let waits : PartWaits version B root (levels ++ now ∷ []) fact (old ++ out) = record {
      above = levels;
      level = now;
      first = first;
      before = before;
      inside = w.stands.inside;
      levels_are = refl;
      leads = leads;
      opened = w.stands.opened;
      goes_on = w.goes_on;
      whole = w.stands.whole;
    } in
    record {
      least = least_of facts BlobKind.Tree fact.name fact w.waits;
      count = count;
      waits = subst (λ k. WaitsByKind k facts version B root (levels ++ now ∷ []) 0 true fact (old ++ out)) (sym w.waits.0) waits;
      order = subst (λ k. Follow false (old ++ out) (is_open k)) (sym w.waits.0) w.stands.given.order;
    }

-- some levels have a last one
pub last_level : (levels : List Level) → (levels ≡ []) ⊎ ((above : List Level) × (level : Level) × (levels ≡ above ++ level ∷ []))
last_level [] = inl refl
last_level (l ∷ levels) = from (last_level levels)
  where
    from : (levels ≡ []) ⊎ ((above : List Level) × (level : Level) × (levels ≡ above ++ level ∷ [])) → (l ∷ levels ≡ []) ⊎ ((above : List Level) × (level : Level) × (l ∷ levels ≡ above ++ level ∷ []))
    from (inl none) = inr ([], l, ap (λ ls. l ∷ ls) none)
    from (inr some) = inr (l ∷ some.0, some.1, ap (λ ls. l ∷ ls) some.2)

-- the last of some levels
pub got_last : (above : List Level) (level : Level) → slice_get (above ++ level ∷ []) (length above) ≡ Some level
got_last [] level = refl
got_last (l ∷ above) level = got_last above level

pub last_got : (levels above : List Level) (level : Level) → levels ≡ above ++ level ∷ [] → slice_get levels (length levels - 1) ≡ Some level
last_got levels above level p =
    let n : length (above ++ level ∷ []) - 1 ≡ length above = omega (arith, length-append above (level ∷ [])) in
    ap (λ ls. slice_get ls (length ls - 1)) p ∙ ap (λ i. slice_get (above ++ level ∷ []) i) n ∙ got_last above level

pub take_front : (above : List Level) (level : Level) → take (length above) (above ++ level ∷ []) ≡ above
take_front [] level = refl
take_front (l ∷ above) level = ap (λ ls. l ∷ ls) (take_front above level)

-- where the tree stands that is waited for
pub path_is : (version : ℕ) (B : Blobs) (root : Name) (levels : List Level) (tree : Name) (path at : List (List ℕ)) (all : List Entry) → LeadsOn version B root root [] [] levels tree path all → IsNextPath levels at → at ≡ path
path_is version B root levels tree path at all h next = by (last_level levels)
  where
    by : (levels ≡ []) ⊎ ((above : List Level) × (level : Level) × (levels ≡ above ++ level ∷ [])) → at ≡ path
    by (inl none) = let l = subst (λ ls. LeadsOn version B root root [] [] ls tree path all) none h in next.0 none ∙ sym l.1
    by (inr some) =
        let r = leads_pop version B root root [] [] some.0 some.1 tree path all (subst (λ ls. LeadsOn version B root root [] [] ls tree path all) some.2 h) in
        next.1 some.0 some.1 r.node some.2 (r.begun.at, r.begun.counts, r.begun.node_is) ∙ sym r.below

pub last_same : (levels items above : List Level) (x level : Level) → items ≡ levels → Some x ≡ slice_get items (length items - 1) → levels ≡ above ++ level ∷ [] → x ≡ level
last_same levels items above x level p q r = same_Some x level (q ∙ last_got items above level (p ∙ r))

-- a level is put behind some
opened_behind : (version : ℕ) (B : Blobs) (root first : Name) (levels : List Level) (level : Level) (before inside : List Entry) (emitted : List Emission) → LeadsOn version B root root [] [] levels first level.path before
    → IsOpenLevel version B root first level.tree level.path level.nodes.items level.next 0 inside → rebuilt emitted ≡ before ++ inside → AtOpen version B root (levels ++ level ∷ []) (length (levels ++ level ∷ [])) 0 (rebuilt (emitted ++ []))
opened_behind version B root first levels level before inside emitted leads opened whole =
    let many : suc (length levels) ≡ length (levels ++ level ∷ []) = omega (arith, length-append levels (level ∷ [])) in
    let at : AtLevel version B root (levels ++ level ∷ []) (length levels) 0 level (rebuilt (emitted ++ [])) = record {
      first = first;
      before = before;
      inside = inside;
      level_is = got_last levels level;
      leads = subst (λ ls. LeadsOn version B root root [] [] ls first level.path before) (sym (take_front levels level)) leads;
      opened = opened;
      whole = ap (λ (e : List Emission). rebuilt e) (append-nil emitted) ∙ whole;
    } in
    subst (λ n. AtOpen version B root (levels ++ level ∷ []) n 0 (rebuilt (emitted ++ []))) many (level, at)

-- a directory in its first tree
comes_first : (version : ℕ) (B : Blobs) (t : Name) → ComesBehind version B t [] t
comes_first (suc (suc zero)) B t = refl
comes_first _ B t = (refl, refl)

none_before : (nodes : List Node) (parts : List (List Node)) → parts ≡ [] → parts ≢ [] → nodes ≢ []
none_before nodes parts none some = absurd (some none)

-- a tree's nodes are entered
pub entered : (version : ℕ) (B : Blobs) (root tree : Name) (levels : List Level) (level : Level) (path : List (List ℕ)) (old : List Emission) → LeadsOn version B root root [] [] levels tree path (rebuilt old) → Under version B root path tree → length path ≤ greatest_depth
    → PartIs version B tree level.nodes.items level.next → level.tree ≡ tree → level.path ≡ path → (length path < greatest_depth) ⊎ (level.nodes.items ≡ [])
    → AtOpen version B root (levels ++ level ∷ []) (length (levels ++ level ∷ [])) 0 (rebuilt (old ++ []))
entered version B root tree levels level path old leads under within read t p shallow =
    opened_behind version B root tree levels level (rebuilt old) [] old (subst (λ q. LeadsOn version B root root [] [] levels tree q (rebuilt old)) (sym p) leads)
    (record {
      parts = [];
      behind = subst (λ n. ComesBehind version B tree [] n) (sym t) (comes_first version B tree);
      later = tt;
      full = none_before level.nodes.items [] refl;
      under = subst (λ n. Under version B root level.path n) (sym t) (subst (λ q. Under version B root q tree) (sym p) under);
      within = subst (λ (q : List (List ℕ)). length q ≤ greatest_depth) (sym p) within;
      read = subst (λ n. PartIs version B n level.nodes.items level.next) (sym t) read;
      ordered = part_ordered version B tree level.nodes.items level.next read;
      shallow = subst (λ q. (length q < greatest_depth) ⊎ (level.nodes.items ≡ [])) (sym p) shallow;
      spelled = refl;
    })
    (sym (append-nil (rebuilt old)))

-- ---- the next part

through_push : (B : Blobs) (first : Name) (parts : List (List Node)) (tree next : Name) (nodes : List Node) → LeadsThrough B first parts tree → IsPart B tree nodes (Some next) → LeadsThrough B first (parts ++ nodes ∷ []) next
through_push B first [] tree next nodes h p = (next, subst (λ n. IsPart B n nodes (Some next)) h p, refl)
through_push B first (own ∷ parts) tree next nodes h p = (h.0, h.1, through_push B h.0 parts tree next nodes h.2 p)

pub behind_push : (version : ℕ) (B : Blobs) (first : Name) (parts : List (List Node)) (tree next : Name) (nodes : List Node) → ComesBehind version B first parts tree → PartIs version B tree nodes (Some next) → ComesBehind version B first (parts ++ nodes ∷ []) next
behind_push (suc (suc zero)) B first parts tree next nodes h p = through_push B first parts tree next nodes h p
behind_push _ B first parts tree next nodes h p = absurd (no_next next p.1)

have_push : (parts : List (List Node)) (nodes : List Node) → HaveNodes parts → nodes ≢ [] → HaveNodes (parts ++ nodes ∷ [])
have_push [] nodes h some = (some, tt)
have_push (own ∷ parts) nodes h some = (h.0, have_push parts nodes h.1 some)

pub later_push : (parts : List (List Node)) (nodes : List Node) → LaterHaveNodes parts → (parts ≢ [] → nodes ≢ []) → LaterHaveNodes (parts ++ nodes ∷ [])
later_push [] nodes h full = tt
later_push (first ∷ parts) nodes h full = have_push parts nodes h (full (λ e. absurd (cc)))

pub nodes_push_part : (parts : List (List Node)) (nodes : List Node) → nodes_in (parts ++ nodes ∷ []) ≡ nodes_in parts ++ nodes
nodes_push_part [] nodes = append-nil nodes
nodes_push_part (own ∷ parts) nodes = ap (λ ns. own ++ ns) (nodes_push_part parts nodes) ∙ sym (append_assoc own (nodes_in parts) nodes)

-- names that ascend, and behind them one that follows
joined_order : (nodes : List Node) (first : Node) (more : List Node) → AreInOrder nodes → AreInOrder (first ∷ more) → Follows nodes first.name → AreInOrder (nodes ++ first ∷ more)
joined_order [] first more h g last = g
joined_order (n ∷ []) first more h g last = (h.0, last, g)
joined_order (n ∷ k ∷ nodes) first more h g last = (h.0, h.1, joined_order (k ∷ nodes) first more h.2 g last)

pub order_right : (ns ms : List Node) → AreInOrder (ns ++ ms) → AreInOrder ms
order_right [] ms h = h
order_right (n ∷ ns) ms h = order_right ns ms h.2

-- a part may come behind: it has a node, and names ascend across
may_order : (nodes behind : List Node) → AreInOrder nodes → AreInOrder behind → MayFollow nodes behind → AreInOrder (nodes ++ behind)
may_order nodes [] h g may = absurd may
may_order nodes (first ∷ more) h g may = joined_order nodes first more h g may

some_behind : (nodes behind : List Node) → MayFollow nodes behind → behind ≢ []
some_behind nodes [] may = absurd may
some_behind nodes (first ∷ more) may = λ e. absurd (cc)

-- across all parts, where it does across the last two
pub all_order : (parts : List (List Node)) (nodes behind : List Node) → (parts ≢ [] → nodes ≢ []) → AreInOrder (nodes_in parts ++ nodes) → AreInOrder (nodes ++ behind) → AreInOrder (nodes_in parts ++ (nodes ++ behind))
all_order [] nodes behind full h g = g
all_order (first ∷ parts) nodes behind full h g = order_join (nodes_in (first ∷ parts)) nodes behind (full (λ e. absurd (cc))) h g

no_nodes : (ns ms : List Node) → ns ++ ms ≡ [] → ms ≡ []
no_nodes [] ms h = h
no_nodes (n ∷ ns) ms h = absurd (cc)

-- the next part's nodes are entered, in the place of those of the one before
pub entered_part : (version : ℕ) (B : Blobs) (root : Name) (levels : List Level) (level : Level) (fact : Fact) (old : List Emission) (h : PartWaits version B root levels fact old) → PartIs version B fact.name level.nodes.items level.next
    → level.tree ≡ fact.name → level.path ≡ h.level.path → (length level.path < greatest_depth) ⊎ (level.nodes.items ≡ []) → MayFollow h.level.nodes.items level.nodes.items
    → AtOpen version B root (h.above ++ level ∷ []) (length (h.above ++ level ∷ [])) 0 (rebuilt (old ++ []))
entered_part version B root levels level fact old h read t p shallow may =
    let ordered = part_ordered version B fact.name level.nodes.items level.next read in
    let own = h.level.nodes.items in
    let o = h.opened in
    let part = subst (λ n. PartIs version B h.level.tree own n) h.goes_on o.read in
    let all : nodes_in (o.parts ++ own ∷ []) ≡ nodes_in o.parts ++ own = nodes_push_part o.parts own in
    let some = some_behind own level.nodes.items may in
    let order : AreInOrder (nodes_in (o.parts ++ own ∷ []) ++ level.nodes.items) = subst (λ ns. AreInOrder (ns ++ level.nodes.items)) (sym all)
    (subst AreInOrder (sym (append_assoc (nodes_in o.parts) own level.nodes.items)) (all_order o.parts own level.nodes.items o.full o.ordered (may_order own level.nodes.items (order_right (nodes_in o.parts) own o.ordered) ordered may))) in
    opened_behind version B root h.first h.above level h.before h.inside old (subst (λ q. LeadsOn version B root root [] [] h.above h.first q h.before) (sym p) h.leads)
    (record {
      parts = o.parts ++ own ∷ [];
      behind = subst (λ n. ComesBehind version B h.first (o.parts ++ own ∷ []) n) (sym t) (behind_push version B h.first o.parts h.level.tree fact.name own o.behind part);
      later = later_push o.parts own o.later o.full;
      full = λ some_parts. some;
      under = subst (λ n. Under version B root level.path n) (sym t) (subst (λ q. Under version B root q fact.name) (sym p) (under_onward version B root h.level.path h.level.tree own fact.name o.under part));
      within = subst (λ (q : List (List ℕ)). length q ≤ greatest_depth) (sym p) o.within;
      read = subst (λ n. PartIs version B n level.nodes.items level.next) (sym t) read;
      ordered = order;
      shallow = ⊎_elim (λ few. inl few) (λ none. absurd (some none)) shallow;
      spelled = subst (λ q. NodesSpell B (Spells version B) q (nodes_in (o.parts ++ own ∷ []) ++ []) h.inside) (sym p)
          (subst (λ ns. NodesSpell B (Spells version B) h.level.path ns h.inside) (ap (λ ns. nodes_in o.parts ++ ns) (take_all (length own) own (omega arith)) ∙ sym all ∙ sym (append-nil (nodes_in (o.parts ++ own ∷ [])))) o.spelled);
    })
    h.whole

-- what is left of a list past its end
drop_past : (xs : List Name) (i : ℕ) → length xs ≤ i → drop i xs ≡ []
drop_past [] zero w = refl
drop_past [] (suc i) w = refl
drop_past (x ∷ xs) zero w = absurd (omega (arith, w))
drop_past (x ∷ xs) (suc i) w = drop_past xs i (omega (arith, w))

none_past : (xs : List Name) (i : ℕ) → slice_get xs i ≡ None → length xs ≤ i
none_past [] i p = omega arith
none_past (x ∷ xs) zero p = absurd (cc)
none_past (x ∷ xs) (suc i) p = let h = none_past xs i p in omega (arith, h)

-- one more blob of a file
pub part_more : (facts : List Fact) (B : Blobs) (size sent : ℕ) (content : List Name) (bytes more : List ℕ) (fact : Fact) → IsFile facts B size content sent bytes → slice_get content sent ≡ Some fact.name
    → IsLeast facts BlobKind.Content fact.name fact.place → B BlobKind.Content more → naming.name more ≡ fact.name → length more ≡ fact.place.length → IsFile facts B size content (sent + 1) (bytes ++ more)
part_more facts B size sent content bytes more fact h p least among named long =
    let r = sums_drop facts content h.left sent fact.name fact.place p least h.sums in
    record {
      joined = subst (λ ns. Joined B ns (bytes ++ more)) (sym (one_more content sent fact.name p)) (joined_push B (take sent content) bytes fact.name more h.joined among named);
      left = r.0;
      sums = r.1;
      even = omega (arith, h.even, r.2, long, length-append bytes more);
    }

-- all blobs of a file
part_all : (facts : List Fact) (B : Blobs) (size sent : ℕ) (content : List Name) (bytes : List ℕ) → IsFile facts B size content sent bytes → slice_get content sent ≡ None → Joined B content bytes × (length bytes ≡ size)
part_all facts B size sent content bytes h p =
    let past = none_past content sent p in
    let none : h.left ≡ 0 = subst (λ ns. Sums facts ns h.left) (drop_past content sent past) h.sums in
    (subst (λ ns. Joined B ns bytes) (take_all sent content past) h.joined, omega (arith, h.even, none))

-- a file that is closed: the level goes on behind it
pub closed : (facts : List Fact) (version : ℕ) (B : Blobs) (root first : Name) (levels above : List Level) (level : Level) (before inside : List Entry) (node : Node) (size sent : ℕ) (content : List Name) (bytes : List ℕ) (emitted : List Emission)
    → levels ≡ above ++ level ∷ [] → LeadsOn version B root root [] [] above first level.path before → DirectoryIsBegun version B root first level inside node → node.what ≡ NodeKind.File size content → IsFile facts B size content sent bytes
    → slice_get content sent ≡ None → IsWriting emitted (before ++ inside) (level.path ++ node.name ∷ []) bytes → AtOpen version B root levels (length levels) level.begun (rebuilt (emitted ++ Emission.Close ∷ []))
closed facts version B root first levels above level before inside node size sent content bytes emitted are leads begun file part none writing =
    let path : List (List ℕ) = level.path ++ node.name ∷ [] in
    let all = part_all facts B size sent content bytes part none in
    let P : NodeKind → Type 0 = λ what. NodeSpells B (Spells version B) path what (file_entry path bytes ∷ []) in
    let spells = subst P (sym file) (bytes, all.0, all.1, refl) in
    let more = open_more version B root first level.tree level.path level.nodes.items level.next begun.at inside node (file_entry path bytes ∷ []) begun.opened begun.node_is spells in
    let entries : rebuilt (emitted ++ Emission.Close ∷ []) ≡ before ++ (inside ++ file_entry path bytes ∷ []) = writing_done emitted (before ++ inside) path bytes writing ∙ append_assoc before inside (file_entry path bytes ∷ []) in
    let at : AtLevel version B root (above ++ level ∷ []) (length above) level.begun level (rebuilt (emitted ++ Emission.Close ∷ [])) = record {
      first = first;
      before = before;
      inside = inside ++ file_entry path bytes ∷ [];
      level_is = got_last above level;
      leads = subst (λ ls. LeadsOn version B root root [] [] ls first level.path before) (sym (take_front above level)) leads;
      opened = subst (λ n. IsOpenLevel version B root first level.tree level.path level.nodes.items level.next n (inside ++ file_entry path bytes ∷ [])) (sym begun.counts) more;
      whole = entries;
    } in
    let many : suc (length above) ≡ length levels = omega (arith, length-append above (level ∷ []), ap (λ (ls : List Level). length ls) are) in
    subst (λ n. AtOpen version B root levels n level.begun (rebuilt (emitted ++ Emission.Close ∷ []))) many
    (subst (λ ls. AtOpen version B root ls (suc (length above)) level.begun (rebuilt (emitted ++ Emission.Close ∷ []))) (sym are) (level, at))

split : (old mid new last : List Emission) → new ≡ mid ++ last → old ++ new ≡ (old ++ mid) ++ last
split old mid new last p = ap (λ m. old ++ m) p ∙ sym (append_assoc old mid last)

module _ (facts : List Fact) (version : ℕ) (B : Blobs) (root : Name) (levels : List Level) (sent : ℕ) (onward : Bool) (entries : ℕ) (fact : Fact) (old out mid new : List Emission) (content : List Name) (next : ℕ) (bytes : List ℕ) where
  -- the file that waits for a blob
  pub file_waits : WalkWaits facts version B root levels sent onward entries fact old → fact.kind ≡ BlobKind.Content
      → FileWaits facts version B root levels sent fact old × IsLeast facts BlobKind.Content fact.name fact.place × Follow false old true
  file_waits h k = (
    subst (λ kind. WaitsByKind kind facts version B root levels sent onward fact old) k h.waits,
    subst (λ kind. IsLeast facts kind fact.name fact.place) k h.least,
    subst (λ kind. Follow false old (is_open kind)) k h.order,
  )

  pieced : out ≡ [] → mid ≡ out ++ Emission.Piece bytes ∷ [] → mid ≡ Emission.Piece bytes ∷ []
  pieced none p = p ∙ ap (λ o. o ++ Emission.Piece bytes ∷ []) none

  -- its last blob came
  pub blob_last : (h : FileWaits facts version B root levels sent fact old) → IsLeast facts BlobKind.Content fact.name fact.place → content ≡ h.content → next ≡ sent + 1 → B BlobKind.Content bytes → naming.name bytes ≡ fact.name
      → length bytes ≡ fact.place.length → out ≡ [] → mid ≡ out ++ Emission.Piece bytes ∷ [] → Follow false old true → BlobFollows facts content next mid new Begun.Done
      → AtOpen version B root levels (length levels) h.level.begun (rebuilt (old ++ new)) × WalkGave facts version B root false old new
  blob_last h least same count among named long none m so b =
      let part = part_more facts B h.size sent h.content h.bytes bytes fact h.part h.asked least among named long in
      let past : slice_get h.content (sent + 1) ≡ None = ap (λ ns. slice_get ns (sent + 1)) (sym same) ∙ ap (λ i. slice_get content i) (sym count) ∙ b.0 in
      let piece = pieced none m in
      let writing = writing_more old (h.before ++ h.inside) (h.level.path ++ h.node.name ∷ []) h.bytes bytes h.writing in
      let at = closed facts version B root h.first levels h.above h.level h.before h.inside h.node h.size (sent + 1) h.content (h.bytes ++ bytes) (old ++ Emission.Piece bytes ∷ []) h.levels_are h.leads h.begun h.file part past writing in
      let whole : old ++ new ≡ (old ++ Emission.Piece bytes ∷ []) ++ Emission.Close ∷ [] = split old mid new (Emission.Close ∷ []) b.1 ∙ ap (λ p. (old ++ p) ++ Emission.Close ∷ []) piece in
      let given : new ≡ Emission.Piece bytes ∷ Emission.Close ∷ [] = b.1 ∙ ap (λ p. p ++ Emission.Close ∷ []) piece in (
        subst (λ e. AtOpen version B root levels (length levels) h.level.begun (rebuilt e)) (sym whole) at,
        record {
          each = subst (λ e. Each (WalkGives facts version B root) e) (sym given) (among, (tt, tt));
          order = subst (λ e. Follow false (old ++ e) false) (sym given) (follow_both false true false old (Emission.Piece bytes ∷ Emission.Close ∷ []) so (true, (refl, refl), (false, (refl, refl), refl)));
        },
      )

  -- another one follows
  pub blob_more : (after : Fact) (h : FileWaits facts version B root levels sent fact old) → IsLeast facts BlobKind.Content fact.name fact.place → content ≡ h.content → next ≡ sent + 1 → B BlobKind.Content bytes
      → naming.name bytes ≡ fact.name → length bytes ≡ fact.place.length → out ≡ [] → mid ≡ out ++ Emission.Piece bytes ∷ [] → entries ≡ counted (length (rebuilt old)) → Follow false old true → BlobFollows facts content next mid new (Begun.Waits after)
      → WalkWaits facts version B root levels next onward entries after (old ++ new) × Each (WalkGives facts version B root) new
  blob_more after h least same count among named long none m entry so b =
      let part = part_more facts B h.size sent h.content h.bytes bytes fact h.part h.asked least among named long in
      let asked : slice_get h.content (sent + 1) ≡ Some after.name = ap (λ ns. slice_get ns (sent + 1)) (sym same) ∙ ap (λ i. slice_get content i) (sym count) ∙ b.0 in
      let given : new ≡ Emission.Piece bytes ∷ [] = b.2 ∙ pieced none m in
      let pieces = subst (λ ns. ArePiecesOf B ns (h.writing.last ++ Emission.Piece bytes ∷ [])) (sym (one_more h.content sent fact.name h.asked)) (pieces_push B (take sent h.content) fact.name h.writing.last bytes h.pieces among named) in
      let waits : FileWaits facts version B root levels (sent + 1) after (old ++ Emission.Piece bytes ∷ []) = record {
        above = h.above;
        level = h.level;
        before = h.before;
        inside = h.inside;
        node = h.node;
        size = h.size;
        content = h.content;
        bytes = h.bytes ++ bytes;
        levels_are = h.levels_are;
        first = h.first;
        leads = h.leads;
        begun = h.begun;
        file = h.file;
        asked = asked;
        part = part;
        writing = writing_more old (h.before ++ h.inside) (h.level.path ++ h.node.name ∷ []) h.bytes bytes h.writing;
        pieces = subst (λ e. ArePiecesOf B (take (sent + 1) h.content) e) (sym (more_last old (h.before ++ h.inside) (h.level.path ++ h.node.name ∷ []) h.bytes bytes h.writing)) pieces;
      } in
      let known : WalkWaits facts version B root levels (sent + 1) onward entries after (old ++ Emission.Piece bytes ∷ []) = record {
        least = least_of facts BlobKind.Content after.name after b.1;
        count = omega (arith, entry, rebuilt_length old (Emission.Piece bytes ∷ []));
        waits = subst (λ kind. WaitsByKind kind facts version B root levels (sent + 1) onward after (old ++ Emission.Piece bytes ∷ [])) (sym b.1.0) waits;
        order = subst (λ kind. Follow false (old ++ Emission.Piece bytes ∷ []) (is_open kind)) (sym b.1.0) (follow_both false true true old (Emission.Piece bytes ∷ []) so (piece_follows bytes));
      } in (
        subst (λ e. WalkWaits facts version B root levels next onward entries after (old ++ e)) (sym given) (subst (λ n. WalkWaits facts version B root levels n onward entries after (old ++ Emission.Piece bytes ∷ [])) (sym count) known),
        subst (λ e. Each (WalkGives facts version B root) e) (sym given) (among, tt),
      )

  -- it has a place
  pub blob_there : (h : FileWaits facts version B root levels sent fact old) → IsLeast facts BlobKind.Content fact.name fact.place → content ≡ h.content → next ≡ sent + 1 → (end : End) → B BlobKind.Content bytes → naming.name bytes ≡ fact.name
      → length bytes ≡ fact.place.length → BlobFollows facts content next mid new (Begun.Ended end) → ⊥
  blob_there h least same count end among named long b =
      let part = part_more facts B h.size sent h.content h.bytes bytes fact h.part h.asked least among named long in
      let asked : slice_get h.content (sent + 1) ≡ Some b.0 = ap (λ ns. slice_get ns (sent + 1)) (sym same) ∙ ap (λ i. slice_get content i) (sym count) ∙ b.2 in
      dropped_place facts h.content part.left (sent + 1) b.0 part.sums asked b.3

-- a level in the place of the last one
pub set_last : (above : List Level) (last level : Level) → slice_set (above ++ last ∷ []) (length above) level ≡ above ++ level ∷ []
set_last [] last level = refl
set_last (l ∷ above) last level = ap (λ ls. l ∷ ls) (set_last above last level)

pub put_last : (items above : List Level) (last level : Level) (n : ℕ) → items ≡ above ++ last ∷ [] → n ≡ length items → slice_set items (n - 1) level ≡ above ++ level ∷ []
put_last items above last level n are many =
    let at : n - 1 ≡ length above = omega (arith, many, ap (λ (ls : List Level). length ls) are, length-append above (last ∷ [])) in
    ap (λ k. slice_set items k level) at ∙ ap (λ ls. slice_set ls (length above) level) are ∙ set_last above last level

pub put_twice : (old first second : List Level) (level before : Level) → ((above : List Level) (last : Level) → old ≡ above ++ last ∷ [] → (before ≡ last) × (first ≡ above ++ level ∷ [])) → (old ≡ [] → first ≡ [])
    → ((above : List Level) (last : Level) → first ≡ above ++ last ∷ [] → second ≡ above ++ before ∷ []) → (first ≡ [] → second ≡ []) → second ≡ old
put_twice old first second level before some none again nothing = by (last_level old)
  where
    by : (old ≡ []) ⊎ ((above : List Level) × (last : Level) × (old ≡ above ++ last ∷ [])) → second ≡ old
    by (inl empty) = nothing (none empty) ∙ sym empty
    by (inr (above, last, are)) = let s = some above last are in again above level s.1 ∙ ap (λ l. above ++ l ∷ []) s.0 ∙ sym are

-- whether nodes may come behind others
pub may_is : (before nodes : List Node) (first last : Node) (b : Bool) → Some first ≡ slice_get nodes 0 → Some last ≡ slice_get before (length before - 1) → IsTrue b ↔ (slice_cmp nat_cmp last.name first.name ≡ Ordering.Less) → IsTrue b ↔ MayFollow before nodes
may_is before [] first last b h g iff = absurd (none-some first (sym h))
may_is before (n ∷ nodes) first last b h g iff =
    let same : first ≡ n = same_Some first n h in
    let is = last_name_is before last g in
    let P : Option (List ℕ) → Type 0 = λ o. IfSome o (λ l. slice_cmp nat_cmp l n.name ≡ Ordering.Less) in
    let L : Node → Type 0 = λ m. slice_cmp nat_cmp last.name m.name ≡ Ordering.Less in
    (λ yes. subst P (sym is) (subst L same (iff.0 yes)), λ may. iff.1 (subst L (sym same) (subst P is may)))

pub path_deep : (path own : List (List ℕ)) (nodes : List Node) → path ≡ own → (greatest_depth ≤ length path) × (nodes ≢ []) → (greatest_depth ≤ length own) × (nodes ≢ [])
path_deep path own nodes same h = (subst (λ p. greatest_depth ≤ length p) same h.0, h.1)

-- what stands last
pub last_item : (items above : List Level) (last x : Level) (n : ℕ) → items ≡ above ++ last ∷ [] → n ≡ length items → x ≡ get_or items (n - 1) x → x ≡ last
last_item items above last x n are many value =
    let long : length items ≡ length above + 1 = ap (λ (ls : List Level). length ls) are ∙ length-append above (last ∷ []) in
    let at : n - 1 ≡ length above = omega (arith, many, long) in
    let got : slice_get items (length above) ≡ Some last = ap (λ ls. slice_get ls (length above)) are ∙ got_last above last in
    let here : slice_get items (length above) ≡ Some (get_or items (length above) x) = slice_get-get_or items (length above) x (omega (arith, long)) in
    same_Some x last (ap (λ l. Some l) (value ∙ ap (λ k. get_or items k x) at) ∙ sym here ∙ got)
