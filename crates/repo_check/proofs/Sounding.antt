-- Where all things are well, what came is a sound store.
use Rattle.std.proofs.Common.{arith, ◌≡◌, ◌≢◌, ◌+◌, ◌-◌, ◌++◌, ◌∷◌, [], ℕ, Bool, true, false, zero, suc, List, Option, Some, length, refl, sym, ap, subst, inl, inr, ◌∙◌, length-append, Contains}
use Rattle.repo_name.specs.Naming as naming
use Rattle.repo_name.specs.declared.kinds.BlobKind.{BlobKind}
use Rattle.repo_name.specs.declared.kinds.BlobKind.TheVariants.{Content, Tree}
use Rattle.repo_name.specs.declared.kinds.Kind.{Kind}
use Rattle.repo_name.specs.declared.names.Name.{Name}
use Rattle.repo_index.specs.declared.facts.Fact.{Fact}
use Rattle.repo_index.specs.declared.facts.PackFacts.{PackFacts}
use Rattle.repo_index.specs.IndexText.{fact_of, facts_in}
use Rattle.repo_index.proofs.OneLemmas.{index_texts_one}
use Rattle.repo_tree.proofs.DirectoryLemmas.{directory_lists, directory_move, tree_once}
use Rattle.repo_tree.proofs.FiniteLemmas.{HasName, chain_is_whole}
use Rattle.repo_tree.specs.Laws.{Agree}
use Rattle.repo_tree.specs.Parts.{Blobs, GoesOn, HasNode, IsDirectory, IsInParts, IsPart, IsPartBy, IsTree, ListsBy}
use Rattle.repo_tree.specs.TreeText.{AreInOrder, last_name}
use Rattle.repo_tree.specs.Spelling.{Joined, NodeSpells, SpellsTo, Spells, ReachTo, Reach, greatest_depth, dir_entry, file_entry}
use Rattle.repo_tree.specs.declared.entries.Entry.{Entry}
use Rattle.repo_tree.specs.declared.nodes.Node.{Node}
use Rattle.repo_tree.specs.declared.nodes.NodeKind.{NodeKind}
use Rattle.repo_name.proofs.Containing.{first_contained, none_contained}
use Rattle.repo_store.specs.Stores.{Objects}
use Rattle.repo_reach.proofs.Leading.{goes_push, same_version}
use Rattle.repo_reach.specs.Collected.{follows_in, version_by}
use Rattle.repo_session.specs.Changes.{AreHeldApart}
use Rattle.repo_session.specs.Soundness.{IsHeld, IsExactPack, IsSoundIndex, IsSoundSnapshot, IsSound}
use Rattle.repo_session.specs.Trees.{Under}
use Rattle.repo_session.proofs.Wholeness.{spelled_sound}
use Rattle.repo_check.specs.Answers.{Gathered, Came, GivesFact, TreesOf, GivesRoot, IsReachedBlob, IsDeepest, IsFollowed}
use Rattle.repo_check.specs.Checking.{AreWell}
use Rattle.repo_check.specs.Findings.{IsFitting, IsExactOf, Measure, IsMeasured, IsWellTree}
use Rattle.repo_check.specs.Laws.{AreObjects, HasNoClash, IsSpoken, WellIsSound}
use Rattle.repo_check.specs.Laws.IsSpoken.{of_tree, of_pack}
use Rattle.repo_check.proofs.Ascending.{last_is, last_names, name_among, order_stable}
use Rattle.repo_check.proofs.Spellings.{blob_at, each_spelled, lists_tree, under_step}

module _ (answers : Gathered) (objects : Objects) (well : AreWell answers) (are : AreObjects answers objects) (apart : HasNoClash answers) where
  abbrev H : Blobs
  H = IsHeld objects

  abbrev T : Blobs
  T = TreesOf answers

  pub there : (k : Kind) (n : Name) (x : List ℕ) → Came (answers.objects k) n x → objects k n ≡ Some x
  there k n x came = (are k n x).1 came.among

  object_well : (k : Kind) (n : Name) (x : List ℕ) → objects k n ≡ Some x → (naming.name x ≡ n) × IsFitting answers k x
  object_well k n x here =
      let w = well.objects k (record { name = n; bytes = Some x }) ((are k n x).0 here) in
      let same : w.0 ≡ x = let p = w.1 in cc in
      (ap naming.name (sym same) ∙ w.2, subst (λ y. IsFitting answers k y) same w.3)

  pub came : (k : Kind) (n : Name) (x : List ℕ) → objects k n ≡ Some x → Came (answers.objects k) n x
  came k n x here = record { among = (are k n x).0 here; named = (object_well k n x here).0 }

  -- ---- what indexes give is held

  exact_of : (fact : Fact) → GivesFact answers fact → (packs : List PackFacts) × Contains (facts_in packs) fact × IsExactOf answers packs fact.place.pack
  exact_of fact g =
      let fit = (object_well Kind.Index g.index g.text (there Kind.Index g.index g.text g.came)).1 in
      let same : g.says.packs ≡ fit.0 = index_texts_one g.text g.says.packs fit.0 g.says.text fit.1 in
      let among : Contains (facts_in fit.0) fact = subst (λ (ps : List PackFacts). Contains (facts_in ps) fact) same g.says.among in
      (fit.0, among, fit.2 fact among)

  -- a blob that is held at a fact's place
  record HeldAt (fact : Fact) : Type 0 where
    pub bytes : List ℕ
    pub held : IsHeld objects fact.kind bytes
    pub named : naming.name bytes ≡ fact.name
    pub len : length bytes ≡ fact.place.length
    pub spoken : IsSpoken answers bytes

  held_at : (fact : Fact) → GivesFact answers fact → HeldAt fact
  held_at fact g =
      let e = exact_of fact g in
      let exact = e.2 in
      let at = blob_at exact.bytes exact.items e.0 fact exact.true_pack exact.exact e.1 in
      let pack = there Kind.Pack fact.place.pack exact.bytes exact.came in
      record {
        bytes = at.bytes;
        held = record {
          index = g.index;
          text = g.text;
          fact = fact;
          pack = exact.bytes;
          listed = there Kind.Index g.index g.text g.came;
          says = g.says;
          of_kind = refl;
          named = sym at.named;
          there = pack;
          stands = at.stands;
        };
        named = at.named;
        len = at.len;
        spoken = of_pack fact exact.bytes g exact.came.among at.stands;
      }

  -- ---- no two blobs held have one name

  held_spoken : (k : BlobKind) (x : List ℕ) → IsHeld objects k x → IsSpoken answers x
  held_spoken k x h =
      let given : GivesFact answers h.fact = record { index = h.index; text = h.text; came = came Kind.Index h.index h.text h.listed; says = h.says } in
      of_pack h.fact h.pack given ((are Kind.Pack h.fact.place.pack h.pack).0 h.there) h.stands

  pub held_apart : AreHeldApart objects
  held_apart k x y h g same = apart x y (held_spoken k x h) (held_spoken k y g) same

  -- ---- trees that are reached

  -- a tree that came is held
  pub grows : (k : BlobKind) (x : List ℕ) → T k x → H k x
  grows k x (is, (n, place, tree, lies)) =
      let h = held_at (fact_of Tree n place) lies.given in
      let same : h.bytes ≡ x = apart h.bytes x h.spoken (of_tree n tree.among) (h.named ∙ sym tree.named) in
      subst (λ (j : BlobKind). H j x) (sym is) (subst (λ y. H Tree y) same h.held)

  agree : Agree T T
  agree k x y (is, (n, place, tree, lies)) (so, (m, spot, other, at)) name = apart x y (of_tree n tree.among) (of_tree m other.among) name

  pub record WellAt (n : Name) : Type 0 where
    pub nodes : List Node
    pub tree : IsTree T n nodes
    pub fit : IsWellTree answers n tree.text nodes

  pub tree_well : (n : Name) → IsReachedBlob answers Tree n → WellAt n
  tree_well n r = elim (well.blobs Tree n r) [
    | inl nowhere ↦ absurd (let p = nowhere.0 in cc)
    | inr found ↦ (let place = found.0 in let a = found.1 in let lies = found.2 in let is = found.4 in let tree = found.5 in
        let x = tree.0 in
        let here : Contains answers.trees (record { name = a.name; bytes = Some x }) = subst (λ b. Contains answers.trees (record { name = a.name; bytes = b })) tree.2 found.3 in
        let mine : Contains answers.trees (record { name = n; bytes = Some x }) = subst (λ m. Contains answers.trees (record { name = m; bytes = Some x })) is here in
        let named : naming.name x ≡ n = tree.3 ∙ is in
        record {
          nodes = tree.1;
          tree = record { text = x; among = (refl, (n, place, record { among = mine; named = named }, lies)); named = named; reads = tree.4.reads };
          fit = subst (λ m. IsWellTree answers m x tree.1) is tree.5;
        })
  ]

  -- ---- directories

  -- the trees of a directory in parts are well, and go on rightly, so they come to an end
  parts_directory : (top : Name) → ((p : Name) → IsPartBy 2 T top p → IsReachedBlob answers Tree p) → ((p : Name) → IsPartBy 2 T top p → IsFollowed answers p) → (nodes : List Node) × IsInParts T top nodes
  parts_directory top reach follow = chain_is_whole T top (last_names answers.trees) there right
    where
      there : (p : Name) → ((through : List Name) × GoesOn T top through p) → (nodes : List Node) × (next : Option Name) × IsPart T p nodes next × ((last : List ℕ) → last_name nodes ≡ Some last → HasName (last_names answers.trees) last)
      there p on =
          let w = tree_well p (reach p on) in
          let part = w.fit.part (follow p on) in (
            w.nodes,
            part.0,
            record { text = w.tree.text; among = w.tree.among; named = w.tree.named; reads = part.1 },
            λ last is. name_among answers.trees w.tree.among.1.0 w.tree.text last w.tree.among.1.2.among (last_is w.tree.text w.nodes last w.tree.reads is),
          )

      right : (p n : Name) (nodes more : List Node) (next : Option Name) → ((through : List Name) × GoesOn T top through p) → IsPart T p nodes (Some n) → IsPart T n more next → (more ≢ []) × AreInOrder (nodes ++ more)
      right p n nodes more next on first second =
          let onward : (through : List Name) × GoesOn T top through n = (on.0 ++ n ∷ [], goes_push T top p n on.0 nodes on.1 first) in
          let w = tree_well n (reach n onward) in
          let not = w.fit.onward p (follow p on) in
          let some : more ≢ [] = λ none. not (nodes, more, next, first, second, inl none) in
          (some, order_stable nodes more some first.reads.tree.ordered second.reads.tree.ordered (λ no. not (nodes, more, next, first, second, inr no)))

  directory : (follows : Bool) (top : Name) → ((p : Name) → IsPartBy (version_by follows) T top p → IsReachedBlob answers Tree p) → (follows ≡ true → (p : Name) → IsPartBy (version_by follows) T top p → IsFollowed answers p)
      → (nodes : List Node) × IsDirectory (version_by follows) T top nodes
  directory true top reach follow = parts_directory top reach (follow refl)
  directory false top reach follow = let w = tree_well top (reach top refl) in (w.nodes, w.tree)

  -- ---- what they spell

  joined : (names : List Name) (size : ℕ) → Measure answers names size → (bytes : List ℕ) × Joined H names bytes × (length bytes ≡ size)
  joined [] size m = ([], refl, sym m)
  joined (n ∷ names) size m =
      let h = held_at (fact_of Content n m.0) m.2.given in
      let rest = joined names m.1 m.3 in
      let sum : length (h.bytes ++ rest.0) ≡ size = length-append h.bytes rest.0 ∙ ap (λ l. l + length rest.0) h.len ∙ ap (λ l. m.0.length + l) rest.2 ∙ sym m.4 in
      (h.bytes ++ rest.0, (h.bytes, rest.0, h.held, h.named, rest.1, refl), sum)

  module _ (follows : Bool) (root : Name) (rooted : GivesRoot answers (version_by follows) root) where
    abbrev version : ℕ
    version = version_by follows

    reached : (k : BlobKind) (n : Name) → Reach version T root k n → IsReachedBlob answers k n
    reached k n r = (version, root, rooted, r)

    followed : follows ≡ true → (n : Name) → Reach version T root Tree n → IsFollowed answers n
    followed is n r =
        let two : version ≡ 2 = ap version_by is in
        (root, subst (λ v. GivesRoot answers v root) two rooted, subst (λ v. Reach v T root Tree n) two r)

    file_spells : (path : List (List ℕ)) (size : ℕ) (content : List Name) → ((n : Name) → Contains content n → IsReachedBlob answers Content n) → IsMeasured answers (NodeKind.File size content)
        → (entries : List Entry) × NodeSpells H (λ t p e. ⊥) path (NodeKind.File size content) entries
    file_spells path size content reach (inl m) = let j = joined content size m in (file_entry path j.0 ∷ [], (j.0, j.1, j.2, refl))
    file_spells path size content reach (inr lost) = let found = well.blobs Content lost.0 (reach lost.0 lost.1) in absurd (lost.2 found.0 found.1.given)

    -- the trees of a directory at a path, and what it reaches the root reaches
    record Standing (depth : ℕ) (top : Name) (path : List (List ℕ)) : Type 0 where
      pub under : (t : Name) → IsPartBy version T top t → Under version T root path t
      pub sum : length path + depth ≡ greatest_depth
      pub lift : (k : BlobKind) (n : Name) → ReachTo version depth T top k n → Reach version T root k n

    below : (depth : ℕ) (top : Name) (path : List (List ℕ)) (name : List ℕ) (subtree : Name) → Standing (suc depth) top path → HasNode version T top (record { name = name; what = NodeKind.Dir subtree }) → Standing depth subtree (path ++ name ∷ [])
    below depth top path name subtree s has =
        let sum = s.sum in
        record {
          under = λ t belongs. under_step version T root path has.part has.own name subtree t (s.under has.part has.belongs) has.lists has.among belongs;
          sum = omega (arith, sum, length-append path (name ∷ []));
          lift = λ k n r. s.lift k n (inr (record { name = name; what = NodeKind.Dir subtree }, has, r));
        }

    own_reached : (depth : ℕ) (top p : Name) → IsPartBy version T top p → ReachTo version depth T top Tree p
    own_reached zero top p belongs = (refl, belongs)
    own_reached (suc depth) top p belongs = inl (refl, belongs)

    stands : (depth : ℕ) (top : Name) (path : List (List ℕ)) → Standing depth top path → (nodes : List Node) × IsDirectory version T top nodes
    stands depth top path s = directory follows top (λ p b. reached Tree p (s.lift Tree p (own_reached depth top p b))) (λ is p b. followed is p (s.lift Tree p (own_reached depth top p b)))

    move : (top : Name) (nodes : List Node) → IsDirectory version T top nodes → IsDirectory version H top nodes
    move top nodes h = directory_move version T H top nodes (λ part b x t named. grows Tree x t) h

    -- the tree that lists a node is well, and these are its nodes
    well_part : (depth : ℕ) (top : Name) (path : List (List ℕ)) → Standing depth top path → (p : Name) (own : List Node) → IsPartBy version T top p → ListsBy version T p own → (w : WellAt p) × (own ≡ w.nodes)
    well_part depth top path s p own belongs lists =
        let w = tree_well p (reached Tree p (s.lift Tree p (own_reached depth top p belongs))) in
        (w, tree_once T T agree p own w.nodes (lists_tree version T p own lists) w.tree)

    -- at the greatest depth there are no nodes
    none_deepest : (top : Name) (path : List (List ℕ)) (s : Standing zero top path) (nodes : List Node) → IsDirectory version T top nodes → nodes ≡ []
    none_deepest top path s [] h = refl
    none_deepest top path s (node ∷ nodes) h =
        let sum = s.sum in
        let has = directory_lists version T top (node ∷ nodes) node h (first_contained node nodes) in
        let at = well_part zero top path s has.part has.own has.belongs has.lists in
        let deepest : IsDeepest answers has.part = (version, root, rooted, (path, s.under has.part has.belongs, omega (arith, sum))) in
        absurd (none_contained node (subst (λ ns. Contains ns node) (at.1 ∙ at.0.fit.bare deepest) has.among))

    spelled : (depth : ℕ) (top : Name) (path : List (List ℕ)) → Standing depth top path → (entries : List Entry) × SpellsTo version depth H top path entries
    spelled zero top path s =
        let d = stands zero top path s in
        ([], (move top [] (subst (λ ns. IsDirectory version T top ns) (none_deepest top path s d.0 d.1) d.1), refl))
    spelled (suc depth) top path s =
        let d = stands (suc depth) top path s in
        let one : (name : List ℕ) (what : NodeKind) → Contains d.0 (record { name = name; what = what }) → (entries : List Entry) × NodeSpells H (SpellsTo version depth H) (path ++ name ∷ []) what entries =
        λ name. elim [
          | NodeKind.File size content ↦ λ among.
              (let node : Node = record { name = name; what = NodeKind.File size content } in
              let has = directory_lists version T top d.0 node d.1 among in
              let at = well_part (suc depth) top path s has.part has.own has.belongs has.lists in
              file_spells (path ++ name ∷ []) size content (λ n c. reached Content n (s.lift Content n (inr (node, has, (refl, c))))) (at.0.fit.measured node (subst (λ ns. Contains ns node) at.1 has.among)))
          | NodeKind.Dir subtree ↦ λ among.
              (let has = directory_lists version T top d.0 (record { name = name; what = NodeKind.Dir subtree }) d.1 among in
              let inside = spelled depth subtree (path ++ name ∷ []) (below depth top path name subtree s has) in (dir_entry (path ++ name ∷ []) ∷ inside.0, (inside.0, inside.1, refl)))
        ] in
        let all = each_spelled H (SpellsTo version depth H) path d.0 (λ node c. one node.name node.what c) in
        (all.0, (d.0, move top d.0 d.1, all.1))

    root_spelled : (entries : List Entry) × Spells version H root [] entries
    root_spelled =
        let zero_less : greatest_depth ≡ greatest_depth - 0 = omega arith in
        let whole = spelled greatest_depth root [] (record { under = λ t belongs. belongs; sum = omega arith; lift = λ k n r. r }) in
        (whole.0, subst (λ d. SpellsTo version d H root [] whole.0) zero_less whole.1)

  -- ---- the store

  snapshot_sound : (n : Name) (x : List ℕ) → objects Kind.Snapshot n ≡ Some x → IsSoundSnapshot objects x
  snapshot_sound n x here =
      let read = (object_well Kind.Snapshot n x here).1 in
      let snapshot = read.0 in
      let same = same_version snapshot.version read.1.known in
      let rooted : GivesRoot answers (version_by (follows_in snapshot.version)) snapshot.tree = record { name = n; text = x; snapshot = snapshot; came = came Kind.Snapshot n x here; reads = read.1; version_is = sym same; root_is = refl } in
      let e = root_spelled (follows_in snapshot.version) snapshot.tree rooted in
      spelled_sound objects held_apart x snapshot e.0 read.1 (subst (λ v. Spells v H snapshot.tree [] e.0) same e.1)

  exact_pack : (packs : List PackFacts) (pack : Name) → IsExactOf answers packs pack → IsExactPack objects packs pack
  exact_pack packs pack e = record { bytes = e.bytes; items = e.items; there = there Kind.Pack pack e.bytes e.came; true_pack = e.true_pack; exact = e.exact }

  index_sound : (n : Name) (x : List ℕ) → objects Kind.Index n ≡ Some x → IsSoundIndex objects x
  index_sound n x here = let fit = (object_well Kind.Index n x here).1 in record { packs = fit.0; reads = fit.1; each = λ f c. exact_pack fit.0 f.place.pack (fit.2 f c) }

  sound : IsSound objects
  sound = record {
    named = λ k n x here. (object_well k n x here).0;
    packs = λ n x here. (object_well Kind.Pack n x here).1;
    indexes = index_sound;
    snapshots = snapshot_sound;
  }

pub well_is_sound : WellIsSound
well_is_sound answers objects well are apart = sound answers objects well are apart
