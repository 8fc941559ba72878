-- Where the objects received are those of a sound store, nothing is at fault.
use Rattle.std.proofs.Common.{arith, ◌≡◌, ◌+◌, ◌++◌, ◌∷◌, [], ℕ, zero, suc, List, length, Option, Some, refl, sym, ap, subst, inl, inr, ◌∙◌, length-append, Contains}
use Rattle.std.proofs.lemmas.Option.{same_Some, none-some}
use Rattle.repo_name.specs.Naming as naming
use Rattle.repo_name.specs.Ranges.{range}
use Rattle.repo_name.specs.declared.kinds.BlobKind.{BlobKind}
use Rattle.repo_name.specs.declared.kinds.BlobKind.TheVariants.{Content, Tree}
use Rattle.repo_name.specs.declared.kinds.Kind.{Kind}
use Rattle.repo_name.specs.declared.kinds.Thing.{Thing}
use Rattle.repo_name.specs.declared.names.Name.{Name}
use Rattle.repo_pack.specs.declared.places.Place.{Place}
use Rattle.repo_index.specs.declared.facts.Fact.{Fact}
use Rattle.repo_index.specs.declared.facts.PackFacts.{PackFacts}
use Rattle.repo_index.specs.IndexText.{fact_of, facts_in}
use Rattle.repo_index.proofs.OneLemmas.{index_texts_one}
use Rattle.repo_tree.proofs.DirectoryLemmas.{directory_among, tree_once}
use Rattle.repo_tree.specs.Parts.{Blobs, IsPart, IsPartBy, IsTree, ListsBy}
use Rattle.repo_tree.specs.Spelling.{Joined, Spells, SpellsTo, greatest_depth}
use Rattle.repo_tree.specs.TreeText.{IsTreeText}
use Rattle.repo_tree.specs.declared.entries.Entry.{Entry}
use Rattle.repo_tree.specs.declared.nodes.Node.{Node}
use Rattle.repo_tree.specs.declared.nodes.NodeKind.{NodeKind}
use Rattle.repo_tree.specs.declared.snapshots.Snapshot.{Snapshot}
use Rattle.repo_tree.proofs.SnapshotLemmas.{snapshot_texts_one}
use Rattle.repo_store.specs.Stores.{Objects}
use Rattle.repo_reach.proofs.Leading.{goes_push}
use Rattle.repo_session.specs.Changes.{AreHeldApart}
use Rattle.repo_session.specs.Soundness.{IsHeld, IsExactPack, IsSound}
use Rattle.repo_session.specs.Trees.{IsBroken, IsNoText, Under}
use Rattle.repo_session.specs.declared.outcomes.CheckFault.{CheckFault}
use Rattle.repo_session.specs.declared.outcomes.FaultKind.{FaultKind}
use Rattle.repo_session.proofs.Descending.{broken_grows, file_spelled, needed_grows, needed_there, root_spells_at, unbroken, under_grows}
use Rattle.repo_session.proofs.Reaching.{IsNeeded, reached_needed}
use Rattle.repo_check.specs.Answers.{Answer, Gathered, Came, GivesFact, GivesRoot, IsReachedBlob, LiesAt, LiesNowhere, TreesOf}
use Rattle.repo_check.specs.Checking.{IsFaultOf, IsFound}
use Rattle.repo_check.specs.Findings.{BlobIs, IsExactOf, IsIllTree, IsMismeasured, Measure, ObjectIs, ReadsAs, TreeIs}
use Rattle.repo_check.specs.Laws.{AreObjects}
use Rattle.repo_check.proofs.Finding.{illegible_not}
use Rattle.repo_check.proofs.Spellings.{BlobAt, blob_at, lists_tree}

module _ (answers : Gathered) (objects : Objects) (sound : IsSound objects) (apart : AreHeldApart objects) (are : AreObjects answers objects)
    (given : (k : Kind) (a : Answer) → Contains (answers.objects k) a → (x : List ℕ) × (a.bytes ≡ Some x))
    (ranged : (a : Answer) → Contains answers.trees a → (place : Place) → LiesAt answers Tree a.name place → (pack x : List ℕ) → objects Kind.Pack place.pack ≡ Some pack → range pack place.offset place.length ≡ Some x → a.bytes ≡ Some x) where
  abbrev H : Blobs
  H = IsHeld objects

  abbrev T : Blobs
  T = TreesOf answers

  came : (k : Kind) (n : Name) (x : List ℕ) → objects k n ≡ Some x → Came (answers.objects k) n x
  came k n x here = record { among = (are k n x).0 here; named = sound.named k n x here }

  there : (k : Kind) (a : Answer) (x : List ℕ) → Contains (answers.objects k) a → a.bytes ≡ Some x → objects k a.name ≡ Some x
  there k a x c is = (are k a.name x).1 (subst (λ (b : Option (List ℕ)). Contains (answers.objects k) (record { name = a.name; bytes = b })) is c)

  -- ---- objects

  reads : (k : Kind) (n : Name) (x : List ℕ) → objects k n ≡ Some x → ReadsAs k x
  reads Kind.Pack n x here = sound.packs n x here
  reads Kind.Index n x here = (let s = sound.indexes n x here in (s.packs, s.reads))
  reads Kind.Snapshot n x here = (let s = sound.snapshots n x here in (s.snapshot, s.reads))

  exact : (packs : List PackFacts) (pack : Name) → IsExactPack objects packs pack → IsExactOf answers packs pack
  exact packs pack e = record { bytes = e.bytes; items = e.items; came = came Kind.Pack pack e.bytes e.there; true_pack = e.true_pack; exact = e.exact }

  placed : (k : Kind) (a : Answer) → Contains (answers.objects k) a → ObjectIs answers k a (Some FaultKind.Place) → ⊥
  placed Kind.Pack a c (x, is, named, none) = none
  placed Kind.Snapshot a c (x, is, named, none) = none
  placed Kind.Index a c (x, is, named, (packs, text, (fact, among, other))) =
      let s = sound.indexes a.name x (there Kind.Index a x c is) in
      let same : packs ≡ s.packs = index_texts_one x packs s.packs text s.reads in
      other (subst (λ (ps : List PackFacts). IsExactOf answers ps fact.place.pack) (sym same) (exact s.packs fact.place.pack (s.each fact (subst (λ (ps : List PackFacts). Contains (facts_in ps) fact) same among))))

  object_well : (k : Kind) (a : Answer) (what : FaultKind) → Contains (answers.objects k) a → ObjectIs answers k a (Some what) → ⊥
  object_well k a FaultKind.Missing c h = (let g = given k a c in absurd (none-some g.0 (sym h ∙ g.1)))
  object_well k a FaultKind.Name c h = h.2 (sound.named k a.name h.0 (there k a h.0 c h.1))
  object_well k a FaultKind.Unreadable c h = illegible_not k h.0 h.3 (reads k a.name h.0 (there k a h.0 c h.1))
  object_well k a FaultKind.Place c h = placed k a c h
  object_well k a FaultKind.Unindexed c h = absurd h

  -- ---- what indexes give is held

  record Lies (fact : Fact) : Type 0 where
    pub pack : List ℕ
    pub here : objects Kind.Pack fact.place.pack ≡ Some pack
    pub blob : BlobAt pack fact
    pub held : IsHeld objects fact.kind blob.bytes

  lies : (fact : Fact) → GivesFact answers fact → Lies fact
  lies fact g =
      let listed = (are Kind.Index g.index g.text).1 g.came.among in
      let s = sound.indexes g.index g.text listed in
      let same : g.says.packs ≡ s.packs = index_texts_one g.text g.says.packs s.packs g.says.text s.reads in
      let among : Contains (facts_in s.packs) fact = subst (λ (ps : List PackFacts). Contains (facts_in ps) fact) same g.says.among in
      let e = s.each fact among in
      let at = blob_at e.bytes e.items s.packs fact e.true_pack e.exact among in
      record {
        pack = e.bytes;
        here = e.there;
        blob = at;
        held = record { index = g.index; text = g.text; fact = fact; pack = e.bytes; listed = listed; says = g.says; of_kind = refl; named = sym at.named; there = e.there; stands = at.stands };
      }

  gives : (k : BlobKind) (x : List ℕ) (h : IsHeld objects k x) → GivesFact answers h.fact
  gives k x h = record { index = h.index; text = h.text; came = came Kind.Index h.index h.text h.listed; says = h.says }

  -- a tree that came is the one held
  tree_held : (a : Answer) (place : Place) → Contains answers.trees a → LiesAt answers Tree a.name place → (x : List ℕ) × (a.bytes ≡ Some x) × H Tree x × (naming.name x ≡ a.name) × (length x ≡ place.length)
  tree_held a place c at =
      let l = lies (fact_of Tree a.name place) at.given in
      (l.blob.bytes, ranged a c place at l.pack l.blob.bytes l.here l.blob.stands, l.held, l.blob.named, l.blob.len)

  grows : (k : BlobKind) (x : List ℕ) → T k x → H k x
  grows k x (is, (n, place, tree, at)) =
      let a : Answer = record { name = n; bytes = Some x } in
      let h = tree_held a place tree.among at in
      let same : h.0 ≡ x = same_Some h.0 x (sym h.1) in
      subst (λ (j : BlobKind). H j x) (sym is) (subst (λ y. H Tree y) same h.2)

  -- ---- what snapshots reach

  record Rooted (version : ℕ) (root : Name) : Type 0 where
    pub entries : List Entry
    pub spells : Spells version H root [] entries

  rooted : (version : ℕ) (root : Name) → GivesRoot answers version root → Rooted version root
  rooted version root r =
      let s = sound.snapshots r.name r.text ((are Kind.Snapshot r.name r.text).1 r.came.among) in
      let one : s.snapshot ≡ r.snapshot = snapshot_texts_one r.text s.snapshot r.snapshot s.reads r.reads in
      let spells : Spells r.snapshot.version H r.snapshot.tree [] s.entries = subst (λ (x : Snapshot). Spells x.version H x.tree [] s.entries) one s.spells in
      record { entries = s.entries; spells = subst (λ v. Spells v H root [] s.entries) r.version_is (subst (λ t. Spells r.snapshot.version H t [] s.entries) r.root_is spells) }

  needed : (k : BlobKind) (n : Name) → IsReachedBlob answers k n → (version : ℕ) × (root : Name) × Rooted version root × IsNeeded version T root k n
  needed k n (version, root, r, reach) = (version, root, rooted version root r, reached_needed version T root k n reach)

  -- it lies somewhere
  somewhere : (k : BlobKind) (n : Name) → IsReachedBlob answers k n → LiesNowhere answers k n → ⊥
  somewhere k n r nowhere =
      let need = needed k n r in
      let p = needed_there need.0 H apart need.1 need.2.entries k n need.2.spells (needed_grows need.0 T H grows need.1 k n need.3) in
      let fact = p.among.fact in
      let is : fact ≡ fact_of k n fact.place = λ i. record { kind = p.among.of_kind i; name = (p.among.named ∙ p.named) i; place = fact.place } in
      nowhere fact.place (subst (λ f. GivesFact answers f) is (gives k p.bytes p.among))

  -- ---- trees

  measured : (names : List Name) (bytes : List ℕ) (sum : ℕ) → Joined H names bytes → Measure answers names sum → length bytes ≡ sum
  measured [] bytes sum j m = ap length j ∙ sym m
  measured (n ∷ names) bytes sum j m =
      let l = lies (fact_of Content n m.0) m.2.given in
      let same : j.0 ≡ l.blob.bytes = apart Content j.0 l.blob.bytes j.2 l.held (j.3 ∙ sym l.blob.named) in
      let rest = measured names j.1 m.1 j.4 m.3 in
      ap length j.5 ∙ length-append j.0 j.1 ∙ ap (λ (b : List ℕ). length b + length j.1) same ∙ ap (λ k. k + length j.1) l.blob.len ∙ ap (λ k. m.0.length + k) rest ∙ sym m.4

  -- what a tree under a root that spells lists
  lists_at : (version : ℕ) (n : Name) (depth : ℕ) (directory : Name) (at : List (List ℕ)) (entries : List Entry) → IsPartBy version H directory n → SpellsTo version depth H directory at entries → (own : List Node) × ListsBy version H n own
  lists_at version n zero directory at entries belongs spells = let l = directory_among version H apart directory [] n spells.0 belongs in (l.own, l.lists)
  lists_at version n (suc depth) directory at entries belongs spells = let l = directory_among version H apart directory spells.0 n spells.1 belongs in (l.own, l.lists)

  listed : (version : ℕ) (root : Name) → Rooted version root → (path : List (List ℕ)) (n : Name) (nodes : List Node) → Under version H root path n → IsTree H n nodes → ListsBy version H n nodes
  listed version root from path n nodes under tree =
      let s = root_spells_at version H apart root from.entries path n from.spells under in
      let l = lists_at version n s.left s.directory s.at s.entries s.belongs s.spells in
      subst (λ ns. ListsBy version H n ns) (tree_once H H apart n l.0 nodes (lists_tree version H n l.0 l.1) tree) l.1

  under_next : (B : Blobs) (root : Name) (path : List (List ℕ)) (before n : Name) (nodes : List Node) → Under 2 B root path before → IsPart B before nodes (Some n) → Under 2 B root path n
  under_next B root [] before n nodes under part = (under.0 ++ n ∷ [], goes_push B root before n under.0 nodes under.1 part)
  under_next B root (name ∷ path) before n nodes under part = (under.0, under.1, under_next B under.0 path before n nodes under.2 part)

  module _ (n : Name) (x : List ℕ) (nodes : List Node) (held : H Tree x) (named : naming.name x ≡ n) (tree : IsTree H n nodes) (version : ℕ) (root : Name) (from : Rooted version root) where
    mismeasured : (path : List (List ℕ)) → Under version H root path n → (node : Node) (what : NodeKind) → node.what ≡ what → Contains nodes node → IsMismeasured answers what → ⊥
    mismeasured path under node (NodeKind.Dir subtree) is among ill = absurd ill
    mismeasured path under node (NodeKind.File size content) is among (sum, m, differ) =
        let same : node ≡ record { name = node.name; what = NodeKind.File size content } = λ i. record { name = node.name; what = is i } in
        let f = file_spelled version H apart greatest_depth path n nodes node.name size content (root_spells_at version H apart root from.entries path n from.spells under) (listed version root from path n nodes under tree) (subst (λ (z : Node). Contains nodes z) same among) in
        differ (sym (measured content f.0 sum f.1 m) ∙ f.2)

    ill_not : (path : List (List ℕ)) → Under version H root path n → IsIllTree answers n x nodes → ⊥
    ill_not path under (inl ((version', top, r, (long, down, deep)), some)) =
        let above = rooted version' top r in
        let below : Under version' H top long n = under_grows version' T H grows top long n down in
        let broken : IsBroken version' H top long n = inr (inl (nodes, listed version' top above long n nodes below tree, some, omega (arith, deep))) in
        unbroken version' H apart top above.entries long n above.spells below broken
    ill_not path under (inr (inl (node, among, ill))) = mismeasured path under node node.what refl among ill
    ill_not path under (inr (inr (inl ((top, r, reach), none)))) =
        let above = rooted 2 top r in
        let need = reached_needed 2 T top Tree n reach in
        let below : Under 2 H top need.0 n = under_grows 2 T H grows top need.0 n need.1 in
        let broken : IsBroken 2 H top need.0 n = inl (x, held, named, none) in
        unbroken 2 H apart top above.entries need.0 n above.spells below broken
    ill_not path under (inr (inr (inr (before, (top, r, reach), wrong)))) =
        let above = rooted 2 top r in
        let need = reached_needed 2 T top Tree before reach in
        let down : Under 2 T top need.0 n = under_next T top need.0 before n wrong.0 need.1 wrong.3 in
        let broken : IsBroken 2 T top need.0 n = inr (inr (before, need.1, wrong)) in
        unbroken 2 H apart top above.entries need.0 n above.spells (under_grows 2 T H grows top need.0 n down) (broken_grows 2 T H grows top need.0 n broken)

  no_part : (x : List ℕ) → ((nodes : List Node) → IsTreeText x nodes → ⊥) → IsNoText 2 x
  no_part x none nodes next h = none nodes (record { root = h.root; json = h.json; tree = h.tree })

  no_tree : (x : List ℕ) → ((nodes : List Node) → IsTreeText x nodes → ⊥) → (nodes : List Node) → ¬ IsTreeText x nodes
  no_tree x none = none

  no_text : (version : ℕ) (x : List ℕ) → ((nodes : List Node) → IsTreeText x nodes → ⊥) → IsNoText version x
  no_text (suc (suc zero)) = no_part
  no_text _ = no_tree

  tree_well : (n : Name) (place : Place) (a : Answer) (what : FaultKind) → IsReachedBlob answers Tree n → LiesAt answers Tree n place → Contains answers.trees a → a.name ≡ n → TreeIs answers place a (Some what) → ⊥
  tree_well n place a what r at c is h = by what h
    where
      held : (x : List ℕ) × (a.bytes ≡ Some x) × H Tree x × (naming.name x ≡ a.name) × (length x ≡ place.length)
      held = tree_held a place c (subst (λ m. LiesAt answers Tree m place) (sym is) at)

      need : (version : ℕ) × (root : Name) × Rooted version root × IsNeeded version T root Tree a.name
      need = needed Tree a.name (subst (λ m. IsReachedBlob answers Tree m) (sym is) r)

      path : List (List ℕ)
      path = need.3.0

      under : Under need.0 H need.1 path a.name
      under = under_grows need.0 T H grows need.1 path a.name need.3.1

      by : (what : FaultKind) → TreeIs answers place a (Some what) → ⊥
      by FaultKind.Missing h = absurd (none-some held.0 (sym h ∙ held.1))
      by FaultKind.Name h = h.2 (ap naming.name (same_Some h.0 held.0 (sym h.1 ∙ held.1)) ∙ held.3)
      by FaultKind.Unreadable (x, bytes, named, inl none) =
          let same : held.0 ≡ x = same_Some held.0 x (sym held.1 ∙ bytes) in
          let broken : IsBroken need.0 H need.1 path a.name = inl (held.0, held.2, held.3, no_text need.0 held.0 (λ nodes text. none nodes (subst (λ y. IsTreeText y nodes) same text))) in
          unbroken need.0 H apart need.1 need.2.entries path a.name need.2.spells under broken
      by FaultKind.Unreadable (x, bytes, named, inr (nodes, tree, inl uneven)) = uneven (ap length (sym (same_Some held.0 x (sym held.1 ∙ bytes))) ∙ held.4)
      by FaultKind.Unreadable (x, bytes, named, inr (nodes, tree, inr ill)) =
          let same : held.0 ≡ x = same_Some held.0 x (sym held.1 ∙ bytes) in
          let there : H Tree x = subst (λ y. H Tree y) same held.2 in
          let lists : IsTree H a.name nodes = record { text = x; among = there; named = named; reads = tree } in
          ill_not a.name x nodes there named lists need.0 need.1 need.2 path under ill
      by FaultKind.Place h = absurd h
      by FaultKind.Unindexed h = absurd h

  -- ---- nothing is at fault

  blob_well : (k : BlobKind) (n : Name) (what : FaultKind) → IsReachedBlob answers k n → BlobIs answers k n (Some what) → ⊥
  blob_well Content n FaultKind.Unindexed r h = somewhere Content n r h
  blob_well Content n FaultKind.Missing r h = absurd h
  blob_well Content n FaultKind.Name r h = absurd h
  blob_well Content n FaultKind.Unreadable r h = absurd h
  blob_well Content n FaultKind.Place r h = absurd h
  blob_well Tree n what r (inl nowhere) = somewhere Tree n r nowhere.1
  blob_well Tree n what r (inr found) = tree_well n found.0 found.1 what r found.2 found.3 found.4 found.5

  found_well : (thing : Thing) (n : Name) (what : FaultKind) → IsFound answers thing n (Some what) → ⊥
  found_well Thing.Pack n what h = object_well Kind.Pack h.0 what h.1 h.3
  found_well Thing.Index n what h = object_well Kind.Index h.0 what h.1 h.3
  found_well Thing.Snapshot n what h = object_well Kind.Snapshot h.0 what h.1 h.3
  found_well Thing.Content n what h = blob_well Content n what h.0 h.1
  found_well Thing.Tree n what h = blob_well Tree n what h.0 h.1

  pub no_fault : (fault : CheckFault) → IsFaultOf answers fault → ⊥
  no_fault fault h = found_well fault.thing fault.name fault.what h
