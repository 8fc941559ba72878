-- One thing is found of each.
use Rattle.std.proofs.Common.{length, arith, ◌≡◌, ◌≢◌, ◌∷◌, [], ℕ, List, Option, Some, None, map, refl, sym, ap, subst, inl, inr, ◌∙◌, ◌⊎◌, false, Contains}
use Rattle.std.proofs.lemmas.Cmp.{tied_itself}
use Rattle.std.specs.Ordering.{ordering_then, ordering_reverse, is_gt}
use Rattle.std.specs.declared.cmp.Ordering.{Ordering}
use Rattle.std.specs.declared.cmp.Ordering.TheVariants.{Less, Equal, Greater}
use Rattle.repo_name.specs.Naming as naming
use Rattle.repo_name.specs.Naming.{name_cmp, Before}
use Rattle.repo_name.specs.declared.kinds.BlobKind.{BlobKind}
use Rattle.repo_name.specs.declared.kinds.BlobKind.TheVariants.{Content, Tree}
use Rattle.repo_name.specs.declared.kinds.Kind.{Kind}
use Rattle.repo_name.specs.declared.kinds.Thing.{Thing}
use Rattle.repo_name.specs.declared.names.Name.{Name}
use Rattle.repo_pack.specs.declared.places.Place.{Place}
use Rattle.repo_index.specs.IndexText.{fact_of, facts_in}
use Rattle.repo_index.specs.Order.{place_cmp, kind_cmp, place_first, IsAtMost, places_total, place_first_total}
use Rattle.repo_index.specs.declared.facts.Fact.{Fact}
use Rattle.repo_index.specs.declared.facts.PackFacts.{PackFacts}
use Rattle.repo_index.proofs.OneLemmas.{index_texts_one}
use Rattle.repo_index.proofs.OrderLemmas.{place_first_exact}
use Rattle.repo_store.specs.Pages.{Has, NamesAscend}
use Rattle.repo_tree.specs.SnapshotText.{HasSnapshot, IsSnapshotText, SnapshotFault}
use Rattle.repo_tree.specs.TreeText.{IsTreeText}
use Rattle.repo_tree.specs.declared.faults.TextError.{TextError}
use Rattle.repo_tree.specs.declared.snapshots.Snapshot.{Snapshot}
use Rattle.repo_tree.specs.declared.nodes.Node.{Node}
use Rattle.repo_tree.specs.declared.nodes.NodeKind.{NodeKind}
use Rattle.repo_name.proofs.Containing.{none_contained, contained_or}
use Rattle.repo_tree.proofs.TreeLemmas.{tree_texts_one}
use Rattle.repo_tree.specs.Versions.{greatest_version}
use Rattle.repo_session.specs.declared.outcomes.FaultKind.{FaultKind}
use Rattle.repo_session.specs.Traces.{Trace}
use Rattle.repo_check.specs.Answers.{Answer, Gathered, LiesAt, LiesNowhere}
use Rattle.repo_check.specs.Checking.{IsFound, OfBlob, OfObject, AreAnswers, AreGot, AreWell}
use Rattle.repo_check.specs.Findings.{ReadsAs, IsIllegible, IsExactOf, IsFitting, IsMisplaced, ObjectIs, Measure, IsMeasured, IsMismeasured, IsWellTree, IsIllTree, IsTreeAt, TreeIs, ContentIs, BlobIs}
use Rattle.repo_session.proofs.Rolling.{not_before, beyond}
use Rattle.repo_check.specs.Laws.{FoundOnce, WellHasNoFault}

-- ---- places

tie : (o p : Ordering) → p ≡ ordering_reverse o → is_gt o ≡ false → is_gt p ≡ false → o ≡ Equal
tie Less p e h g = let f : is_gt Greater ≡ false = subst (λ q. is_gt q ≡ false) e g in cc f
tie Equal p e h g = refl
tie Greater p e h g = cc h

then_equal : (a b : Ordering) → ordering_then a b ≡ Equal → b ≡ Equal
then_equal Less b h = cc
then_equal Equal b h = h
then_equal Greater b h = cc

pub place_one : (a b : Place) → IsAtMost a b → IsAtMost b a → a ≡ b
place_one a b ab ba =
    let n = a.pack in
    let same : place_cmp a b ≡ Equal = tie (place_cmp a b) (place_cmp b a) (places_total.antisymm b a) ab ba in
    let self = tied_itself place_first_total (fact_of Content n a) in
    let rest = then_equal (place_cmp a a) _ self in
    let whole : place_first (fact_of Content n a) (fact_of Content n b) ≡ Equal = ap (λ o. ordering_then o (ordering_then (kind_cmp Content Content) (name_cmp n n))) same ∙ rest in
    ap (λ (f : Fact). f.place) (place_first_exact (fact_of Content n a) (fact_of Content n b) whole)

-- ---- what can't be read, doesn't

unreadable_not : (x : List ℕ) (error : TextError) (s : Snapshot) → SnapshotFault greatest_version x error → error ≢ TextError.Version → error ≢ TextError.Memory → IsSnapshotText x s → ⊥
unreadable_not x TextError.TooLarge s fault v m is = let short = is.json.short in omega (arith, short, fault)
unreadable_not x TextError.Json s fault v m is = fault.1 is.root is.json
unreadable_not x TextError.Shape s fault v m is =
    let same : is.root ≡ fault.0 = (let p = is.json.is.reads in let q = fault.1.is.reads in cc (p, q)) in
    let has = subst (λ d. HasSnapshot d s) same is.members in
    elim fault.2 [ inl none ↦ none s.version has.version | inr misses ↦ misses.3 s has ]
unreadable_not x TextError.Version s fault v m is = v refl
unreadable_not x TextError.Params s fault v m is = fault
unreadable_not x TextError.Memory s fault v m is = m refl

pub illegible_not : (k : Kind) (x : List ℕ) → IsIllegible k x → ReadsAs k x → ⊥
illegible_not Kind.Pack x none is = none is
illegible_not Kind.Index x none is = none is
illegible_not Kind.Snapshot x none is = unreadable_not x none.0 is.0 none.1 none.2 none.3 is.1

module _ (answers : Gathered) where
  pub lies_one : (k : BlobKind) (n : Name) (a b : Place) → LiesAt answers k n a → LiesAt answers k n b → a ≡ b
  lies_one k n a b h g = place_one a b (h.least b g.given) (g.least a h.given)

  measure_one : (names : List Name) (a b : ℕ) → Measure answers names a → Measure answers names b → a ≡ b
  measure_one [] a b h g = h ∙ sym g
  measure_one (n ∷ names) a b h g =
      let places : h.0 ≡ g.0 = lies_one Content n h.0 g.0 h.2 g.2 in
      let rests : h.1 ≡ g.1 = measure_one names h.1 g.1 h.3 g.3 in
      cc (places, rests, h.4, g.4)

  measure_lies : (names : List Name) (a : ℕ) (n : Name) → Measure answers names a → Contains names n → (place : Place) × LiesAt answers Content n place
  measure_lies [] a n h c = absurd (none_contained n c)
  measure_lies (m ∷ names) a n h c = elim (contained_or m names n c) [
    | inl same ↦ (h.0, subst (λ o. LiesAt answers Content o h.0) same h.2)
    | inr more ↦ measure_lies names h.1 n h.3 more
  ]

  -- a file's size isn't right and wrong
  not_both : (what : NodeKind) → IsMeasured answers what → IsMismeasured answers what → ⊥
  not_both (NodeKind.File size content) (inl m) ill = ill.2 (measure_one content ill.0 size ill.1 m)
  not_both (NodeKind.File size content) (inr lost) ill = let lies = measure_lies content ill.0 lost.0 ill.1 lost.1 in lost.2 lies.0 lies.1.given
  not_both (NodeKind.Dir subtree) m ill = ill

  pub well_not_ill : (n : Name) (x : List ℕ) (nodes : List Node) → IsWellTree answers n x nodes → IsIllTree answers n x nodes → ⊥
  well_not_ill n x nodes well (inl deep) = deep.1 (well.bare deep.0)
  well_not_ill n x nodes well (inr (inl ill)) = not_both ill.0.what (well.measured ill.0 ill.1) ill.2
  well_not_ill n x nodes well (inr (inr (inl (followed, none)))) = (let p = well.part followed in none nodes p.0 p.1)
  well_not_ill n x nodes well (inr (inr (inr (before, followed, wrong)))) = well.onward before followed wrong

  -- ---- one thing of an object

  came_one : (o : Option (List ℕ)) (x y : List ℕ) → o ≡ Some x → o ≡ Some y → x ≡ y
  came_one o x y h g = cc (h, g)

  came_none : (o : Option (List ℕ)) (x : List ℕ) → o ≡ Some x → o ≡ None → ⊥
  came_none o x h g = absurd (cc (h, g))

  fitting_reads : (k : Kind) (x : List ℕ) → IsFitting answers k x → ReadsAs k x
  fitting_reads Kind.Pack x h = h
  fitting_reads Kind.Index x h = (h.0, h.1)
  fitting_reads Kind.Snapshot x h = h

  misplaced_reads : (k : Kind) (x : List ℕ) → IsMisplaced answers k x → ReadsAs k x
  misplaced_reads Kind.Pack x h = absurd h
  misplaced_reads Kind.Index x h = (h.0, h.1)
  misplaced_reads Kind.Snapshot x h = absurd h

  fitting_not_misplaced : (k : Kind) (x : List ℕ) → IsFitting answers k x → IsMisplaced answers k x → ⊥
  fitting_not_misplaced Kind.Pack x h g = g
  fitting_not_misplaced Kind.Index x h g =
      let same : g.0 ≡ h.0 = index_texts_one x g.0 h.0 g.1 h.1 in
      let fact = g.2.0 in
      let among : Contains (facts_in h.0) fact = subst (λ (ps : List PackFacts). Contains (facts_in ps) fact) same g.2.1 in
      g.2.2 (subst (λ (ps : List PackFacts). IsExactOf answers ps fact.place.pack) (sym same) (h.2 fact among))
  fitting_not_misplaced Kind.Snapshot x h g = g

  -- bytes came, and have their name; so they have or haven't
  record Named (a : Answer) (P : List ℕ → Type 0) : Type 0 where
    pub bytes : List ℕ
    pub came : a.bytes ≡ Some bytes
    pub named : naming.name bytes ≡ a.name
    pub holds : P bytes

  -- what is found where they came with their name
  abbrev Inside : Kind → Option FaultKind → List ℕ → Type 0
  Inside k None x = IsFitting answers k x
  Inside k (Some FaultKind.Missing) x = ⊥
  Inside k (Some FaultKind.Name) x = ⊥
  Inside k (Some FaultKind.Unreadable) x = IsIllegible k x
  Inside k (Some FaultKind.Place) x = IsMisplaced answers k x
  Inside k (Some FaultKind.Unindexed) x = ⊥

  inside_once : (k : Kind) (x : List ℕ) (f g : Option FaultKind) → Inside k f x → Inside k g x → f ≡ g
  inside_once k x None None a b = refl
  inside_once k x None (Some FaultKind.Unreadable) a b = absurd (illegible_not k x b (fitting_reads k x a))
  inside_once k x None (Some FaultKind.Place) a b = absurd (fitting_not_misplaced k x a b)
  inside_once k x (Some FaultKind.Unreadable) None a b = absurd (illegible_not k x a (fitting_reads k x b))
  inside_once k x (Some FaultKind.Unreadable) (Some FaultKind.Unreadable) a b = refl
  inside_once k x (Some FaultKind.Unreadable) (Some FaultKind.Place) a b = absurd (illegible_not k x a (misplaced_reads k x b))
  inside_once k x (Some FaultKind.Place) None a b = absurd (fitting_not_misplaced k x b a)
  inside_once k x (Some FaultKind.Place) (Some FaultKind.Unreadable) a b = absurd (illegible_not k x b (misplaced_reads k x a))
  inside_once k x (Some FaultKind.Place) (Some FaultKind.Place) a b = refl
  inside_once k x (Some FaultKind.Missing) g a b = absurd a
  inside_once k x (Some FaultKind.Name) g a b = absurd a
  inside_once k x (Some FaultKind.Unindexed) g a b = absurd a
  inside_once k x f (Some FaultKind.Missing) a b = absurd b
  inside_once k x f (Some FaultKind.Name) a b = absurd b
  inside_once k x f (Some FaultKind.Unindexed) a b = absurd b

  -- how far it is known what came: nothing, bytes of another name, or of this one
  data Stage (a : Answer) (P : Option FaultKind → List ℕ → Type 0) (f : Option FaultKind) : Type 0 where
    absent : f ≡ Some FaultKind.Missing → a.bytes ≡ None → Stage a P f
    other : f ≡ Some FaultKind.Name → (x : List ℕ) → a.bytes ≡ Some x → naming.name x ≢ a.name → Stage a P f
    inside : Named a (P f) → Stage a P f

  stage_once : (a : Answer) (P : Option FaultKind → List ℕ → Type 0) → ((x : List ℕ) (f g : Option FaultKind) → P f x → P g x → f ≡ g) → (f g : Option FaultKind) → Stage a P f → Stage a P g → f ≡ g
  stage_once a P once f g (absent is none) (absent so gone) = is ∙ sym so
  stage_once a P once f g (absent is none) (other so x came differs) = absurd (came_none a.bytes x came none)
  stage_once a P once f g (absent is none) (inside n) = absurd (came_none a.bytes n.bytes n.came none)
  stage_once a P once f g (other is x came differs) (absent so gone) = absurd (came_none a.bytes x came gone)
  stage_once a P once f g (other is x came differs) (other so y there not) = is ∙ sym so
  stage_once a P once f g (other is x came differs) (inside n) = absurd (differs (ap naming.name (came_one a.bytes x n.bytes came n.came) ∙ n.named))
  stage_once a P once f g (inside n) (absent so gone) = absurd (came_none a.bytes n.bytes n.came gone)
  stage_once a P once f g (inside n) (other so x came differs) = absurd (differs (ap naming.name (came_one a.bytes x n.bytes came n.came) ∙ n.named))
  stage_once a P once f g (inside n) (inside m) = once n.bytes f g n.holds (subst (P g) (came_one a.bytes m.bytes n.bytes m.came n.came) m.holds)

  object_stage : (k : Kind) (a : Answer) (f : Option FaultKind) → ObjectIs answers k a f → Stage a (Inside k) f
  object_stage k a None h = inside (record { bytes = h.0; came = h.1; named = h.2; holds = h.3 })
  object_stage k a (Some FaultKind.Missing) h = absent refl h
  object_stage k a (Some FaultKind.Name) h = other refl h.0 h.1 h.2
  object_stage k a (Some FaultKind.Unreadable) h = inside (record { bytes = h.0; came = h.1; named = h.2; holds = h.3 })
  object_stage k a (Some FaultKind.Place) h = inside (record { bytes = h.0; came = h.1; named = h.2; holds = h.3 })
  object_stage k a (Some FaultKind.Unindexed) h = absurd h

  pub object_once : (k : Kind) (a : Answer) (f g : Option FaultKind) → ObjectIs answers k a f → ObjectIs answers k a g → f ≡ g
  object_once k a f g h i = stage_once a (Inside k) (inside_once k) f g (object_stage k a f h) (object_stage k a g i)

  -- ---- one thing of a blob

  abbrev InTree : Place → Name → Option FaultKind → List ℕ → Type 0
  InTree place n None x = (nodes : List Node) × IsTreeAt place x nodes × IsWellTree answers n x nodes
  InTree place n (Some FaultKind.Unreadable) x = ((nodes : List Node) → ¬ IsTreeText x nodes) ⊎ ((nodes : List Node) × IsTreeText x nodes × ((length x ≢ place.length) ⊎ IsIllTree answers n x nodes))
  InTree place n (Some FaultKind.Missing) x = ⊥
  InTree place n (Some FaultKind.Name) x = ⊥
  InTree place n (Some FaultKind.Place) x = ⊥
  InTree place n (Some FaultKind.Unindexed) x = ⊥

  tree_not_both : (place : Place) (n : Name) (x : List ℕ) → InTree place n None x → InTree place n (Some FaultKind.Unreadable) x → ⊥
  tree_not_both place n x well (inl none) = none well.0 well.1.reads
  tree_not_both place n x well (inr (nodes, reads, inl uneven)) = uneven well.1.len
  tree_not_both place n x well (inr (nodes, reads, inr ill)) =
      let same : nodes ≡ well.0 = tree_texts_one x nodes well.0 reads well.1.reads in
      well_not_ill n x well.0 well.2 (subst (λ ns. IsIllTree answers n x ns) same ill)

  in_tree_once : (place : Place) (n : Name) (x : List ℕ) (f g : Option FaultKind) → InTree place n f x → InTree place n g x → f ≡ g
  in_tree_once place n x None None a b = refl
  in_tree_once place n x None (Some FaultKind.Unreadable) a b = absurd (tree_not_both place n x a b)
  in_tree_once place n x (Some FaultKind.Unreadable) None a b = absurd (tree_not_both place n x b a)
  in_tree_once place n x (Some FaultKind.Unreadable) (Some FaultKind.Unreadable) a b = refl
  in_tree_once place n x (Some FaultKind.Missing) g a b = absurd a
  in_tree_once place n x (Some FaultKind.Name) g a b = absurd a
  in_tree_once place n x (Some FaultKind.Place) g a b = absurd a
  in_tree_once place n x (Some FaultKind.Unindexed) g a b = absurd a
  in_tree_once place n x f (Some FaultKind.Missing) a b = absurd b
  in_tree_once place n x f (Some FaultKind.Name) a b = absurd b
  in_tree_once place n x f (Some FaultKind.Place) a b = absurd b
  in_tree_once place n x f (Some FaultKind.Unindexed) a b = absurd b

  tree_stage : (place : Place) (a : Answer) (f : Option FaultKind) → TreeIs answers place a f → Stage a (InTree place a.name) f
  tree_stage place a None h = inside (record { bytes = h.0; came = h.2; named = h.3; holds = (h.1, h.4, h.5) })
  tree_stage place a (Some FaultKind.Missing) h = absent refl h
  tree_stage place a (Some FaultKind.Name) h = other refl h.0 h.1 h.2
  tree_stage place a (Some FaultKind.Unreadable) h = inside (record { bytes = h.0; came = h.1; named = h.2; holds = h.3 })
  tree_stage place a (Some FaultKind.Place) h = absurd h
  tree_stage place a (Some FaultKind.Unindexed) h = absurd h

  pub tree_once : (place : Place) (a : Answer) (f g : Option FaultKind) → TreeIs answers place a f → TreeIs answers place a g → f ≡ g
  tree_once place a f g h i = stage_once a (InTree place a.name) (in_tree_once place a.name) f g (tree_stage place a f h) (tree_stage place a g i)

  -- what is found of content: a place, or none
  content_or : (n : Name) (f : Option FaultKind) → ContentIs answers n f → ((f ≡ None) × ((place : Place) × LiesAt answers Content n place)) ⊎ ((f ≡ Some FaultKind.Unindexed) × LiesNowhere answers Content n)
  content_or n None h = inl (refl, h)
  content_or n (Some FaultKind.Unindexed) h = inr (refl, h)
  content_or n (Some FaultKind.Missing) h = absurd h
  content_or n (Some FaultKind.Name) h = absurd h
  content_or n (Some FaultKind.Place) h = absurd h
  content_or n (Some FaultKind.Unreadable) h = absurd h

  pub content_once : (n : Name) (f g : Option FaultKind) → ContentIs answers n f → ContentIs answers n g → f ≡ g
  content_once n f g h i = elim (content_or n f h) [
    | inl a ↦ elim (content_or n g i) [ inl b ↦ a.0 ∙ sym b.0 | inr b ↦ absurd (b.1 a.1.0 a.1.1.given) ]
    | inr a ↦ elim (content_or n g i) [ inl b ↦ absurd (a.1 b.1.0 b.1.1.given) | inr b ↦ a.0 ∙ sym b.0 ]
  ]

  pub blob_once : ((a b : Answer) → Contains answers.trees a → Contains answers.trees b → a.name ≡ b.name → a ≡ b) → (k : BlobKind) (n : Name) (f g : Option FaultKind) → BlobIs answers k n f → BlobIs answers k n g → f ≡ g
  blob_once single Content n f g h i = content_once n f g h i
  blob_once single Tree n f g (inl h) (inl i) = h.0 ∙ sym i.0
  blob_once single Tree n f g (inl h) (inr i) = absurd (h.1 i.0 i.2.given)
  blob_once single Tree n f g (inr h) (inl i) = absurd (i.1 h.0 h.2.given)
  blob_once single Tree n f g (inr h) (inr i) =
      let places : i.0 ≡ h.0 = lies_one Tree n i.0 h.0 i.2 h.2 in
      let same : i.1 ≡ h.1 = single i.1 h.1 i.3 h.3 (i.4 ∙ sym h.4) in
      let there : TreeIs answers h.0 i.1 g = subst (λ p. TreeIs answers p i.1 g) places i.5 in
      tree_once h.0 h.1 f g h.5 (subst (λ a. TreeIs answers h.0 a g) same there)

-- ---- one answer of a name

pub has_name : (answers : List Answer) (a : Answer) → Contains answers a → Has (map (λ (b : Answer). b.name) answers) a.name
has_name [] a h = absurd (none_contained a h)
has_name (b ∷ answers) a h = elim (contained_or b answers a h) [ inl is ↦ inl (ap (λ (c : Answer). c.name) (sym is)) | inr more ↦ inr (has_name answers a more) ]

pub named_once : (after : Option Name) (answers : List Answer) → NamesAscend after (map (λ (a : Answer). a.name) answers) → (a b : Answer) → Contains answers a → Contains answers b → a.name ≡ b.name → a ≡ b
named_once after [] h a b ha hb same = absurd (none_contained a ha)
named_once after (c ∷ answers) h a b ha hb same = elim (contained_or c answers a ha) [
  | inl is ↦ elim (contained_or c answers b hb) [
    | inl so ↦ sym is ∙ so
    | inr later ↦ absurd (not_before c.name (subst (λ o. Before c.name o) (sym (ap (λ (d : Answer). d.name) is ∙ same)) (beyond c.name (map (λ (d : Answer). d.name) answers) h.1 b.name (has_name answers b later))))
  ]
  | inr later ↦ elim (contained_or c answers b hb) [
    | inl so ↦ absurd (not_before c.name (subst (λ o. Before c.name o) (same ∙ sym (ap (λ (d : Answer). d.name) so)) (beyond c.name (map (λ (d : Answer). d.name) answers) h.1 a.name (has_name answers a later))))
    | inr also ↦ named_once (Some c.name) answers h.1 a b later also same
  ]
]

pub got_once : (es : Trace) (k : Kind) (answers : List Answer) → AreGot es k answers → (a b : Answer) → Contains answers a → Contains answers b → a.name ≡ b.name → a ≡ b
got_once es k answers h = named_once None answers (subst (λ ns. NamesAscend None ns) (sym h.names) h.listed.rise.ascend)

of_object_once : (es : Trace) (answers : Gathered) → AreAnswers es answers → (k : Kind) (n : Name) (f g : Option FaultKind) → OfObject answers k n f → OfObject answers k n g → f ≡ g
of_object_once es answers are k n f g h i =
    let same : i.0 ≡ h.0 = got_once es k (answers.objects k) (are.objects k) i.0 h.0 i.1 h.1 (i.2 ∙ sym h.2) in
    object_once answers k h.0 f g h.3 (subst (λ a. ObjectIs answers k a g) same i.3)

pub found_once : FoundOnce
found_once es answers are Thing.Pack n f g h i = of_object_once es answers are Kind.Pack n f g h i
found_once es answers are Thing.Index n f g h i = of_object_once es answers are Kind.Index n f g h i
found_once es answers are Thing.Snapshot n f g h i = of_object_once es answers are Kind.Snapshot n f g h i
found_once es answers are Thing.Content n f g h i = blob_once answers are.trees.so_far.once Content n f g h.1 i.1
found_once es answers are Thing.Tree n f g h i = blob_once answers are.trees.so_far.once Tree n f g h.1 i.1

-- ---- well, and no fault

never : (what : FaultKind) → None ≡ Some what → ⊥
never what h = cc h

module _ (es : Trace) (answers : Gathered) (are : AreAnswers es answers) (well : AreWell answers) where
  no_object : (k : Kind) (n : Name) (what : FaultKind) → OfObject answers k n (Some what) → ⊥
  no_object k n what h = never what (object_once answers k h.0 None (Some what) (well.objects k h.0 h.1) h.3)

  no_blob : (k : BlobKind) (n : Name) (what : FaultKind) → OfBlob answers k n (Some what) → ⊥
  no_blob k n what h = never what (blob_once answers are.trees.so_far.once k n None (Some what) (well.blobs k n h.0) h.1)

  no_thing : (thing : Thing) (n : Name) (what : FaultKind) → IsFound answers thing n (Some what) → ⊥
  no_thing Thing.Pack n what h = no_object Kind.Pack n what h
  no_thing Thing.Index n what h = no_object Kind.Index n what h
  no_thing Thing.Snapshot n what h = no_object Kind.Snapshot n what h
  no_thing Thing.Content n what h = no_blob Content n what h
  no_thing Thing.Tree n what h = no_blob Tree n what h

pub well_has_no_fault : WellHasNoFault
well_has_no_fault es answers are well fault h = no_thing es answers are well fault.thing fault.name fault.what h
