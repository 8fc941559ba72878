-- What came of all objects, and what that gives.
use Rattle.std.proofs.Common.{◌≡◌, ◌∷◌, [], ℕ, Bool, List, Option, Some, refl, sym, ap, subst, inl, inr, ◌∙◌, Contains}
use Rattle.std.specs.List.{flat_map}
use Rattle.std.proofs.lemmas.Option.{same_Some}
use Rattle.repo_name.specs.Naming as naming
use Rattle.repo_name.specs.declared.kinds.BlobKind.{BlobKind}
use Rattle.repo_name.specs.declared.kinds.Kind.{Kind}
use Rattle.repo_name.specs.declared.names.Name.{Name}
use Rattle.repo_pack.specs.declared.places.Place.{Place}
use Rattle.repo_index.specs.IndexText.{IsIndexText, fact_of, facts_in}
use Rattle.repo_index.specs.Lookups.{IsLeast}
use Rattle.repo_index.specs.declared.facts.Fact.{Fact}
use Rattle.repo_index.specs.declared.facts.PackFacts.{PackFacts}
use Rattle.repo_index.proofs.OneLemmas.{index_texts_one}
use Rattle.repo_name.proofs.Containing.{contains_flat, flat_contains}
use Rattle.repo_tree.specs.declared.snapshots.Snapshot.{Snapshot}
use Rattle.repo_reach.specs.Collected as collected
use Rattle.repo_reach.specs.Collected.{follows_in, version_by}
use Rattle.repo_reach.specs.declared.roots.Root.{Root}
use Rattle.repo_reach.proofs.Leading.{same_version}
use Rattle.repo_session.specs.Traces.{Trace}
use Rattle.repo_session.specs.declared.outcomes.FaultKind.{FaultKind}
use Rattle.repo_name.proofs.Containing.{contained_or, first_contained, later_contained, none_contained}
use Rattle.repo_tree.proofs.SnapshotLemmas.{snapshot_texts_one}
use Rattle.repo_tree.specs.SnapshotText.{IsSnapshotText}
use Rattle.repo_check.specs.Answers.{Answer, Gathered, Came, GivesFact, GivesRoot, LiesAt}
use Rattle.repo_check.specs.Arrivals.{AnswersBytes, IsFaulty, IsIndexOf, IsRootOf}
use Rattle.repo_check.specs.Findings.{IsIllegible, ReadsAs}
use Rattle.repo_check.specs.Gathering.{facts_noted, root_noted}
use Rattle.repo_check.specs.Rounds.{IsNoteOf, Match}
use Rattle.repo_check.specs.Surveys.{HasObjects, IsSurveyed, KnowsNotes, RoundsView, objects_in}
use Rattle.repo_check.specs.Walks.{IsVisit, WalkReads, WalkView}
use Rattle.repo_check.specs.declared.rounds.Note.{Note}
use Rattle.repo_check.specs.declared.visiting.Visit.{Visit}
use Rattle.repo_check.proofs.Finding.{illegible_not}

-- ---- lists that match

pub matched : {A B : Type 0} (R : A → B → Type 0) (xs : List A) (ys : List B) → Match R xs ys → (x : A) → Contains xs x → (y : B) × Contains ys y × R x y
matched R [] ys m x c = absurd (none_contained x c)
matched R (a ∷ xs) [] m x c = absurd m
matched {A} {B} R (a ∷ xs) (b ∷ ys) m x c = elim (contained_or a xs x c) [
  | inl same ↦ (b, first_contained b ys, subst (λ (z : A). R z b) same m.0)
  | inr more ↦ (let rest = matched R xs ys m.1 x more in (rest.0, later_contained b ys rest.0 rest.1, rest.2))
]

matched_back : {A B : Type 0} (R : A → B → Type 0) (xs : List A) (ys : List B) → Match R xs ys → (y : B) → Contains ys y → (x : A) × Contains xs x × R x y
matched_back R xs [] m y c = absurd (none_contained y c)
matched_back R [] (b ∷ ys) m y c = absurd m
matched_back {A} {B} R (a ∷ xs) (b ∷ ys) m y c = elim (contained_or b ys y c) [
  | inl same ↦ (a, first_contained a xs, subst (λ (z : B). R a z) same m.0)
  | inr more ↦ (let rest = matched_back R xs ys m.1 y more in (rest.0, later_contained a xs rest.0 rest.1, rest.2))
]

abbrev root_of_snapshot : Snapshot → Root
root_of_snapshot snapshot = collected.root_of snapshot.tree snapshot.version

-- an answer whose bytes read isn't at fault by itself
pub faulty_not : (answers : Gathered) (k : Kind) (a : Answer) (x : List ℕ) (what : FaultKind) → AnswersBytes a x → ReadsAs k x → IsFaulty k a what → ⊥
faulty_not answers k a x FaultKind.Missing has reads h = (let none = h answers in let some = has.0 in cc (none, some))
faulty_not answers k a x FaultKind.Name has reads h =
    let f = h answers in
    f.2 (ap naming.name (same_Some f.0 x (sym f.1 ∙ has.0)) ∙ has.1)
faulty_not answers k a x FaultKind.Unreadable has reads h =
    let f = h answers in
    illegible_not k x (subst (λ y. IsIllegible k y) (same_Some f.0 x (sym f.1 ∙ has.0)) f.3) reads
faulty_not answers k a x FaultKind.Place has reads h = h
faulty_not answers k a x FaultKind.Unindexed has reads h = h answers

-- an answer under the name for which it came
pub came_as : (answers : List Answer) (a : Answer) (x : List ℕ) → Contains answers a → AnswersBytes a x → Came answers a.name x
came_as answers a x c has = record { among = subst (λ (b : Option (List ℕ)). Contains answers (record { name = a.name; bytes = b })) has.0 c; named = has.1 }

-- all objects came, and of trees what came so far; roots lead to each visit
pub record HasCome (rounds : RoundsView) (walk : WalkView) (es : Trace) : Type 0 where
  pub notes : KnowsNotes rounds es
  pub roots : List Root
  pub objects : HasObjects rounds walk roots es
  pub led : (v : Visit) → Contains walk.visits v → IsVisit walk.known.kept roots v
  pub answers : List Answer
  pub reads : WalkReads walk answers es

-- all answers that came so far
abbrev pub answers_of : {rounds : RoundsView} {walk : WalkView} {es : Trace} → HasCome rounds walk es → Gathered
answers_of s = record { objects = objects_in s.notes; trees = s.answers }

-- where all came, so it did
abbrev pub came_in : {rounds : RoundsView} {walk : WalkView} {es : Trace} → IsSurveyed rounds walk es → HasCome rounds walk es
came_in s = record { notes = s.notes; roots = s.roots; objects = s.objects; led = s.over.led; answers = s.answers; reads = s.reads }

module _ (rounds : RoundsView) (walk : WalkView) (es : Trace) (s : HasCome rounds walk es) where
  abbrev A : Gathered
  A = answers_of s

  abbrev facts : List Fact
  facts = walk.known.facts

  -- ---- facts

  pub given_of : (fact : Fact) → Contains facts fact → GivesFact A fact
  given_of fact c =
      let given : Contains (flat_map facts_noted rounds.indexes.notes) fact = elim ((s.objects.facts fact).0 c) [ inl none ↦ absurd (none_contained fact none) | inr there ↦ there ] in
      let from = flat_contains facts_noted rounds.indexes.notes fact given in
      of_note from.0 from.1 from.2
    where
      of_note : (note : Note (List PackFacts)) → Contains rounds.indexes.notes note → Contains (facts_noted note) fact → GivesFact A fact
      of_note (Note.Well packs) among inside =
          let a = matched_back (IsNoteOf Kind.Index IsIndexOf) s.notes.indexes.answers rounds.indexes.notes s.notes.indexes.noted (Note.Well packs) among in
          let is : IsIndexOf a.0 packs = a.2 in
          record { index = a.0.name; text = is.0; came = came_as s.notes.indexes.answers a.0 is.0 a.1 is.1; says = record { packs = packs; text = is.2; among = inside } }
      of_note (Note.Fault what) among inside = absurd (none_contained fact inside)

  pub contains_of : (fact : Fact) → GivesFact A fact → Contains facts fact
  contains_of fact g =
      let a : Answer = record { name = g.index; bytes = Some g.text } in
      let note = matched (IsNoteOf Kind.Index IsIndexOf) s.notes.indexes.answers rounds.indexes.notes s.notes.indexes.noted a g.came.among in
      (s.objects.facts fact).1 (inr (contains_flat facts_noted rounds.indexes.notes note.0 fact note.1 (in_note note.0 note.2)))
    where
      in_note : (note : Note (List PackFacts)) → IsNoteOf Kind.Index IsIndexOf (record { name = g.index; bytes = Some g.text }) note → Contains (facts_noted note) fact
      in_note (Note.Well packs) is =
          let x : g.text ≡ is.0 = same_Some g.text is.0 is.1.0 in
          let same : g.says.packs ≡ packs = index_texts_one g.text g.says.packs packs g.says.text (subst (λ y. IsIndexText y packs) (sym x) is.2) in
          subst (λ (ps : List PackFacts). Contains (facts_in ps) fact) same g.says.among
      in_note (Note.Fault what) is = absurd (faulty_not A Kind.Index (record { name = g.index; bytes = Some g.text }) g.text what (refl, g.came.named) (g.says.packs, g.says.text) is)

  pub lies_of : (k : BlobKind) (n : Name) (place : Place) → IsLeast facts k n place → LiesAt A k n place
  lies_of k n place h = record { given = given_of (fact_of k n place) h.among; least = λ other g. h.least other (contains_of (fact_of k n other) g) }

  pub least_of : (k : BlobKind) (n : Name) (place : Place) → LiesAt A k n place → IsLeast facts k n place
  least_of k n place h = record { among = contains_of (fact_of k n place) h.given; least = λ other c. h.least other (given_of (fact_of k n other) c) }

  -- ---- roots

  pub root_of : (r : Root) → Contains s.roots r → GivesRoot A (version_by r.follows) r.tree
  root_of r c =
      let from = flat_contains root_noted rounds.snapshots.notes r (subst (λ rs. Contains rs r) s.objects.roots_are c) in
      of_note from.0 from.1 from.2
    where
      of_note : (note : Note Root) → Contains rounds.snapshots.notes note → Contains (root_noted note) r → GivesRoot A (version_by r.follows) r.tree
      of_note (Note.Well root) among inside =
          let same : root ≡ r = elim (contained_or root [] r inside) [ inl is ↦ is | inr none ↦ absurd (none_contained r none) ] in
          let a = matched_back (IsNoteOf Kind.Snapshot IsRootOf) s.notes.snapshots.answers rounds.snapshots.notes s.notes.snapshots.noted (Note.Well root) among in
          let is : IsRootOf a.0 root = a.2 in
          let whole : root_of_snapshot is.1 ≡ r = is.4 ∙ same in
          record {
            name = a.0.name;
            text = is.0;
            snapshot = is.1;
            came = came_as s.notes.snapshots.answers a.0 is.0 a.1 is.2;
            reads = is.3;
            version_is = sym (same_version is.1.version is.3.known) ∙ ap (λ (z : Root). version_by z.follows) whole;
            root_is = ap (λ (z : Root). z.tree) whole;
          }
      of_note (Note.Fault what) among inside = absurd (none_contained r inside)

  pub of_root : (version : ℕ) (n : Name) → GivesRoot A version n → (follows : Bool) × (version_by follows ≡ version) × Contains s.roots (record { tree = n; follows = follows })
  of_root version n h =
      let a : Answer = record { name = h.name; bytes = Some h.text } in
      let note = matched (IsNoteOf Kind.Snapshot IsRootOf) s.notes.snapshots.answers rounds.snapshots.notes s.notes.snapshots.noted a h.came.among in
      let root : Root = record { tree = n; follows = follows_in h.snapshot.version } in (
        follows_in h.snapshot.version,
        same_version h.snapshot.version h.reads.known ∙ h.version_is,
        subst (λ rs. Contains rs root) (sym s.objects.roots_are) (contains_flat root_noted rounds.snapshots.notes note.0 root note.1 (in_note note.0 note.2)),
      )
    where
      in_note : (note : Note Root) → IsNoteOf Kind.Snapshot IsRootOf (record { name = h.name; bytes = Some h.text }) note → Contains (root_noted note) (record { tree = n; follows = follows_in h.snapshot.version })
      in_note (Note.Well root) is =
          let x : is.0 ≡ h.text = same_Some is.0 h.text (sym is.2.0) in
          let same : is.1 ≡ h.snapshot = snapshot_texts_one h.text is.1 h.snapshot (subst (λ y. IsSnapshotText y is.1) x is.3) h.reads in
          let whole : root ≡ record { tree = n; follows = follows_in h.snapshot.version } = sym is.4 ∙ ap root_of_snapshot same ∙ (λ i. record { tree = h.root_is i; follows = follows_in h.snapshot.version }) in
          subst (λ (r : Root). Contains (root ∷ []) r) whole (first_contained root [])
      in_note (Note.Fault what) is = absurd (faulty_not A Kind.Snapshot (record { name = h.name; bytes = Some h.text }) h.text what (refl, h.came.named) (h.snapshot, h.reads) is)
