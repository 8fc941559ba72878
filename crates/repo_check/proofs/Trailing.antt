-- What a survey knows once all objects came.
use Rattle.std.proofs.Common.{◌≡◌, ◌++◌, ◌∷◌, [], ℕ, List, Option, Some, None, refl, sym, ap, subst, inl, inr, ◌∙◌, Contains}
use Rattle.std.specs.List.{flat_map}
use Rattle.std.proofs.lemmas.List.Elements.{Contains-append_cases, Contains-append_left}
use Rattle.std.proofs.lemmas.Option.{same_Some}
use Rattle.repo_name.specs.declared.kinds.BlobKind.TheVariants.{Tree}
use Rattle.repo_name.specs.declared.kinds.Kind.{Kind}
use Rattle.repo_name.specs.declared.names.Name.{Name}
use Rattle.repo_name.specs.declared.tokens.Token.{Token}
use Rattle.repo_wire.specs.declared.messages.Ask.{Ask}
use Rattle.repo_wire.specs.declared.messages.Code.{Code}
use Rattle.repo_wire.specs.declared.messages.Say.{Say}
use Rattle.repo_index.specs.IndexText.{fact_of, facts_in}
use Rattle.repo_index.specs.Lookups.{Joins}
use Rattle.repo_index.specs.declared.facts.Fact.{Fact}
use Rattle.repo_index.specs.declared.facts.PackFacts.{PackFacts}
use Rattle.repo_session.specs.Blobs.{range_of}
use Rattle.repo_session.specs.Order.{Task, IsWorking, May}
use Rattle.repo_session.specs.Traces.{Each, Exchange, Trace, ReadFact, silent}
use Rattle.repo_session.specs.declared.parts.Came.{Came}
use Rattle.repo_name.proofs.Containing.{contains_got}
use Rattle.repo_reach.specs.declared.roots.Root.{Root}
use Rattle.repo_name.proofs.Containing.{contained_or, none_contained}
use Rattle.repo_check.specs.Answers.{Answer, IsTreeAnswer}
use Rattle.repo_check.specs.Arrivals.{IsIndexOf, IsPackOf, IsRootOf}
use Rattle.repo_check.specs.Checking.{CameFor, IsRanged}
use Rattle.repo_check.specs.Gathering.{facts_noted}
use Rattle.repo_check.specs.Rounds.{AreNoted, IsNoteOf, IsWholeRound, KnowsRound, Match, PagesRound, RoundView, TakesObject, TurnsWith}
use Rattle.repo_check.specs.Surveys.{AtTrees, GoesToTrees, HasObjects, IsUnranged, KnowsNotes, RoundsView, Surveys, SurveysOn, next_of}
use Rattle.repo_check.specs.Walks.{Awaits, IsTreeDue, IsSomething, IsTold, Knowledge, WalkReads, TakesNote, WalkView, WalksOn, AreKnownTrees}
use Rattle.repo_check.specs.declared.knowing.TreeNote.{TreeNote}
use Rattle.repo_check.specs.declared.rounds.Note.{Note}
use Rattle.repo_check.specs.declared.visiting.Visit.{Visit}
use Rattle.repo_check.proofs.Reading.{noted_walks, seen_more}
use Rattle.repo_check.proofs.Rounding.{IsAside, IsNoGet, noted_grow, noted_page, steps_as, turns_as, turns_with}
use Rattle.repo_check.proofs.Surveying.{getting_packs, listing_packs, ranging, unranged_on, whole_aside}

-- ---- what was read of an index

of_index : (es : Trace) (a : Answer) (packs : List PackFacts) → IsIndexOf a packs → CameFor es Kind.Index a.name a.bytes → (fact : Fact) → Contains (facts_in packs) fact → ReadFact es fact
of_index es a packs is got fact among = record {
  index = a.name;
  text = is.0;
  read = (subst (λ (b : Option (List ℕ)). CameFor es Kind.Index a.name b) is.1.0 got, is.1.1);
  says = record { packs = packs; text = is.2; among = among };
}

one_read : (es : Trace) (answers : List Answer) (notes : List (Note (List PackFacts))) → Match (IsNoteOf Kind.Index IsIndexOf) answers notes → Each (λ (a : Answer). CameFor es Kind.Index a.name a.bytes) answers → (fact : Fact)
    → Contains (flat_map facts_noted notes) fact → ReadFact es fact
one_read es [] [] m g fact c = absurd (none_contained fact c)
one_read es (a ∷ answers) (Note.Well packs ∷ notes) m g fact c = elim (Contains-append_cases (facts_in packs) (flat_map facts_noted notes) fact c) [
  | inl this ↦ of_index es a packs m.0 g.0 fact this
  | inr more ↦ one_read es answers notes m.1 g.1 fact more
]
one_read es (a ∷ answers) (Note.Fault what ∷ notes) m g fact c = one_read es answers notes m.1 g.1 fact c
one_read es [] (note ∷ notes) m g fact c = absurd m
one_read es (a ∷ answers) [] m g fact c = absurd m

-- what is known of places was read of an index
pub was_read : (rounds : RoundsView) (facts : List Fact) (fact : Fact) (es : Trace) → KnowsNotes rounds es → Joins [] (flat_map facts_noted rounds.indexes.notes) facts → Contains facts fact → ReadFact es fact
was_read rounds facts fact es notes joins among =
    let given : Contains (flat_map facts_noted rounds.indexes.notes) fact = elim ((joins fact).0 among) [ inl none ↦ absurd (none_contained _ none) | inr c ↦ c ] in
    one_read es notes.indexes.answers rounds.indexes.notes notes.indexes.noted notes.indexes.got fact given

-- the place of a tree that is due may be asked for
may_range : (task : Task) (token : Token) (rounds : RoundsView) (known : Knowledge) (n : Name) (fact : Fact) (es : Trace) → IsWorking task token es → KnowsNotes rounds es → Joins [] (flat_map facts_noted rounds.indexes.notes) known.facts
    → IsTreeDue known n fact → May task es (range_of fact)
may_range task token rounds known n fact es w notes joins due = ((token, w), (fact_of Tree n fact.place, was_read rounds known.facts (fact_of Tree n fact.place) es notes joins due.least.among, refl, refl, refl))

-- ---- what comes next

module _ (task : Task) (token : Token) (rounds : RoundsView) (walk : WalkView) (e : Exchange) (es : Trace) (w : IsWorking task token (e ∷ es)) where
  pub walk_goes : KnowsNotes rounds (e ∷ es) → (roots : List Root) (objects : HasObjects rounds walk roots (e ∷ es)) (answers : List Answer) → WalkReads walk answers (e ∷ es) → (fact : Option Fact) → WalksOn roots walk fact → (next : Came (Unit {0})) → next ≡ next_of fact
      → SurveysOn task rounds walk next e es
  walk_goes notes roots objects answers reads (Some fact) on next is =
      subst (λ n. SurveysOn task rounds walk n e es) (sym is) (
        (notes, inr (inr (inr (record { roots = roots; objects = objects; fact = fact; asked = refl; awaits = on; answers = answers; reads = reads })))),
        may_range task token rounds walk.known fact.name fact (e ∷ es) w notes objects.facts on.due,
      )
  walk_goes notes roots objects answers reads None on next is =
      subst (λ n. SurveysOn task rounds walk n e es) (sym is) (record { notes = notes; roots = roots; objects = objects; over = on; answers = answers; reads = reads })

  -- nothing came of trees yet
  none_seen : (known : Knowledge) → IsUnranged (e ∷ es) → ((n : Name) → known.kept n ≡ None) → ((n : Name) → known.faults n ≡ None) → AreKnownTrees known [] (e ∷ es)
  none_seen known none kept faults = record {
    each = λ a c. absurd (none_contained a c);
    once = λ a b c d same. absurd (none_contained a c);
    only = λ place say heard. absurd (none place.pack place.offset place.length say heard);
    kept = λ n x is. absurd (let unread = kept n in cc (unread, is));
    faults = λ n x is. absurd (let faultless = faults n in cc (faultless, is));
  }

  pub packs_go : (turn next : Came (Unit {0})) → IsUnranged (e ∷ es) → IsWholeRound Kind.Snapshot rounds.snapshots (e ∷ es) → IsWholeRound Kind.Index rounds.indexes (e ∷ es) → TurnsWith task Kind.Pack rounds.packs (KnowsNotes rounds) turn e es → GoesToTrees rounds walk turn next
      → SurveysOn task rounds walk next e es
  packs_go (Came.All _) next none ws wi on b =
      walk_goes on.1 b.roots (record { snapshots = ws; indexes = wi; packs = on.0; facts = b.facts; roots_are = b.roots_are }) []
      (record { seen = none_seen walk.known none b.fresh.1 b.fresh.2; reached = λ a c. absurd (none_contained a c) }) b.fact b.on next b.is
  packs_go (Came.Step step) next none ws wi on is =
      subst (λ n. SurveysOn task rounds walk n e es) (sym is) (steps_as task e es (λ ask fs. KnowsRound Kind.Pack rounds.packs ask fs × KnowsNotes rounds fs) (Surveys rounds walk)
      (λ ask both. (both.1, inr (inr (inl (record { snapshots = ws; indexes = wi; packs = both.0; no_trees = none }))))) step on)

-- ---- a tree

-- what came from the place just now
pub ranged_now : (fact : Fact) (say : Say) (a : Answer) (es : Trace) → IsTreeAnswer fact.name say a → (a.name ≡ fact.name) × IsRanged (silent (range_of fact) say ∷ es) fact.place a.bytes
ranged_now fact (Say.Bytes x) a es h = (h.0, subst (λ (b : Option (List ℕ)). IsRanged (silent (range_of fact) (Say.Bytes x) ∷ es) fact.place b) (sym h.1) (inl (refl, refl)))
ranged_now fact (Say.Refused Code.Missing) a es h = (h.0, subst (λ (b : Option (List ℕ)). IsRanged (silent (range_of fact) (Say.Refused Code.Missing) ∷ es) fact.place b) (sym h.1) (inl (inl (refl, refl))))
ranged_now fact (Say.Refused Code.Range) a es h = (h.0, subst (λ (b : Option (List ℕ)). IsRanged (silent (range_of fact) (Say.Refused Code.Range) ∷ es) fact.place b) (sym h.1) (inr (inl (refl, refl))))
ranged_now fact (Say.Refused Code.Malformed) a es h = absurd h
ranged_now fact (Say.Refused Code.Dead) a es h = absurd h
ranged_now fact (Say.Refused Code.Busy) a es h = absurd h
ranged_now fact (Say.Refused Code.NotExclusive) a es h = absurd h
ranged_now fact (Say.Refused Code.NameMismatch) a es h = absurd h
ranged_now fact (Say.Refused Code.TooLarge) a es h = absurd h
ranged_now fact (Say.Refused Code.OtherKind) a es h = absurd h
ranged_now fact (Say.Refused Code.Fault) a es h = absurd h
ranged_now fact (Say.Refused Code.NoMemory) a es h = absurd h
ranged_now fact (Say.Refused Code.Full) a es h = absurd h
ranged_now fact (Say.Refused Code.Exhausted) a es h = absurd h
ranged_now fact (Say.Refused Code.AppendOnly) a es h = absurd h
ranged_now fact (Say.Token token) a es h = absurd h
ranged_now fact Say.Done a es h = absurd h
ranged_now fact (Say.Names more names) a es h = absurd h
ranged_now fact (Say.LockList rows) a es h = absurd h

-- the tree that was asked for was noted, and the walk went on
pub tree_noted : (task : Task) (token : Token) (rounds : RoundsView) (old new : WalkView) (note : TreeNote) (fact : Fact) (say : Say) (next : Option Fact) (then : Came (Unit {0})) (es : Trace) → IsWorking task token (silent (range_of fact) say ∷ es)
    → KnowsNotes rounds (silent (range_of fact) say ∷ es) → (at : AtTrees rounds old (range_of fact) es) → at.fact ≡ fact → HasObjects rounds old at.roots (silent (range_of fact) say ∷ es)
    → ((a : Answer) × IsTreeAnswer fact.name say a × IsTold old.known.facts fact.place a note.kept note.fault) → IsSomething note → TakesNote old fact.name note next new → then ≡ next_of next
    → SurveysOn task rounds new then (silent (range_of fact) say) es
tree_noted task token rounds old new note fact say next then es w notes at is objects told some takes goes =
    let e = silent (range_of fact) say in
    let awaits : Awaits at.roots old fact = subst (λ f. Awaits at.roots old f) is at.awaits in
    let adds = takes.noted.adds in
    let a = told.0 in
    let now = ranged_now fact say a es told.1 in
    let walks = noted_walks old.known new.known fact note awaits.due adds at.roots old refl awaits.walks in
    let seen = seen_more old.known new.known fact note awaits.due adds es say a told.1 now.0 now.1 told.2 at.answers at.reads.seen in
    let in_new : (v : Visit) → Contains old.visits v → Contains new.visits v = λ v c. subst (λ vs. Contains vs v) (sym takes.noted.visits) (Contains-append_left old.visits takes.noted.more v c) in
    let moved : HasObjects rounds new at.roots (e ∷ es) = record {
      snapshots = objects.snapshots;
      indexes = objects.indexes;
      packs = objects.packs;
      facts = subst (λ fs. Joins [] (flat_map facts_noted rounds.indexes.notes) fs) (sym adds.facts) objects.facts;
      roots_are = objects.roots_are;
    } in
    walk_goes task token rounds new e es w notes at.roots moved (at.answers ++ a ∷ [])
    (record {
      seen = seen;
      reached = λ b c. elim (Contains-append_cases at.answers (a ∷ []) b c) [
        | inl there ↦ (let r = at.reads.reached b there in (r.0, in_new r.0 r.1, r.2))
        | inr this ↦ (awaits.visit, in_new awaits.visit (contains_got old.visits old.place awaits.visit awaits.here), awaits.of_tree ∙ sym now.0 ∙ ap (λ (x : Answer). x.name) (only a b this))
      ];
    }) next (takes.goes at.roots walks) then goes
  where
    only : (a b : Answer) → Contains (a ∷ []) b → a ≡ b
    only a b c = elim (contained_or a [] b c) [ inl same ↦ same | inr none ↦ absurd (none_contained b none) ]

-- ---- other rounds

pub notes_grow : (rounds : RoundsView) (e : Exchange) (es : Trace) → ((k : Kind) → IsNoGet k e.ask) → KnowsNotes rounds es → KnowsNotes rounds (e ∷ es)
notes_grow rounds e es other h = record {
  snapshots = noted_grow Kind.Snapshot IsRootOf rounds.snapshots.names rounds.snapshots.notes e es (other Kind.Snapshot) h.snapshots;
  indexes = noted_grow Kind.Index IsIndexOf rounds.indexes.names rounds.indexes.notes e es (other Kind.Index) h.indexes;
  packs = noted_grow Kind.Pack IsPackOf rounds.packs.names rounds.packs.notes e es (other Kind.Pack) h.packs;
}

-- a tree that was asked for came
pub tree_taken : (rounds : RoundsView) (old new : WalkView) (note : TreeNote) (fact : Fact) (say : Say) (next : Option Fact) (then : Came (Unit {0})) → ((roots : List Root) (f : Fact) → Awaits roots old f → Some fact ≡ Some f)
    → ((a : Answer) × IsTreeAnswer fact.name say a × IsTold old.known.facts fact.place a note.kept note.fault) → IsSomething note → TakesNote old fact.name note next new → then ≡ next_of next
    → (pack : Name) (offset len : ℕ) (task : Task) (token : Token) (es : Trace) → IsWorking task token (silent (Ask.Range pack offset len) say ∷ es) → Surveys rounds old (Ask.Range pack offset len) es
    → SurveysOn task rounds new then (silent (Ask.Range pack offset len) say) es
tree_taken rounds old new note fact say next then only told some takes goes pack offset len task token es w h =
    let at = ranging rounds old es pack offset len h in
    let same : fact ≡ at.fact = same_Some fact at.fact (only at.roots at.fact at.awaits) in
    let is : Ask.Range pack offset len ≡ range_of fact = at.asked ∙ ap range_of (sym same) in
    subst (λ ask. IsWorking task token (silent ask say ∷ es) → Surveys rounds old ask es → SurveysOn task rounds new then (silent ask say) es) (sym is) taking w h
  where
    taking : IsWorking task token (silent (range_of fact) say ∷ es) → Surveys rounds old (range_of fact) es → SurveysOn task rounds new then (silent (range_of fact) say) es
    taking w h =
        let e = silent (range_of fact) say in
        let at = ranging rounds old es fact.place.pack fact.place.offset fact.place.length h in
        let objects = at.objects in
        let moved : HasObjects rounds old at.roots (e ∷ es) = record {
          snapshots = whole_aside Kind.Snapshot rounds.snapshots e es tt objects.snapshots;
          indexes = whole_aside Kind.Index rounds.indexes e es tt objects.indexes;
          packs = whole_aside Kind.Pack rounds.packs e es tt objects.packs;
          facts = objects.facts;
          roots_are = objects.roots_are;
        } in
        tree_noted task token rounds old new note fact say next then es w (notes_grow rounds e es (λ k n is. absurd (cc is)) h.0) at (sym (same_Some fact at.fact (only at.roots at.fact at.awaits))) moved told some takes goes

-- a page of packs came
module _ (old new : RoundsView) (walk walk' : WalkView) (say : Say) (turn next : Came (Unit {0})) (snapshots : new.snapshots ≡ old.snapshots) (indexes : new.indexes ≡ old.indexes) (goes : GoesToTrees new walk' turn next) where
  wholes : (e : Exchange) (es : Trace) → IsAside Kind.Snapshot e.ask → IsAside Kind.Index e.ask → IsWholeRound Kind.Snapshot old.snapshots es → IsWholeRound Kind.Index old.indexes es
      → IsWholeRound Kind.Snapshot new.snapshots (e ∷ es) × IsWholeRound Kind.Index new.indexes (e ∷ es)
  wholes e es aside beside ws wi = (
    subst (λ r. IsWholeRound Kind.Snapshot r (e ∷ es)) (sym snapshots) (whole_aside Kind.Snapshot old.snapshots e es aside ws),
    subst (λ r. IsWholeRound Kind.Index r (e ∷ es)) (sym indexes) (whole_aside Kind.Index old.indexes e es beside wi),
  )

  others : (e : Exchange) (es : Trace) → IsNoGet Kind.Snapshot e.ask → IsNoGet Kind.Index e.ask → KnowsNotes old es → AreNoted Kind.Pack IsPackOf new.packs.names new.packs.notes (e ∷ es) → KnowsNotes new (e ∷ es)
  others e es no_snapshot no_index h packs = record {
    snapshots = subst (λ (r : RoundView Root). AreNoted Kind.Snapshot IsRootOf r.names r.notes (e ∷ es)) (sym snapshots) (noted_grow Kind.Snapshot IsRootOf old.snapshots.names old.snapshots.notes e es no_snapshot h.snapshots);
    indexes = subst (λ (r : RoundView (List PackFacts)). AreNoted Kind.Index IsIndexOf r.names r.notes (e ∷ es)) (sym indexes) (noted_grow Kind.Index IsIndexOf old.indexes.names old.indexes.notes e es no_index h.indexes);
    packs = packs;
  }

  pub packs_page : (pages : PagesRound old.packs say turn new.packs) → new.packs.notes ≡ old.packs.notes → (task : Task) (token : Token) (after : Option Name) (es : Trace) → IsWorking task token (silent (Ask.List Kind.Pack after) say ∷ es)
      → May task es (Ask.List Kind.Pack after) → Surveys old walk (Ask.List Kind.Pack after) es → SurveysOn task new walk' next (silent (Ask.List Kind.Pack after) say) es
  packs_page pages notes task token after es w may h =
      let e = silent (Ask.List Kind.Pack after) say in
      let at = listing_packs old walk es after h in
      let listing = at.packs.1 in
      let both = wholes e es refl refl at.snapshots at.indexes in
      let noted = noted_page Kind.Pack IsPackOf old.packs new.packs e es listing.none notes (λ n is. absurd (cc is)) h.0.packs in
      let known = others e es (λ n is. absurd (cc is)) (λ n is. absurd (cc is)) h.0 noted in
      packs_go task token new walk' e es w turn next (unranged_on e es (λ pack offset len is. absurd (cc is)) at.no_trees) both.0 both.1 (turns_with task Kind.Pack new.packs turn e es (KnowsNotes new) known (pages task token Kind.Pack after es w may listing)) goes

  pub packs_got : (n : Name) (takes : TakesObject Kind.Pack IsPackOf old.packs n say turn new.packs) → (task : Task) (token : Token) (es : Trace) → IsWorking task token (silent (Ask.Get Kind.Pack n) say ∷ es) → Surveys old walk (Ask.Get Kind.Pack n) es
      → SurveysOn task new walk' next (silent (Ask.Get Kind.Pack n) say) es
  packs_got n takes task token es w h =
      let e = silent (Ask.Get Kind.Pack n) say in
      let at = getting_packs old walk es n h in
      let took = takes task token es w at.packs.1 h.0.packs in
      let both = wholes e es refl refl at.snapshots at.indexes in
      let known = others e es (λ m is. absurd (cc is)) (λ m is. absurd (cc is)) h.0 in
      packs_go task token new walk' e es w turn next (unranged_on e es (λ pack offset len is. absurd (cc is)) at.no_trees) both.0 both.1 (turns_as task Kind.Pack new.packs turn e es (AreNoted Kind.Pack IsPackOf new.packs.names new.packs.notes) (KnowsNotes new) known took) goes
