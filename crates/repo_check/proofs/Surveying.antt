-- What a survey knows after one more exchange.
use Rattle.std.proofs.Common.{◌≡◌, ◌≤◌, ◌++◌, ◌∷◌, ℕ, false, true, List, Option, refl, sym, subst, inl, inr, ◌∙◌, []}
use Rattle.repo_name.specs.declared.kinds.Kind.{Kind}
use Rattle.repo_name.specs.declared.names.Name.{Name}
use Rattle.repo_name.specs.declared.tokens.Token.{Token}
use Rattle.repo_wire.specs.declared.messages.Ask.{Ask}
use Rattle.repo_wire.specs.declared.messages.Say.{Say}
use Rattle.repo_index.specs.declared.facts.Fact.{Fact}
use Rattle.repo_index.specs.declared.facts.PackFacts.{PackFacts}
use Rattle.repo_session.specs.Order.{Task, IsReading, IsWorking, May, last_of, opened}
use Rattle.repo_session.specs.Rolls.{IsRolled}
use Rattle.repo_session.specs.Traces.{Exchange, Exchanged, Trace, silent}
use Rattle.repo_session.proofs.Holding.{opened_working}
use Rattle.repo_session.specs.Versions.{upto}
use Rattle.repo_session.specs.declared.parts.Came.{Came}
use Rattle.repo_session.specs.declared.versions.Versions.{Versions}
use Rattle.repo_reach.specs.declared.roots.Root.{Root}
use Rattle.repo_session.proofs.Rolling.{may_page, opened_rolled}
use Rattle.repo_tree.specs.ConfigText.{IsConfigText}
use Rattle.repo_tree.specs.declared.configs.Config.{Config}
use Rattle.repo_check.specs.Arrivals.{IsIndexOf, IsPackOf, IsRootOf}
use Rattle.repo_check.specs.Rounds.{AreNoted, ArePast, IsFreshRound, RoundIsListing, IsUntouched, IsWholeRound, KnowsRound, PagesRound, RoundView, TakesObject, TakesSnapshot, TurnsWith}
use Rattle.repo_check.specs.Surveys.{AtIndexes, AtPacks, AtSnapshots, AtTrees, GoesAfter, HasTaken, IsFirst, IsFreshSurvey, IsUnranged, KnowsNotes, RoundsView, Surveys, SurveysOn, first_page}
use Rattle.repo_check.specs.Walks.{Awaits, TreeIsNoted, WalkView}
use Rattle.repo_check.specs.declared.knowing.TreeNote.{TreeNote}
use Rattle.repo_check.specs.declared.rounds.Note.{Note}
use Rattle.repo_check.proofs.Rounding.{IsAside, heard_before, heard_of, none_noted, noted_grow, noted_page, paged_aside, steps_as, turns_as, turns_with, untouched_aside}

-- ---- a round that begins

module _ {T : Type 0} (k : Kind) (round : RoundView T) where
  fresh_listing : (es : Trace) → IsFreshRound k round → IsUntouched k es → RoundIsListing k round es
  fresh_listing es fresh none = record { of_kind = fresh.of_kind; none_read = fresh.none_read; rolled = subst (λ ns. IsRolled k ns 0 false es) (sym fresh.no_names) none.rolled; past = subst (λ ns. ArePast k ns es) (sym fresh.no_names) none.past; none = fresh.no_notes }

  -- its first page may be asked for
  begins : (task : Task) (token : Token) (es : Trace) → IsWorking task token es → IsFreshRound k round → IsUntouched k es
      → KnowsRound k round (Ask.List round.kind (last_of round.names)) es × May task es (Ask.List round.kind (last_of round.names))
  begins task token es w fresh none =
      let listing = fresh_listing es fresh none in
      ((fresh.of_kind, listing), subst (λ j. May task es (Ask.List j (last_of round.names))) (sym fresh.of_kind) (may_page task token k round.names 0 es w listing.rolled))

  pub whole_aside : (e : Exchange) (es : Trace) → IsAside k e.ask → IsWholeRound k round es → IsWholeRound k round (e ∷ es)
  whole_aside e es aside h = record { of_kind = h.of_kind; paged = paged_aside k round.names true e es aside h.paged; all = h.all }

-- a request for another thing than a place asks for none
pub unranged_on : (e : Exchange) (es : Trace) → ((pack : Name) (offset len : ℕ) → e.ask ≡ Ask.Range pack offset len → ⊥) → IsUnranged es → IsUnranged (e ∷ es)
unranged_on e es other none pack offset len say heard = none pack offset len say (heard_before e es (Ask.Range pack offset len) say (other pack offset len) heard)

-- ---- what comes next

module _ (task : Task) (token : Token) (rounds : RoundsView) (walk : WalkView) (e : Exchange) (es : Trace) (w : IsWorking task token (e ∷ es)) where
  abbrev now : Trace
  now = e ∷ es

  pub snapshots_go : (turn next : Came (Unit {0})) → IsUnranged now → TurnsWith task Kind.Snapshot rounds.snapshots (KnowsNotes rounds) turn e es → IsFreshRound Kind.Index rounds.indexes → IsUntouched Kind.Index now
      → IsFreshRound Kind.Pack rounds.packs → IsUntouched Kind.Pack now → GoesAfter turn (first_page rounds.indexes) next → SurveysOn task rounds walk next e es
  snapshots_go (Came.All _) next none on fi ui fp up is =
      let first = begins Kind.Index rounds.indexes task token now w fi ui in
      subst (λ n. SurveysOn task rounds walk n e es) (sym is) ((on.1, inr (inl (record { snapshots = on.0; indexes = first.0; packs = fp; no_packs = up; no_trees = none }))), first.1)
  snapshots_go (Came.Step step) next none on fi ui fp up is =
      subst (λ n. SurveysOn task rounds walk n e es) (sym is) (steps_as task e es (λ ask fs. KnowsRound Kind.Snapshot rounds.snapshots ask fs × KnowsNotes rounds fs) (Surveys rounds walk)
      (λ ask both. (both.1, inl (record { snapshots = both.0; indexes = fi; no_indexes = ui; packs = fp; no_packs = up; no_trees = none }))) step on)

  pub indexes_go : (turn next : Came (Unit {0})) → IsUnranged now → IsWholeRound Kind.Snapshot rounds.snapshots now → TurnsWith task Kind.Index rounds.indexes (KnowsNotes rounds) turn e es → IsFreshRound Kind.Pack rounds.packs → IsUntouched Kind.Pack now
      → GoesAfter turn (first_page rounds.packs) next → SurveysOn task rounds walk next e es
  indexes_go (Came.All _) next none ws on fp up is =
      let first = begins Kind.Pack rounds.packs task token now w fp up in
      subst (λ n. SurveysOn task rounds walk n e es) (sym is) ((on.1, inr (inr (inl (record { snapshots = ws; indexes = on.0; packs = first.0; no_trees = none })))), first.1)
  indexes_go (Came.Step step) next none ws on fp up is =
      subst (λ n. SurveysOn task rounds walk n e es) (sym is) (steps_as task e es (λ ask fs. KnowsRound Kind.Index rounds.indexes ask fs × KnowsNotes rounds fs) (Surveys rounds walk)
      (λ ask both. (both.1, inr (inl (record { snapshots = ws; indexes = both.0; packs = fp; no_packs = up; no_trees = none })))) step on)

-- ---- which round a request is of

pub no_range : (ask : Ask) (rounds : RoundsView) (walk : WalkView) (es : Trace) (P : Type 0) → ((pack : Name) (offset len : ℕ) → ask ≡ Ask.Range pack offset len → ⊥) → AtTrees rounds walk ask es → P
no_range ask rounds walk es P not at = absurd (not at.fact.place.pack at.fact.place.offset at.fact.place.length at.asked)

module _ (rounds : RoundsView) (walk : WalkView) (es : Trace) where
  pub listing_snapshots : (after : Option Name) → Surveys rounds walk (Ask.List Kind.Snapshot after) es → AtSnapshots rounds (Ask.List Kind.Snapshot after) es
  listing_snapshots after (notes, inl at) = at
  listing_snapshots after (notes, inr (inl at)) = absurd (let k = at.indexes.0 in cc k)
  listing_snapshots after (notes, inr (inr (inl at))) = absurd (let k = at.packs.0 in cc k)
  listing_snapshots after (notes, inr (inr (inr at))) = no_range _ rounds walk es _ (λ pack offset len is. absurd (cc is)) at

  pub getting_snapshots : (n : Name) → Surveys rounds walk (Ask.Get Kind.Snapshot n) es → AtSnapshots rounds (Ask.Get Kind.Snapshot n) es
  getting_snapshots n (notes, inl at) = at
  getting_snapshots n (notes, inr (inl at)) = absurd (let k = at.indexes.0 in cc k)
  getting_snapshots n (notes, inr (inr (inl at))) = absurd (let k = at.packs.0 in cc k)
  getting_snapshots n (notes, inr (inr (inr at))) = no_range _ rounds walk es _ (λ pack offset len is. absurd (cc is)) at

  pub listing_indexes : (after : Option Name) → Surveys rounds walk (Ask.List Kind.Index after) es → AtIndexes rounds (Ask.List Kind.Index after) es
  listing_indexes after (notes, inl at) = absurd (let k = at.snapshots.0 in cc k)
  listing_indexes after (notes, inr (inl at)) = at
  listing_indexes after (notes, inr (inr (inl at))) = absurd (let k = at.packs.0 in cc k)
  listing_indexes after (notes, inr (inr (inr at))) = no_range _ rounds walk es _ (λ pack offset len is. absurd (cc is)) at

  pub getting_indexes : (n : Name) → Surveys rounds walk (Ask.Get Kind.Index n) es → AtIndexes rounds (Ask.Get Kind.Index n) es
  getting_indexes n (notes, inl at) = absurd (let k = at.snapshots.0 in cc k)
  getting_indexes n (notes, inr (inl at)) = at
  getting_indexes n (notes, inr (inr (inl at))) = absurd (let k = at.packs.0 in cc k)
  getting_indexes n (notes, inr (inr (inr at))) = no_range _ rounds walk es _ (λ pack offset len is. absurd (cc is)) at

  pub listing_packs : (after : Option Name) → Surveys rounds walk (Ask.List Kind.Pack after) es → AtPacks rounds (Ask.List Kind.Pack after) es
  listing_packs after (notes, inl at) = absurd (let k = at.snapshots.0 in cc k)
  listing_packs after (notes, inr (inl at)) = absurd (let k = at.indexes.0 in cc k)
  listing_packs after (notes, inr (inr (inl at))) = at
  listing_packs after (notes, inr (inr (inr at))) = no_range _ rounds walk es _ (λ pack offset len is. absurd (cc is)) at

  pub getting_packs : (n : Name) → Surveys rounds walk (Ask.Get Kind.Pack n) es → AtPacks rounds (Ask.Get Kind.Pack n) es
  getting_packs n (notes, inl at) = absurd (let k = at.snapshots.0 in cc k)
  getting_packs n (notes, inr (inl at)) = absurd (let k = at.indexes.0 in cc k)
  getting_packs n (notes, inr (inr (inl at))) = at
  getting_packs n (notes, inr (inr (inr at))) = no_range _ rounds walk es _ (λ pack offset len is. absurd (cc is)) at

  pub ranging : (pack : Name) (offset len : ℕ) → Surveys rounds walk (Ask.Range pack offset len) es → AtTrees rounds walk (Ask.Range pack offset len) es
  ranging pack offset len (notes, inl at) = absurd at.snapshots
  ranging pack offset len (notes, inr (inl at)) = absurd at.indexes
  ranging pack offset len (notes, inr (inr (inl at))) = absurd at.packs
  ranging pack offset len (notes, inr (inr (inr at))) = at

-- ---- a page

-- where nothing is noted of a kind whose names came, this is known of the notes
module _ (old new : RoundsView) (walk : WalkView) (say : Say) (turn next : Came (Unit {0})) where
  pub snapshots_page : (pages : PagesRound old.snapshots say turn new.snapshots) → new.snapshots.notes ≡ old.snapshots.notes → new.indexes ≡ old.indexes → new.packs ≡ old.packs → GoesAfter turn (first_page new.indexes) next
      → (task : Task) (token : Token) (after : Option Name) (es : Trace) → IsWorking task token (silent (Ask.List Kind.Snapshot after) say ∷ es) → May task es (Ask.List Kind.Snapshot after)
      → Surveys old walk (Ask.List Kind.Snapshot after) es → SurveysOn task new walk next (silent (Ask.List Kind.Snapshot after) say) es
  snapshots_page pages notes indexes packs goes task token after es w may h =
      let e = silent (Ask.List Kind.Snapshot after) say in
      let at = listing_snapshots old walk es after h in
      let listing = at.snapshots.1 in
      let known : KnowsNotes new (e ∷ es) = record {
        snapshots = noted_page Kind.Snapshot IsRootOf old.snapshots new.snapshots e es listing.none notes (λ n is. absurd (cc is)) h.0.snapshots;
        indexes = subst (λ (r : RoundView (List PackFacts)). AreNoted Kind.Index IsIndexOf r.names r.notes (e ∷ es)) (sym indexes) (noted_grow Kind.Index IsIndexOf old.indexes.names old.indexes.notes e es (λ n is. absurd (cc is)) h.0.indexes);
        packs = subst (λ (r : RoundView (List Fact)). AreNoted Kind.Pack IsPackOf r.names r.notes (e ∷ es)) (sym packs) (noted_grow Kind.Pack IsPackOf old.packs.names old.packs.notes e es (λ n is. absurd (cc is)) h.0.packs);
      } in
      snapshots_go task token new walk e es w turn next (unranged_on e es (λ pack offset len is. absurd (cc is)) at.no_trees) (turns_with task Kind.Snapshot new.snapshots turn e es (KnowsNotes new) known (pages task token Kind.Snapshot after es w may listing)) (subst (λ r. IsFreshRound Kind.Index r) (sym indexes) at.indexes) (untouched_aside Kind.Index e es refl at.no_indexes)
      (subst (λ r. IsFreshRound Kind.Pack r) (sym packs) at.packs) (untouched_aside Kind.Pack e es refl at.no_packs) goes

  pub snapshots_got : (versions : Versions) (n : Name) (takes : TakesSnapshot versions old.snapshots n say turn new.snapshots) → new.indexes ≡ old.indexes → new.packs ≡ old.packs → GoesAfter turn (first_page new.indexes) next
      → (task : Task) (token : Token) (es : Trace) → task.versions ≡ versions → IsWorking task token (silent (Ask.Get Kind.Snapshot n) say ∷ es) → Surveys old walk (Ask.Get Kind.Snapshot n) es → SurveysOn task new walk next (silent (Ask.Get Kind.Snapshot n) say) es
  snapshots_got versions n takes indexes packs goes task token es known_to w h =
      let e = silent (Ask.Get Kind.Snapshot n) say in
      let at = getting_snapshots old walk es n h in
      let took = takes task token es known_to w at.snapshots.1 h.0.snapshots in
      let known : AreNoted Kind.Snapshot IsRootOf new.snapshots.names new.snapshots.notes (e ∷ es) → KnowsNotes new (e ∷ es) = λ noted. record {
        snapshots = noted;
        indexes = subst (λ (r : RoundView (List PackFacts)). AreNoted Kind.Index IsIndexOf r.names r.notes (e ∷ es)) (sym indexes) (noted_grow Kind.Index IsIndexOf old.indexes.names old.indexes.notes e es (λ n is. absurd (cc is)) h.0.indexes);
        packs = subst (λ (r : RoundView (List Fact)). AreNoted Kind.Pack IsPackOf r.names r.notes (e ∷ es)) (sym packs) (noted_grow Kind.Pack IsPackOf old.packs.names old.packs.notes e es (λ n is. absurd (cc is)) h.0.packs);
      } in
      snapshots_go task token new walk e es w turn next (unranged_on e es (λ pack offset len is. absurd (cc is)) at.no_trees) (turns_as task Kind.Snapshot new.snapshots turn e es (AreNoted Kind.Snapshot IsRootOf new.snapshots.names new.snapshots.notes) (KnowsNotes new) known took) (subst (λ r. IsFreshRound Kind.Index r) (sym indexes) at.indexes) (untouched_aside Kind.Index e es refl at.no_indexes)
      (subst (λ r. IsFreshRound Kind.Pack r) (sym packs) at.packs) (untouched_aside Kind.Pack e es refl at.no_packs) goes

  pub indexes_page : (pages : PagesRound old.indexes say turn new.indexes) → new.indexes.notes ≡ old.indexes.notes → new.snapshots ≡ old.snapshots → new.packs ≡ old.packs → GoesAfter turn (first_page new.packs) next
      → (task : Task) (token : Token) (after : Option Name) (es : Trace) → IsWorking task token (silent (Ask.List Kind.Index after) say ∷ es) → May task es (Ask.List Kind.Index after)
      → Surveys old walk (Ask.List Kind.Index after) es → SurveysOn task new walk next (silent (Ask.List Kind.Index after) say) es
  indexes_page pages notes snapshots packs goes task token after es w may h =
      let e = silent (Ask.List Kind.Index after) say in
      let at = listing_indexes old walk es after h in
      let listing = at.indexes.1 in
      let known : KnowsNotes new (e ∷ es) = record {
        snapshots = subst (λ (r : RoundView Root). AreNoted Kind.Snapshot IsRootOf r.names r.notes (e ∷ es)) (sym snapshots) (noted_grow Kind.Snapshot IsRootOf old.snapshots.names old.snapshots.notes e es (λ n is. absurd (cc is)) h.0.snapshots);
        indexes = noted_page Kind.Index IsIndexOf old.indexes new.indexes e es listing.none notes (λ n is. absurd (cc is)) h.0.indexes;
        packs = subst (λ (r : RoundView (List Fact)). AreNoted Kind.Pack IsPackOf r.names r.notes (e ∷ es)) (sym packs) (noted_grow Kind.Pack IsPackOf old.packs.names old.packs.notes e es (λ n is. absurd (cc is)) h.0.packs);
      } in
      indexes_go task token new walk e es w turn next (unranged_on e es (λ pack offset len is. absurd (cc is)) at.no_trees)
      (subst (λ r. IsWholeRound Kind.Snapshot r (e ∷ es)) (sym snapshots) (whole_aside Kind.Snapshot old.snapshots e es refl at.snapshots)) (turns_with task Kind.Index new.indexes turn e es (KnowsNotes new) known (pages task token Kind.Index after es w may listing))
      (subst (λ r. IsFreshRound Kind.Pack r) (sym packs) at.packs) (untouched_aside Kind.Pack e es refl at.no_packs) goes

  pub indexes_got : (n : Name) (takes : TakesObject Kind.Index IsIndexOf old.indexes n say turn new.indexes) → new.snapshots ≡ old.snapshots → new.packs ≡ old.packs → GoesAfter turn (first_page new.packs) next
      → (task : Task) (token : Token) (es : Trace) → IsWorking task token (silent (Ask.Get Kind.Index n) say ∷ es) → Surveys old walk (Ask.Get Kind.Index n) es → SurveysOn task new walk next (silent (Ask.Get Kind.Index n) say) es
  indexes_got n takes snapshots packs goes task token es w h =
      let e = silent (Ask.Get Kind.Index n) say in
      let at = getting_indexes old walk es n h in
      let took = takes task token es w at.indexes.1 h.0.indexes in
      let known : AreNoted Kind.Index IsIndexOf new.indexes.names new.indexes.notes (e ∷ es) → KnowsNotes new (e ∷ es) = λ noted. record {
        snapshots = subst (λ (r : RoundView Root). AreNoted Kind.Snapshot IsRootOf r.names r.notes (e ∷ es)) (sym snapshots) (noted_grow Kind.Snapshot IsRootOf old.snapshots.names old.snapshots.notes e es (λ n is. absurd (cc is)) h.0.snapshots);
        indexes = noted;
        packs = subst (λ (r : RoundView (List Fact)). AreNoted Kind.Pack IsPackOf r.names r.notes (e ∷ es)) (sym packs) (noted_grow Kind.Pack IsPackOf old.packs.names old.packs.notes e es (λ n is. absurd (cc is)) h.0.packs);
      } in
      indexes_go task token new walk e es w turn next (unranged_on e es (λ pack offset len is. absurd (cc is)) at.no_trees)
      (subst (λ r. IsWholeRound Kind.Snapshot r (e ∷ es)) (sym snapshots) (whole_aside Kind.Snapshot old.snapshots e es refl at.snapshots)) (turns_as task Kind.Index new.indexes turn e es (AreNoted Kind.Index IsIndexOf new.indexes.names new.indexes.notes) (KnowsNotes new) known took)
      (subst (λ r. IsFreshRound Kind.Pack r) (sym packs) at.packs) (untouched_aside Kind.Pack e es refl at.no_packs) goes

-- ---- requests of a survey

-- what is known where an object or a page is pending speaks of no tree
pub other_page : (rounds : RoundsView) (walk walk' : WalkView) (k : Kind) (after : Option Name) (es : Trace) → Surveys rounds walk (Ask.List k after) es → Surveys rounds walk' (Ask.List k after) es
other_page rounds walk walk' k after es (notes, inl at) = (notes, inl at)
other_page rounds walk walk' k after es (notes, inr (inl at)) = (notes, inr (inl at))
other_page rounds walk walk' k after es (notes, inr (inr (inl at))) = (notes, inr (inr (inl at)))
other_page rounds walk walk' k after es (notes, inr (inr (inr at))) = no_range (Ask.List k after) rounds walk es _ (λ pack offset len is. absurd (cc is)) at

pub other_object : (rounds : RoundsView) (walk walk' : WalkView) (k : Kind) (n : Name) (es : Trace) → Surveys rounds walk (Ask.Get k n) es → Surveys rounds walk' (Ask.Get k n) es
other_object rounds walk walk' k n es (notes, inl at) = (notes, inl at)
other_object rounds walk walk' k n es (notes, inr (inl at)) = (notes, inr (inl at))
other_object rounds walk walk' k n es (notes, inr (inr (inl at))) = (notes, inr (inr (inl at)))
other_object rounds walk walk' k n es (notes, inr (inr (inr at))) = no_range (Ask.Get k n) rounds walk es _ (λ pack offset len is. absurd (cc is)) at

known_reads : {T : Type 0} (k : Kind) (round : RoundView T) (ask : Ask) (es : Trace) → KnowsRound k round ask es → IsReading ask
known_reads k round (Ask.List j after) es h = tt
known_reads k round (Ask.Get j n) es h = tt
known_reads k round Ask.Ticket es h = absurd h
known_reads k round (Ask.Lock row) es h = absurd h
known_reads k round (Ask.Refresh token time) es h = absurd h
known_reads k round (Ask.Unlock token) es h = absurd h
known_reads k round Ask.Locks es h = absurd h
known_reads k round (Ask.Range pack offset len) es h = absurd h
known_reads k round (Ask.Put token j n x) es h = absurd h
known_reads k round (Ask.Delete token j n) es h = absurd h
known_reads k round (Ask.Upgrade token) es h = absurd h
known_reads k round Ask.Config es h = absurd h

-- each of them reads
pub survey_reads : (rounds : RoundsView) (walk : WalkView) (ask : Ask) (es : Trace) → Surveys rounds walk ask es → IsReading ask
survey_reads rounds walk ask es (notes, inl at) = known_reads Kind.Snapshot rounds.snapshots ask es at.snapshots
survey_reads rounds walk ask es (notes, inr (inl at)) = known_reads Kind.Index rounds.indexes ask es at.indexes
survey_reads rounds walk ask es (notes, inr (inr (inl at))) = known_reads Kind.Pack rounds.packs ask es at.packs
survey_reads rounds walk ask es (notes, inr (inr (inr at))) = subst IsReading (sym at.asked) tt

-- a lock and its config read nothing else
opened_never : (task : Task) (token : Token) (text : List ℕ) (ask : Ask) (say : Say) → IsReading ask → Exchanged (opened task token text) ask say → ⊥
opened_never task token text ask say reads (inl h) = subst IsReading (sym h.0) reads
opened_never task token text ask say reads (inr (inl h)) = subst IsReading (sym h.0) reads
opened_never task token text ask say reads (inr (inr (inl h))) = subst IsReading (sym h.0) reads
opened_never task token text ask say reads (inr (inr (inr h))) = h

opened_untouched : (k : Kind) (task : Task) (token : Token) (text : List ℕ) → IsUntouched k (opened task token text)
opened_untouched k task token text = record {
  rolled = opened_rolled k task token text;
  past = λ after was. let heard = heard_of (opened task token text) (Ask.List k after) was in absurd (opened_never task token text (Ask.List k after) heard.0 tt heard.1);
}

-- where nothing of the kinds was listed, the first page may be asked for
pub first_known : (task : Task) (token : Token) (text : List ℕ) (config : Config) (rounds : RoundsView) (walk : WalkView) (ask : Ask) → IsConfigText text config → config.version ≤ upto task.versions → IsFreshSurvey rounds
    → ask ≡ Ask.List rounds.snapshots.kind (last_of rounds.snapshots.names) → IsFirst task rounds walk (opened task token text) ask
first_known task token text config rounds walk ask reads known fresh is =
    let es = opened task token text in
    let first = begins Kind.Snapshot rounds.snapshots task token es (opened_working task token text config reads known) fresh.snapshots (opened_untouched Kind.Snapshot task token text) in
    subst (λ a. May task es a × Surveys rounds walk a es) (sym is) (
      first.1,
      (
        record {
          snapshots = none_noted Kind.Snapshot IsRootOf rounds.snapshots.names rounds.snapshots.notes es fresh.snapshots.no_notes (λ n say h. opened_never task token text (Ask.Get Kind.Snapshot n) say tt h);
          indexes = none_noted Kind.Index IsIndexOf rounds.indexes.names rounds.indexes.notes es fresh.indexes.no_notes (λ n say h. opened_never task token text (Ask.Get Kind.Index n) say tt h);
          packs = none_noted Kind.Pack IsPackOf rounds.packs.names rounds.packs.notes es fresh.packs.no_notes (λ n say h. opened_never task token text (Ask.Get Kind.Pack n) say tt h);
        },
        inl (record {
          snapshots = first.0;
          indexes = fresh.indexes;
          no_indexes = opened_untouched Kind.Index task token text;
          packs = fresh.packs;
          no_packs = opened_untouched Kind.Pack task token text;
          no_trees = λ pack offset len say h. opened_never task token text (Ask.Range pack offset len) say tt h;
        }),
      ),
    )

-- ---- taking back

-- a page that brought nothing
pub page_back : (rounds rounds' : RoundsView) (walk walk' : WalkView) (k : Kind) (after : Option Name) (es : Trace) → HasTaken rounds walk (Ask.List k after) rounds' walk' → Surveys rounds walk (Ask.List k after) es → Surveys rounds' walk' (Ask.List k after) es
page_back rounds rounds' walk walk' k after es taken h = subst (λ r. Surveys r walk' (Ask.List k after) es) (sym (taken es h)) (other_page rounds walk walk' k after es h)

-- what is neither an object nor a tree is a page
pub other_back : (rounds rounds' : RoundsView) (walk walk' : WalkView) (ask : Ask) (es : Trace) → ((k : Kind) (n : Name) → ask ≡ Ask.Get k n → ⊥) → ((pack : Name) (offset len : ℕ) → ask ≡ Ask.Range pack offset len → ⊥) → HasTaken rounds walk ask rounds' walk'
    → Surveys rounds walk ask es → Surveys rounds' walk' ask es
other_back rounds rounds' walk walk' (Ask.List k after) es get range taken h = page_back rounds rounds' walk walk' k after es taken h
other_back rounds rounds' walk walk' (Ask.Get k n) es get range taken h = absurd (get k n refl)
other_back rounds rounds' walk walk' (Ask.Range pack offset len) es get range taken h = absurd (range pack offset len refl)
other_back rounds rounds' walk walk' Ask.Ticket es get range taken h = absurd taken
other_back rounds rounds' walk walk' (Ask.Lock row) es get range taken h = absurd taken
other_back rounds rounds' walk walk' (Ask.Refresh token time) es get range taken h = absurd taken
other_back rounds rounds' walk walk' (Ask.Unlock token) es get range taken h = absurd taken
other_back rounds rounds' walk walk' Ask.Locks es get range taken h = absurd taken
other_back rounds rounds' walk walk' (Ask.Put token j n x) es get range taken h = absurd taken
other_back rounds rounds' walk walk' (Ask.Delete token j n) es get range taken h = absurd taken
other_back rounds rounds' walk walk' (Ask.Upgrade token) es get range taken h = absurd taken
other_back rounds rounds' walk walk' Ask.Config es get range taken h = absurd taken

-- the last note goes
pub object_back : (rounds rounds' : RoundsView) (walk walk' : WalkView) (packs : RoundView (List Fact)) (k : Kind) (n : Name) (es : Trace) → HasTaken rounds walk (Ask.Get k n) rounds' walk' → packs.kind ≡ rounds'.packs.kind → packs.names ≡ rounds'.packs.names → packs.read ≡ rounds'.packs.read
    → ((notes : List (Note (List Fact))) (note : Note (List Fact)) → rounds'.packs.notes ≡ notes ++ note ∷ [] → packs.notes ≡ notes) → Surveys rounds walk (Ask.Get k n) es
    → Surveys (record { snapshots = rounds'.snapshots; indexes = rounds'.indexes; packs = packs }) walk' (Ask.Get k n) es
object_back rounds rounds' walk walk' packs k n es taken kind names read notes h =
    let one = taken.2 in
    let last = notes rounds.packs.notes one.note one.notes in
    let same : record { snapshots = rounds'.snapshots; indexes = rounds'.indexes; packs = packs } ≡ rounds = λ i. record {
      snapshots = taken.0 i;
      indexes = taken.1 i;
      packs = record { kind = (kind ∙ one.kind) i; names = (names ∙ one.names) i; read = (read ∙ one.read) i; notes = last i };
    } in
    subst (λ r. Surveys r walk' (Ask.Get k n) es) (sym same) (other_object rounds walk walk' k n es h)

-- so does that of a tree
pub tree_back : (rounds rounds' : RoundsView) (walk walk' new : WalkView) (pack : Name) (offset len : ℕ) (es : Trace) → HasTaken rounds walk (Ask.Range pack offset len) rounds' walk'
    → ((roots : List Root) (fact : Fact) (note : TreeNote) → Awaits roots walk fact → TreeIsNoted walk fact.name note walk' → new ≡ walk) → Surveys rounds walk (Ask.Range pack offset len) es → Surveys rounds' new (Ask.Range pack offset len) es
tree_back rounds rounds' walk walk' new pack offset len es taken back h =
    let t = taken.1 es h in
    subst (λ w. Surveys rounds' w (Ask.Range pack offset len) es) (sym (back t.0 t.1 t.2 t.3 t.4)) (subst (λ r. Surveys r walk (Ask.Range pack offset len) es) (sym taken.0) h)
