-- What a restore gave out, whatever the replies.
use Rattle.std.proofs.Common.{◌≡◌, ◌⊎◌, ◌++◌, ◌∷◌, [], ℕ, List, Contains, refl, sym, ap, subst, inl, inr, ◌∙◌}
use Rattle.std.proofs.lemmas.List.{append-nil}
use Rattle.std.proofs.lemmas.List.Elements.{Contains-append_cases}
use Rattle.repo_name.specs.declared.kinds.BlobKind.{BlobKind}
use Rattle.repo_name.specs.declared.names.Name.{Name}
use Rattle.repo_name.specs.declared.tokens.Token.{Token}
use Rattle.repo_name.proofs.Containing.{none_contained, contained_or}
use Rattle.repo_wire.specs.declared.messages.Ask.{Ask}
use Rattle.repo_tree.specs.declared.nodes.NodeKind.{NodeKind}
use Rattle.repo_session.specs.declared.emissions.Emission.{Emission}
use Rattle.repo_session.specs.declared.outcomes.Outcome.{Outcome}
use Rattle.repo_session.specs.Catalogs.{AreIndexed}
use Rattle.repo_session.specs.Clients.{exchange}
use Rattle.repo_session.specs.Ends.{before_unlock, without_unlock}
use Rattle.repo_session.specs.Order.{Obeys}
use Rattle.repo_session.specs.Received.{Received}
use Rattle.repo_session.specs.Sessions.{next_in, who_in}
use Rattle.repo_session.specs.Talks.{Talk, trace_of, given_in}
use Rattle.repo_session.specs.Traces.{Each, Exchange, Trace, emitted_in}
use Rattle.repo_session.proofs.Descending.{received_grows, root_grows, node_at_grows}
use Rattle.repo_session.proofs.Taking.{came_in, given_is, stands_after}
use Rattle.repo_restore.specs.Laws.{RestoredIsWhatCame, GivenIsWhatCame, GivenIsABeginning, BeginsSnapshot, MayBeGiven, FileHolds, ClosedIsWhole}
use Rattle.repo_restore.specs.RestoreStates.{FitsRestore, IsNewRestore, KnowsRestore, wish_of}
use Rattle.repo_restore.specs.Restoring.{Wish, restore_rule, restore_task, HasLength, IsRestored, MayGive, RestoreAllows, RestoreGives}
use Rattle.repo_session.specs.Ends.{AsksPart}
use Rattle.repo_restore.specs.Walks.{ArePieces}
use Rattle.repo_restore.specs.declared.restores.Restore.{Restore}
use Rattle.repo_restore.specs.Beginnings.{IsBeginning}
use Rattle.repo_restore.proofs.Beginnings.{beginning_grows}
use Rattle.repo_session.specs.Obedience.{session_obeys}
use Rattle.repo_session.specs.declared.sessions.Session.{Session}
use Rattle.repo_restore.proofs.Closing.{file_closed}
use Rattle.repo_restore.proofs.Indexed.{range_indexed, indexed_stays, gives_stays}

-- the exchanges keep the order and the rule of a restore
abbrev Keeps : Wish → Trace → Type 0
Keeps w es = Obeys (restore_task w) (RestoreAllows w.snapshot) (RestoreGives w.snapshot) es

-- ---- the end of the lock gives nothing out

silent_end : (w : Wish) (e : Exchange) (es : Trace) (token : Token) → e.ask ≡ Ask.Unlock token → (e.emitted ≡ []) ⊎ RestoreGives w.snapshot es e → emitted_in es ≡ emitted_in (e ∷ es)
silent_end w e es token q (inl none) = sym (ap (λ x. emitted_in es ++ x) none ∙ append-nil (emitted_in es))
silent_end w e es token q (inr gives) = absurd (subst AsksPart q gives.0)

given_by : (w : Wish) (ask : Ask) (e : Exchange) (es : Trace) → e.ask ≡ ask → Keeps w (e ∷ es) → emitted_in (without_unlock ask (e ∷ es) es) ≡ emitted_in (e ∷ es)
given_by w (Ask.Unlock token) e es q o = silent_end w e es token q o.2
given_by w _ e es q o = refl

given_before : (w : Wish) (es : Trace) → Keeps w es → emitted_in (before_unlock es) ≡ emitted_in es
given_before w [] o = refl
given_before w (e ∷ es) o = given_by w e.ask e es refl o

-- ---- each part

module _ (w : Wish) (e : Exchange) (es : Trace) (all : AreIndexed es) (o : Keeps w (e ∷ es)) where
  length_stays : (content : List Name) (total : ℕ) → HasLength es content total → HasLength (e ∷ es) content total
  length_stays content total h = record { facts = h.facts; gives = gives_stays w e es all o h.facts h.gives; sums = h.sums }

  may_grow : (version : ℕ) (root : Name) (given : Emission) → MayGive es version root given → MayGive (e ∷ es) version root given
  may_grow version root (Emission.Dir path) h = (h.0, node_at_grows version (Received es) (Received (e ∷ es)) (received_grows e es) root path (NodeKind.Dir h.0) h.1)
  may_grow version root (Emission.File path) h =
      (h.0, h.1, node_at_grows version (Received es) (Received (e ∷ es)) (received_grows e es) root path (NodeKind.File h.0 h.1) h.2, length_stays h.1 h.0 h.3)
  may_grow version root (Emission.Piece bytes) h = received_grows e es BlobKind.Content bytes h
  may_grow version root Emission.Close h = tt

each_given : (P : Emission → Type 0) (all : List Emission) (given : Emission) → Each P all → Contains all given → P given
each_given P [] given h c = absurd (none_contained given c)
each_given P (first ∷ all) given h c = elim (contained_or first all given c) [
  | inl same ↦ subst P same h.0
  | inr more ↦ each_given P all given h.1 more
]

-- all indexes were read before it
given_now : (w : Wish) (e : Exchange) (es : Trace) (given : Emission) → Keeps w (e ∷ es) → (e.emitted ≡ []) ⊎ RestoreGives w.snapshot es e → Contains e.emitted given → AreIndexed (e ∷ es) × MayBeGiven (e ∷ es) w.snapshot given
given_now w e es given o (inl none) c = absurd (none_contained given (subst (λ x. Contains x given) none c))
given_now w e es given o (inr gives) c =
    (indexed_stays w e es (range_indexed w.snapshot es e.ask gives.0 o.1) o, (gives.1, gives.2, root_grows e es w.snapshot gives.1 gives.2 gives.3, each_given (λ g. MayGive (e ∷ es) gives.1 gives.2 g) e.emitted given gives.4 c))

given_of : (w : Wish) (talk : Talk) (given : Emission) → Keeps w (trace_of talk) → Contains (given_in talk) given → AreIndexed (trace_of talk) × MayBeGiven (trace_of talk) w.snapshot given
given_of w [] given o c = absurd (none_contained given c)
given_of w (turn ∷ talk) given o c =
    let e : Exchange = exchange turn.request turn.reply turn.emitted in
    elim (Contains-append_cases (given_in talk) turn.emitted given c) [
      | inl old ↦
          let h = given_of w talk given o.3 old in
          (indexed_stays w e (trace_of talk) h.0 o, (h.1.0, h.1.1, root_grows e (trace_of talk) w.snapshot h.1.0 h.1.1 h.1.2, may_grow w e (trace_of talk) h.0 o h.1.0 h.1.1 given h.1.3))
      | inr now ↦ given_now w e (trace_of talk) given o o.2 now
    ]

-- ---- all of it

begun_now : (w : Wish) (e : Exchange) (es : Trace) → (e.emitted ≡ []) ⊎ RestoreGives w.snapshot es e → BeginsSnapshot es w.snapshot (emitted_in es) → BeginsSnapshot (e ∷ es) w.snapshot (emitted_in (e ∷ es))
begun_now w e es (inr gives) h = inr (gives.1, gives.2, root_grows e es w.snapshot gives.1 gives.2 gives.3, gives.5)
begun_now w e es (inl none) (inl nothing) = inl (ap (λ x. emitted_in es ++ x) none ∙ append-nil (emitted_in es) ∙ nothing)
begun_now w e es (inl none) (inr h) =
    let same : emitted_in (e ∷ es) ≡ emitted_in es = ap (λ x. emitted_in es ++ x) none ∙ append-nil (emitted_in es) in
    let grown = beginning_grows h.0 (Received es) (Received (e ∷ es)) (received_grows e es) h.1 (emitted_in es) h.3 in
    inr (h.0, h.1, root_grows e es w.snapshot h.0 h.1 h.2, subst (λ given. IsBeginning h.0 (Received (e ∷ es)) h.1 given) (sym same) grown)

pub begun_of : (w : Wish) (es : Trace) → Keeps w es → BeginsSnapshot es w.snapshot (emitted_in es)
begun_of w [] o = inl refl
begun_of w (e ∷ es) o = begun_now w e es o.2 (begun_of w es o.3)

-- ---- each file that was closed

none_begun : (before more : List Emission) (path : List (List ℕ)) → before ++ Emission.File path ∷ more ≡ [] → ⊥
none_begun [] more path h = absurd (cc)
none_begun (first ∷ before) more path h = absurd (cc)

file_held : (es : Trace) (snapshot : Name) (given before inside after : List Emission) (path : List (List ℕ)) (bytes : List ℕ) → given ≡ before ++ Emission.File path ∷ (inside ++ Emission.Close ∷ after) → ArePieces inside bytes
    → BeginsSnapshot es snapshot given → FileHolds es snapshot path bytes
file_held es snapshot given before inside after path bytes is are (inl none) = absurd (none_begun before (inside ++ Emission.Close ∷ after) path (sym is ∙ none))
file_held es snapshot given before inside after path bytes is are (inr h) =
    (h.0, h.1, h.2, file_closed h.0 (Received es) h.1 before inside after path bytes (subst (λ all. IsBeginning h.0 (Received es) h.1 all) is h.3) are)

-- ---- the laws

pub restored_is_what_came : RestoredIsWhatCame
restored_is_what_came old new replies talk entries r ended =
    let instance = (who_in old).instance in
    let o = session_obeys (λ (j : Restore). j.snapshot) restore_rule IsNewRestore KnowsRestore (λ j fs. ⊥) new (trace_of talk) (stands_after instance FitsRestore (λ (s : Session Restore). next_in s) old new replies talk r.begins r.took) in (
      came_in instance FitsRestore (λ (s : Session Restore). next_in s) old new replies talk r.took,
      subst (λ (w : Wish). IsRestored (before_unlock (trace_of talk)) w.snapshot entries) r.wish (o.concluded (Outcome.Complete entries) ended).0,
      given_before (wish_of new) (trace_of talk) o.obeys ∙ sym (given_is talk),
    )

pub given_is_what_came : GivenIsWhatCame
given_is_what_came old new replies talk given r c =
    let instance = (who_in old).instance in
    let o = session_obeys (λ (j : Restore). j.snapshot) restore_rule IsNewRestore KnowsRestore (λ j fs. ⊥) new (trace_of talk) (stands_after instance FitsRestore (λ (s : Session Restore). next_in s) old new replies talk r.begins r.took) in (
      came_in instance FitsRestore (λ (s : Session Restore). next_in s) old new replies talk r.took,
      subst (λ (w : Wish). MayBeGiven (trace_of talk) w.snapshot given) r.wish (given_of (wish_of new) talk given o.obeys c).1,
    )

pub given_is_a_beginning : GivenIsABeginning
given_is_a_beginning old new replies talk r =
    let instance = (who_in old).instance in
    let o = session_obeys (λ (j : Restore). j.snapshot) restore_rule IsNewRestore KnowsRestore (λ j fs. ⊥) new (trace_of talk) (stands_after instance FitsRestore (λ (s : Session Restore). next_in s) old new replies talk r.begins r.took) in
    let begun = begun_of (wish_of new) (trace_of talk) o.obeys in (
      came_in instance FitsRestore (λ (s : Session Restore). next_in s) old new replies talk r.took,
      subst (λ given. BeginsSnapshot (trace_of talk) (wish_of old).snapshot given) (sym (given_is talk)) (subst (λ (w : Wish). BeginsSnapshot (trace_of talk) w.snapshot (emitted_in (trace_of talk))) r.wish begun),
    )

pub closed_is_whole : ClosedIsWhole
closed_is_whole old new replies talk before inside after path bytes r is are =
    let instance = (who_in old).instance in
    let o = session_obeys (λ (j : Restore). j.snapshot) restore_rule IsNewRestore KnowsRestore (λ j fs. ⊥) new (trace_of talk) (stands_after instance FitsRestore (λ (s : Session Restore). next_in s) old new replies talk r.begins r.took) in
    let begun = begun_of (wish_of new) (trace_of talk) o.obeys in (
      came_in instance FitsRestore (λ (s : Session Restore). next_in s) old new replies talk r.took,
      subst (λ (w : Wish). FileHolds (trace_of talk) w.snapshot path bytes) r.wish (file_held (trace_of talk) (wish_of new).snapshot (emitted_in (trace_of talk)) before inside after path bytes (sym (given_is talk) ∙ is) are begun),
    )
