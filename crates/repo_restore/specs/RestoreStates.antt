-- What is known while a snapshot is restored.
use Rattle.std.specs.Prelude.{◌≡◌, ◌≤◌, ◌⊎◌, [], ⊤, true, false, List, length, ◌∷◌, ℕ}
use Rattle.repo_name.specs.declared.kinds.Kind.{Kind}
use Rattle.repo_name.specs.declared.names.Name.{Name}
use Rattle.repo_wire.specs.declared.messages.Ask.{Ask}
use Rattle.repo_wire.specs.declared.messages.Say.{Say}
use Rattle.repo_index.specs.declared.facts.Fact.{Fact}
use Rattle.repo_tree.specs.Spelling.{Spells, greatest_depth}
use Rattle.repo_session.specs.declared.emissions.Emission.{Emission}
use Rattle.repo_session.specs.declared.jobs.Step.{Step}
use Rattle.repo_session.specs.Askers.{Holding, Asker}
use Rattle.repo_session.specs.Catalogs.{Catalogs, IsAll}
use Rattle.repo_session.specs.Jobs.{HeedsReply, StepsOn, MayStep, task_under, GivesBy}
use Rattle.repo_session.specs.Readings.{KnowsIndexes}
use Rattle.repo_session.specs.Rebuilding.{rebuilt, AreWhole}
use Rattle.repo_session.specs.Sessions.{FitsSession, who_in}
use Rattle.repo_session.specs.declared.sessions.Session.{Session}
use Rattle.repo_session.specs.Traces.{Trace, emitted_in, giving, Exchange}
use Rattle.repo_restore.specs.declared.restores.Restore.{Restore}
use Rattle.repo_restore.specs.declared.restores.Stage.{Stage}
use Rattle.repo_restore.specs.declared.walks.Turn.{Turn}
use Rattle.repo_restore.specs.declared.walks.Walk.{Walk}
use Rattle.repo_session.specs.Received.{Received}
use Rattle.repo_session.specs.Trees.{HasRoot, Under}
use Rattle.repo_session.specs.declared.outcomes.End.{End}
use Rattle.repo_name.specs.declared.kinds.Thing.{Thing}
use Rattle.repo_session.specs.Blobs.{HasCome}
use Rattle.repo_restore.specs.Restoring.{Wish, counted, HasGoneOn, IsAskedOnce, IsBrokenNext, IsDueBlob, restore_rule}
use Rattle.repo_restore.specs.Walking.{WaitsForBlob, WalkEnds}
use Rattle.repo_name.specs.Naming as naming
use Rattle.repo_name.specs.declared.tokens.Token.{Token}
use Rattle.repo_session.specs.Order.{IsWorking}

-- the request for the place of a fact
abbrev pub IsRangeOf : Fact → Ask → Type 0
IsRangeOf fact ask = ask ≡ Ask.Range fact.place.pack fact.place.offset fact.place.length

-- ---- over the code's own types

-- the walk hasn't begun, and nothing was given out
pub record IsBefore (walk : Walk) (given : List Emission) (es : Trace) : Type 0 where
  pub no_levels : walk.levels.items ≡ []
  pub no_entries : walk.entries ≡ 0
  pub not_onward : walk.onward ≡ false
  pub none_given : given ≡ []
  pub nothing : emitted_in es ≡ []

-- nothing was asked for yet
pub record IsNewRestore (j : Restore) : Type 0 where
  pub at_start : j.stage ≡ Stage.Snapshot
  pub of_indexes : j.catalog.roll.kind ≡ Kind.Index
  pub no_names : j.catalog.roll.names.items ≡ []
  pub none_read : j.catalog.roll.read ≡ 0
  pub no_facts : j.catalog.lookup ≡ []
  pub no_levels : j.walk.levels.items ≡ []
  pub no_entries : j.walk.entries ≡ 0
  pub not_onward : j.walk.onward ≡ false
  pub none_given : j.given.items ≡ []

-- the walk waits for the blob that is asked for; where that is no further part, something was given out right before, or no blob was asked for
pub record IsWalking (j : Restore) (version : ℕ) (fact : Fact) (es : Trace) : Type 0 where
  pub root : Name
  pub found : HasRoot es j.snapshot version root
  pub indexes : Catalogs j.catalog true es
  pub all : IsAll j.catalog
  pub waits : WaitsForBlob j.catalog.lookup version (Received es) root j.walk fact (emitted_in es)
  pub went : j.walk.onward ≡ false → HasGoneOn es
  pub once : IsAskedOnce es version root fact.kind fact.name

-- what is known at each stage where this is pending
abbrev pub KnowsAtStage : Restore → Stage → Ask → Trace → Type 0
KnowsAtStage j Stage.Snapshot ask es = (ask ≡ Ask.Get Kind.Snapshot j.snapshot) × (j.catalog.roll.read ≡ 0) × Catalogs j.catalog false es × IsBefore j.walk j.given.items es
KnowsAtStage j (Stage.Indexes root version) ask es = KnowsIndexes j.catalog ask es × HasRoot es j.snapshot version root × IsBefore j.walk j.given.items es
KnowsAtStage j (Stage.Walk fact version) ask es = IsRangeOf fact ask × IsWalking j version fact es

abbrev pub KnowsRestore : Restore → Ask → Trace → Type 0
KnowsRestore j ask es = KnowsAtStage j j.stage ask es

-- the step on the reply to what was pending, with what was given out on it, for who holds this lock
abbrev pub RestoreRepliedTo : Holding → Restore → Ask → Say → Step → Restore → Type 0
RestoreRepliedTo holding old ask say step new = StepsOn (restore_rule old.snapshot) holding (KnowsRestore old) (KnowsRestore new) (giving ask say new.given.items) step

-- whoever holds it
abbrev pub RestoreReplied : Restore → Ask → Say → Step → Restore → Type 0
RestoreReplied old ask say step new = (holding : Holding) → RestoreRepliedTo holding old ask say step new

-- the step ends the restore by that reply, where a job ends at once on it, for who holds this lock
abbrev pub RestoreHeedsFor : Holding → Restore → Ask → Say → Step → Restore → Type 0
RestoreHeedsFor holding old ask say step new = HeedsReply (restore_rule old.snapshot) holding (KnowsRestore old) (giving ask say new.given.items) step

-- whoever holds it
abbrev pub RestoreHeeds : Restore → Ask → Say → Step → Restore → Type 0
RestoreHeeds old ask say step new = (holding : Holding) → RestoreHeedsFor holding old ask say step new

-- where nothing was taken, what was known is known
abbrev pub RestoreStays : Restore → Restore → Type 0
RestoreStays old new = (new.given ≡ old.given) × ((ask : Ask) (es : Trace) → KnowsRestore old ask es → KnowsRestore new ask es)

-- the tree that the newest exchange brought was next, and can't be restored there
abbrev pub IsRefused : Trace → ℕ → Name → End → Type 0
IsRefused es version root end = (tree : Name) × (path : List (List ℕ)) × (end ≡ End.BadObject Thing.Tree tree) × Under version (Received es) root path tree × (length path ≤ greatest_depth) × IsBrokenNext es version root path tree

-- what is known by what comes next of the walk
abbrev pub RestoreTurnIs : List Fact → Walk → ℕ → Name → Trace → Turn → Type 0
RestoreTurnIs facts walk version root es (Turn.Ask fact) = WaitsForBlob facts version (Received es) root walk fact (emitted_in es)
RestoreTurnIs facts walk version root es (Turn.Complete count) = Spells version (Received es) root [] (rebuilt (emitted_in es)) × (count ≡ counted (length (rebuilt (emitted_in es)))) × AreWhole (emitted_in es)
RestoreTurnIs facts walk version root es (Turn.Ended end) = WalkEnds facts version (Received es) root (emitted_in es) end ⊎ IsRefused es version root end

-- what is asked for next isn't asked for again; and where that is no further part, something was given out, or no blob was asked for
abbrev pub TurnIsOnce : Walk → Trace → ℕ → Name → Turn → Type 0
TurnIsOnce walk es version root (Turn.Ask fact) = IsAskedOnce es version root fact.kind fact.name × (walk.onward ≡ false → HasGoneOn es)
TurnIsOnce walk es version root _ = ⊤

-- all indexes were read, and the walk goes on so; and the blob that was asked for last came
pub record IsTurnNext (j : Restore) (version : ℕ) (es : Trace) (turn : Turn) : Type 0 where
  pub root : Name
  pub found : HasRoot es j.snapshot version root
  pub indexes : Catalogs j.catalog true es
  pub all : IsAll j.catalog
  pub turns : RestoreTurnIs j.catalog.lookup j.walk version root es turn
  pub once : TurnIsOnce j.walk es version root turn
  pub came : HasCome (IsDueBlob j.snapshot) es

-- the restore stands where the trace leaves it
abbrev pub FitsRestore : Session Restore → Trace → Type 0
FitsRestore s es = FitsSession (λ (j : Restore). j.snapshot) restore_rule IsNewRestore KnowsRestore s es

-- what a restore was made for
abbrev pub wish_of : Session Restore → Wish
wish_of s = record { who = who_in s; snapshot = s.job.snapshot }

-- wherever this turn is next, a step that a client may make
abbrev pub RestoreGoesOn : Restore → ℕ → Turn → Step → Restore → Type 0
RestoreGoesOn old version turn step new = (who : Asker) (token : Token) (e : Exchange) (es : Trace) → IsWorking (task_under (restore_rule old.snapshot) who) token (e ∷ es)
    → GivesBy (restore_rule old.snapshot) es e → IsTurnNext old version (e ∷ es) turn → MayStep (restore_rule old.snapshot) who (KnowsRestore new) es e step

-- the bytes of the blob that a fact gives were replied
abbrev pub RestoreTakesBlob : Restore → Fact → List ℕ → Step → Restore → Type 0
RestoreTakesBlob old fact bytes step new = (ask : Ask) → naming.name bytes ≡ fact.name → length bytes ≡ fact.place.length → RestoreReplied old ask (Say.Bytes bytes) step new
