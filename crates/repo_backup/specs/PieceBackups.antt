-- A backup that is fed items, and its job.
use Rattle.std.specs.Prelude.{◌≡◌, ◌≢◌, ◌<◌, ◌∷◌, [], ℕ, List, Some, None}
use Rattle.repo_name.specs.declared.kinds.Kind.{Kind}
use Rattle.repo_name.specs.declared.names.Name.{Name}
use Rattle.repo_name.specs.declared.tokens.Token.{Token}
use Rattle.repo_index.specs.declared.facts.Fact.{Fact}
use Rattle.repo_index.specs.declared.facts.PackFacts.{PackFacts}
use Rattle.repo_session.specs.Askers.{Holding}
use Rattle.repo_session.specs.Jobs.{HeedsReply, Rule, TurnsOn, MayGoOn}
use Rattle.repo_session.specs.Order.{IsWorking}
use Rattle.repo_session.specs.Sessions.{FitsWanting, IsAwaited, IsPut, next_in, ended_in}
use Rattle.repo_session.specs.Traces.{Trace, silent, fed_in, feeding}
use Rattle.repo_session.specs.declared.jobs.Step.{Step}
use Rattle.repo_wire.specs.declared.messages.Ask.{Ask}
use Rattle.repo_wire.specs.declared.messages.Request.{Request}
use Rattle.repo_wire.specs.declared.messages.Say.{Say}
use Rattle.repo_backup.specs.Items.{AreTaken, ItemFault, place_of, fed_part, fed_of, size_of}
use Rattle.repo_backup.specs.PieceRules.{piece_rule}
use Rattle.repo_backup.specs.PieceStates.{piece_task, CanUnread, KnowsPieceReading, KnowsPieces, WantsPieces, IsPieceDue, LaysSo}
use Rattle.repo_backup.specs.Pieces.{IsReady}
use Rattle.repo_backup.specs.declared.items.FeedError.{FeedError}
use Rattle.repo_backup.specs.declared.items.Item.{Item}
use Rattle.repo_backup.specs.declared.piece_backing.PieceBacking.{PieceBacking}
use Rattle.repo_backup.specs.declared.piece_backups.PieceBackup.{PieceBackup}
use Rattle.repo_backup.specs.declared.piece_jobs.PieceJob.{PieceJob}
use Rattle.repo_backup.specs.declared.walks.Went.{Went}

-- ---- the job

-- it hasn't begun
pub record IsFreshPieces (j : PieceJob) : Type 0 where
  pub of_indexes : j.catalog.roll.kind ≡ Kind.Index
  pub no_names : j.catalog.roll.names.items ≡ []
  pub none_read : j.catalog.roll.read ≡ 0
  pub no_facts : j.catalog.lookup ≡ []

-- what it knows where this is pending; what it knows of the reading; and what it knows where it wants input
abbrev pub PieceKnows : PieceJob → Ask → Trace → Type 0
PieceKnows j ask es = KnowsPieces j.catalog j.backing ask es

abbrev pub PieceReads : PieceJob → Ask → Trace → Type 0
PieceReads j ask es = KnowsPieceReading j.catalog j.backing ask es

-- its state is the one in which it wants input, except for what the last reading can be taken back to
abbrev pub PieceRests : PieceJob → Trace → Type 0
PieceRests j es = WantsPieces j.catalog j.backing es

-- the last reading can be taken back
abbrev pub PieceUnreads : PieceJob → Trace → Type 0
PieceUnreads j es = (b : PieceBacking) → j.backing ≡ Some b → CanUnread j.catalog j.noted b.work es

abbrev pub PieceWants : PieceJob → Trace → Type 0
PieceWants j es = PieceRests j es × PieceUnreads j es

-- its work can take an item
abbrev pub IsPieceOpen : PieceJob → Type 0
IsPieceOpen j = (b : PieceBacking) × (j.backing ≡ Some b) × IsReady b.work

-- what it does on a reply, after each trace at whose end this was pending
abbrev pub PieceReplies : (PieceJob → Ask → Trace → Type 0) → PieceJob → Holding → Ask → Say → Step → PieceJob → Type 0
PieceReplies Knew old holding ask say step new = TurnsOn piece_rule holding (Knew old) (PieceKnows new) (PieceWants new) (silent ask say) step

-- the step ends the backup by that reply, where a job ends at once on it, after each trace at whose end this was pending
abbrev pub PieceHeeds : (PieceJob → Ask → Trace → Type 0) → PieceJob → Holding → Ask → Say → Step → Type 0
PieceHeeds Knew old holding ask say step = HeedsReply piece_rule holding (Knew old) (silent ask say) step

-- what it does next, after each trace where this holds of its work
abbrev pub PieceSends : (List Fact → PieceBacking → Trace → Type 0) → PieceJob → Holding → Step → PieceJob → Type 0
PieceSends Due old holding step new = (b : PieceBacking) (es : Trace) → IsWorking (piece_task holding.who) holding.token es → old.backing ≡ Some b → Due old.catalog.lookup b es
    → MayGoOn piece_rule holding.who (PieceKnows new) (PieceRests new) es step

-- its work made parts and went so, and all else but that is the same
abbrev pub PieceLaysOn : Went → PieceJob → PieceJob → Type 0
PieceLaysOn went old new = (b : PieceBacking) → old.backing ≡ Some b → (c : PieceBacking) × (new.backing ≡ Some c) × (c ≡ record b { work = c.work }) × LaysSo old.catalog.lookup b.work went c.work

-- it doesn't want input where a pack is sealed
abbrev pub PieceBusy : PackFacts → PieceJob → Step → Type 0
PieceBusy listed old step = (b : PieceBacking) (es : Trace) → old.backing ≡ Some b → IsPieceDue old.catalog.lookup b listed es → step ≢ Step.Want

-- what is known while an object of this kind is put stays known
abbrev pub KeepsPut : Kind → PieceJob → PieceJob → Type 0
KeepsPut kind old new = (token : Token) (n : Name) (x : List ℕ) (es : Trace) → PieceKnows old (Ask.Put token kind n x) es → PieceKnows new (Ask.Put token kind n x) es

-- what it does on an item of which so many bytes were taken, after each trace where it wanted input; and the items with this one may be taken
abbrev pub PieceFeeds : PieceJob → Holding → Item → ℕ → Step → PieceJob → Type 0
PieceFeeds old holding item n step new = (es : Trace) → IsWorking (piece_task holding.who) holding.token es → PieceWants old es
    → MayGoOn piece_rule holding.who (PieceKnows new) (PieceWants new) (feeding (fed_part n item) es) step × (n < size_of item → step ≢ Step.Want) × AreTaken (fed_part n item ∷ fed_in es)

-- after each trace where it wanted input this is the item's first fault, and it wants input as before
abbrev pub PieceRefuses : PieceJob → Item → FeedError → PieceJob → Type 0
PieceRefuses old item e new = (es : Trace) → PieceWants old es → ItemFault (place_of (fed_in es)) (fed_of item) e × PieceWants new es

-- it was handed nothing, and its rule is that of pieces
abbrev pub given_nothing : PieceJob → Unit {0}
given_nothing j = tt

abbrev pub by_piece_rule : Unit {0} → Rule
by_piece_rule h = piece_rule

-- ---- the client

-- the code's backup stands where the trace leaves it
abbrev pub FitsPieces : PieceBackup → Trace → Type 0
FitsPieces b es = FitsWanting given_nothing by_piece_rule IsFreshPieces PieceKnows PieceWants b.session es

-- a put was asked for after the trace, and its reply is awaited
abbrev pub PieceAwaits : PieceBackup → Request → Trace → Type 0
PieceAwaits b request es = IsAwaited piece_rule b.session.head.holder request es

-- it was supposed that this put, which was pending, is done: the reply to it is awaited, and were it that, the backup would stand where it leads
pub record PieceSupposes (old : PieceBackup) (request : Request) (new : PieceBackup) : Type 0 where
  pub pending : next_in old.session ≡ Some request
  pub unended : ended_in old.session ≡ None
  pub put : IsPut request.ask
  pub awaits : (es : Trace) → FitsPieces old es → PieceAwaits new request es
  pub fits : (es : Trace) → FitsPieces old es → FitsPieces new (silent request.ask Say.Done ∷ es)

-- it wants input
abbrev pub IsHungry : PieceBackup → Type 0
IsHungry b = (next_in b.session ≡ None) × (ended_in b.session ≡ None)
