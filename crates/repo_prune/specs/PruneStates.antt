-- What is known while a prune goes on.
use Rattle.std.specs.Prelude.{⊤, ◌≡◌, ◌≢◌, ◌≤◌, ◌⊎◌, ◌↔◌, ◌+◌, ◌++◌, ◌∷◌, [], ℕ, true, false, List, Option, length, map, take, slice_get, Some, Contains}
use Rattle.std.specs.declared.cmp.Ordering.TheVariants.{Less}
use Rattle.std.specs.List.Sorted.{IsStrictlySortedBy}
use Rattle.std.specs.List.{AllPairs}
use Rattle.repo_name.specs.Naming as naming
use Rattle.repo_name.specs.Naming.{name_cmp}
use Rattle.repo_name.specs.declared.kinds.BlobKind.{BlobKind}
use Rattle.repo_name.specs.declared.kinds.BlobKind.TheVariants.{Tree}
use Rattle.repo_name.specs.declared.kinds.Kind.{Kind}
use Rattle.repo_name.specs.declared.names.Name.{Name}
use Rattle.repo_name.specs.declared.tokens.Token.{Token}
use Rattle.repo_wire.specs.declared.messages.Ask.{Ask}
use Rattle.repo_wire.specs.declared.messages.Say.{Say}
use Rattle.repo_pack.specs.PackLayout.{Item}
use Rattle.repo_pack.specs.declared.places.Place.{Place}
use Rattle.repo_index.specs.IndexText.{facts_in, IsIndexText}
use Rattle.repo_index.specs.Order.{place_cmp, place_first}
use Rattle.repo_index.specs.declared.facts.Fact.{Fact}
use Rattle.repo_index.specs.declared.facts.PackFacts.{PackFacts}
use Rattle.repo_tree.specs.declared.configs.Config.{Config}
use Rattle.repo_session.specs.Versions.{upto}
use Rattle.repo_session.specs.declared.versions.Versions.{Versions}
use Rattle.repo_session.specs.declared.jobs.Step.{Step}
use Rattle.repo_session.specs.declared.rolls.Roll.{Roll}
use Rattle.repo_session.specs.Askers.{Asker}
use Rattle.repo_session.specs.Blobs.{range_of, HasCome}
use Rattle.repo_session.specs.Catalogs.{AreIndexed, Catalogs, IsAll}
use Rattle.repo_session.specs.Deletions.{DeleteDone, NoneDeleted, names_deleted}
use Rattle.repo_session.specs.Ends.{Concludes}
use Rattle.repo_session.specs.Jobs.{HeedsReply, MayAsk, StepsOn}
use Rattle.repo_session.specs.Listings.{IsSnapshotListing, IsFreshRoll, KnowsSnapshots}
use Rattle.repo_session.specs.Order.{IsWorking}
use Rattle.repo_session.specs.Readings.{KnowsIndexes, KnowsRoll}
use Rattle.repo_session.specs.Received.{Received}
use Rattle.repo_session.specs.Rolls.{IsPaged, Rolls}
use Rattle.repo_session.specs.Sessions.{FitsSession}
use Rattle.repo_session.specs.declared.sessions.Session.{Session}
use Rattle.repo_session.specs.Told.{AskedToPut}
use Rattle.repo_session.specs.Traces.{Each, Object, Trace, silent, names_in, objects_put, IsListed, Lists, ReadFact}
use Rattle.repo_reach.specs.Collected.{root_of}
use Rattle.repo_reach.specs.Laws.{IsWholeWalk}
use Rattle.repo_reach.specs.declared.trees.Trees.{Trees}
use Rattle.repo_writing.specs.Blobs.{HasFact, AreFactsOnce}
use Rattle.repo_writing.specs.Filling.{HasConfig}
use Rattle.repo_writing.specs.Putting.{AreCounted}
use Rattle.repo_writing.specs.Sealing.{IsSealedOf}
use Rattle.repo_writing.specs.Writing.{Put, items_of, ArePut, AreListed, ListsPack}
use Rattle.repo_writing.specs.declared.counts.Counts.{Counts}
use Rattle.repo_prune.specs.Keeping.{Row}
use Rattle.repo_prune.specs.Moving.{IsMoving, AwaitsBlob, copy_at}
use Rattle.repo_prune.specs.Pruning.{prune_rule, prune_task, ArePacksListed, HasOnlyListed, IsUntouched, AreTrees, IsNeededBy, AreWalked, MayStayBy, MustMoveBy, IsTreeWanted, IsWanted, AreLastMoved, IsPutOrStays, WasReceived, WasBad, AreBadCopies, AreFewParts, IsCopyWanted, parts_asked, AscendByName, AreCovered, IsSettled, PruneConcludes}
use Rattle.repo_prune.specs.Reading.{Walks, Awaits, HasTaken}
use Rattle.repo_prune.specs.Relisting.{AreListable}
use Rattle.repo_prune.specs.declared.deleting.Deleting.{Deleting}
use Rattle.repo_prune.specs.declared.moving.Moved.{Moved}
use Rattle.repo_prune.specs.declared.moving.Moving.{Moving}
use Rattle.repo_prune.specs.declared.prunes.Onward.{Onward}
use Rattle.repo_prune.specs.declared.prunes.Prune.{Prune}
use Rattle.repo_prune.specs.declared.prunes.Stage.{Stage}
use Rattle.repo_prune.specs.declared.relisting.Relisting.{Relisting}

-- ---- what was listed and read

-- the config was read, and wants packs of so many bytes
abbrev pub HasTarget : Trace → ℕ → Type 0
HasTarget es bytes = (config : Config) × HasConfig es config × (config.target ≡ bytes)

-- the snapshots, the names of the indexes and the facts that they give, the names of the packs, and how many bytes new ones are to reach
pub record Known : Type 0 where
  pub rows : List Row
  pub indexes : List Name
  pub facts : List Fact
  pub packs : List Name
  pub target : ℕ

-- all three are listed to their end; each snapshot and each index was read, and reads; just these facts the indexes give; and so many bytes the config wants
pub record AreAllListed (k : Known) (es : Trace) : Type 0 where
  pub snapshots : IsSnapshotListing es k.rows
  pub indexes : AreIndexed es
  pub listed : names_in Kind.Index es ≡ k.indexes
  pub gives : (fact : Fact) → Contains k.facts fact ↔ ReadFact es fact
  pub packs : IsPaged Kind.Pack k.packs true es
  pub target : HasTarget es k.target

-- and each pack of which an index gives a fact is listed
pub record HaveRead (k : Known) (es : Trace) : Type 0 where
  pub all : AreAllListed k es
  pub there : ArePacksListed es

-- ---- trees

-- a walk over just the trees that were received, no two of one name, from the roots of all snapshots, each of its version; a part of a pack was asked for once for each
pub record IsWalkOver (k : Known) (texts : List (List ℕ)) (trees : Trees) (es : Trace) : Type 0 where
  pub read : HaveRead k es
  pub untouched : IsUntouched es
  pub roots : trees.roots.items ≡ map (λ (row : Row). root_of row.1.tree row.1.version) k.rows
  pub received : (x : List ℕ) → Contains texts x → Received es Tree x
  pub all : (x : List ℕ) → Received es Tree x → Contains texts x
  pub apart : AllPairs (λ (x y : List ℕ). naming.name x ≢ naming.name y) texts
  pub parts : parts_asked es ≤ length texts

-- the tree of this fact was asked for, and is wanted
pub record KnowsWalking (k : Known) (trees : Trees) (fact : Fact) (ask : Ask) (es : Trace) : Type 0 where
  pub texts : List (List ℕ)
  pub over : IsWalkOver k texts trees es
  pub awaits : Awaits k.facts texts trees fact
  pub asks : ask ≡ range_of fact
  pub wanted : IsTreeWanted es fact

-- all trees were read
pub record HasWalked (k : Known) (trees : Trees) (es : Trace) : Type 0 where
  pub texts : List (List ℕ)
  pub over : IsWalkOver k texts trees es
  pub walks : Walks k.facts texts trees
  pub whole : IsWholeWalk trees

-- ---- the plan

-- These packs stay, and just these blobs move, those that have to, by their places: there are trees that were received, in which each tree that a snapshot reaches is there; and what snapshots reach in
-- them are just the pairs of these facts, no two of which are of one pair.
pub record ArePlanned (k : Known) (kept : List PackFacts) (moves : List Fact) (es : Trace) : Type 0 where
  pub texts : List (List ℕ)
  pub trees : AreTrees es texts
  pub walked : AreWalked k.rows texts
  pub given : (kind : BlobKind) (n : Name) → IsNeededBy k.rows texts kind n → HasFact (facts_in kept ++ moves) kind n
  pub just : (fact : Fact) → Contains (facts_in kept ++ moves) fact → IsNeededBy k.rows texts fact.kind fact.name
  pub once : AreFactsOnce (facts_in kept ++ moves)
  pub kept_are : (listed : PackFacts) → Contains kept listed → MayStayBy (IsNeededBy k.rows texts) k.facts listed
  pub listable : AreListable kept
  pub moves_are : (fact : Fact) → Contains moves fact → ReadFact es fact
  pub must : (fact : Fact) → Contains moves fact ↔ MustMoveBy (IsNeededBy k.rows texts) k.facts fact
  pub ascend : IsStrictlySortedBy place_first moves

-- it is planned, nothing was put yet, and no part of a pack asked for but once for each tree
pub record HasPlanned (k : Known) (kept : List PackFacts) (moves : List Fact) (es : Trace) : Type 0 where
  pub read : HaveRead k es
  pub untouched : IsUntouched es
  pub planned : ArePlanned k kept moves es
  pub parts : AreFewParts es 0

-- ---- moving

-- these packs were put, and that is done, and then these are put next (one, or none); they are listed behind those that stay; and all are to reach what the
-- config wants
pub record IsRepacking (k : Known) (m : Moving) (puts next : List Put) (es : Trace) : Type 0 where
  pub read : HaveRead k es
  pub none : NoneDeleted es
  pub kept : List PackFacts
  pub planned : ArePlanned k kept m.moves.items es
  pub put : ArePut m.counts puts next es
  pub unindexed : objects_put Kind.Index es ≡ []
  pub unstored : objects_put Kind.Snapshot es ≡ []
  pub listed : m.listed.items ≡ kept ++ map (λ (p : Put). p.listed) (puts ++ next)
  pub aim : m.packer.target.bytes ≡ k.target

-- the blobs of these facts were received
abbrev pub AreReceived : Trace → List Fact → Type 0
AreReceived es facts = (fact : Fact) → Contains facts fact → WasReceived es fact.kind fact.name

-- the first so many of these were; and a part of a pack was asked for at most once for each tree, for each of them, and for each copy of these that came bad
pub record HaveCome (es : Trace) (moves : List Fact) (count : ℕ) : Type 0 where
  pub received : AreReceived es (take count moves)
  pub bad : List Fact
  pub tried : AreBadCopies es (take count moves) bad
  pub parts : AreFewParts es (count + length bad)

-- a copy that came bad is of a blob before the one that is awaited; or it is of this one, and lies before the copy that is
abbrev pub IsTriedBefore : List Fact → Fact → Fact → Type 0
IsTriedBefore before awaited copy = HasFact before copy.kind copy.name ⊎ ((copy.kind ≡ awaited.kind) × (copy.name ≡ awaited.name) × (place_cmp copy.place awaited.place ≡ Less))

-- a copy of the blob behind the first so many is awaited: these were received; each copy that came bad was tried before; and no more parts were asked for
pub record AwaitsCopy (es : Trace) (moves : List Fact) (count : ℕ) (awaited : Fact) : Type 0 where
  pub received : AreReceived es (take count moves)
  pub copies : List Fact
  pub of : (copy : Fact) → Contains copies copy → IsTriedBefore (take count moves) awaited copy
  pub bad : (copy : Fact) → Contains copies copy → WasBad es copy
  pub apart : AllPairs (λ (a b : Fact). a ≢ b) copies
  pub parts : AreFewParts es (count + length copies)

-- a copy of a blob was asked for, which is wanted, and the blobs before it were received
pub record KnowsMove (k : Known) (m : Moving) (place : Option Place) (ask : Ask) (es : Trace) : Type 0 where
  pub puts : List Put
  pub sealed : List Item
  pub fact : Fact
  pub repacking : IsRepacking k m puts [] es
  pub awaits : AwaitsBlob m fact (items_of puts) sealed
  pub asks : ask ≡ range_of (copy_at fact place)
  pub wanted : IsCopyWanted es (copy_at fact place)
  pub received : AwaitsCopy es m.moves.items m.asked (copy_at fact place)

-- a pack is being put, and all blobs added so far were received
pub record PrunePutsPack (k : Known) (m : Moving) (n : Name) (x : List ℕ) (es : Trace) : Type 0 where
  pub puts : List Put
  pub put : Put
  pub sealed : List Item
  pub repacking : IsRepacking k m puts (put ∷ []) es
  pub pack_is : put.pack ≡ record { name = n; bytes = x }
  pub moving : IsMoving m (items_of (puts ++ put ∷ [])) sealed
  pub received : HaveCome es m.moves.items m.added

-- all blobs are in packs that were put, which is done
pub record HasMoved (k : Known) (m : Moving) (es : Trace) : Type 0 where
  pub puts : List Put
  pub repacking : IsRepacking k m puts [] es
  pub moving : IsMoving m (items_of puts) []
  pub written : m.packer.writer.items ≡ []
  pub all : length m.moves.items ≤ m.added

-- ---- new indexes

-- each of the packs was put, which is done, or stays, they are in the order of their names, and they give what the snapshots need; and nothing more waits to be moved
pub record ArePacked (k : Known) (packs : List PackFacts) (counts : Counts) (es : Trace) : Type 0 where
  pub read : HaveRead k es
  pub none : NoneDeleted es
  pub puts : List Put
  pub put : ArePut counts puts [] es
  pub stand : (p : Put) → Contains puts p → Contains packs p.listed
  pub covered : AreCovered es k.rows packs
  pub each : (listed : PackFacts) → Contains packs listed → IsPutOrStays es (IsNeededBy k.rows covered.texts) k.facts listed
  pub moved : AreLastMoved (IsNeededBy k.rows covered.texts) k.facts es []
  pub listable : AreListable packs
  pub ascend : AscendByName packs
  pub unstored : objects_put Kind.Snapshot es ≡ []

-- the names of the indexes that were put
abbrev pub indexes_put : Trace → List Name
indexes_put es = map (λ (o : Object). o.name) (objects_put Kind.Index es)

-- so many of the packs are listed by indexes put, which are done
pub record MayList (k : Known) (r : Relisting) (es : Trace) : Type 0 where
  pub packed : ArePacked k r.packs.items r.counts es
  pub lists : AreListed (take r.listed r.packs.items) [] es
  pub named : r.indexes.items ≡ indexes_put es

-- an index of some more of them is being put
pub record PrunePutsIndex (k : Known) (r : Relisting) (n : Name) (x : List ℕ) (es : Trace) : Type 0 where
  pub packed : ArePacked k r.packs.items r.counts es
  pub waiting : List PackFacts
  pub lists : AreListed (take r.listed r.packs.items) waiting es
  pub reads : IsIndexText x waiting
  pub named : r.indexes.items ≡ indexes_put es ++ n ∷ []

-- all of them are listed
pub record HasListed (k : Known) (r : Relisting) (es : Trace) : Type 0 where
  pub may : MayList k r es
  pub all : length r.packs.items ≤ r.listed

-- ---- deletes

-- an index is old: it was listed, and wasn't put
abbrev pub IsOldIndex : Trace → Name → Type 0
IsOldIndex es n = Lists es Kind.Index n × ¬ AskedToPut es Kind.Index n

-- a pack is old: it was listed, it wasn't put, and no index put lists it
pub record IsOldPack (es : Trace) (packs : List PackFacts) (n : Name) : Type 0 where
  pub among : Lists es Kind.Pack n
  pub unput : ¬ AskedToPut es Kind.Pack n
  pub unlisted : ¬ ListsPack packs n

-- deletes may begin, and these old indexes and packs are all that there are, each once
pub record MayClear (packs : List PackFacts) (d : Deleting) (es : Trace) : Type 0 where
  pub settled : IsSettled es packs
  pub all : IsListed Kind.Pack es
  pub indexes_old : (n : Name) → Contains d.indexes.items n → IsOldIndex es n
  pub indexes_all : (n : Name) → Lists es Kind.Index n → AskedToPut es Kind.Index n ⊎ Contains d.indexes.items n
  pub packs_old : (n : Name) → Contains d.packs.items n → IsOldPack es packs n
  pub packs_all : (n : Name) → Lists es Kind.Pack n → ListsPack packs n ⊎ Contains d.packs.items n
  pub indexes_ascend : IsStrictlySortedBy name_cmp d.indexes.items
  pub packs_ascend : IsStrictlySortedBy name_cmp d.packs.items
  pub blobs : ℕ
  pub counted : AreCounted es blobs d.bytes

-- and of the first of them the deletes are done
pub record IsClearing (d : Deleting) (es : Trace) : Type 0 where
  pub packs : List PackFacts
  pub may : MayClear packs d es
  pub indexes_gone : Each (λ n. DeleteDone es Kind.Index n) (take d.indexes_gone d.indexes.items)
  pub packs_gone : Each (λ n. DeleteDone es Kind.Pack n) (take d.packs_gone d.packs.items)
  pub indexes_deleted : names_deleted Kind.Index es ≡ take d.indexes_gone d.indexes.items
  pub deleted : names_deleted Kind.Pack es ≡ take d.packs_gone d.packs.items

-- ---- while snapshots, indexes and packs are being listed

-- no page of packs came
pub record AreUnlisted (packs : Roll) (es : Trace) : Type 0 where
  pub of_packs : packs.kind ≡ Kind.Pack
  pub none_read : packs.read ≡ 0
  pub rolled : Rolls packs false es

-- snapshots are being read, and no page of indexes came
pub record ReadsSnapshots (j : Prune) (ask : Ask) (es : Trace) : Type 0 where
  pub untouched : HasOnlyListed es
  pub snapshots : KnowsSnapshots j.snapshots ask es
  pub indexes : Catalogs j.catalog false es
  pub none_read : j.catalog.roll.read ≡ 0
  pub packs : AreUnlisted j.packs es
  pub target : HasTarget es j.target.bytes

-- snapshots were read, and indexes are being read
pub record ReadsIndexes (j : Prune) (ask : Ask) (es : Trace) : Type 0 where
  pub untouched : HasOnlyListed es
  pub snapshots : IsSnapshotListing es j.snapshots.rows.items
  pub indexes : KnowsIndexes j.catalog ask es
  pub packs : AreUnlisted j.packs es
  pub target : HasTarget es j.target.bytes

-- indexes were read too, and packs are being listed
pub record ListsPacks (j : Prune) (ask : Ask) (es : Trace) : Type 0 where
  pub untouched : HasOnlyListed es
  pub snapshots : IsSnapshotListing es j.snapshots.rows.items
  pub indexes : Catalogs j.catalog true es
  pub all : IsAll j.catalog
  pub of_packs : j.packs.kind ≡ Kind.Pack
  pub packs : KnowsRoll j.packs ask es
  pub target : HasTarget es j.target.bytes

-- ---- in each stage

-- nothing was listed yet
pub record IsFreshPrune (j : Prune) : Type 0 where
  pub snapshots : IsFreshRoll j.snapshots
  pub of_indexes : j.catalog.roll.kind ≡ Kind.Index
  pub no_indexes : j.catalog.roll.names.items ≡ []
  pub no_index_read : j.catalog.roll.read ≡ 0
  pub no_facts : j.catalog.lookup ≡ []
  pub of_packs : j.packs.kind ≡ Kind.Pack
  pub no_packs : j.packs.names.items ≡ []
  pub no_pack_read : j.packs.read ≡ 0

abbrev pub KnowsMoving : Known → Moving → Option Place → Ask → Trace → Type 0
KnowsMoving k m place (Ask.Range pack offset len) es = KnowsMove k m place (Ask.Range pack offset len) es
KnowsMoving k m place (Ask.Put token Kind.Pack n x) es = PrunePutsPack k m n x es
KnowsMoving k m place _ es = ⊥

abbrev pub KnowsRelisting : Known → Relisting → Ask → Trace → Type 0
KnowsRelisting k r (Ask.Put token Kind.Index n x) es = PrunePutsIndex k r n x es
KnowsRelisting k r _ es = ⊥

abbrev pub KnowsDeleting : Deleting → Ask → Trace → Type 0
KnowsDeleting d (Ask.Delete token Kind.Index n) es = (slice_get d.indexes.items d.indexes_gone ≡ Some n) × IsClearing d es
KnowsDeleting d (Ask.Delete token Kind.Pack n) es = (length d.indexes.items ≤ d.indexes_gone) × (slice_get d.packs.items d.packs_gone ≡ Some n) × IsClearing d es
KnowsDeleting d _ es = ⊥

-- what is known where this is pending, once all is listed
abbrev pub KnowsStage : Known → Stage → Ask → Trace → Type 0
KnowsStage k Stage.Listing ask es = ⊥
KnowsStage k (Stage.Walking trees fact) ask es = KnowsWalking k trees fact ask es
KnowsStage k (Stage.Moving m place) ask es = KnowsMoving k m place ask es
KnowsStage k (Stage.Relisting r) ask es = KnowsRelisting k r ask es
KnowsStage k (Stage.Deleting d) ask es = KnowsDeleting d ask es

-- what the job listed and read
abbrev pub known_in : Prune → Known
known_in j = record { rows = j.snapshots.rows.items; indexes = j.catalog.roll.names.items; facts = j.catalog.lookup; packs = j.packs.names.items; target = j.target.bytes }

-- what is known where this is pending
abbrev pub KnowsPrune : Prune → Ask → Trace → Type 0
KnowsPrune j (Ask.List Kind.Snapshot after) es = ReadsSnapshots j (Ask.List Kind.Snapshot after) es
KnowsPrune j (Ask.List Kind.Index after) es = ReadsIndexes j (Ask.List Kind.Index after) es
KnowsPrune j (Ask.List Kind.Pack after) es = ListsPacks j (Ask.List Kind.Pack after) es
KnowsPrune j (Ask.Get Kind.Snapshot n) es = ReadsSnapshots j (Ask.Get Kind.Snapshot n) es
KnowsPrune j (Ask.Get Kind.Index n) es = ReadsIndexes j (Ask.Get Kind.Index n) es
KnowsPrune j (Ask.Get Kind.Pack n) es = ⊥
KnowsPrune j ask es = KnowsStage (known_in j) j.stage ask es

-- ---- what comes next

-- in a stage, where the blob that was asked for last came: this may be asked, and is known then; or it may end so
abbrev pub IsNextStep : Known → Asker → Stage → Step → Trace → Type 0
IsNextStep k who stage (Step.Ask ask) es = HasCome IsWanted es → MayAsk prune_rule who (KnowsStage k stage) es ask
IsNextStep k who stage (Step.Finish outcome) es = HasCome IsWanted es → Concludes (upto who.versions) PruneConcludes es outcome
IsNextStep k who stage Step.Want es = ⊥
IsNextStep k who stage Step.Away es = ⊥

-- after each trace of which this is known
abbrev pub ComesAfter : Known → Token → (Trace → Type 0) → Onward → Type 0
ComesAfter k token Knew onward = (who : Asker) (es : Trace) → IsWorking (prune_task who) token es → Knew es → IsNextStep k who onward.stage onward.step es

-- the job is in that stage then
abbrev pub GoesTo : Known → Token → (Trace → Type 0) → Step → Prune → Type 0
GoesTo k token Knew step j = (who : Asker) (es : Trace) → IsWorking (prune_task who) token es → Knew es → IsNextStep (known_in j) who j.stage step es × (known_in j ≡ k)

-- what the moving comes to
abbrev pub MovesTo : Token → Moved → Step → Type 0
MovesTo token (Moved.Ask fact) step = step ≡ Step.Ask (range_of fact)
MovesTo token (Moved.Put sealed) step = (items : List Item) → IsSealedOf sealed items → step ≡ Step.Ask (Ask.Put token Kind.Pack sealed.name sealed.bytes)
MovesTo token _ step = ⊤

-- the tree that was taken last is awaited again
pub record AwaitsAgain (trees : Trees) (fact : Fact) (stage : Stage) : Type 0 where
  pub now : Trees
  pub stage_is : stage ≡ Stage.Walking now fact
  pub roots : now.roots ≡ trees.roots
  pub still : (facts : List Fact) (texts : List (List ℕ)) (before : Trees) → HasTaken before fact.name trees → Awaits facts texts before fact → Awaits facts texts now fact

-- the request is for a page of a kind, or for an object of it
abbrev pub IsListingOf : Kind → Ask → Type 0
IsListingOf k (Ask.List j after) = j ≡ k
IsListingOf k (Ask.Get j n) = j ≡ k
IsListingOf k _ = ⊥

-- the step on an exchange, after each trace at whose end its request was pending
abbrev pub StepsFrom : Prune → Token → Ask → Say → Step → Prune → Type 0
StepsFrom old token ask say step new = (who : Asker) → StepsOn prune_rule (record { who = who; token = token }) (KnowsPrune old) (KnowsPrune new) (silent ask say) step

-- where who prunes knows these versions
abbrev pub StepsFor : Versions → Prune → Token → Ask → Say → Step → Prune → Type 0
StepsFor versions old token ask say step new = (who : Asker) → who.versions ≡ versions → StepsOn prune_rule (record { who = who; token = token }) (KnowsPrune old) (KnowsPrune new) (silent ask say) step

-- where a job ends at once on an exchange, the step ends the prune by that
abbrev pub HeedsFrom : Prune → Token → Ask → Say → Step → Type 0
HeedsFrom old token ask say step = (who : Asker) → HeedsReply prune_rule (record { who = who; token = token }) (KnowsPrune old) (silent ask say) step

-- where who prunes knows these versions
abbrev pub HeedsFor : Versions → Prune → Token → Ask → Say → Step → Type 0
HeedsFor versions old token ask say step = (who : Asker) → who.versions ≡ versions → HeedsReply prune_rule (record { who = who; token = token }) (KnowsPrune old) (silent ask say) step

-- where its reply wasn't taken, what was known is known
abbrev pub KnowsAsMuch : Prune → Ask → Prune → Type 0
KnowsAsMuch old ask new = (es : Trace) → KnowsPrune old ask es → KnowsPrune new ask es

-- ---- the client

-- the prune stands where the trace leaves it
abbrev pub FitsPrune : Session Prune → Trace → Type 0
FitsPrune p es = FitsSession (λ (j : Prune). tt {0}) (λ h. prune_rule) IsFreshPrune KnowsPrune p es
