-- What keeps the bag invariant, by the kind of the event; and what it gives of versions.
use Rattle.std.specs.Prelude.{◌≡◌, ⊤, ℕ, Bool, List, Some}
use Rattle.repo_name.specs.declared.kinds.Kind.{Kind}
use Rattle.repo_name.specs.declared.names.Name.{Name}
use Rattle.repo_name.specs.declared.tokens.Token.{Token}
use Rattle.repo_wire.specs.declared.messages.Ask.{Ask}
use Rattle.repo_wire.specs.declared.messages.Reply.{Reply}
use Rattle.repo_wire.specs.declared.messages.Request.{Request}
use Rattle.repo_wire.specs.declared.messages.Say.{Say}
use Rattle.repo_locks.specs.TokenMachine.{unlocked}
use Rattle.repo_store.specs.Stores.{Store, SavesTokens}
use Rattle.repo_tree.specs.declared.snapshots.Snapshot.{Snapshot}
use Rattle.repo_tree.specs.SnapshotText.{IsSnapshotText}
use Rattle.repo_session.specs.declared.versions.Versions.{Versions}
use Rattle.repo_session.specs.Order.{IsWorking}
use Rattle.repo_session.specs.declared.outcomes.Outcome.{Outcome}
use Rattle.repo_world.specs.Clients.{task_of}
use Rattle.repo_world.specs.Bag.{IsLive, IsExclusive, HasUpgraded, IsOfVersion, IsVersioned, HasBag}
use Rattle.repo_world.specs.BagLaws.{IsServed}
use Rattle.repo_session.specs.Feeds.{Fed}
use Rattle.repo_world.specs.Events.{AnswersNobody, Feeds, Run, Takes, Starts, Crashes}
use Rattle.repo_world.specs.Laws.{IsEmpty}
use Rattle.repo_world.specs.Safe.{HasNoClash, Took}
use Rattle.repo_world.specs.World.{World, client, IsOneOf, Asked, Said, beginning}
use Rattle.repo_world.specs.declared.jobs.Job.{Job}
use Rattle.repo_world.specs.declared.events.Event.{Event}

-- ---- requests that may change objects

-- a put under a live token
abbrev pub PutKeepsBag : Type 0
PutKeepsBag = (w v : World) (k : ℕ) (request : Request) (t : Token) (j : Kind) (n : Name) (x : List ℕ) → HasBag w → HasNoClash v → IsServed w k request v
    → request.ask ≡ Ask.Put t j n x → IsLive w t → HasBag v

-- a delete under a live exclusive token
abbrev pub DeleteKeepsBag : Type 0
DeleteKeepsBag = (w v : World) (k : ℕ) (request : Request) (t : Token) (j : Kind) (n : Name) → HasBag w → HasNoClash v → IsServed w k request v
    → request.ask ≡ Ask.Delete t j n → IsExclusive w t → HasBag v

-- an upgrade under a live exclusive token; it changes no object
abbrev pub UpgradeKeepsBag : Type 0
UpgradeKeepsBag = (w v : World) (k : ℕ) (request : Request) (t : Token) → HasBag w → HasNoClash v → IsServed w k request v
    → request.ask ≡ Ask.Upgrade t → IsExclusive w t → HasBag v × (v.store.objects ≡ w.store.objects)

-- a put under a token that isn't live, or a delete or an upgrade under one that isn't live and exclusive
abbrev pub IsOfDead : World → Ask → Type 0
IsOfDead w (Ask.Put t j n x) = ¬ IsLive w t
IsOfDead w (Ask.Delete t j n) = ¬ IsExclusive w t
IsOfDead w (Ask.Upgrade t) = ¬ IsExclusive w t
IsOfDead w _ = ⊥

-- it changes no object, and not the config
abbrev pub DeadKeepBag : Type 0
DeadKeepBag = (w v : World) (k : ℕ) (request : Request) → HasBag w → HasNoClash v → IsServed w k request v → IsOfDead w request.ask → HasBag v × (v.store.objects ≡ w.store.objects) × (v.store.config ≡ w.store.config)

-- ---- the other requests

-- a request that reads
abbrev pub IsReadingAsk : Ask → Type 0
IsReadingAsk (Ask.List j after) = ⊤
IsReadingAsk (Ask.Get j n) = ⊤
IsReadingAsk (Ask.Range pack offset len) = ⊤
IsReadingAsk Ask.Config = ⊤
IsReadingAsk Ask.Locks = ⊤
IsReadingAsk _ = ⊥

-- it changes nothing
abbrev pub ReadsKeepBag : Type 0
ReadsKeepBag = (w v : World) (k : ℕ) (request : Request) → HasBag w → HasNoClash v → IsServed w k request v → IsReadingAsk request.ask → HasBag v × (v.store ≡ w.store)

-- a request on tickets and locks
abbrev pub IsOnLocks : Ask → Type 0
IsOnLocks Ask.Ticket = ⊤
IsOnLocks (Ask.Lock row) = ⊤
IsOnLocks (Ask.Refresh t time) = ⊤
IsOnLocks (Ask.Unlock t) = ⊤
IsOnLocks _ = ⊥

-- it changes no object
abbrev pub LocksKeepBag : Type 0
LocksKeepBag = (w v : World) (k : ℕ) (request : Request) → HasBag w → HasNoClash v → IsServed w k request v → IsOnLocks request.ask → HasBag v × (v.store.objects ≡ w.store.objects)

-- ---- the other events

-- a reply among the messages is taken
abbrev pub RepliesKeepBag : Type 0
RepliesKeepBag = (w v : World) (k : ℕ) (reply : Reply) → HasBag w → IsOneOf w.messages (Said k reply) → Takes w k reply v → HasBag v

-- a client takes an item
abbrev pub FeedsKeepBag : Type 0
FeedsKeepBag = (w v : World) (k : ℕ) (item : Fed) → HasBag w → Feeds w k item v → HasBag v × (v.store ≡ w.store)

-- a client starts
abbrev pub StartsKeepBag : Type 0
StartsKeepBag = (w v : World) (job : Job) (host : List ℕ) (time : ℕ) (old : Bool) → HasBag w → Starts w job host time old v → HasBag v

-- a client stops for good
abbrev pub CrashesKeepBag : Type 0
CrashesKeepBag = (w v : World) (k : ℕ) → HasBag w → Crashes w k v → HasBag v

-- ---- somebody who is no client asks

-- it changes no object, and not the config, no client and no message
abbrev pub StrangersKeepBag : Type 0
StrangersKeepBag = (w v : World) (request : Request) → HasBag w → AnswersNobody ⊤ w request v
    → HasBag v × (v.store.objects ≡ w.store.objects) × (v.store.config ≡ w.store.config) × (v.clients ≡ w.clients) × (v.messages ≡ w.messages)

-- a lock that is removed so is gone: its number, if it was issued, is neither fresh nor live then; where the device doesn't fail
abbrev pub RemovedLocksAreGone : Type 0
RemovedLocksAreGone = (w v : World) (request : Request) (t : Token) → request.ask ≡ Ask.Unlock t → AnswersNobody ⊥ w request v → SavesTokens (unlocked w.store.tokens t) w.store v.store

-- the number of a ticket that was given so is never that of a client's ticket; where there is no clash in the last world
abbrev pub StrangersTicketsAreTheirs : Type 0
StrangersTicketsAreTheirs = (store : Store) → IsEmpty store → (events more : List Event) (w v last : World) (request : Request) (t : Token) → Run (beginning store) events w
    → (a : AnswersNobody ⊤ w request v) → a.reply.say ≡ Say.Token t → Run v more last → HasNoClash last → (k : ℕ) → ¬ Took last k t

-- ---- versions

-- a put of a snapshot under a live token is of the version that the store's config has at that moment
abbrev pub PutsAreOfVersion : Type 0
PutsAreOfVersion = (w : World) (k : ℕ) (request : Request) (t : Token) (n : Name) (x : List ℕ) (snapshot : Snapshot) → HasBag w → IsOneOf w.messages (Asked k request)
    → request.ask ≡ Ask.Put t Kind.Snapshot n x → IsLive w t → IsSnapshotText x snapshot → IsOfVersion w.store snapshot.version

-- while the token of a client that knows version 1 alone is live, and it works, the store's config is of version 1, unless that client sent an upgrade itself
abbrev pub OldClientsAreFenced : Type 0
OldClientsAreFenced = (w : World) (k : ℕ) (t : Token) → HasBag w → (client w k).who.versions ≡ Versions.One → IsWorking (task_of (client w k).job (client w k).who) t (client w k).trace
    → IsLive w t → ¬ HasUpgraded w k → IsOfVersion w.store 1

-- where a client tells that the store is upgraded, the store's config is of version 2
abbrev pub UpgradedIsOfVersion : Type 0
UpgradedIsOfVersion = (w : World) (k : ℕ) → HasBag w → (client w k).outcome ≡ Some Outcome.Upgraded → IsOfVersion w.store 2

-- ---- over runs

-- from an empty store, after any events, whatever comes after them: each snapshot there is of a version that the store's config has, or of a lower one;
-- where there is no clash in the last world
abbrev pub EverySnapshotIsVersioned : Type 0
EverySnapshotIsVersioned = (store : Store) → IsEmpty store → (events more : List Event) (w last : World) → Run (beginning store) events w → Run w more last → HasNoClash last
    → (n : Name) (x : List ℕ) → w.store.objects Kind.Snapshot n ≡ Some x → IsVersioned w.store x

-- a client that once reported an upgrade: the config is of version 2 at every later time
abbrev pub EachUpgradeHolds : Type 0
EachUpgradeHolds = (store : Store) → IsEmpty store → (events more : List Event) (w last : World) → Run (beginning store) events w → Run w more last → HasNoClash last
    → (k : ℕ) → (client w k).outcome ≡ Some Outcome.Upgraded → IsOfVersion last.store 2
