-- What is known while a list is made.
use Rattle.repo_wire.specs.declared.messages.Ask.{Ask}
use Rattle.repo_session.specs.Listings.{IsFreshRoll, KnowsSnapshots}
use Rattle.repo_session.specs.Sessions.{FitsSession}
use Rattle.repo_session.specs.declared.sessions.Session.{Session}
use Rattle.repo_session.specs.Traces.{Trace}
use Rattle.repo_restore.specs.declared.listings.SnapshotList.{SnapshotList}
use Rattle.repo_restore.specs.Listing.{list_rule}

-- nothing was listed yet
abbrev pub IsFreshList : SnapshotList → Type 0
IsFreshList l = IsFreshRoll l.snapshots

-- what is known where this is pending
abbrev pub KnowsList : SnapshotList → Ask → Trace → Type 0
KnowsList l ask es = KnowsSnapshots l.snapshots ask es

-- the list stands where the trace leaves it
abbrev pub FitsList : Session SnapshotList → Trace → Type 0
FitsList s es = FitsSession (λ (j : SnapshotList). tt {0}) (λ h. list_rule) IsFreshList KnowsList s es
