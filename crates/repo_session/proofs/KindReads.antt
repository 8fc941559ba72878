-- What rolls and catalogs ask for is of one kind, and no object is asked for again.
use Rattle.std.proofs.Common.{◌≡◌, ◌∙◌}
use Rattle.repo_name.specs.declared.kinds.Kind.{Kind}
use Rattle.repo_wire.specs.declared.messages.Ask.{Ask}
use Rattle.repo_session.specs.declared.catalogs.Catalog.{Catalog}
use Rattle.repo_session.specs.declared.rolls.Roll.{Roll}
use Rattle.repo_session.specs.declared.snapshot_rolls.SnapshotRoll.{SnapshotRoll}
use Rattle.repo_session.specs.Listings.{KnowsSnapshots}
use Rattle.repo_session.specs.Order.{Task, GetsOnce, IsReading, ReadsKind}
use Rattle.repo_session.specs.Readings.{IsAskDue, KnowsIndexes, KnowsRoll}
use Rattle.repo_session.specs.Traces.{Trace}

pub roll_reads : (roll : Roll) (kind : Kind) (ask : Ask) (es : Trace) → roll.kind ≡ kind → GetsOnce es ask → KnowsRoll roll ask es → ReadsKind kind es ask
roll_reads roll kind (Ask.List k after) es of_kind once h = h.0 ∙ of_kind
roll_reads roll kind (Ask.Get k n) es of_kind once h = (h.0 ∙ of_kind, once)
roll_reads roll kind (Ask.Range pack offset len) es of_kind once h = h
roll_reads roll kind Ask.Ticket es of_kind once h = h
roll_reads roll kind (Ask.Lock row) es of_kind once h = h
roll_reads roll kind (Ask.Refresh t time) es of_kind once h = h
roll_reads roll kind (Ask.Unlock t) es of_kind once h = h
roll_reads roll kind Ask.Locks es of_kind once h = h
roll_reads roll kind (Ask.Put t k n x) es of_kind once h = h
roll_reads roll kind (Ask.Delete t k n) es of_kind once h = h
roll_reads roll kind Ask.Config es of_kind once h = h
roll_reads roll kind (Ask.Upgrade t) es of_kind once h = h

pub catalog_reads : (c : Catalog) (ask : Ask) (es : Trace) → GetsOnce es ask → KnowsIndexes c ask es → ReadsKind Kind.Index es ask
catalog_reads c (Ask.List k after) es once h = h.0
catalog_reads c (Ask.Get k n) es once h = (h.0, once)
catalog_reads c (Ask.Range pack offset len) es once h = h
catalog_reads c Ask.Ticket es once h = h
catalog_reads c (Ask.Lock row) es once h = h
catalog_reads c (Ask.Refresh t time) es once h = h
catalog_reads c (Ask.Unlock t) es once h = h
catalog_reads c Ask.Locks es once h = h
catalog_reads c (Ask.Put t k n x) es once h = h
catalog_reads c (Ask.Delete t k n) es once h = h
catalog_reads c Ask.Config es once h = h
catalog_reads c (Ask.Upgrade t) es once h = h

-- what is due of a reading
pub due_index : (task : Task) (c : Catalog) (es : Trace) (ask : Ask) → IsAskDue task (KnowsIndexes c) es ask → ReadsKind Kind.Index es ask
due_index task c es ask due = catalog_reads c ask es due.once due.knows

pub due_snapshot : (task : Task) (s : SnapshotRoll) (es : Trace) (ask : Ask) → IsAskDue task (KnowsSnapshots s) es ask → ReadsKind Kind.Snapshot es ask
due_snapshot task s es ask due = roll_reads s.roll Kind.Snapshot ask es due.knows.of_kind due.once due.knows.rolls

pub kind_reads : (kind : Kind) (es : Trace) (ask : Ask) → ReadsKind kind es ask → IsReading ask
kind_reads kind es (Ask.List k after) h = tt
kind_reads kind es (Ask.Get k n) h = tt
kind_reads kind es (Ask.Range pack offset len) h = absurd h
kind_reads kind es Ask.Ticket h = absurd h
kind_reads kind es (Ask.Lock row) h = absurd h
kind_reads kind es (Ask.Refresh t time) h = absurd h
kind_reads kind es (Ask.Unlock t) h = absurd h
kind_reads kind es Ask.Locks h = absurd h
kind_reads kind es (Ask.Put t k n x) h = absurd h
kind_reads kind es (Ask.Delete t k n) h = absurd h
kind_reads kind es Ask.Config h = absurd h
kind_reads kind es (Ask.Upgrade t) h = absurd h
