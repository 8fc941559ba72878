-- A client that has no exchange behind it waits for its ticket.
use Rattle.std.proofs.Common.{ℕ, ◌∙◌, ◌≡◌, inl, inr, ⊎_elim, ◌++◌, ◌∷◌, [], List, Option, Some, None, true, false, refl}
use Rattle.repo_wire.specs.declared.messages.Ask.{Ask}
use Rattle.repo_wire.specs.declared.messages.Request.{Request}
use Rattle.repo_name.specs.declared.kinds.Thing.{Thing}
use Rattle.repo_name.specs.declared.kinds.Kind.{Kind}
use Rattle.repo_name.specs.declared.names.Name.{Name}
use Rattle.repo_tree.specs.declared.entries.Entry.{Entry}
use Rattle.repo_session.specs.Versions.{upto}
use Rattle.repo_session.specs.Clients.{IsObedientBy}
use Rattle.repo_session.specs.Order.{May, Task}
use Rattle.repo_session.specs.Traces.{Trace, is_complete}
use Rattle.repo_session.specs.declared.outcomes.End.{End}
use Rattle.repo_session.specs.declared.outcomes.Outcome.{Outcome}
use Rattle.repo_session.specs.Ends as ends
use Rattle.repo_prune.specs.Forgetting.{IsForgotten, IsDecided}
use Rattle.repo_prune.specs.declared.choices.Choice.{Choice}
use Rattle.repo_session.proofs.GoingOn.{concluded_of}
use Rattle.repo_world.specs.AnyClients.{FitsAny, any_ended, any_next, any_obeys, given_to}
use Rattle.repo_world.specs.Rules.{rule_of}
use Rattle.repo_world.specs.declared.any_clients.AnyClient.{AnyClient}
use Rattle.repo_session.specs.Jobs.{task_under}
use Rattle.repo_world.specs.declared.jobs.Job.{Job}

-- ---- nothing was asked, so no job is at its end

unlisted : false ≡ true → ⊥
unlisted e = absurd (cc)

restore_ends : (snapshot : Name) (end : End) → (rule_of (Job.Restore snapshot)).concludes [] (Outcome.Ended end) → ⊥
restore_ends snapshot (End.Missing thing name) h = h.0.0.found.2.0
restore_ends snapshot (End.BadObject Thing.Tree tree) h = ⊎_elim (λ bad. bad.0.found.2.0) (λ part. part) h
restore_ends snapshot (End.BadObject Thing.Pack tree) h = h
restore_ends snapshot (End.BadObject Thing.Index tree) h = h
restore_ends snapshot (End.BadObject Thing.Snapshot tree) h = h
restore_ends snapshot (End.BadObject Thing.Content tree) h = h
restore_ends snapshot End.Busy h = h
restore_ends snapshot End.Fenced h = h
restore_ends snapshot (End.Refused code) h = h
restore_ends snapshot End.BadReply h = h
restore_ends snapshot End.Version h = h
restore_ends snapshot End.DirectoryTooLarge h = h
restore_ends snapshot End.FileTooLarge h = h
restore_ends snapshot End.Abandoned h = h

prune_ends : (end : End) → (rule_of Job.Prune).concludes [] (Outcome.Ended end) → ⊥
prune_ends (End.Missing Thing.Pack pack) h = unlisted h.1.packs.complete
prune_ends (End.Missing Thing.Tree name) h = h.2.1
prune_ends (End.Missing Thing.Content name) h = h.2.1
prune_ends (End.Missing Thing.Index name) h = h.2.1
prune_ends (End.Missing Thing.Snapshot name) h = h.2.1
prune_ends (End.BadObject Thing.Tree tree) h = ⊎_elim (λ bad. bad.2.among) (λ part. part) h
prune_ends (End.BadObject Thing.Pack tree) h = h
prune_ends (End.BadObject Thing.Index tree) h = h
prune_ends (End.BadObject Thing.Snapshot tree) h = h
prune_ends (End.BadObject Thing.Content tree) h = h
prune_ends End.Busy h = h
prune_ends End.Fenced h = h
prune_ends (End.Refused code) h = h
prune_ends End.BadReply h = h
prune_ends End.Version h = h
prune_ends End.DirectoryTooLarge h = h
prune_ends End.FileTooLarge h = h
prune_ends End.Abandoned h = h

backup_ends : (entries : List Entry) (end : End) → (rule_of (Job.Backup entries)).concludes [] (Outcome.Ended end) → ⊥
backup_ends entries End.DirectoryTooLarge h = h.cut.read
backup_ends entries End.FileTooLarge h = h.cut.read
backup_ends entries End.Abandoned h = h
backup_ends entries (End.Missing thing name) h = h
backup_ends entries (End.BadObject thing name) h = h
backup_ends entries End.Busy h = h
backup_ends entries End.Fenced h = h
backup_ends entries (End.Refused code) h = h
backup_ends entries End.BadReply h = h
backup_ends entries End.Version h = h

pieces_ends : (end : End) → (rule_of Job.Pieces).concludes [] (Outcome.Ended end) → ⊥
pieces_ends End.DirectoryTooLarge h = h.at.has.read
pieces_ends End.FileTooLarge h = h.at.has.read
pieces_ends End.Abandoned h = h.1
pieces_ends (End.Missing thing name) h = h
pieces_ends (End.BadObject thing name) h = h
pieces_ends End.Busy h = h
pieces_ends End.Fenced h = h
pieces_ends (End.Refused code) h = h
pieces_ends End.BadReply h = h
pieces_ends End.Version h = h

-- an end of a job's own has something that was asked
no_end : (job : Job) (end : End) → (rule_of job).concludes [] (Outcome.Ended end) → ⊥
no_end (Job.Backup entries) end h = backup_ends entries end h
no_end Job.Pieces end h = pieces_ends end h
no_end (Job.Restore snapshot) end h = restore_ends snapshot end h
no_end Job.List end h = h
no_end (Job.Forget choice) end h = h
no_end Job.Prune end h = prune_ends end h
no_end Job.Check end h = h
no_end Job.Upgrade end h = h

forgot_listed : (choice : Choice) (es : Trace) (names : List Name) → IsForgotten choice es names → is_complete Kind.Snapshot es ≡ true
forgot_listed choice es names h = go choice h.chosen.decided where
  go : (c : Choice) → IsDecided c es h.chosen.rows → is_complete Kind.Snapshot es ≡ true
  go (Choice.Names given) k = k.complete
  go (Choice.Keep policy) k = k.listed.complete
  go (Choice.KeepOf host policy) k = k.listed.complete

no_outcome : (job : Job) (o : Outcome) → (rule_of job).concludes [] o → ⊥
no_outcome job (Outcome.Ended end) h = no_end job end h
no_outcome (Job.Backup entries) (Outcome.Stored name blobs bytes) h = h.put.1
no_outcome Job.Pieces (Outcome.Stored name blobs bytes) h = h.put.1
no_outcome (Job.Restore snapshot) (Outcome.Complete entries) h = h.0.2.2.0
no_outcome Job.List (Outcome.Listed rows) h = unlisted h.listed.complete
no_outcome (Job.Forget choice) (Outcome.Forgotten names) h = unlisted (forgot_listed choice [] names h)
no_outcome Job.Prune (Outcome.Pruned packs bytes) h = unlisted h.1.all.complete
no_outcome Job.Check (Outcome.Clean snapshots indexes packs blobs) h = unlisted (h.received.objects Kind.Snapshot).listed.complete
no_outcome Job.Check (Outcome.Faults faults) h = unlisted (h.received.objects Kind.Snapshot).listed.complete
no_outcome Job.Upgrade Outcome.Upgraded (inl h) = h.read
no_outcome Job.Upgrade Outcome.Upgraded (inr h) = h.1
no_outcome (Job.Backup entries) _ h = h
no_outcome Job.Pieces _ h = h
no_outcome (Job.Restore snapshot) _ h = h
no_outcome Job.List _ h = h
no_outcome (Job.Forget choice) _ h = h
no_outcome Job.Prune _ h = h
no_outcome Job.Check _ h = h
no_outcome Job.Upgrade _ h = h

not_concluded : (known : ℕ) (job : Job) (o : Outcome) → ends.Concludes known (rule_of job).concludes [] o → ⊥
not_concluded known job (Outcome.Ended end) (inl h) = h
not_concluded known job (Outcome.Ended end) (inr h) = no_end job end h
not_concluded known job (Outcome.Stored name blobs bytes) h = no_outcome job (Outcome.Stored name blobs bytes) h
not_concluded known job (Outcome.Complete entries) h = no_outcome job (Outcome.Complete entries) h
not_concluded known job (Outcome.Listed rows) h = no_outcome job (Outcome.Listed rows) h
not_concluded known job (Outcome.Forgotten names) h = no_outcome job (Outcome.Forgotten names) h
not_concluded known job (Outcome.Pruned packs bytes) h = no_outcome job (Outcome.Pruned packs bytes) h
not_concluded known job (Outcome.Clean snapshots indexes packs blobs) h = no_outcome job (Outcome.Clean snapshots indexes packs blobs) h
not_concluded known job (Outcome.Faults faults) h = no_outcome job (Outcome.Faults faults) h
not_concluded known job Outcome.Upgraded h = no_outcome job Outcome.Upgraded h

-- and it wants no input
no_wish : (job : Job) → (rule_of job).wanting [] → ⊥
no_wish (Job.Backup entries) h = h
no_wish Job.Pieces h = unlisted h.indexes.listed.complete
no_wish (Job.Restore snapshot) h = h
no_wish Job.List h = h
no_wish (Job.Forget choice) h = h
no_wish Job.Prune h = h
no_wish Job.Check h = h
no_wish Job.Upgrade h = h

-- ---- and what is pending is the ticket

nothing_after : {A : Type 0} (later : List A) (x : A) (more : List A) → [] ≡ later ++ x ∷ more → ⊥
nothing_after [] x more e = absurd (cc)
nothing_after (y ∷ later) x more e = absurd (cc)

only_ticket : (task : Task) (ask : Ask) → May task [] ask → ask ≡ Ask.Ticket
only_ticket task Ask.Ticket h = refl
only_ticket task (Ask.Lock row) h = absurd (nothing_after [] _ _ h.1)
only_ticket task Ask.Config h = absurd (nothing_after [] _ _ h.1)
only_ticket task (Ask.List k after) h = absurd (nothing_after h.0.1.1.later _ _ h.0.1.1.since)
only_ticket task (Ask.Get k n) h = absurd (nothing_after h.0.1.1.later _ _ h.0.1.1.since)
only_ticket task (Ask.Range pack offset len) h = absurd (nothing_after h.0.1.1.later _ _ h.0.1.1.since)
only_ticket task (Ask.Put token k n x) h = absurd (nothing_after h.0.1.later _ _ h.0.1.since)
only_ticket task (Ask.Delete token k n) h = absurd (nothing_after h.0.1.later _ _ h.0.1.since)
only_ticket task (Ask.Upgrade token) h = absurd (nothing_after h.0.1.later _ _ h.0.1.since)
only_ticket task (Ask.Unlock token) h = absurd (nothing_after h.later _ _ h.since)
only_ticket task (Ask.Refresh token time) h = absurd h
only_ticket task Ask.Locks h = absurd h

module _ (c : AnyClient) (f : FitsAny c []) where
  owes : IsObedientBy (rule_of (given_to c).handed) (given_to c).who (any_next c) (any_ended c) []
  owes = any_obeys c [] f

  pub no_outcome_yet : any_ended c ≡ None
  no_outcome_yet = go (any_ended c) refl where
    go : (o : Option Outcome) → any_ended c ≡ o → any_ended c ≡ None
    go None e = e
    go (Some o) e = absurd (not_concluded (upto (task_under (rule_of (given_to c).handed) (given_to c).who).versions) (given_to c).handed o
        (concluded_of (task_under (rule_of (given_to c).handed) (given_to c).who).notes (upto (task_under (rule_of (given_to c).handed) (given_to c).who).versions) (rule_of (given_to c).handed).concludes [] o (owes.concluded o e)))

  pub ticket_pending : any_next c ≡ Some (record { instance = (given_to c).who.instance; sequence = 1; ask = Ask.Ticket })
  ticket_pending = go (any_next c) refl where
    go : (o : Option Request) → any_next c ≡ o → any_next c ≡ Some (record { instance = (given_to c).who.instance; sequence = 1; ask = Ask.Ticket })
    go None e = absurd (no_wish (given_to c).handed (owes.settled e no_outcome_yet))
    go (Some request) e =
        let n = owes.pending request e in
        let t = only_ticket (task_under (rule_of (given_to c).handed) (given_to c).who) request.ask n.may in
        e ∙ (λ i. Some (record { instance = n.instance i; sequence = n.sequence i; ask = t i }))
