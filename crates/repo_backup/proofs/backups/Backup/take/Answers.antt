use Rattle.repo_name.specs.declared.kinds.Kind.{Kind}
use Rattle.repo_session.specs.declared.jobs.Step.{Step}
use Rattle.repo_backup.proofs.PackingLemmas.{on_err}
use Rattle.repo_backup.proofs.BackupReplying.{replies_so, knows_so}
use Rattle.repo_backup.proofs.Staging.{if_ok}
use Rattle.repo_backup.proofs.backups.Backup.take.Goals as goal

pub returns-in-Done-Pack-clause-ok : goal.returns-in-Done-Pack-clause-ok
returns-in-Done-Pack-clause-ok c = if_ok _ _ c.pack_done.result (λ (step : Step) put.
    let old = c.args.self.now in
    let new = c.pack_done.new.self in
    let holding = c.args.holder.now in
    let a = c.in-Put in
    replies_so old new holding a.token a.kind Kind.Pack a.name a.bytes c.args.ask.now c.args.say.now step a.is c.in-Done-Pack.is-0 c.in-Done-Pack.is-1 (put a.token a.name a.bytes)) c.pack_done.ensures.ok

pub returns-in-Done-Pack-clause-err : goal.returns-in-Done-Pack-clause-err
returns-in-Done-Pack-clause-err c = on_err c.pack_done.result _ _ (λ err es.
    let a = c.in-Put in
    knows_so c.args.self.now c.pack_done.new.self a.token a.kind Kind.Pack a.name a.bytes c.args.ask.now es a.is c.in-Done-Pack.is-1 (err a.token a.name a.bytes es)) c.pack_done.ensures.err

pub returns-in-Done-Index-clause-ok : goal.returns-in-Done-Index-clause-ok
returns-in-Done-Index-clause-ok c = if_ok _ _ c.index_done.result (λ (step : Step) put.
    let old = c.args.self.now in
    let new = c.index_done.new.self in
    let holding = c.args.holder.now in
    let a = c.in-Put in
    replies_so old new holding a.token a.kind Kind.Index a.name a.bytes c.args.ask.now c.args.say.now step a.is c.in-Done-Index.is-0 c.in-Done-Index.is-1 (put a.token a.name a.bytes)) c.index_done.ensures.ok

pub returns-in-Done-Index-clause-err : goal.returns-in-Done-Index-clause-err
returns-in-Done-Index-clause-err c = on_err c.index_done.result _ _ (λ err es.
    let a = c.in-Put in
    knows_so c.args.self.now c.index_done.new.self a.token a.kind Kind.Index a.name a.bytes c.args.ask.now es a.is c.in-Done-Index.is-1 (err a.token a.name a.bytes es)) c.index_done.ensures.err

pub returns-in-Done-Snapshot-clause-ok : goal.returns-in-Done-Snapshot-clause-ok
returns-in-Done-Snapshot-clause-ok c =
    let j = c.args.self.now in
    let holding = c.args.holder.now in
    let a = c.in-Put in
    replies_so j j holding a.token a.kind Kind.Snapshot a.name a.bytes c.args.ask.now c.args.say.now c.conclude.result a.is c.in-Done-Snapshot.is-0 c.in-Done-Snapshot.is-1 (c.conclude.ensures.ends a.token holding a.bytes)
