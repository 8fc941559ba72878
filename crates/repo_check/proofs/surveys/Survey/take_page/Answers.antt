use Rattle.repo_check.proofs.surveys.Survey.take_page.Goals as goal

pub returns-in-Pack-clause-takes : goal.returns-in-Pack-clause-takes
returns-in-Pack-clause-takes c = rw c.in-Pack.is c.take_pack_page.ensures.takes

pub returns-in-Pack-clause-same : goal.returns-in-Pack-clause-same
returns-in-Pack-clause-same c = rw c.in-Pack.is c.take_pack_page.ensures.same

pub returns-in-Index-clause-takes : goal.returns-in-Index-clause-takes
returns-in-Index-clause-takes c = rw c.in-Index.is c.take_index_page.ensures.takes

pub returns-in-Snapshot-clause-takes : goal.returns-in-Snapshot-clause-takes
returns-in-Snapshot-clause-takes c = rw c.in-Snapshot.is c.take_snapshot_page.ensures.takes

pub returns-in-Pack-clause-over : goal.returns-in-Pack-clause-over
returns-in-Pack-clause-over c = rw c.in-Pack.is c.take_pack_page.ensures.over

pub returns-in-Pack-clause-heeds : goal.returns-in-Pack-clause-heeds
returns-in-Pack-clause-heeds c = rw c.in-Pack.is c.take_pack_page.ensures.heeds

pub returns-in-Index-clause-heeds : goal.returns-in-Index-clause-heeds
returns-in-Index-clause-heeds c = rw c.in-Index.is c.take_index_page.ensures.heeds

pub returns-in-Snapshot-clause-heeds : goal.returns-in-Snapshot-clause-heeds
returns-in-Snapshot-clause-heeds c = rw c.in-Snapshot.is c.take_snapshot_page.ensures.heeds
