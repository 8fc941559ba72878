use Rattle.std.proofs.Common.{arith, ◌≡◌, [], true, is_some, refl, sym, ap, subst, inr, ◌∙◌}
use Rattle.std.proofs.lemmas.Option.{same_Some}
use Rattle.repo_session.specs.declared.jobs.Step.{Step}
use Rattle.repo_backup.specs.BackupStates.{IsDueNext}
use Rattle.repo_backup.specs.Backups.{handed_to, left_in}
use Rattle.repo_backup.specs.PieceStates.{IsIdleAt, IsNextPiece}
use Rattle.repo_backup.specs.declared.piece_backing.PieceNext.{PieceNext}
use Rattle.repo_backup.specs.declared.walks.Went.{Went}
use Rattle.repo_backup.proofs.BackupStepping.{index_sent, snapshot_sent, all_ended}
use Rattle.repo_backup.proofs.PieceRuling.{over_is}
use Rattle.repo_backup.proofs.PieceRuling.{work_known}
use Rattle.repo_backup.proofs.Staging.{if_ok}
use Rattle.repo_backup.proofs.backups.Backup.send_last.Goals as goal

pub returns-in-Input-clause-sends : goal.returns-in-Input-clause-sends
returns-in-Input-clause-sends c = λ b es working is due.
    let j = c.args.self.now in
    let a = c.in-Some.backing in
    let same : b ≡ a = same_Some b a (sym is ∙ c.in-Some.is) in
    let m : IsDueNext (handed_to j) j.catalog.lookup Went.On a (left_in j) es = subst (λ x. IsDueNext (handed_to j) j.catalog.lookup Went.On x (left_in j) es) same due in
    let next : IsNextPiece a PieceNext.Input = subst (λ n. IsNextPiece a n) c.in-Input.is c.next.ensures in
    let over = all_ended (handed_to j) (left_in j) m.goes.items (m.all refl) m.goes.leads in
    let yes : is_some a.work.walk.root ≡ true = over_is j.catalog.lookup a m.puts [] m.goes.items es m.goes.at (m.unlaid refl) ∙ over in
    let no = ap is_some next.1 in
    absurd (cc)

pub returns-in-Index-clause-sends : goal.returns-in-Index-clause-sends
returns-in-Index-clause-sends c = if_ok _ _ c.put_index.result (λ (step : Step) puts b es working is due.
    let j = c.args.self.now in
    let a = c.in-Some.backing in
    let same : b ≡ a = same_Some b a (sym is ∙ c.in-Some.is) in
    let m : IsDueNext (handed_to j) j.catalog.lookup Went.On a (left_in j) es = subst (λ x. IsDueNext (handed_to j) j.catalog.lookup Went.On x (left_in j) es) same due in
    let next : IsNextPiece a PieceNext.Index = subst (λ n. IsNextPiece a n) c.in-Index.is c.next.ensures in
    let over = all_ended (handed_to j) (left_in j) m.goes.items (m.all refl) m.goes.leads in
    let room = m.room in
    let done : IsIdleAt j.catalog.lookup a m.goes.items es = record { puts = m.puts; at = m.goes.at; unsealed = m.goes.unsealed; listed = m.none; few = omega (arith, room) } in
    index_sent j c.args.holder.now es working a c.in-Some.is m.goes.items m.goes.leads done c.token.result step c.token.ensures next.0 (inr (over, m.unlaid refl)) puts) c.put_index.ensures.puts

pub returns-in-Snapshot-clause-sends : goal.returns-in-Snapshot-clause-sends
returns-in-Snapshot-clause-sends c = if_ok _ _ c.put_snapshot.result (λ (step : Step) puts b es working is due.
    let j = c.args.self.now in
    let a = c.in-Some.backing in
    let same : b ≡ a = same_Some b a (sym is ∙ c.in-Some.is) in
    let m : IsDueNext (handed_to j) j.catalog.lookup Went.On a (left_in j) es = subst (λ x. IsDueNext (handed_to j) j.catalog.lookup Went.On x (left_in j) es) same due in
    let next : IsNextPiece a (PieceNext.Snapshot c.in-Snapshot.root) = subst (λ n. IsNextPiece a n) c.in-Snapshot.is c.next.ensures in
    let room = m.room in
    let done : IsIdleAt j.catalog.lookup a m.goes.items es = record { puts = m.puts; at = m.goes.at; unsealed = m.goes.unsealed; listed = m.none; few = omega (arith, room) } in
    snapshot_sent j c.args.holder.now es working a c.in-Some.is m.goes.items m.goes.leads done c.in-Snapshot.root step (m.unlaid refl) next.1 next.0 (puts (work_known j.catalog.lookup a m.puts m.goes.items es m.goes.at))) c.put_snapshot.ensures.puts
