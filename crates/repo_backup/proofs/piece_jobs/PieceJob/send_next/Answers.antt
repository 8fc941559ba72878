use Rattle.std.proofs.Common.{◌≡◌, sym, subst, inl, inr, ◌∙◌}
use Rattle.std.proofs.lemmas.Option.{same_Some}
use Rattle.repo_session.specs.Traces.{fed_in}
use Rattle.repo_session.specs.declared.jobs.Step.{Step}
use Rattle.repo_backup.specs.PieceStates.{IsPieceDone, IsNextPiece}
use Rattle.repo_backup.specs.declared.piece_backing.PieceNext.{PieceNext}
use Rattle.repo_backup.proofs.PieceStepping.{input_step, index_step, snapshot_step, over_by}
use Rattle.repo_backup.proofs.PieceRuling.{work_known}
use Rattle.repo_backup.proofs.Staging.{if_ok}
use Rattle.repo_backup.proofs.piece_jobs.PieceJob.send_next.Goals as goal

pub returns-in-Input-clause-sends : goal.returns-in-Input-clause-sends
returns-in-Input-clause-sends c = λ b es working is done.
    let j = c.args.self.now in
    let a = c.in-Some.backing in
    let same : b ≡ a = same_Some b a (sym is ∙ c.in-Some.is) in
    let h : IsPieceDone j.catalog.lookup a es = subst (λ x. IsPieceDone j.catalog.lookup x es) same done in
    let next : IsNextPiece a PieceNext.Input = subst (λ n. IsNextPiece a n) c.in-Input.is c.next.ensures in
    input_step j.catalog j.backing a c.in-Some.is c.args.holder.now es working h next.1 next.0

pub returns-in-Index-clause-sends : goal.returns-in-Index-clause-sends
returns-in-Index-clause-sends c = if_ok _ _ c.put_index.result (λ (step : Step) puts b es working is done.
    let j = c.args.self.now in
    let a = c.in-Some.backing in
    let same : b ≡ a = same_Some b a (sym is ∙ c.in-Some.is) in
    let h : IsPieceDone j.catalog.lookup a es = subst (λ x. IsPieceDone j.catalog.lookup x es) same done in
    let next : IsNextPiece a PieceNext.Index = subst (λ n. IsNextPiece a n) c.in-Index.is c.next.ensures in
    index_step j.catalog j.backing a c.in-Some.is c.args.holder.now es working h.idle c.token.result step c.token.ensures next.0
    (elim next.1 [ inl many ↦ inl many | inr ended ↦ inr (over_by j.catalog j.backing a c.in-Some.is c.args.holder.now es working h ended, h.unlaid) ]) puts) c.put_index.ensures.puts

pub returns-in-Snapshot-clause-sends : goal.returns-in-Snapshot-clause-sends
returns-in-Snapshot-clause-sends c = if_ok _ _ c.put_snapshot.result (λ (step : Step) puts b es working is done.
    let j = c.args.self.now in
    let a = c.in-Some.backing in
    let same : b ≡ a = same_Some b a (sym is ∙ c.in-Some.is) in
    let h : IsPieceDone j.catalog.lookup a es = subst (λ x. IsPieceDone j.catalog.lookup x es) same done in
    let next : IsNextPiece a (PieceNext.Snapshot c.in-Snapshot.root) = subst (λ n. IsNextPiece a n) c.in-Snapshot.is c.next.ensures in
    snapshot_step j.catalog j.backing a c.in-Some.is c.args.holder.now es working h c.in-Snapshot.root step next.1 next.0 (puts (work_known j.catalog.lookup a h.idle.puts (fed_in es) es h.idle.at))) c.put_snapshot.ensures.puts
