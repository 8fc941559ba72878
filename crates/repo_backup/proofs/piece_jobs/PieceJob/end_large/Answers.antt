use Rattle.std.proofs.Common.{◌≡◌, sym, subst, inr, ◌∙◌}
use Rattle.std.proofs.lemmas.Option.{same_Some}
use Rattle.repo_session.specs.declared.outcomes.Outcome.{Outcome}
use Rattle.repo_backup.specs.PieceRules.{PieceConcludes}
use Rattle.repo_backup.specs.PieceStates.{IsPieceLarge}
use Rattle.repo_backup.proofs.PieceStepping.{piece_large}
use Rattle.repo_backup.proofs.piece_jobs.PieceJob.end_large.Goals as goal

pub returns-clause-sends : goal.returns-clause-sends
returns-clause-sends c = λ holding b es working is due.
    let j = c.args.self.now in
    let a = c.in-Some.backing in
    let same : b ≡ a = same_Some b a (sym is ∙ c.in-Some.is) in
    let m : IsPieceLarge j.catalog.lookup a es = subst (λ x. IsPieceLarge j.catalog.lookup x es) same due in
    inr (subst (λ e. PieceConcludes es (Outcome.Ended e)) (sym c.large_end.ensures) (piece_large j.catalog.lookup a es m))
