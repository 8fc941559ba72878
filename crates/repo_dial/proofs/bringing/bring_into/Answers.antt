use Rattle.std.proofs.Common.{Err, refl, sym, ap, ◌∙◌}
use Rattle.std.specs.Fn.{CalledAt}
use Rattle.std.proofs.lemmas.Result.{err_from_is_err_and}
use Rattle.repo_dial.specs.declared.again.TryError.{TryError}
use Rattle.repo_dial.proofs.SessionLemmas.{session_brought}
use Rattle.repo_dial.proofs.bringing.bring_into.Goals as goal

pub returns-in_err-driven : goal.returns-in_err-driven
returns-in_err-driven g c =
    let p = err_from_is_err_and c.from_residual.result c.from_residual.ensures.1 in
    session_brought g.J.Job.handed g.J.Job.rule g.J.Job.fresh g.J.Job.knows g.J.Job.wants c.args.session c.requires.fits (CalledAt g.F.FnMut) c.args.retry c.args.sink.now _ c.drive_again-driven.new.client
    c.drive_again-driven.new.sink (g.D.Dial.connections c.args.dial.now) (g.D.Dial.connections c.drive_again-driven.new.dial) c.from_residual.result c.in_err-driven.ensures.again (p.1 ∙ ap (λ (e : TryError). Err e) p.2)

pub returns : goal.returns
returns g c =
    session_brought g.J.Job.handed g.J.Job.rule g.J.Job.fresh g.J.Job.knows g.J.Job.wants c.args.session c.requires.fits (CalledAt g.F.FnMut) c.args.retry c.args.sink.now _ c.drive_again-driven.new.client
    c.drive_again-driven.new.sink (g.D.Dial.connections c.args.dial.now) (g.D.Dial.connections c.drive_again-driven.new.dial) _ c.in_ok-driven.ensures.again
    (c.in-Some.outcome, sym c.into_outcome-outcome.ensures ∙ c.in-Some.is, refl)
