use Rattle.std.proofs.Common.{Some, None, refl, subst}
use Rattle.repo_prog.proofs.ServedLemmas.{kept_still}
use Rattle.repo_prog.proofs.serve.serve_next.Goals as goal

pub returns-in-Some-clause-served : goal.returns-in-Some-clause-served
returns-in-Some-clause-served g c honest =
    let accepted = subst (λ ends. g.L.Listen.accepts c.args.listener.now c.accept-ends.result.refused ends c.accept-ends.new.self) c.in-Some.is c.accept-ends.ensures.accepted in
    (Some (record { came = _; left = _; result = _ }), refl, (_, accepted, c.serve_over-served.ensures.serves honest, c.hang_up.ensures))

pub returns-in-None-clause-served : goal.returns-in-None-clause-served
returns-in-None-clause-served g c honest =
    let accepted = subst (λ ends. g.L.Listen.accepts c.args.listener.now c.accept-ends.result.refused ends c.accept-ends.new.self) c.in-None.is c.accept-ends.ensures.accepted in
    (None, refl, (accepted, refl, refl))

pub returns-in-None-clause-kept : goal.returns-in-None-clause-kept
returns-in-None-clause-kept g c honest = kept_still (g.S.Shelf.store c.args.shelf.now)
