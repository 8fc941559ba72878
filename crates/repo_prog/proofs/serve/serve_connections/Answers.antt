use Rattle.std.proofs.Common.{rules, refl, ◌∙◌}
use Rattle.repo_prog.proofs.ServedLemmas.{kept_on, kept_still, none_served, more_served}
use Rattle.repo_prog.proofs.serve.serve_connections.Goals as goal

pub loop-turn-init : goal.loop-turn-init
loop-turn-init g c = record {
  served = λ honest. none_served _ _ _ _ _ _ _ _;
  kept = λ honest. kept_still (g.S.Shelf.store c.args.shelf.now);
  honest = λ honest. honest;
  silent = λ done. refl;
  status = search rules;
}

pub loop-turn-preserved : goal.loop-turn-preserved
loop-turn-preserved g c = record {
  served = λ honest. more_served _ _ _ _ _ _ _ _ _ _ _ _ _ _ _ _ _ _ _ c.status_after-status.ensures.done
      (c.loop-turn.invariant.served honest) (c.serve_next-served.ensures.served (c.loop-turn.invariant.honest honest));
  kept = λ honest. kept_on (g.S.Shelf.store c.args.shelf.now) (g.S.Shelf.store c.loop-turn.shelf) (g.S.Shelf.store c.serve_next-served.new.shelf) (c.loop-turn.invariant.kept honest) (c.serve_next-served.ensures.kept (c.loop-turn.invariant.honest honest));
  honest = λ honest. c.serve_next-served.ensures.honest (c.loop-turn.invariant.honest honest);
  silent = λ done. let t = c.status_after-status.ensures.done.0 done in
      c.status_after-status.ensures.silent done ∙ c.serve_next-served.ensures.silent t.1 ∙ c.loop-turn.invariant.silent t.0;
  status = c.status_after-status.ensures.status c.loop-turn.invariant.status;
}
