use Rattle.std.proofs.Common.{[], inl, refl}
use Rattle.repo_hall.proofs.Hosting.{begins}
use Rattle.repo_prog.proofs.ServedLemmas.{kept_still, ran_still}
use Rattle.repo_prog.proofs.serve.serve_given.Goals as goal

pub returns-in-None-clause-hosted : goal.returns-in-None-clause-hosted
returns-in-None-clause-hosted g c honest = ([], (begins (g.S.Shelf.store c.args.shelf.now) (g.S.Shelf.failed c.args.shelf.now)).hosted, tt, λ n. inl refl)

pub returns-in-None-clause-kept : goal.returns-in-None-clause-kept
returns-in-None-clause-kept g c honest = kept_still (g.S.Shelf.store c.args.shelf.now)

pub returns-in-None-clause-ran : goal.returns-in-None-clause-ran
returns-in-None-clause-ran g c honest = ran_still (g.S.Shelf.store c.args.shelf.now) (g.S.Shelf.failed c.args.shelf.now)
