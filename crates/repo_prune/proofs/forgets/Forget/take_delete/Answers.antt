use Rattle.std.proofs.Common.{arith}
use Rattle.repo_prune.proofs.Choosing.{one_deleted}
use Rattle.repo_prune.proofs.forgets.Forget.take_delete.Goals as goal

pub returns-in-Done-clause-steps : goal.returns-in-Done-clause-steps
returns-in-Done-clause-steps c = λ es w obeys asked.
    let f = c.args.self.now in
    let k = asked.knows in
    c.go_on.ensures.goes c.args.ask.now c.args.say.now es w
    (one_deleted f.choice f.chosen.items f.deleted _ k.0 k.1 c.args.ask.now c.args.say.now es k.2 c.in-Done.is k.3 (λ below. omega (arith, below, c.saturating_add-self.ensures, f.chosen.small)) k.4)
