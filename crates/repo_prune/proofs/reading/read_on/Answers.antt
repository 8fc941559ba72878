use Rattle.repo_prune.proofs.TreeReading.{on_any, walks_stay, walks_to}
use Rattle.repo_prune.proofs.reading.read_on.Goals as goal

pub returns-in_err-turn-clause-walks : goal.returns-in_err-turn-clause-walks
returns-in_err-turn-clause-walks c = on_any c.from_residual.result
    (λ texts w. walks_stay c.args.lookup.now texts c.args.trees.now c.next.new.self c.next.ensures.kept (c.next.ensures.walk texts w.walk) (c.in_err-turn.ensures.err texts w.walk) w)

pub returns-clause-on : goal.returns-clause-on
returns-clause-on c = λ texts w.
    let stays = walks_to c.args.lookup.now texts c.args.trees.now c.next.new.self c.in_ok-turn.turn c.next.ensures.kept (c.next.ensures.walk texts w.walk) (c.in_ok-turn.ensures.broken texts w.walk) w in
    c.go_on.ensures c.args.lookup.now texts c.next.new.self stays (c.in_ok-turn.ensures.turn texts w.walk)
