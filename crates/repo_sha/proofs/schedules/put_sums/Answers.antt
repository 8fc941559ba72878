use Rattle.std.proofs.Common.{◌≡◌, ◌*◌, arith}
use Rattle.repo_sha.proofs.SumLemmas.{IsScheduledTo_at}
use Rattle.repo_sha.proofs.schedules.put_sums.Goals as goal

pub turns-init : goal.turns-init
turns-init c j lt =
    let begins = c.first_words-window.ensures j lt in
    (begins, c.put_firsts.ensures j lt _ begins)

pub turns-preserved : goal.turns-preserved
turns-preserved c j lt =
    let s1 = c.put_four.ensures j lt _ (IsScheduledTo_at j _ _ _ _ _ (omega arith) (c.turns.invariant j lt)) in
    let s2 = c.put_four-in-turns.ensures j lt _ s1 in
    let s3 = c.put_four-in-turns-2.ensures j lt _ s2 in
    let s4 = c.put_four-in-turns-3.ensures j lt _ s3 in
    IsScheduledTo_at j _ _ _ _ _ (omega arith) s4

pub returns : goal.returns
returns c j lt =
    let done : 16 * c.turns.turn ≡ 64 = omega (arith, c.turns.auto.turn-end (omega arith)) in
    rw done at (c.turns.invariant j lt).1
