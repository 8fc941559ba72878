use Rattle.std.proofs.Common.{arith}
use Rattle.std.specs.BTreeMap.{values}
use Rattle.repo_locks.specs.TokenMachine.{Tokens}
use Rattle.repo_locks.proofs.LawfulSteps.{issued_lawful}
use Rattle.repo_locks.proofs.ledgers.Ledger.ticket.Goals as goal

pub invariant_of-self-2 : goal.invariant_of-self-2
invariant_of-self-2 c =
    let old : Tokens = record { next = c.self.inside.next; fresh = c.self.inside.fresh.keys; live = values c.self.inside.live } in
    (rw c.in_ok-put_fresh.ensures.ok (issued_lawful old c.self.invariant.0 (omega arith)), c.self.invariant.1)
