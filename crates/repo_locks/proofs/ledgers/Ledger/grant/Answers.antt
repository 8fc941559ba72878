use Rattle.std.proofs.Common.{arith, rules, ◌≡◌, sym, subst}
use Rattle.std.specs.BTreeMap.{values}
use Rattle.repo_name.specs.declared.rows.LockRow.{LockRow}
use Rattle.repo_locks.specs.TokenMachine.{Tokens, with_row, MayBeGranted}
use Rattle.repo_locks.proofs.Ascending.{among_within}
use Rattle.repo_locks.proofs.LawfulSteps.{granted_lawful}
use Rattle.repo_locks.proofs.ledgers.Ledger.grant.Goals as goal

pub invariant_of-self-2 : goal.invariant_of-self-2
invariant_of-self-2 c =
    let old : Tokens = record { next = c.self.inside.next; fresh = c.self.inside.fresh.keys; live = values c.self.inside.live } in
    let row : LockRow = record { token = c.args.token; exclusive = c.args.exclusive; time = c.args.time; host = c.args.host.now } in
    let is = c.self.invariant.0 in
    let May : Tokens → Type 0 = λ l. MayBeGranted l c.args.token c.args.exclusive in
    let may = subst May (sym c.self.view_is) c.requires.may in
    let below = (among_within 0 old.next old.fresh c.args.token is.fresh may.1).1 in
    let last = is.last in
    let put : values c.put_row.new.rows ≡ with_row row (values c.self.inside.live) = search rules in
    (rw (c.leave_out.ensures.left, put) (granted_lawful old row is may (record { token = omega arith; time = omega arith; host = c.requires.host })), c.put_row.ensures.under)
