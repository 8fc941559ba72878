use Rattle.std.proofs.Common.{arith, List, None, ap, sym, subst, ◌∙◌, ◌≡◌}
use Rattle.std.specs.BTreeMap.{values}
use Rattle.repo_locks.specs.TokenMachine.{Tokens, kind_among, live_as}
use Rattle.repo_name.specs.declared.rows.LockRow.{LockRow}
use Rattle.repo_locks.proofs.Numbers.{none_from_is_some}
use Rattle.repo_locks.proofs.TokenMaps.{rows_at_none}
use Rattle.repo_locks.proofs.LawfulSteps.{refreshed_lawful}
use Rattle.repo_locks.proofs.ledgers.Ledger.refresh.Goals as goal

pub invariant_of-self : goal.invariant_of-self
invariant_of-self c =
    let old : Tokens = record { next = c.self.inside.next; fresh = c.self.inside.fresh.keys; live = values c.self.inside.live } in
    (rw c.bring_up.ensures.brought (refreshed_lawful old c.args.token c.args.time (omega arith) c.self.invariant.0), c.bring_up.ensures.under)

pub returns-then-not-bring_up : goal.returns-then-not-bring_up
returns-then-not-bring_up c =
    let IsNone : Tokens → Type 0 = λ l. live_as l c.args.token ≡ None in
    let none = none_from_is_some (kind_among (values c.self.inside.live) c.args.token) (sym c.if-not-bring_up.ensures.was) in
    let same = c.bring_up.ensures.brought ∙ rows_at_none c.args.token c.args.time (values c.self.inside.live) none in
    let state : List LockRow → Tokens = λ rs. record { next = c.self.inside.next; fresh = c.self.inside.fresh.keys; live = rs } in
    (subst IsNone c.self.view_is none, ap state same ∙ c.self.view_is)

pub invariant_of-self-2 : goal.invariant_of-self-2
invariant_of-self-2 c =
    let old : Tokens = record { next = c.self.inside.next; fresh = c.self.inside.fresh.keys; live = values c.self.inside.live } in
    (rw c.bring_up.ensures.brought (refreshed_lawful old c.args.token c.args.time (omega arith) c.self.invariant.0), c.bring_up.ensures.under)
