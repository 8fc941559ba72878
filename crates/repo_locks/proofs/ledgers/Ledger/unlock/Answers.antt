use Rattle.std.proofs.Common.{Bool, ◌||◌, ◌≡◌, ◌∙◌, sym, ap}
use Rattle.std.specs.BTreeMap.{values}
use Rattle.repo_locks.specs.TokenMachine.{Tokens, is_live, is_fresh_or_live}
use Rattle.repo_locks.proofs.LawfulSteps.{unlocked_lawful}
use Rattle.repo_locks.proofs.Numbers.{unlock_told}
use Rattle.repo_locks.proofs.ledgers.Ledger.unlock.Goals as goal
use Rattle.repo_locks.proofs.ledgers.Ledger.unlock.Goals.{then-was_fresh, else-was_fresh}

pub invariant_of-self : goal.invariant_of-self
invariant_of-self c =
    let old : Tokens = record { next = c.self.inside.next; fresh = c.self.inside.fresh.keys; live = values c.self.inside.live } in
    (rw (c.leave_out-was_fresh.ensures.left, c.leave_out_row-was_live.ensures.left) (unlocked_lawful old c.args.token c.self.invariant.0), c.leave_out_row-was_live.ensures.under)

pub returns : goal.returns
returns c =
    let old : Tokens = record { next = c.self.inside.next; fresh = c.self.inside.fresh.keys; live = values c.self.inside.live } in
    let also = λ (b : Bool). b || is_live old c.args.token in
    let found : c.if-was_fresh.result ≡ is_fresh_or_live old c.args.token = elim c.if-was_fresh.branch [
      | then-was_fresh w ↦ w.result-is ∙ w.if-was_fresh.true ∙ ap also (sym w.if-was_fresh.true ∙ c.leave_out-was_fresh.ensures.was)
      | else-was_fresh w ↦ w.result-is ∙ c.leave_out_row-was_live.ensures.was ∙ ap also (sym w.if-was_fresh.false ∙ c.leave_out-was_fresh.ensures.was)
    ] in
    rw (← c.self.view_is, c.leave_out-was_fresh.ensures.left, c.leave_out_row-was_live.ensures.left) (unlock_told old c.args.token c.if-was_fresh.result found)
