use Rattle.std.proofs.Common.{◌∷◌, refl, sym, subst}
use Rattle.repo_wire.specs.declared.messages.Ask.{Ask}
use Rattle.repo_session.specs.Jobs.{MayStep}
use Rattle.repo_session.specs.declared.jobs.Step.{Step}
use Rattle.repo_restore.specs.declared.restores.Restore.{Restore}
use Rattle.repo_restore.specs.declared.restores.Stage.{Stage}
use Rattle.repo_restore.specs.Restoring.{restore_rule}
use Rattle.repo_restore.specs.RestoreStates.{IsWalking, KnowsRestore}
use Rattle.repo_session.specs.Versions.{upto}
use Rattle.repo_restore.proofs.Advancing.{waits_asks, walk_concludes}
use Rattle.repo_restore.proofs.restores.Restore.go_on.Goals as goal

pub returns-in-Ask-clause-steps : goal.returns-in-Ask-clause-steps
returns-in-Ask-clause-steps c = λ who token e es w gives next.
    let j = c.args.self.now in
    let fact = c.in-Ask.fact in
    let new : Restore = record { snapshot = j.snapshot; stage = Stage.Walk fact c.args.version; catalog = j.catalog; walk = j.walk; given = j.given; alloc = j.alloc } in
    let S : Ask → Type 0 = λ a. MayStep (restore_rule j.snapshot) who (KnowsRestore new) es e (Step.Ask a) in
    let walking : IsWalking new c.args.version fact (e ∷ es) = record { root = next.root; found = next.found; indexes = next.indexes; all = next.all; waits = rw c.in-Ask.is at next.turns; went = (rw c.in-Ask.is at next.once).1; once = (rw c.in-Ask.is at next.once).0 } in
    subst S (sym c.range_ask.ensures.ask) (gives, waits_asks new c.args.version fact who token (e ∷ es) refl w walking (rw c.in-Ask.is at next.once).0)

pub returns-in-Ended-clause-steps : goal.returns-in-Ended-clause-steps
returns-in-Ended-clause-steps c = λ who token e es w gives next.
    let j = c.args.self.now in
    let ends = rw c.in-Ended.is at next.turns in
    (gives, walk_concludes (upto who.versions) j.catalog j.snapshot c.args.version next.root (e ∷ es) c.in-Ended.end next.indexes next.all next.found ends next.came)
