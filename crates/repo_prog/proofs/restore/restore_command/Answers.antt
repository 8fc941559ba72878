use Rattle.std.proofs.Common.{refl, subst}
use Rattle.repo_dial.specs.Bringing.{Ended}
use Rattle.repo_restore.specs.Restoring.{restore_rule}
use Rattle.repo_prog.specs.Jobs.{vault_asker}
use Rattle.repo_prog.proofs.JobLemmas.{came_ended, came_obeyed, restore_none}
use Rattle.repo_prog.proofs.TellLemmas.{nothing_told, tells_as}
use Rattle.repo_prog.proofs.restore.restore_command.Goals as goal

pub returns-in-Err-clause-obeyed : goal.returns-in-Err-clause-obeyed
returns-in-Err-clause-obeyed g c = restore_none c.args.caller.now c.args.restoring.name c.args.route.now.retry (g.D.Dial.connections c.args.route.now.dial)

pub returns-in-Err-clause-tells : goal.returns-in-Err-clause-tells
returns-in-Err-clause-tells g c = nothing_told _ _ _ _ _ c.not_begun.ensures refl

pub returns-in-Err-restored_by-clause-obeyed : goal.returns-in-Err-restored_by-clause-obeyed
returns-in-Err-restored_by-clause-obeyed g c = came_obeyed _ _ c.args.caller.now c.args.restoring.name c.args.route.now.retry (g.D.Dial.connections c.args.route.now.dial) (g.D.Dial.connections c.restored_by.new.route.dial) _ _ c.restored_by.ensures.came.1

pub returns-clause-obeyed : goal.returns-clause-obeyed
returns-clause-obeyed g c = came_obeyed _ _ c.args.caller.now c.args.restoring.name c.args.route.now.retry (g.D.Dial.connections c.args.route.now.dial) (g.D.Dial.connections c.restored_by.new.route.dial) _ _ c.restored_by.ensures.came.1

pub returns-in-Err-restored_by-clause-tells : goal.returns-in-Err-restored_by-clause-tells
returns-in-Err-restored_by-clause-tells g c = nothing_told _ _ _ _ _ c.failed.ensures refl

pub returns-clause-tells : goal.returns-clause-tells
returns-clause-tells g c =
    let ended = came_ended _ _ c.args.caller.now c.args.restoring.name c.args.route.now.retry (g.D.Dial.connections c.args.route.now.dial) (g.D.Dial.connections c.restored_by.new.route.dial) _ c.in-Ok-restored_by.outcome c.in-Ok-restored_by.ensures.came.1 in
    tells_as _ _ _ _ _ (λ entries is. subst (λ o. Ended (restore_rule c.args.restoring.name) (vault_asker c.args.caller.now) o c.args.route.now.retry (g.D.Dial.connections c.args.route.now.dial) (g.D.Dial.connections c.restored_by.new.route.dial)) is ended.brought) _ c.show_restored.ensures.shows
