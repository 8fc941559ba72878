use Rattle.std.proofs.Common.{refl, sym, subst}
use Rattle.std.proofs.lemmas.Result.{IfOk-weaker, on_err_weaker}
use Rattle.repo_session.specs.Jobs.{HeedsReply, StepsOn}
use Rattle.repo_session.specs.Traces.{silent}
use Rattle.repo_prune.specs.Pruning.{prune_rule}
use Rattle.repo_prune.specs.PruneStates.{KnowsPrune}
use Rattle.repo_prune.proofs.prunes.PruneJob.reply.Goals as goal

pub returns-in_default : goal.returns-in_default
returns-in_default c =
    let old = c.args.self.now in
    let new = c.take.new.self in
    let who = c.args.holder.now.who in
    let same = sym c.versions.ensures in
    let e = silent c.args.ask.now c.args.say.now in
    record {
      steps = IfOk-weaker c.take.result _ _ (λ step h. subst (λ t. StepsOn prune_rule (record { who = who; token = t }) (KnowsPrune old) (KnowsPrune new) e step) c.token.ensures (h who same)) c.take.ensures.steps;
      heeds = IfOk-weaker c.take.result _ _ (λ step h. subst (λ t. HeedsReply prune_rule (record { who = who; token = t }) (KnowsPrune old) e step) c.token.ensures (h who same)) c.take.ensures.heeds;
      short = c.take.ensures.short;
      calm = λ code is. absurd (c.in_default.not-Refused code is);
      knows = c.take.ensures.knows;
      given = on_err_weaker c.take.result (λ h. refl) c.take.ensures.knows;
      handed = refl;
    }
