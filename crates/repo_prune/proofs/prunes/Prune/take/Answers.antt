use Rattle.std.proofs.Common.{false, sym, subst}
use Rattle.std.proofs.lemmas.Result.{IfOk-weaker}
use Rattle.repo_wire.specs.declared.messages.Ask.{Ask}
use Rattle.repo_session.specs.Jobs.{HeedsOn}
use Rattle.repo_session.specs.Traces.{silent}
use Rattle.repo_session.specs.Versions.{upto}
use Rattle.repo_prune.specs.PruneStates.{StepsFrom}
use Rattle.repo_prune.proofs.Heeding.{put_heeds, range_heeds}
use Rattle.repo_prune.proofs.prunes.Prune.take.Goals as goal

pub returns-in-Range-clause-steps : goal.returns-in-Range-clause-steps
returns-in-Range-clause-steps c = IfOk-weaker c.take_range.result _ _ (λ step h who knows. subst (λ a. StepsFrom c.args.self.now c.args.token a c.args.say.now step c.take_range.new.self) (sym c.in-Range.is) (h _ _ _) who) c.take_range.ensures.steps

pub returns-in-Put-clause-steps : goal.returns-in-Put-clause-steps
returns-in-Put-clause-steps c = IfOk-weaker c.take_put.result _ _ (λ step h who knows. subst (λ a. StepsFrom c.args.self.now c.args.token a c.args.say.now step c.take_put.new.self) (sym c.in-Put.is) (h _ _ _) who) c.take_put.ensures.steps

pub returns-in-Delete-clause-steps : goal.returns-in-Delete-clause-steps
returns-in-Delete-clause-steps c = λ who knows. subst (λ a. StepsFrom c.args.self.now c.args.token a c.args.say.now c.take_delete.result c.take_delete.new.self) (sym c.in-Delete.is) (c.take_delete.ensures.steps _ _) who

pub returns-in-Range-clause-heeds : goal.returns-in-Range-clause-heeds
returns-in-Range-clause-heeds c = IfOk-weaker c.take_range.result _ _ (λ step h who same es w obeys asked.
    let known = upto who.versions in
    subst (λ (a : Ask). HeedsOn known false (silent a c.args.say.now) step) (sym c.in-Range.is) (range_heeds known c.in-Range.pack c.in-Range.offset c.in-Range.length c.args.say.now step h)) c.take_range.ensures.heeds

pub returns-in-Put-clause-heeds : goal.returns-in-Put-clause-heeds
returns-in-Put-clause-heeds c = IfOk-weaker c.take_put.result _ _ (λ step h who same es w obeys asked.
    let known = upto who.versions in
    subst (λ (a : Ask). HeedsOn known false (silent a c.args.say.now) step) (sym c.in-Put.is) (put_heeds known _ _ _ _ c.args.say.now step h)) c.take_put.ensures.heeds
