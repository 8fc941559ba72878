use Rattle.std.proofs.lemmas.Result.{IfOk-weaker}
use Rattle.repo_name.specs.declared.kinds.Kind.{Kind}
use Rattle.repo_wire.specs.declared.messages.Ask.{Ask}
use Rattle.repo_session.specs.Versions.{upto}
use Rattle.repo_check.specs.Surveys.{SurveyTakes, SurveyTakesBy}
use Rattle.repo_check.proofs.Arriving.{ok_then}
use Rattle.repo_check.proofs.surveys.Survey.take_object.Goals as goal

pub returns-in-Pack-clause-takes : goal.returns-in-Pack-clause-takes
returns-in-Pack-clause-takes c =
    rw c.in-Pack.is (ok_then (λ next. SurveyTakes c.args.self.now (Ask.Get Kind.Pack c.args.name) c.args.say.now next c.take_pack.new.self) (λ next. SurveyTakesBy c.args.versions c.args.self.now (Ask.Get Kind.Pack c.args.name) c.args.say.now next c.take_pack.new.self) c.take_pack.result
    (λ next h task token es known. h task token es) c.take_pack.ensures.takes)

pub returns-in-Index-clause-takes : goal.returns-in-Index-clause-takes
returns-in-Index-clause-takes c =
    rw c.in-Index.is (ok_then (λ next. SurveyTakes c.args.self.now (Ask.Get Kind.Index c.args.name) c.args.say.now next c.take_index.new.self) (λ next. SurveyTakesBy c.args.versions c.args.self.now (Ask.Get Kind.Index c.args.name) c.args.say.now next c.take_index.new.self) c.take_index.result
    (λ next h task token es known. h task token es) c.take_index.ensures.takes)

pub returns-in-Snapshot-clause-takes : goal.returns-in-Snapshot-clause-takes
returns-in-Snapshot-clause-takes c = rw c.in-Snapshot.is c.take_snapshot.ensures.takes

pub returns-in-Pack-clause-heeds : goal.returns-in-Pack-clause-heeds
returns-in-Pack-clause-heeds c = rw c.in-Pack.is (IfOk-weaker c.take_pack.result _ _ (λ next heeds. heeds (upto c.args.versions)) c.take_pack.ensures.heeds)

pub returns-in-Index-clause-heeds : goal.returns-in-Index-clause-heeds
returns-in-Index-clause-heeds c = rw c.in-Index.is (IfOk-weaker c.take_index.result _ _ (λ next heeds. heeds (upto c.args.versions)) c.take_index.ensures.heeds)

pub returns-in-Snapshot-clause-heeds : goal.returns-in-Snapshot-clause-heeds
returns-in-Snapshot-clause-heeds c = rw c.in-Snapshot.is c.take_snapshot.ensures.heeds
