use Rattle.std.proofs.Common.{◌≡◌, ℕ, Option, sym, subst}
use Rattle.std.proofs.lemmas.Result.{IfOk-weaker}
use Rattle.repo_name.specs.declared.names.Name.{Name}
use Rattle.repo_wire.specs.declared.messages.Ask.{Ask}
use Rattle.repo_session.specs.declared.parts.Came.{Came}
use Rattle.repo_check.specs.Rounds.{HeedsCame}
use Rattle.repo_check.specs.Surveys.{HasTaken, IsPageBehind, SurveyTakesBy, Surveys, TakesSurvey, rounds_of}
use Rattle.repo_check.specs.Walks.{walk_of}
use Rattle.repo_check.proofs.Arriving.{ok_then}
use Rattle.repo_session.specs.Versions.{upto}
use Rattle.repo_check.proofs.Rounding.{err_with}
use Rattle.repo_check.proofs.Surveying.{other_page}
use Rattle.repo_check.proofs.surveys.Survey.take.Goals as goal

pub returns-in-List-clause-takes : goal.returns-in-List-clause-takes
returns-in-List-clause-takes c =
    let old = c.args.self.now in
    let new = c.take_page.new.self in
    let T : Ask → Came (Unit {0}) → Type 0 = λ ask next. TakesSurvey (rounds_of old) (walk_of old.walk) ask c.args.say.now next (rounds_of new) (walk_of new.walk) in
    let P : Came (Unit {0}) → Type 0 = λ next. (after : Option Name) → T (Ask.List c.in-List.kind after) next in
    ok_then P (λ next. SurveyTakesBy c.args.versions old c.args.ask.now c.args.say.now next new) c.take_page.result (λ next h task token es known. subst (λ ask. T ask next) (sym c.in-List.is) (h c.in-List.after) task token es) c.take_page.ensures.takes

pub returns-in-List-clause-knows : goal.returns-in-List-clause-knows
returns-in-List-clause-knows c =
    let old = c.args.self.now in
    let new = c.take_page.new.self in
    let after = c.in-List.after in
    err_with c.take_page.result (λ same es h.
    let at = subst (λ ask. Surveys (rounds_of old) (walk_of old.walk) ask es) c.in-List.is h in
    let there = other_page (rounds_of old) (walk_of old.walk) (walk_of new.walk) c.in-List.kind after es at in
    subst (λ r. Surveys r (walk_of new.walk) c.args.ask.now es) (sym (same after es at)) (subst (λ ask. Surveys (rounds_of old) (walk_of new.walk) ask es) (sym c.in-List.is) there)) c.take_page.ensures.same

pub returns-in-Get-clause-takes : goal.returns-in-Get-clause-takes
returns-in-Get-clause-takes c = rw c.in-Get.is c.take_object.ensures.takes

pub returns-in-Range-clause-takes : goal.returns-in-Range-clause-takes
returns-in-Range-clause-takes c =
    let old = c.args.self.now in
    let new = c.take_tree.new.self in
    let T : Ask → Came (Unit {0}) → Type 0 = λ ask next. TakesSurvey (rounds_of old) (walk_of old.walk) ask c.args.say.now next (rounds_of new) (walk_of new.walk) in
    let P : Came (Unit {0}) → Type 0 = λ next. (pack : Name) (offset len : ℕ) → T (Ask.Range pack offset len) next in
    ok_then P (λ next. SurveyTakesBy c.args.versions old c.args.ask.now c.args.say.now next new) c.take_tree.result (λ next h task token es known. subst (λ ask. T ask next) (sym c.in-Range.is) (h c.in-Range.pack c.in-Range.offset c.in-Range.length) task token es) c.take_tree.ensures.takes

pub returns-in-List-clause-over : goal.returns-in-List-clause-over
returns-in-List-clause-over c =
    let old = c.args.self.now in
    let new = c.take_page.new.self in
    let T : Ask → Type 0 = λ ask. HasTaken (rounds_of old) (walk_of old.walk) ask (rounds_of new) (walk_of new.walk) in
    let P : Came (Unit {0}) → Type 0 = λ next. next ≡ Came.All tt → (after : Option Name) → T (Ask.List c.in-List.kind after) in
    ok_then P (λ next. next ≡ Came.All tt → T c.args.ask.now) c.take_page.result (λ next h over. subst (λ ask. T ask) (sym c.in-List.is) (h over c.in-List.after)) c.take_page.ensures.over

pub returns-in-Range-clause-over : goal.returns-in-Range-clause-over
returns-in-Range-clause-over c =
    let old = c.args.self.now in
    let new = c.take_tree.new.self in
    let T : Ask → Type 0 = λ ask. HasTaken (rounds_of old) (walk_of old.walk) ask (rounds_of new) (walk_of new.walk) in
    let P : Came (Unit {0}) → Type 0 = λ next. next ≡ Came.All tt → (pack : Name) (offset len : ℕ) → T (Ask.Range pack offset len) in
    ok_then P (λ next. next ≡ Came.All tt → T c.args.ask.now) c.take_tree.result (λ next h over. subst (λ ask. T ask) (sym c.in-Range.is) (h over c.in-Range.pack c.in-Range.offset c.in-Range.length)) c.take_tree.ensures.over

pub returns-in-List-clause-heeds : goal.returns-in-List-clause-heeds
returns-in-List-clause-heeds c =
    let known = upto c.args.versions in
    let B : Ask → Type 0 = IsPageBehind (rounds_of c.args.self.now) in
    IfOk-weaker c.take_page.result _ _ (λ next heeds behind. subst (λ ask. HeedsCame known ask c.args.say.now next) (sym c.in-List.is) (heeds known c.in-List.after (subst B c.in-List.is behind))) c.take_page.ensures.heeds

pub returns-in-Get-clause-heeds : goal.returns-in-Get-clause-heeds
returns-in-Get-clause-heeds c =
    let known = upto c.args.versions in
    IfOk-weaker c.take_object.result _ _ (λ next heeds behind. subst (λ ask. HeedsCame known ask c.args.say.now next) (sym c.in-Get.is) heeds) c.take_object.ensures.heeds

pub returns-in-Range-clause-heeds : goal.returns-in-Range-clause-heeds
returns-in-Range-clause-heeds c =
    let known = upto c.args.versions in
    IfOk-weaker c.take_tree.result _ _ (λ next heeds behind. subst (λ ask. HeedsCame known ask c.args.say.now next) (sym c.in-Range.is) (heeds known c.in-Range.pack c.in-Range.offset c.in-Range.length)) c.take_tree.ensures.heeds
