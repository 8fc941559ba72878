use Rattle.std.proofs.Common.{length, ap, sym, subst, ◌∙◌}
use Rattle.std.specs.Bool.{◌==◌}
use Rattle.repo_check.specs.Checking.{IsAtFault}
use Rattle.repo_check.specs.Surveys.{rounds_of}
use Rattle.repo_check.specs.Verdicts.{reached_of}
use Rattle.repo_check.specs.Walks.{walk_of}
use Rattle.repo_check.proofs.CheckSteps.{nothing_by, something_by}
use Rattle.repo_check.proofs.Concluding.{is_at_fault, is_clean}
use Rattle.repo_check.proofs.verdicts.outcome_of.Goals as goal

pub returns-then-is_empty : goal.returns-then-is_empty
returns-then-is_empty c = λ es s.
    let faults = c.in_ok-faults.faults.items in
    is_clean (rounds_of c.args.survey.now) (walk_of c.args.survey.now.walk) es s (reached_of c.in_ok-reached.reached) c.in_ok-reached.ensures faults c.in_ok-faults.ensures c.clean.result
    (nothing_by faults c.is_empty.result (c.is_empty.ensures ∙ ap (λ fs. length fs == 0) c.as_slice.ensures.value) c.if-is_empty.true) c.clean.ensures

pub returns : goal.returns
returns c = λ es s.
    let faults = c.in_ok-faults.faults.items in
    let is = is_at_fault (rounds_of c.args.survey.now) (walk_of c.args.survey.now.walk) es s (reached_of c.in_ok-reached.reached) c.in_ok-reached.ensures faults c.in_ok-faults.ensures
    (something_by faults c.is_empty.result (c.is_empty.ensures ∙ ap (λ fs. length fs == 0) c.as_slice.ensures.value) c.if-is_empty.false) in
    subst (λ fs. IsAtFault es fs) (sym c.of.ensures) is
