use Rattle.std.proofs.Common.{sym, ◌∙◌}
use Rattle.repo_name.specs.NameMaps.{found}
use Rattle.repo_check.proofs.Breaking.{false_true, wrong_only}
use Rattle.repo_check.proofs.knowing.Known.wrong_next.Goals as goal

pub returns-then-goes_wrong_in-clause-some : goal.returns-then-goes_wrong_in-clause-some
returns-then-goes_wrong_in-clause-some c =
    (c.in-Some.kept.now, c.in-Some-get.behind.now, sym c.in-Some.ensures.value, sym c.next_by.ensures ∙ c.in-Some-next_by.is, sym c.in-Some-get.ensures.value, c.goes_wrong_in.ensures.0 c.if-goes_wrong_in.true)

pub returns-clause-none : goal.returns-clause-none
returns-clause-none c = λ none n wrong.
    false_true c.goes_wrong_in.result c.if-goes_wrong_in.false
    (c.goes_wrong_in.ensures.1 (wrong_only (found c.args.self.now.kept) c.args.visit c.in-Some.kept.now c.in-Some-get.behind.now c.in-Some-next_by.next n (sym c.in-Some.ensures.value) (sym c.next_by.ensures ∙ c.in-Some-next_by.is) (sym c.in-Some-get.ensures.value) wrong))
