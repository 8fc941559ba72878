use Rattle.std.proofs.Common.{rules, arith, ◌≡◌, ◌≢◌, ◌-◌, length, take, drop, sym, ap, ◌∙◌}
use Rattle.repo_session.specs.Feeds.{fed_dir, fed_file}
use Rattle.repo_backup.specs.declared.steps.WalkStep.{WalkStep}
use Rattle.repo_backup.proofs.PieceTaking.{whole_piece}
use Rattle.repo_backup.proofs.StepFeeding.{step_here, dir_next, leave_next, file_next, part_comes, end_part, some_part, rest_read}
use Rattle.repo_backup.proofs.steps.next_item.Goals as goal

pub returns-then-is_empty-clause-item : goal.returns-then-is_empty-clause-item
returns-then-is_empty-clause-item c =
    let found = c.in-Some.ensures.lookup in
    let k = c.in-File-Some in
    let next = step_here c.args.steps.now c.args.position.at c.in-Some.step.now (WalkStep.File k.field-0-0 k.bytes) found.3.0 found.1 k.is-0 in
    let read = c.as_slice-bytes.result.now in
    let rest = take (length read - c.min.result) (drop c.min.result read) in
    let none : length rest ≡ 0 = search (rules, arith) in
    sym (part_comes c.args.position.within _ k.field-0-0 k.bytes k.fed rest k.is-1 next (sym (rest_read read k.bytes k.fed c.min.result c.as_slice-bytes.ensures c.min.ensures)) ∙ end_part rest none)

pub returns-in-Enter-default-clause-item : goal.returns-in-Enter-default-clause-item
returns-in-Enter-default-clause-item c =
    let found = c.in-Some.ensures.lookup in
    let next = step_here c.args.steps.now c.args.position.at c.in-Some.step.now (WalkStep.Enter c.in-Enter-default.name) found.3.0 found.1 c.in-Enter-default.is-0 in
    ap fed_dir c.as_str.ensures.text ∙ sym (dir_next c.args.position.within _ c.in-Enter-default.name next)

pub returns-in-Leave-default-clause-item : goal.returns-in-Leave-default-clause-item
returns-in-Leave-default-clause-item c =
    let found = c.in-Some.ensures.lookup in
    let next = step_here c.args.steps.now c.args.position.at c.in-Some.step.now WalkStep.Leave found.3.0 found.1 c.in-Leave-default.is-0 in
    sym (leave_next c.args.position.within _ next)

pub returns-in-File-None-clause-item : goal.returns-in-File-None-clause-item
returns-in-File-None-clause-item c =
    let found = c.in-Some.ensures.lookup in
    let k = c.in-File-None in
    let next = step_here c.args.steps.now c.args.position.at c.in-Some.step.now (WalkStep.File k.name k.field-1-0) found.3.0 found.1 k.is-0 in
    ap fed_file c.as_str-in-File-None.ensures.text ∙ sym (file_next c.args.position.within _ k.name k.field-1-0 k.is-1 next)

pub returns-else-is_empty-clause-item : goal.returns-else-is_empty-clause-item
returns-else-is_empty-clause-item c =
    let found = c.in-Some.ensures.lookup in
    let k = c.in-File-Some in
    let next = step_here c.args.steps.now c.args.position.at c.in-Some.step.now (WalkStep.File k.field-0-0 k.bytes) found.3.0 found.1 k.is-0 in
    let read = c.as_slice-bytes.result.now in
    let rest = take (length read - c.min.result) (drop c.min.result read) in
    let some : length rest ≢ 0 = λ none. (let no = c.if-is_empty.false in search (rules, arith)) in
    whole_piece rest ∙ sym (part_comes c.args.position.within _ k.field-0-0 k.bytes k.fed rest k.is-1 next (sym (rest_read read k.bytes k.fed c.min.result c.as_slice-bytes.ensures c.min.ensures)) ∙ some_part rest some)
