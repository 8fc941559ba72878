use Rattle.std.proofs.Common.{◌-◌, slice_set, ap, ◌∙◌}
use Rattle.repo_restore.specs.declared.nodes.Level.{Level}
use Rattle.repo_restore.proofs.Passing.{last_item, put_last}
use Rattle.repo_restore.proofs.walks.replace_last.Goals as goal

pub returns-in-Some-clause-some : goal.returns-in-Some-clause-some
returns-in-Some-clause-some c = λ above last are.
    let items = c.args.levels.now.items in
    let same = last_item items above last c.in-Some.last.now c.args.levels.now.len are c.args.levels.now.ok.0 c.in-Some.ensures.value in
    (c.replace.ensures.value ∙ same, ap (λ (l : Level). slice_set items (c.args.levels.now.len - 1) l) c.replace.ensures.after ∙ put_last items above last c.args.level c.args.levels.now.len are c.args.levels.now.ok.0)
