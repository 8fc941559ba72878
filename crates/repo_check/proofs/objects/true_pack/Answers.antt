use Rattle.std.proofs.Common.{List, subst}
use Rattle.std.specs.List.{All}
use Rattle.repo_pack.specs.PackLayout.{Item, IsNamed}
use Rattle.repo_pack.proofs.Packs.{packs_one}
use Rattle.repo_check.proofs.objects.true_pack.Goals as goal

pub returns-else-branch-clause-none : goal.returns-else-branch-clause-none
returns-else-branch-clause-none c = λ none has.
    let same = packs_one c.args.bytes.now has.0 c.in-Ok.view has.1.pack c.in-Ok.ensures.ok in
    let yes = c.in_ok-all_named.ensures.1 (subst (λ (items : List Item). All IsNamed items) same has.1.named) in
    let no = c.if-branch.false in
    absurd (cc)
