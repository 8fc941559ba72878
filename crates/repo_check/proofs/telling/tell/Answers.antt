use Rattle.std.proofs.Common.{◌≡◌, ◌++◌, [], inl, inr, sym, ap, ◌∙◌, append-nil}
use Rattle.repo_check.specs.Telling.{told}
use Rattle.repo_check.proofs.Tellings.{told_without_names, told_without_found}
use Rattle.repo_check.proofs.telling.tell.Goals as goal

pub returns : goal.returns
returns c =
    let names = c.loop-name.name-iterator.a.rest.now in
    let found = c.loop-name.name-iterator.b.rest.now in
    let rest : told c.args.thing names found ≡ [] = elim (c.in-None.ensures.steps) [
      | inl none ↦ told_without_names c.args.thing names found none.1.0
      | inr none ↦ told_without_found c.args.thing names found none.1.0
    ] in
    sym (c.loop-name.invariant ∙ ap (λ more. c.loop-name.faults.items ++ more) rest ∙ append-nil c.loop-name.faults.items)
