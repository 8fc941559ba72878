use Rattle.std.proofs.Common.{ap, refl, ◌∙◌}
use Rattle.repo_store.proofs.memory.MemShelfShelf.get.Goals as goal

pub returns-clause-law : goal.returns-clause-law
returns-clause-law c h = (c.in_ok-look_up.ensures ∙ ap (λ f. f c.args.name.now) c.map.ensures, refl)
