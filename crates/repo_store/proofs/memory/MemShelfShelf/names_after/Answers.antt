use Rattle.std.proofs.Common.{ap, sym, refl, ◌∙◌}
use Rattle.repo_store.proofs.PageLemmas.{page_of}
use Rattle.repo_store.proofs.memory.MemShelfShelf.names_after.Goals as goal

pub returns-clause-law : goal.returns-clause-law
returns-clause-law c h =
    let p = c.in_ok-page_after in
    (page_of _ _ _ _ c.map.result.now (λ n y e. (y, ap (λ f. f n) (sym c.map.ensures) ∙ e)) (λ n x e. (x, ap (λ f. f n) c.map.ensures ∙ e)) p.ensures.ordered _ _ p.ensures.cut, refl)
