use Rattle.std.proofs.lemmas.Option.{same_Some}
use Rattle.std.proofs.Common.{sym, ap, ◌∙◌}
use Rattle.repo_tree.specs.Spelling.{greatest_depth}
use Rattle.repo_reach.specs.declared.links.Links.{Links}
use Rattle.repo_reach.proofs.Looking.{not_bare, bare_not}
use Rattle.repo_reach.proofs.breaking.is_too_deep.Goals as goal

pub returns-then-depth-ge-DEPTH : goal.returns-then-depth-ge-DEPTH
unfolding greatest_depth
returns-then-depth-ge-DEPTH c =
    let links = c.in-Some.links.now in (
      λ yes. (c.if-depth-ge-DEPTH.true, links, c.in-Some.ensures.some, not_bare links.is_bare yes),
      λ deep. bare_not links.is_bare (ap (λ (l : Links). l.is_bare) (same_Some links deep.1 (sym c.in-Some.ensures.some ∙ deep.2)) ∙ deep.3),
    )
