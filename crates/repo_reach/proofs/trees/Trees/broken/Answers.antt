use Rattle.std.proofs.Common.{List, slice_get, ap, ◌∙◌}
use Rattle.repo_reach.specs.declared.looks.Seen.{Seen}
use Rattle.repo_reach.proofs.Turning.{finds, is_yes}
use Rattle.repo_reach.proofs.trees.Trees.broken.Goals as goal

pub returns : goal.returns
returns c = finds c.args.self.now c.args.at c.args.visit c.wrong_next.result (is_yes c.args.visit.follows c.if-not-visit.false)
    (λ seen here. c.in_default.ensures seen (ap (λ (xs : List Seen). slice_get xs c.args.at) c.as_slice.ensures.value ∙ here)) c.wrong_next.ensures
