use Rattle.std.proofs.Common.{[], sym, subst}
use Rattle.std.specs.List.{flat_map}
use Rattle.repo_index.specs.Lookups.{Joins}
use Rattle.repo_check.specs.Gathering.{facts_noted}
use Rattle.repo_check.specs.Walks.{IsFreshKnown, Knowledge}
use Rattle.repo_check.proofs.surveys.Survey.begin.Goals as goal

pub returns-clause-begins : goal.returns-clause-begins
returns-clause-begins c =
    let b = c.in_ok-walk.ensures in
    let known = c.in_ok-next.ensures.gone.known in
    record {
      roots = b.roots;
      roots_are = b.roots_are;
      facts = subst (λ (k : Knowledge). Joins [] (flat_map facts_noted c.args.self.now.indexes.notes.items) k.facts) (sym known) b.facts;
      fresh = subst (λ (k : Knowledge). IsFreshKnown k.facts k) (sym known) b.fresh;
      fact = c.in_ok-next.next;
      on = c.in_ok-next.ensures.next b.roots b.walks;
      is = c.next_of.ensures.next;
    }
