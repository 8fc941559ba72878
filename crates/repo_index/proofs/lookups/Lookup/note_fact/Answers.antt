use Rattle.std.proofs.Common.{rules, ◌≡◌, ◌++◌, ◌∷◌, []}
use Rattle.repo_index.proofs.LookupLemmas.{grew_new}
use Rattle.repo_index.proofs.lookups.Lookup.note_fact.Goals as goal

pub returns-then-branch-clause-noted : goal.returns-then-branch-clause-noted
returns-then-branch-clause-noted c = λ base g.
    let items : c.push.new.self.items ≡ c.args.noted.now.items ++ c.args.fact ∷ [] = search rules in
    grew_new base c.args.noted.now.items c.args.self.now c.add_fact.new.self c.push.new.self.items c.args.fact items
    c.in_ok-add_fact.ensures.ok (c.in_ok-add_fact.ensures.new c.if-branch.true) g
