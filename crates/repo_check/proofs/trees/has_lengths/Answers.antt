use Rattle.repo_check.proofs.trees.has_lengths.Goals as goal

pub returns-then-bytes-fact-clause-has : goal.returns-then-bytes-fact-clause-has
returns-then-bytes-fact-clause-has c is = record { len = c.if-bytes-fact.true; sizes = c.all_suit.ensures.all is }
