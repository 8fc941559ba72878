use Rattle.std.proofs.Common.{ℕ, take, sym, subst}
use Rattle.repo_writing.specs.Writing.{FewWait}
use Rattle.repo_prune.proofs.Cutting.{few_first}
use Rattle.repo_prune.proofs.indexing.cut.Goals as goal

pub returns-then-count-ge-FACTS_LIMIT-clause-few : goal.returns-then-count-ge-FACTS_LIMIT-clause-few
returns-then-count-ge-FACTS_LIMIT-clause-few c = λ small.
    subst (λ (i : ℕ). FewWait (take i c.args.packs.now)) (sym c.loop-pack.invariant.1) (few_first c.args.packs.now c.loop-pack.pack-index c.loop-pack.auto.pack-index-end c.loop-pack.invariant.2 small)

pub returns-clause-few : goal.returns-clause-few
returns-clause-few c = λ small.
    subst (λ (i : ℕ). FewWait (take i c.args.packs.now)) (sym c.loop-pack.invariant.1) (few_first c.args.packs.now c.loop-pack.pack-index c.loop-pack.auto.pack-index-end c.loop-pack.invariant.2 small)
