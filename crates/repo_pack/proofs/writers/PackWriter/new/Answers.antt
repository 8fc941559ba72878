use Rattle.repo_pack.proofs.WriterLemmas.{filled_none, shows_none}
use Rattle.repo_pack.proofs.writers.PackWriter.new.Goals as goal

pub invariant_of-result : goal.invariant_of-result
invariant_of-result c = rw (c.new-blobs.ensures.items, c.new-rows.ensures.items) (filled_none c.args.target c.requires.0 c.requires.1)

pub returns : goal.returns
returns c = rw (c.new-blobs.ensures.items, c.new-rows.ensures.items) (λ i. record { items = shows_none i; target = c.args.target })
