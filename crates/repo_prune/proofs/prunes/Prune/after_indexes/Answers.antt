use Rattle.repo_prune.specs.PruneStates.{known_in}
use Rattle.repo_prune.proofs.PruneDeletes.{clearing_begins, clears}
use Rattle.repo_prune.proofs.prunes.Prune.after_indexes.Goals as goal

pub returns-clause-on : goal.returns-clause-on
returns-clause-on c = λ who es w h.
    let k = known_in c.args.self.now in
    let d = c.in_ok-deleting.deleting in
    let begins = rw c.as_slice-packs.ensures.value at (rw c.as_slice-indexes.ensures.value at c.in_ok-deleting.ensures) in
    clears k d who c.args.token es w (clearing_begins k c.args.relisting.now d es h begins) c.next-step.result c.next-step.ensures.next
