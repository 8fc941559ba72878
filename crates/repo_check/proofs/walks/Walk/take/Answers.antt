use Rattle.std.proofs.Common.{sym, subst}
use Rattle.repo_check.specs.Walks.{AddsNote, known_of, walk_of}
use Rattle.repo_check.proofs.walks.Walk.take.Goals as goal

pub returns-in-Err-clause-same : goal.returns-in-Err-clause-same
returns-in-Err-clause-same c = λ unread faultless.
    let old = c.args.self.now in
    let gone = c.in-Err.ensures.gone in
    c.take_back.ensures (walk_of old) c.args.note c.mark-mark.ensures unread faultless
    (record { adds = subst (λ k. AddsNote (known_of old.known) c.args.tree c.args.note k) (sym gone.known) c.in_ok-note.ensures.ok; more = gone.more; visits = gone.visits })
