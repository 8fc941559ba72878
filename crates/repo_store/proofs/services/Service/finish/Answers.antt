use Rattle.repo_store.proofs.ServiceLemmas.{all_served}
use Rattle.repo_store.proofs.services.Service.finish.Goals as goal

pub returns-then-not-is_between-clause-finishes : goal.returns-then-not-is_between-clause-finishes
returns-then-not-is_between-clause-finishes g c before after past rests =
    let inside = c.if-not-is_between.true in
    (c.args.self.reader.unread, (λ none. let between = c.is_between.ensures.1 none in cc (between, inside)), all_served g.F.Form.shown before c.args.self past after rests)
