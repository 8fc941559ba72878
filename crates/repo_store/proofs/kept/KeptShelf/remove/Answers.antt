use Rattle.repo_store.proofs.Remembering.{remove_agrees}
use Rattle.repo_store.proofs.kept.KeptShelf.remove.Goals as goal

pub returns-in-Ok-clause-honest : goal.returns-in-Ok-clause-honest
returns-in-Ok-clause-honest g c h =
    (c.in-Ok.ensures.honest h.0, remove_agrees c.args.self.now.known c.strike.new.self c.args.kind c.args.name.now _ _ h.1 c.strike.ensures.names c.strike.ensures.others (c.in-Ok.ensures.law h.0))
