use Rattle.repo_many.proofs.servers.Server.take_to.Goals as goal

pub returns-clause-seated : goal.returns-clause-seated
returns-clause-seated g c = rw c.rest.ensures.connections (rw c.note.ensures.connections at c.seat.ensures)
