use Rattle.repo_feeding.proofs.Fed as law
use Rattle.repo_feeding.proofs.laws.fed_clients_are_fed.Goals as goal

pub returns : goal.returns
returns c = law.fed_clients
