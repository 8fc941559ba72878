use Rattle.repo_check.specs.Surveys.{rounds_of}
use Rattle.repo_check.specs.Walks.{walk_of}
use Rattle.repo_check.proofs.Surveying.{first_known}
use Rattle.repo_check.proofs.surveys.Survey.first.Goals as goal

pub returns-clause-first : goal.returns-clause-first
returns-clause-first c = λ fresh task token text config reads known. first_known task token text config (rounds_of c.args.self.now) (walk_of c.args.self.now.walk) c.page_ask.result reads known fresh c.page_ask.ensures.ask
