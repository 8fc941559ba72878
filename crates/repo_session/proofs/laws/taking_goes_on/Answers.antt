use Rattle.repo_session.proofs.TakingFurther as lemmas
use Rattle.repo_session.proofs.laws.taking_goes_on.Goals as goal

pub returns : goal.returns
returns g c = lemmas.taking_goes_on g.C.Client.fits g.C.Client.next
