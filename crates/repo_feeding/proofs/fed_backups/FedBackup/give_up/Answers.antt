use Rattle.repo_feeding.specs.FedStates.{feeder_of}
use Rattle.repo_feeding.specs.Reasons.{IsReason}
use Rattle.repo_feeding.specs.Sources.{whole_of}
use Rattle.repo_feeding.proofs.Feeding.{fed_up}
use Rattle.repo_feeding.proofs.fed_backups.FedBackup.give_up.Goals as goal

pub returns-in-Ok-clause-up : goal.returns-in-Ok-clause-up
returns-in-Ok-clause-up g c = λ es fs fed caused. (
    let old = c.args.self.now in
    let f = feeder_of g.S.Source.told g.S.Source.name g.S.Source.failed g.S.Source.rewinds old in
    fed_up f c.feed.new.self es fs c.requires fed (λ p. IsReason (g.S.Source.failed old.source) g.S.Source.rewinds (whole_of f.told) p c.args.reason) caused (c.in-Ok.ensures.took.2 fs fed.at))
