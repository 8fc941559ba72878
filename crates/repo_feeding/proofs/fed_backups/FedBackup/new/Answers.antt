use Rattle.std.proofs.Common.{[], false, sym, subst}
use Rattle.repo_backup.specs.Items.{Place}
use Rattle.repo_feeding.specs.FedStates.{FitsFed}
use Rattle.repo_feeding.proofs.Feeding.{standing, fits_first}
use Rattle.repo_feeding.proofs.Places.{told_none}
use Rattle.repo_feeding.specs.Sources.{IsSound}
use Rattle.repo_feeding.proofs.fed_backups.FedBackup.new.Goals as goal

pub returns-clause-fits : goal.returns-clause-fits
returns-clause-fits g c = λ fresh. (
    let told = g.S.Source.told c.args.source in
    let cause : Place → Type 0 = λ p. IsSound (g.S.Source.failed c.args.source) in
    let empty = subst (λ rest. FitsFed (standing c.new-2.result told rest false cause) []) (sym c.in_ok-room.ensures) (fits_first c.new-2.result told cause c.new-2.ensures.fits fresh.0 (λ p. fresh.1)) in
    subst (λ o. FitsFed (standing c.new-2.result o c.in_ok-room.room false cause) []) (sym (told_none told)) empty)
