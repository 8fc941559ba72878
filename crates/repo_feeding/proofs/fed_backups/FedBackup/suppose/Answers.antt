use Rattle.std.proofs.Common.{Some, refl, sym, ap, subst, ◌∙◌}
use Rattle.repo_session.specs.Askers.{Holding}
use Rattle.repo_backup.proofs.Closing.{none_there}
use Rattle.repo_feeding.specs.FedStates.{feeder_of, FitsFed, StandsFed, ended_of, token_of}
use Rattle.repo_feeding.proofs.Feeding.{ahead_on, fits_still, token_put}
use Rattle.repo_feeding.proofs.fed_backups.FedBackup.suppose.Goals as goal

pub returns-clause-fits : goal.returns-clause-fits
returns-clause-fits g c = λ es stands. (
    let old = c.args.self.now in
    let f = feeder_of g.S.Source.told g.S.Source.name g.S.Source.failed g.S.Source.rewinds old in
    let fits : FitsFed f es = subst (λ a. StandsFed f a es) c.requires stands in
    let letter = c.in-Some.letter in
    ahead_on f c.suppose.new.self (feeder_of g.S.Source.told g.S.Source.name g.S.Source.failed g.S.Source.rewinds (record old { backup = c.suppose.new.self; awaited = Some letter })) letter es (sym c.if-is_some.ensures) c.in-Some.ensures.supposed fits (λ hs fs upto. (fs, upto)) refl refl)

pub returns-in_default-clause-fits : goal.returns-in_default-clause-fits
returns-in_default-clause-fits g c = λ es stands. (
    let old = c.args.self.now in
    let f = feeder_of g.S.Source.told g.S.Source.name g.S.Source.failed g.S.Source.rewinds old in
    let now = feeder_of g.S.Source.told g.S.Source.name g.S.Source.failed g.S.Source.rewinds (record old { backup = c.suppose.new.self }) in
    let e = c.in_default.ensures in
    subst (λ a. StandsFed now a es) (sym c.requires) (fits_still f c.suppose.new.self es e.fits e.next e.ended (subst (λ a. StandsFed f a es) c.requires stands)))
