use Rattle.std.proofs.Common.{sym, subst}
use Rattle.repo_hall.specs.declared.guests.Guest.{Guest}
use Rattle.repo_hall.specs.Guests.{IsNewGuest}
use Rattle.repo_hall.proofs.Hosting.{hall_renews, get_own, set_others}
use Rattle.repo_hall.proofs.halls.Hall.renew.Goals as goal

pub returns-clause-stands : goal.returns-clause-stands
returns-clause-stands c = hall_renews c.args.self.now.guests.items c.args.self.now.entered c.args.place c.new.result c.new.ensures

pub returns-clause-ok : goal.returns-clause-ok
returns-clause-ok c h found =
    let P : Guest → Type 0 = λ x. IsNewGuest x c.args.self.now.entered in
    subst P (sym (get_own c.args.self.now.guests.items c.args.place c.new.result h found)) c.new.ensures

pub returns-clause-others : goal.returns-clause-others
returns-clause-others c = set_others c.args.self.now.guests.items c.args.place c.new.result
