use Rattle.std.proofs.Common.{rules, ◌≡◌, ◌+◌, ◌++◌, ◌∷◌, [], List, sym, subst}
use Rattle.repo_hall.specs.declared.guests.Guest.{Guest}
use Rattle.repo_hall.proofs.Hosting.{hall_grows, nothing_happens}
use Rattle.repo_hall.proofs.halls.Hall.add_place.Goals as goal

pub returns-clause-stands : goal.returns-clause-stands
returns-clause-stands c =
    let guests = c.args.self.now.guests.items in
    let pushed : c.push.new.self.items ≡ guests ++ c.new.result ∷ [] = search rules in
    let P : List Guest → Type 0 = λ x. nothing_happens guests c.args.self.now.entered x (c.args.self.now.entered + 1) in
    subst P (sym pushed) (hall_grows guests c.args.self.now.entered c.new.result c.new.ensures)

pub returns-clause-ok : goal.returns-clause-ok
returns-clause-ok c =
    let guests = c.args.self.now.guests.items in
    let pushed : c.push.new.self.items ≡ guests ++ c.new.result ∷ [] = search rules in
    (c.new.result, pushed, c.new.ensures)
