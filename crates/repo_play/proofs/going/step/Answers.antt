use Rattle.std.proofs.Common.{rules, ◌≡◌, ◌∙◌, ◌∷◌, [], None, inl, inr, length, refl, sym, ap, subst, option_map}
use Rattle.repo_world.specs.Stages.{seen}
use Rattle.repo_world.specs.World.{awaited, client}
use Rattle.repo_play.proofs.Growing.{last_there}
use Rattle.repo_play.proofs.Stepping.{stepped}
use Rattle.repo_play.proofs.going.step.Goals as goal

pub returns-then-is_none-clause-steps : goal.returns-then-is_none-clause-steps
returns-then-is_none-clause-steps g c =
    let w = seen g.S.Shelf.store c.args.world.now in
    let nothing : c.pending.result ≡ None = search rules in
    let none : awaited (client w c.args.client) ≡ None = sym c.pending.ensures ∙ ap (option_map (λ r. r.now)) nothing in
    (last_there w.messages c.args.client c.in-Some.place c.in-Some.ensures, inr (none, refl))

pub returns-clause-steps : goal.returns-clause-steps
returns-clause-steps g c =
    let w = seen g.S.Shelf.store c.args.world.now in
    let v = seen g.S.Shelf.store c.exchange.new.world in
    stepped c.exchange.result c.args.fail w c.args.client v c.in-Some.place c.delivery.result c.pending.result c.in-Some.ensures c.pending.ensures c.if-is_none.ensures c.delivery.ensures c.exchange.ensures.happen
