use Rattle.std.proofs.Common.{true, [], ◌∷◌, refl, subst, ◌∙◌}
use Rattle.repo_wire.specs.declared.messages.Ask.{Ask}
use Rattle.repo_session.proofs.Heeding.{page_follows}
use Rattle.repo_session.specs.Order.{last_of}
use Rattle.repo_session.specs.Rolls.{IsPaged}
use Rattle.repo_session.specs.Traces.{silent}
use Rattle.repo_session.specs.Versions.{upto}
use Rattle.repo_check.specs.Rounds.{round_of}
use Rattle.repo_check.specs.declared.rounds.Round.{Round}
use Rattle.repo_check.proofs.Heeding.{follow_heeds, page_heeds}
use Rattle.repo_check.proofs.Rounding.{listing_rolls, next_on, page_steps}
use Rattle.repo_check.proofs.rounds.Round.take_page.Goals as goal

pub returns-in-All-clause-pages : goal.returns-in-All-clause-pages
returns-in-All-clause-pages g c = λ task token k after es w may listing.
    let old = c.args.self.now in
    let new : Round g.row.T.Denot = record { roll = c.add_page.new.self; notes = old.notes } in
    let e = silent (Ask.List k after) c.args.say.now in
    let last = (rw c.in-All.is at c.in_ok-add_page.ensures.pages) (upto task.versions) task token k after [] es w may (listing_rolls k old after es listing) in
    let kind = c.add_page.ensures.kind ∙ listing.of_kind in
    next_on task token k (round_of new) c.next.result e es w kind (subst (λ j. IsPaged j new.roll.names.items true (e ∷ es)) kind last.1.1.paged) c.next.ensures.next

pub returns-in-Step-clause-pages : goal.returns-in-Step-clause-pages
returns-in-Step-clause-pages g c = λ task token k after es w may listing.
    let old = c.args.self.now in
    let new : Round g.row.T.Denot = record { roll = c.add_page.new.self; notes = old.notes } in
    let pages = (rw c.in-Step.is at c.in_ok-add_page.ensures.pages) (upto task.versions) task token k after [] es w may (listing_rolls k old after es listing) in
    page_steps task k old new after c.args.say.now es c.in-Step.step c.add_page.ensures.kind c.add_page.ensures.read refl (rw c.in-Step.is at c.in_ok-add_page.ensures.takes) may listing pages

pub returns-in-All-clause-heeds : goal.returns-in-All-clause-heeds
returns-in-All-clause-heeds g c = λ known kind after behind.
    let page = rw c.in-All.is at c.in_ok-add_page.ensures.takes in
    follow_heeds known (Ask.List kind after) c.args.say.now c.next.result (page_follows known true kind after (last_of c.args.self.now.roll.names.items) c.args.say.now [] page.1 behind page.2)

pub returns-in-Step-clause-heeds : goal.returns-in-Step-clause-heeds
returns-in-Step-clause-heeds g c = λ known kind after behind.
    page_heeds known kind after c.args.self.now.roll c.add_page.new.self c.args.say.now c.in-Step.step behind (rw c.in-Step.is at c.in_ok-add_page.ensures.takes)
