use Rattle.std.proofs.Common.{◌≡◌, ◌∙◌, ◌+◌, drop, get_or, sym, subst}
use Rattle.std.proofs.lemmas.List.{drop_all, drop_more}
use Rattle.repo_world.specs.Stages.{seen}
use Rattle.repo_play.proofs.Reported.{AreStoredSoFar, all_so_far, none_so_far, one_missing, one_more}
use Rattle.repo_play.proofs.starting.all_stored.Goals as goal

pub loop-client-init : goal.loop-client-init
loop-client-init g c =
    let w = seen g.S.Shelf.store c.args.world.now in
    subst (λ names. AreStoredSoFar w c.args.clients.now names c.args.clients.now) (sym c.new-names.ensures.items) (none_so_far w c.args.clients.now)

pub loop-client-preserved : goal.loop-client-preserved
loop-client-preserved g c =
    let w = seen g.S.Shelf.store c.args.world.now in
    let clients = c.args.clients.now in
    let i = c.loop-client.client-index in
    let here = subst (λ left. AreStoredSoFar w clients c.loop-client.names.items left) (drop_more clients i 0 c.loop-client-test.true) c.loop-client.invariant in
    let more = one_more w clients c.loop-client.names.items (get_or clients i 0) (drop (i + 1) clients) c.in-Some.name here (sym c.stored_by.ensures ∙ c.in-Some.is) in
    subst (λ names. AreStoredSoFar w clients names (drop (i + 1) clients)) (sym c.in_ok-push.ensures.items) more

pub returns-in_default-clause-nonsense : goal.returns-in_default-clause-nonsense
returns-in_default-clause-nonsense g c = λ e.
    let w = seen g.S.Shelf.store c.args.world.now in
    let clients = c.args.clients.now in
    let i = c.loop-client.client-index in
    let here = subst (λ left. AreStoredSoFar w clients c.loop-client.names.items left) (drop_more clients i 0 c.loop-client-test.true) c.loop-client.invariant in
    one_missing w clients c.loop-client.names.items (get_or clients i 0) (drop (i + 1) clients) here (sym c.stored_by.ensures ∙ c.in_default.is)

pub returns-clause-stored : goal.returns-clause-stored
returns-clause-stored g c =
    let w = seen g.S.Shelf.store c.args.world.now in
    let clients = c.args.clients.now in
    all_so_far w clients c.loop-client.names.items (subst (λ left. AreStoredSoFar w clients c.loop-client.names.items left) (drop_all c.loop-client.client-index clients c.loop-client-test.false) c.loop-client.invariant)
