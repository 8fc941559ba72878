use Rattle.std.proofs.Common.{◌≡◌, ◌≤◌, ◌+◌, ◌-◌, ◌∙◌, length, ap, arith}
use Rattle.repo_world.specs.Stages.{seen}
use Rattle.repo_play.proofs.Places.{IsAsked, as_many, last_found, none_first, none_more, none_there}
use Rattle.repo_play.proofs.exchanges.last_request.Goals as goal

pub loop-after-init : goal.loop-after-init
loop-after-init g c = none_first (seen g.S.Shelf.store c.args.world.now).messages c.args.client

pub loop-after-preserved : goal.loop-after-preserved
loop-after-preserved g c =
    let messages = (seen g.S.Shelf.store c.args.world.now).messages in
    let after = c.loop-after.after in
    let place = length c.messages-count.result.now - 1 - after in
    let count : length c.messages-count.result.now ≡ length messages = ap length c.messages-count.ensures ∙ as_many c.args.world.now.flow in
    let less = c.loop-after-test.true in
    let at : place + after + 1 ≡ length messages = omega (arith, count, less) in
    let none : ¬ IsAsked messages c.args.client place = λ asked. (let t = c.is_asked.ensures.1 asked in let f = c.if-is_asked.false in absurd (cc)) in
    none_more messages c.args.client after place at none c.loop-after.invariant

pub returns-then-is_asked : goal.returns-then-is_asked
returns-then-is_asked g c =
    let messages = (seen g.S.Shelf.store c.args.world.now).messages in
    let after = c.loop-after.after in
    let place = length c.messages-count.result.now - 1 - after in
    let count : length c.messages-count.result.now ≡ length messages = ap length c.messages-count.ensures ∙ as_many c.args.world.now.flow in
    let less = c.loop-after-test.true in
    let at : place + after + 1 ≡ length messages = omega (arith, count, less) in
    last_found messages c.args.client after place at (c.is_asked.ensures.0 c.if-is_asked.true) c.loop-after.invariant

pub returns : goal.returns
returns g c =
    let messages = (seen g.S.Shelf.store c.args.world.now).messages in
    let count : length c.messages-count.result.now ≡ length messages = ap length c.messages-count.ensures ∙ as_many c.args.world.now.flow in
    let most = c.loop-after-test.false in
    let all : length messages ≤ c.loop-after.after = omega (arith, count, most) in
    none_there messages c.args.client c.loop-after.after all c.loop-after.invariant
