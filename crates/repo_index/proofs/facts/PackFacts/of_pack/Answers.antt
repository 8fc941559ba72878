use Rattle.std.proofs.Common.{rules, ◌≡◌, ◌<◌, length, arith}
use Rattle.repo_index.proofs.ViewLemmas.{offset_fits, first_none, first_more, first_all}
use Rattle.repo_index.proofs.facts.PackFacts.of_pack.Goals as goal

pub loop-place-init : goal.loop-place-init
loop-place-init c = first_none c.args.pack.now c.args.view.now c.in_ok-facts.facts.items c.in_ok-facts.ensures.items

pub overflow_cast-offset : goal.overflow_cast-offset
overflow_cast-offset c =
    let within : c.loop-place.place < length c.args.view.now = omega (arith, c.loop-place-test.true, c.len-place-end.ensures) in
    let small = offset_fits c.args.view.now c.loop-place.place c.entry-entry.result within c.entry-entry.ensures c.requires in
    search (small, rules)

pub loop-place-preserved : goal.loop-place-preserved
loop-place-preserved c =
    let entry = c.entry-entry.result in
    let within : c.loop-place.place < length c.args.view.now = omega (arith, c.loop-place-test.true, c.len-place-end.ensures) in
    first_more c.args.pack.now c.args.view.now c.loop-place.facts.items c.push.new.self.items c.loop-place.place entry c.loop-place.invariant within
    c.entry-entry.ensures (search rules)

pub returns-clause-facts : goal.returns-clause-facts
returns-clause-facts c =
    let all : c.loop-place.place ≡ length c.args.view.now = omega (arith, c.loop-place-test.false, c.loop-place.auto.place-end, c.len-place-end.ensures) in
    rw c.of-facts.ensures (first_all c.args.pack.now c.args.view.now c.loop-place.facts.items c.loop-place.place c.loop-place.invariant all)
