use Rattle.std.proofs.Common.{◌+◌, [], sym, subst, take}
use Rattle.repo_name.specs.declared.names.Name.{Name}
use Rattle.repo_check.specs.Rounds.{Match}
use Rattle.repo_check.specs.Walks.{ContentFault, known_of}
use Rattle.repo_check.proofs.Matching.{match_all, match_next}
use Rattle.repo_check.proofs.verdicts.content_found.Goals as goal

pub loop-name-preserved : goal.loop-name-preserved
loop-name-preserved c =
    let facts = (known_of c.args.known.now).facts in
    let none : Name = record { 0 = [] } in
    subst (λ found. Match (ContentFault facts) (take (c.loop-name.name-index + 1) c.args.names.now) found) (sym c.in_ok-push.ensures.items)
    (match_next (ContentFault facts) c.args.names.now c.loop-name.name-index none c.loop-name.found.items c.content_fault.result c.loop-name-test.true c.loop-name.invariant c.content_fault.ensures)

pub returns : goal.returns
returns c = match_all (ContentFault (known_of c.args.known.now).facts) c.args.names.now c.loop-name.name-index c.loop-name.found.items c.loop-name-test.false c.loop-name.invariant
