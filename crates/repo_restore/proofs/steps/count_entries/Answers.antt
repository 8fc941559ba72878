use Rattle.std.proofs.Common.{arith, ◌≡◌, ◌+◌, length, take}
use Rattle.repo_session.specs.Rebuilding.{rebuilt}
use Rattle.repo_restore.specs.Restoring.{counted}
use Rattle.repo_restore.proofs.Rebuilds.{count_more}
use Rattle.repo_restore.proofs.steps.count_entries.Goals as goal

pub loop-emission-preserved : goal.loop-emission-preserved
loop-emission-preserved c =
    let emitted = c.args.emitted.now in
    let i = c.loop-emission.emission-index in
    let before : c.loop-emission.count ≡ counted (length (rebuilt (take i emitted))) = c.loop-emission.invariant in
    let more = count_more emitted i c.emission-item.result c.loop-emission-test.true c.emission-item.is in
    let all : c.saturating_add-count.result ≡ counted (length (rebuilt (take (i + 1) emitted))) = omega (arith, before, more, c.saturating_add-count.ensures, c.entries_of.ensures) in
    all
