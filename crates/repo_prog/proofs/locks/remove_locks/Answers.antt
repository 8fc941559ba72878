use Rattle.std.proofs.Common.{get_or, arith, ◌∙◌, subst}
use Rattle.repo_prog.specs.Asking.{streams}
use Rattle.repo_prog.proofs.AskLemmas.{Removal, removed_next, stopped_at}
use Rattle.repo_prog.proofs.locks.remove_locks.Goals as goal

pub loop-token-preserved : goal.loop-token-preserved
loop-token-preserved g c =
    let i = c.loop-token.invariant in
    let caller = c.args.caller.now in
    let start = streams (g.E.KnownChannel.ends c.args.channel.now) (g.O.Write.contents c.args.console.now.output) in
    let before = streams (g.E.KnownChannel.ends c.loop-token.channel) (g.O.Write.contents c.loop-token.console.output) in
    let after = streams (g.E.KnownChannel.ends c.remove_lock.new.channel) (g.O.Write.contents c.remove_lock.new.console.output) in
    record {
      sequence = omega (arith, i.sequence);
      removed = removed_next caller c.args.tokens.now c.loop-token.token-index c.loop-token.sequence (record { 0 = 0 }) start before after c.loop-token-test.true i.sequence i.removed
          (subst (λ s. Removal caller c.loop-token.sequence (get_or c.args.tokens.now c.loop-token.token-index (record { 0 = 0 })) before s after) c.in-Done.is c.remove_lock.ensures.asked);
      silent = c.remove_lock.ensures.silent c.in-Done.is ∙ i.silent;
    }

pub returns-in_default-clause-removes : goal.returns-in_default-clause-removes
returns-in_default-clause-removes g c =
    let i = c.loop-token.invariant in
    let start = streams (g.E.KnownChannel.ends c.args.channel.now) (g.O.Write.contents c.args.console.now.output) in
    let before = streams (g.E.KnownChannel.ends c.loop-token.channel) (g.O.Write.contents c.loop-token.console.output) in
    let after = streams (g.E.KnownChannel.ends c.remove_lock.new.channel) (g.O.Write.contents c.remove_lock.new.console.output) in
    stopped_at c.args.caller.now c.args.tokens.now c.loop-token.token-index c.loop-token.sequence (record { 0 = 0 }) c.remove_lock.result start before after
    c.loop-token-test.true i.sequence i.removed c.remove_lock.ensures.asked c.remove_lock.ensures.status c.in_default.not-Done
