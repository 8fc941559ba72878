use Rattle.repo_store.proofs.Outputs.{written_more, take-rest}
use Rattle.repo_store.proofs.output.write_whole.Goals as goal

pub loop-done-preserved : goal.loop-done-preserved
loop-done-preserved g c =
    written_more (g.W.Write.contents c.args.writer.now) (g.W.Write.contents c.loop-done.writer) (g.W.Write.contents c.write_some.new.writer) c.args.bytes.now c.loop-done.done c.in-Ok.n _
    (take-rest c.loop-done.done c.args.bytes.now) c.loop-done.invariant.0 c.in-Ok.ensures.bound c.loop-done.invariant.1 c.in-Ok.ensures.ok
