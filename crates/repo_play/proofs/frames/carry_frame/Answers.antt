use Rattle.repo_play.proofs.Hearing.{then_carried}
use Rattle.repo_play.proofs.frames.carry_frame.Goals as goal

pub returns-clause-carried : goal.returns-clause-carried
returns-clause-carried g c =
    then_carried c.hear.result c.args.frame.now (g.R.Read.remaining c.args.reader.now) (g.R.Read.remaining c.hear.new.reader) (g.W.Write.contents c.args.writer.now) (g.W.Write.contents c.write_whole.new.writer)
    c.if-frame-gt-FRAME_LIMIT.false c.in_ok-write_whole.ensures.ok c.hear.ensures.heard
