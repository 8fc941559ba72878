use Rattle.std.proofs.Common.{rules}
use Rattle.repo_prog.proofs.TalkLemmas.{all_told}
use Rattle.repo_prog.proofs.frames_engine.read_piece.Goals as goal

pub returns-in-Err-clause-next : goal.returns-in-Err-clause-next
returns-in-Err-clause-next g c input ahead start lines past same r =
    (lines, past, c.args.talk.now.line.items, ahead, c.args.talk.now.service.reader.unread, r.are, r.line, search rules, all_told start c.args.talk.now lines past (g.W.Write.contents c.args.writer.now) r.talks)
