use Rattle.repo_store.specs.Memory.{store_of}
use Rattle.repo_store.specs.Serving.{seen}
use Rattle.repo_store.specs.Stores.{empty}
use Rattle.repo_prog.proofs.TalkLemmas.{finish_told}
use Rattle.repo_prog.proofs.talks.Talk.finish.Goals as goal

pub returns-clause-ends : goal.returns-clause-ends
returns-clause-ends g c input unread start lines past r =
    let e = c.in_ok-end_last_line.ensures.ends input unread start lines past r in
    let last = store_of c.end_last_line.new.self.shelf in
    let contents = g.W.Write.contents c.end_last_line.new.writer in
    rw c.ok_or.ensures.value (finish_told input unread start e.0 e.1 last contents c.finish.result e.2 e.3.spelled (c.finish.ensures.finishes (seen empty 0 start) (seen last 0 contents) e.1 e.3.rests))
