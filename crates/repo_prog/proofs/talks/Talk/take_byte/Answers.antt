use Rattle.std.proofs.Common.{◌++◌, ◌∷◌, [], ℕ, refl, subst}
use Rattle.repo_prog.specs.HexLines.{AreLines}
use Rattle.repo_prog.proofs.LineLemmas.{line_ended}
use Rattle.repo_prog.proofs.TalkLemmas.{ended_goes, byte_taken, memory_told}
use Rattle.repo_prog.proofs.talks.Talk.take_byte.Goals as goal

pub returns-then-byte-eq10-clause-next : goal.returns-then-byte-eq10-clause-next
returns-then-byte-eq10-clause-next g c input ahead unread start lines past r =
    let line = c.args.self.now.line.items in
    let P : ℕ → Type 0 = λ b. AreLines input lines (line ++ b ∷ ahead) in
    let ended = line_ended input lines line ahead r.line (subst P c.if-byte-eq10.true r.are) in
    ended_goes input ahead unread start c.end_line.new.self (lines ++ line ∷ []) c.end_line.result (g.W.Write.contents c.end_line.new.writer) ended c.end_line.ensures.line
    (c.end_line.ensures.next input ahead unread start lines past r.talks ended)

pub returns-in-Ok-clause-next : goal.returns-in-Ok-clause-next
returns-in-Ok-clause-next g c input ahead unread start lines past r =
    (lines, past, byte_taken input ahead start c.args.self.now _ lines past (g.W.Write.contents c.args.writer.now) c.args.byte c.if-byte-eq10.false c.in-Ok.ensures.items refl refl refl r)

pub returns-in-Err-clause-next : goal.returns-in-Err-clause-next
returns-in-Err-clause-next g c input ahead unread start lines past r =
    memory_told input (c.args.self.now.line.items ++ c.args.byte ∷ ahead) unread start c.args.self.now lines past (g.W.Write.contents c.args.writer.now) r.are r.talks
