use Rattle.std.proofs.Common.{◌++◌, ◌∷◌, [], ap, sym, length-append, arith, rules, ◌∙◌}
use Rattle.std.proofs.lemmas.Result.{err_from_is_err_and}
use Rattle.hex.specs.Hex.{decode_of}
use Rattle.repo_wire.specs.Reading.{fed}
use Rattle.repo_store.specs.Memory.{store_of}
use Rattle.repo_store.specs.Services.{with_bytes}
use Rattle.repo_store.specs.Serving.{seen}
use Rattle.repo_store.specs.Stores.{empty}
use Rattle.repo_store.proofs.ServiceLemmas.{fed_has}
use Rattle.repo_prog.specs.HexLines.{hex_line}
use Rattle.repo_prog.proofs.LineLemmas.{lines_before, spell_more}
use Rattle.repo_prog.proofs.TalkLemmas.{all_told, memory_told, ended_told, line_answered}
use Rattle.repo_prog.proofs.talks.Talk.end_line.Goals as goal

pub returns-in-Err-OutOfMemory-clause-next : goal.returns-in-Err-OutOfMemory-clause-next
returns-in-Err-OutOfMemory-clause-next g c input ahead unread start lines past talks are =
    let before = lines_before input lines c.args.self.now.line.items ahead are in
    memory_told input before.0 unread start c.args.self.now lines past (g.W.Write.contents c.args.writer.now) before.1 talks

pub returns-in-Err-clause-next : goal.returns-in-Err-clause-next
returns-in-Err-clause-next g c input ahead unread start lines past talks are =
    (lines, past, c.args.self.now.line.items, ahead, c.args.self.now.service.reader.unread, are, search rules, omega (arith, talks.number), all_told start c.args.self.now lines past (g.W.Write.contents c.args.writer.now) talks)

pub returns-in_err-feed-clause-next : goal.returns-in_err-feed-clause-next
returns-in_err-feed-clause-next g c input ahead unread start lines past talks are =
    let before = lines_before input lines c.args.self.now.line.items ahead are in
    let p = err_from_is_err_and c.from_residual.result c.from_residual.ensures.1 in
    rw (p.1, p.2) (memory_told input before.0 unread start c.args.self.now lines past (g.W.Write.contents c.args.writer.now) before.1 talks)

pub returns-in_err-answer_all-clause-next : goal.returns-in_err-answer_all-clause-next
returns-in_err-answer_all-clause-next g c input ahead unread start lines past talks are =
    let line = c.args.self.now.line.items in
    let bytes = c.in-Ok.bytes.items in
    let before = seen empty 0 start in
    let now = seen (store_of c.args.self.now.shelf) 0 (g.W.Write.contents c.args.writer.now) in
    let p = err_from_is_err_and c.from_residual-in_err-answer_all.result c.from_residual-in_err-answer_all.ensures.1 in
    let spelled = spell_more lines past.bytes line bytes talks.spelled (ap decode_of (sym c.as_slice.ensures.value) ∙ c.in-Ok.ensures.ok) in
    let reader = c.in_ok-feed.ensures.ok ∙ ap (λ bytes. fed c.args.self.now.service.reader bytes) c.deref.ensures.value in
    let has = fed_has hex_line before c.args.self.now.service c.feed.new.self past now bytes talks.rests.has reader c.feed.ensures.answered in
    rw (p.1, p.2) (ended_told c.in_err-answer_all.field-0.0 input ahead unread start (lines ++ line ∷ []) (past.bytes ++ bytes) (store_of c.answer_all.new.shelf)
    (g.W.Write.contents c.answer_all.new.writer) are spelled (c.in_err-answer_all.ensures.all tt before (with_bytes past bytes) has))

pub returns-clause-next : goal.returns-clause-next
returns-clause-next g c input ahead unread start lines past talks are =
    let line = c.args.self.now.line.items in
    let bytes = c.in-Ok.bytes.items in
    let before = seen empty 0 start in
    let now = seen (store_of c.args.self.now.shelf) 0 (g.W.Write.contents c.args.writer.now) in
    let spelled = spell_more lines past.bytes line bytes talks.spelled (ap decode_of (sym c.as_slice.ensures.value) ∙ c.in-Ok.ensures.ok) in
    let reader = c.in_ok-feed.ensures.ok ∙ ap (λ bytes. fed c.args.self.now.service.reader bytes) c.deref.ensures.value in
    let has = fed_has hex_line before c.args.self.now.service c.feed.new.self past now bytes talks.rests.has reader c.feed.ensures.answered in
    line_answered start _ (lines ++ line ∷ []) (past.bytes ++ bytes) (g.W.Write.contents c.answer_all.new.writer) spelled (omega (arith, talks.number, length-append lines (line ∷ [])))
    (c.in_ok-answer_all.ensures.all tt before (with_bytes past bytes) has)
