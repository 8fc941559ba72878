use Rattle.std.proofs.Common.{◌≡◌, ◌∙◌, ◌++◌, ◌∷◌, [], length, sym, ap}
use Rattle.std.proofs.lemmas.Bool.{eqb-true}
use Rattle.std.proofs.lemmas.List.{nil_from_length}
use Rattle.repo_play.proofs.Standing.{ended_empty, ends_so, last_cut}
use Rattle.repo_play.proofs.scripts.Script.finish.Goals as goal

pub returns-then-is_empty-clause-gives : goal.returns-then-is_empty-clause-gives
returns-then-is_empty-clause-gives g c = λ input unread start h.
    let none = nil_from_length c.args.self.now.cutter (ap length (sym c.rest.ensures) ∙ eqb-true (length c.rest.result.now) 0 (sym c.if-is_empty.ensures)) in
    ended_empty input start c.args.self.now (g.W.Write.contents c.args.writer.now) h unread none

pub returns-clause-gives : goal.returns-clause-gives
returns-clause-gives g c = λ input unread start h.
    let bytes = c.as_slice.result.now in
    let same : bytes ≡ c.args.self.now.cutter = c.as_slice.ensures.value ∙ c.in_ok-line.ensures.items ∙ c.rest-2.ensures in
    let cuts = last_cut input start c.args.self.now (g.W.Write.contents c.args.writer.now) h ∙ ap (λ b. h.0.lines ++ b ∷ []) (sym same) in
    ends_so input unread start c.args.self.now c.line.new.self (h.0.lines ++ bytes ∷ []) c.line.result (g.W.Write.contents c.line.new.writer) c.line.ensures.grammar cuts
    (c.line.ensures.gives input start h.0.lines [] h.0.text cuts h.0.ran)
