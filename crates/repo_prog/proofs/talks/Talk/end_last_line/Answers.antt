use Rattle.std.proofs.Common.{◌≡◌, ◌++◌, ◌∷◌, [], List, ℕ, length, ap, subst, eq-eqb, ◌∙◌}
use Rattle.std.proofs.lemmas.List.{append-nil}
use Rattle.repo_prog.specs.HexLines.{AreLines}
use Rattle.repo_prog.proofs.LineLemmas.{last_line}
use Rattle.repo_prog.proofs.TalkLemmas.{last_goes}
use Rattle.repo_prog.proofs.talks.Talk.end_last_line.Goals as goal

pub returns-clause-ends : goal.returns-clause-ends
returns-clause-ends g c input unread start lines past r =
    let line = c.args.self.now.line.items in
    let P : List ℕ → Type 0 = λ x. AreLines input lines x in
    let some : line ≡ [] → ⊥ = λ none.
    let zero : length c.as_slice.result.now ≡ 0 = ap length (c.as_slice.ensures.value ∙ none) in
    let empty = eq-eqb (length c.as_slice.result.now) 0 zero in
    let is = c.is_empty.ensures in
    let not = c.if-is_empty.false in
    absurd (cc (empty, is, not)) in
    let last = last_line input lines line r.line some (subst P (append-nil line) r.are) in
    last_goes input unread start c.end_line.new.self (lines ++ line ∷ []) c.end_line.result (g.W.Write.contents c.end_line.new.writer) last (c.end_line.ensures.next input [] unread start lines past r.talks last)
