use Rattle.std.proofs.Common.{rules, ◌≡◌, ◌++◌, ◌∷◌, [], List, ℕ, length, sym, ap, subst, ◌∙◌}
use Rattle.repo_sha.specs.Pieces.{pieces}
use Rattle.repo_backup.specs.inner.Ends.{AreEnded}
use Rattle.repo_backup.proofs.Ending.{ended_push, pieces_push}
use Rattle.repo_backup.proofs.ended.Ended.push.Goals as goal

pub invariant_of-self-2 : goal.invariant_of-self-2
invariant_of-self-2 c =
    let bytes = c.self.inside.bytes.items in
    let ns = c.self.inside.lengths.items in
    let chunk : List ℕ = c.args.chunk.now in
    let more : c.extend_from_slice.new.self.items ≡ bytes ++ chunk = search rules in
    let one : c.push.new.self.items ≡ ns ++ length chunk ∷ [] = search rules in
    subst (λ b. AreEnded b c.push.new.self.items) (sym more) (subst (λ l. AreEnded (bytes ++ chunk) l) (sym one) (ended_push bytes ns chunk c.self.invariant c.requires.0 c.requires.1))

pub returns-clause-ok : goal.returns-clause-ok
returns-clause-ok c =
    let bytes = c.self.inside.bytes.items in
    let ns = c.self.inside.lengths.items in
    let chunk : List ℕ = c.args.chunk.now in
    let more : c.extend_from_slice.new.self.items ≡ bytes ++ chunk = search rules in
    let one : c.push.new.self.items ≡ ns ++ length chunk ∷ [] = search rules in
    (λ i. pieces (more i) (one i)) ∙ pieces_push bytes ns chunk c.self.invariant ∙ ap (λ l. l ++ chunk ∷ []) c.self.view_is
