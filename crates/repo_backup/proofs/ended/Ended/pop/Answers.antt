use Rattle.std.proofs.Common.{rules, ◌≡◌, ◌-◌, ◌++◌, ◌∷◌, [], length, take, sym, ap, subst, ◌∙◌}
use Rattle.repo_sha.specs.Pieces.{pieces}
use Rattle.repo_backup.specs.inner.Ends.{AreEnded}
use Rattle.repo_backup.proofs.Ending.{but_last, ended_pop, pieces_pop}
use Rattle.repo_backup.proofs.ended.Ended.pop.Goals as goal

pub invariant_of-self-2 : goal.invariant_of-self-2
invariant_of-self-2 c =
    let bytes = c.self.inside.bytes.items in
    let ns = c.pop.new.self.items in
    let n = c.in-Some.length in
    let split : c.self.inside.lengths.items ≡ ns ++ n ∷ [] = search rules in
    let short : c.truncate.new.self.items ≡ take (length bytes - n) bytes = search rules in
    subst (λ b. AreEnded b ns) (sym short) (ended_pop bytes ns n (subst (AreEnded bytes) split c.self.invariant))

pub returns : goal.returns
returns c =
    let bytes = c.self.inside.bytes.items in
    let ns = c.pop.new.self.items in
    let n = c.in-Some.length in
    let split : c.self.inside.lengths.items ≡ ns ++ n ∷ [] = search rules in
    let short : c.truncate.new.self.items ≡ take (length bytes - n) bytes = search rules in
    let k = pieces_pop bytes ns n (subst (AreEnded bytes) split c.self.invariant) in
    let front = pieces (take (length bytes - n) bytes) ns in
    let was : c.args.self.now ≡ front ++ k.0 ∷ [] = sym c.self.view_is ∙ ap (pieces bytes) split ∙ k.1 in
    ap (λ b. pieces b ns) short ∙ sym (but_last front k.0) ∙ ap (λ l. take (length l - 1) l) (sym was)
