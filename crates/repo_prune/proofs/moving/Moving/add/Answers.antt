use Rattle.std.proofs.Common.{arith, ◌≡◌, ◌+◌, ℕ, refl, ap, ◌∙◌}
use Rattle.std.proofs.lemmas.Option.{slice_get_within}
use Rattle.repo_prune.proofs.Repacking.{added_moving}
use Rattle.repo_prune.proofs.moving.Moving.add.Goals as goal

pub returns-clause-ok : goal.returns-clause-ok
returns-clause-ok c = λ sent sealed a first.
    let few = slice_get_within c.args.self.now.moves.items c.args.self.now.asked c.args.fact a.asked in
    let more = c.saturating_add-self.ensures in
    let small = c.args.self.now.moves.small in
    let next : c.saturating_add-self.result ≡ c.args.self.now.added + 1 = omega (arith, few, first, more, small) in
    record {
      moving = added_moving c.args.self.now _ c.args.fact c.args.bytes.now sent sealed a first c.requires.named c.in_ok-add.ensures.ok c.in_ok-add.ensures.sealed next refl refl c.in_ok-add.ensures.target;
      listed = refl;
      moves = refl;
      added = next ∙ ap (λ (i : ℕ). i + 1) first;
      asked = refl;
    }
