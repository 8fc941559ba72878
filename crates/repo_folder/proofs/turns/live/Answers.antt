use Rattle.std.proofs.Common.{rules, ◌≡◌, ◌++◌, ◌∷◌, ◌+◌, [], List, Result, sym, subst, take}
use Rattle.repo_store.specs.declared.shelves.ShelfError.{ShelfError}
use Rattle.repo_folder.specs.Lives.{at, Turns, Lives}
use Rattle.repo_folder.proofs.LifeLemmas.{lives_more}
use Rattle.repo_folder.proofs.turns.live.Goals as goal

pub loop-turn-preserved : goal.loop-turn-preserved
loop-turn-preserved g c =
    let inv = c.loop-turn.invariant in
    let i = c.loop-turn.turn-index in
    let turns = c.args.turns.now in
    let old = at (g.D.Disk.state c.args.shelf.folder.disk) c.args.shelf.folder.standing c.args.shelf.folder.has_failed in
    let mid = at (g.D.Disk.state c.loop-turn.shelf.folder.disk) c.loop-turn.shelf.folder.standing c.loop-turn.shelf.folder.has_failed in
    let new = at (g.D.Disk.state c.take_turn-next.result.0.folder.disk) c.take_turn-next.result.0.folder.standing c.take_turn-next.result.0.folder.has_failed in
    let told = c.loop-turn.told.items in
    let tells = c.take_turn-next.result.1 in
    let added : c.push.new.self.items ≡ told ++ tells ∷ [] = search rules in
    record {
      honest = λ h had. (let is = inv.honest h had in c.take_turn-next.ensures.honest is.0 is.1);
      lives = λ h had.
          let is = inv.honest h had in
          let step = subst (λ turn. Turns mid turn tells new) c.turn-item.is (c.take_turn-next.ensures.law is.0 is.1) in
          let P : List (Result (Unit {0}) ShelfError) → Type 0 = λ tells. Lives old (take (i + 1) turns) tells new in
          subst P (sym added) (lives_more old mid new turns i _ told tells c.loop-turn-test.true (inv.lives h had) step);
    }
