use Rattle.std.proofs.Common.{rules, ◌≡◌, ◌≤◌, ◌+◌, ◌++◌, ◌∷◌, [], OnOk, refl, sym, subst}
use Rattle.std.specs.Prelude.{vec_len, vec_capacity}
use Rattle.repo_backup.specs.Pieces.{AreOuterAt}
use Rattle.repo_backup.specs.declared.pieces.Outer.{Outer}
use Rattle.repo_backup.proofs.Closing.{outer_again}
use Rattle.repo_backup.proofs.PackingLemmas.{on_ok}
use Rattle.repo_backup.proofs.pieces.PieceWalk.make_room_around.Goals as goal

pub returns-clause-room : goal.returns-clause-room
returns-clause-room c =
    let again : Outer = record { nodes = c.reserve-room.new.self; name = c.in-Some.outer.name } in
    let pushed : c.push.new.self.items ≡ c.pop.new.self.items ++ again ∷ [] = search rules in
    let room : OnOk c.reserve-room.result (vec_len c.reserve-room.new.self + 1 ≤ vec_capacity c.reserve-room.new.self) = search rules in
    on_ok c.reserve-room.result _ _ (λ r. (c.pop.new.self.items, again, pushed, r)) room

pub returns-clause-above : goal.returns-clause-above
returns-clause-above c = λ version above h.
    let outer = c.in-Some.outer in
    let again : Outer = record { nodes = c.reserve-room.new.self; name = outer.name } in
    let pushed : c.push.new.self.items ≡ c.pop.new.self.items ++ again ∷ [] = search rules in
    subst (λ l. AreOuterAt version l above) (sym pushed) (outer_again version c.pop.new.self.items outer again above refl c.reserve-room.ensures.items (subst (λ l. AreOuterAt version l above) c.in-Some.ensures.items h))
