use Rattle.std.proofs.Common.{rules, arith, ◌≡◌, ◌≢◌, ◌⊎◌, ◌≤◌, [], length, None, subst, inl, inr}
use Rattle.repo_session.specs.Feeds.{fed_end}
use Rattle.repo_backup.specs.Pieces.{TakesItem, LeavesPacked, sealing_in, closing_in}
use Rattle.repo_backup.proofs.PieceTaking.{memory_told}
use Rattle.repo_backup.proofs.Closing.{at_top, no_end, no_length, none_there, some_here}
use Rattle.repo_backup.proofs.piece_works.PieceWork.feed_end.Goals.{then-is_some-via-then-is_some, then-is_some-via-else-is_some+then-not-is_empty}
use Rattle.repo_backup.proofs.piece_works.PieceWork.feed_end.Goals as goal

pub returns-then-is_some-clause-refused : goal.returns-then-is_some-clause-refused
returns-then-is_some-clause-refused c = λ known st sent h top.
    let w = c.args.self.now in
    let why : (w.walk.file ≢ None) ⊎ (1 ≤ length w.walk.above.items) = elim c.then-is_some.branch [
      | then-is_some-via-then-is_some b ↦ inl (some_here w.walk.file (search rules))
      | then-is_some-via-else-is_some+then-not-is_empty b ↦ inr (search (rules, arith))
    ] in
    no_end w known st sent why h top

pub close-requires-clause-file : goal.close-requires-clause-file
close-requires-clause-file c = none_there c.args.self.now.walk.file (search rules)

pub returns-clause-ok : goal.returns-clause-ok
returns-clause-ok c =
    let w = c.args.self.now in
    let top : w.walk.above.items ≡ [] = no_length w.walk.above.items (search (rules, arith)) in
    subst (λ os. TakesItem c.args.lookup.now (sealing_in os) (closing_in os) w c.in_ok-close.field-0 c.close.new.self) top c.in_ok-close.ensures.ok

pub returns-clause-packed : goal.returns-clause-packed
returns-clause-packed c =
    let w = c.args.self.now in
    let top : w.walk.above.items ≡ [] = no_length w.walk.above.items (search (rules, arith)) in
    subst (λ os. LeavesPacked (sealing_in os) c.in_ok-close.field-0 c.close.new.self) top c.in_ok-close.ensures.packed

pub returns-clause-back : goal.returns-clause-back
returns-clause-back c =
    let top : c.args.self.now.walk.above.items ≡ [] = no_length c.args.self.now.walk.above.items (search (rules, arith)) in
    c.in_ok-close.ensures.back top

pub returns-in_err-close-clause-refused : goal.returns-in_err-close-clause-refused
returns-in_err-close-clause-refused c =
    let w = c.args.self.now in
    let none : w.walk.file ≡ None = none_there w.walk.file (search rules) in
    let top : w.walk.above.items ≡ [] = no_length w.walk.above.items (search (rules, arith)) in
    memory_told c.from_residual.result w fed_end c.from_residual.ensures.1 (λ known st sent h. at_top w known st sent none top h)
