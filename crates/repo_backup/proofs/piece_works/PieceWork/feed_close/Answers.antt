use Rattle.std.proofs.Common.{rules, arith, ◌≡◌, ◌≤◌, [], length, None, inl, inr}
use Rattle.repo_session.specs.Feeds.{fed_close}
use Rattle.repo_backup.proofs.PieceTaking.{memory_told}
use Rattle.repo_backup.proofs.Closing.{at_top, may_close, no_length, none_there, some_here}
use Rattle.repo_backup.proofs.piece_works.PieceWork.feed_close.Goals as goal

pub returns-then-is_empty-clause-refused : goal.returns-then-is_empty-clause-refused
returns-then-is_empty-clause-refused c = λ known st sent h.
    let w = c.args.self.now in
    let none : w.walk.file ≡ None = none_there w.walk.file (search rules) in
    let top : w.walk.above.items ≡ [] = no_length w.walk.above.items (search (rules, arith)) in
    at_top w known st sent none top h

pub returns-in_err-close_file-clause-refused : goal.returns-in_err-close_file-clause-refused
returns-in_err-close_file-clause-refused c =
    let w = c.args.self.now in
    memory_told c.from_residual.result w fed_close c.from_residual.ensures.1 (λ known st sent h. may_close w known st sent (inl (some_here w.walk.file (search rules))) h)

pub returns-in_err-close-clause-refused : goal.returns-in_err-close-clause-refused
returns-in_err-close-clause-refused c =
    let w = c.args.self.now in
    let deep : 1 ≤ length w.walk.above.items = search (rules, arith) in
    memory_told c.from_residual-in_err-close.result w fed_close c.from_residual-in_err-close.ensures.1 (λ known st sent h. may_close w known st sent (inr deep) h)
