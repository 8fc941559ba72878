use Rattle.std.proofs.Common.{⊎_elim, inl, inr}
use Rattle.repo_store.proofs.upgrades.work_due.Goals as goal

pub returns-in-Err : goal.returns-in-Err
returns-in-Err c = rw c.in-Some.is (⊎_elim inl (λ other. inr (other.0, λ config. rw c.as_slice.ensures at (c.in-Err.ensures.none other.1 config))) c.unread.ensures)
