use Rattle.std.proofs.Common.{arith}
use Rattle.repo_sha.proofs.SumLemmas.{IsScheduledTo_at}
use Rattle.repo_sha.proofs.schedules.put_four.Goals as goal

pub returns : goal.returns
returns c j lt block held =
    let s1 = c.put_next.ensures j lt block held in
    let s2 = c.put_next-2.ensures j lt block s1 in
    let s3 = c.put_next-3.ensures j lt block (IsScheduledTo_at j block _ _ _ _ (omega arith) s2) in
    let s4 = c.put_next-4.ensures j lt block (IsScheduledTo_at j block _ _ _ _ (omega arith) s3) in
    IsScheduledTo_at j block _ _ _ _ (omega arith) s4
