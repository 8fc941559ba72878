use Rattle.std.proofs.Common.{IfOk, sym, subst}
use Rattle.repo_backup.specs.PieceBackups.{PieceSends}
use Rattle.repo_backup.specs.PieceStates.{PieceWent}
use Rattle.repo_backup.proofs.piece_jobs.PieceJob.send.Goals as goal

pub returns-in-On-clause-sends : goal.returns-in-On-clause-sends
returns-in-On-clause-sends c = subst (λ w. IfOk c.send_next.result (λ step. PieceSends (λ facts b es. PieceWent facts w b es) c.args.self.now c.args.holder.now step c.args.self.now)) (sym c.in-On.is) c.send_next.ensures.sends

pub returns-in-Pack-clause-sends : goal.returns-in-Pack-clause-sends
returns-in-Pack-clause-sends c = subst (λ w. PieceSends (λ facts b es. PieceWent facts w b es) c.args.self.now c.args.holder.now c.send_pack.result c.send_pack.new.self) (sym c.in-Pack.is) c.send_pack.ensures.sends

pub returns-in-TooLarge-clause-sends : goal.returns-in-TooLarge-clause-sends
returns-in-TooLarge-clause-sends c = subst (λ w. PieceSends (λ facts b es. PieceWent facts w b es) c.args.self.now c.args.holder.now c.end_large.result c.args.self.now) (sym c.in-TooLarge.is) (c.end_large.ensures.sends c.args.holder.now)
