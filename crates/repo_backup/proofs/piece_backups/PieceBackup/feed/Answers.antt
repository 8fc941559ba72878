use Rattle.std.proofs.Common.{refl}
use Rattle.repo_session.specs.Traces.{feeding}
use Rattle.repo_session.specs.declared.outcomes.End.{End}
use Rattle.repo_session.proofs.Sessioning.{session_as, wants_of}
use Rattle.repo_backup.specs.Items.{fed_part}
use Rattle.repo_backup.specs.PieceRules.{piece_rule}
use Rattle.repo_backup.specs.PieceBackups.{PieceKnows, PieceWants, IsFreshPieces, IsHungry, by_piece_rule}
use Rattle.repo_backup.proofs.FedSession.{fed_session, refused_session, step_busy}
use Rattle.repo_backup.proofs.Staging.{any_err}
use Rattle.repo_backup.proofs.piece_backups.PieceBackup.feed.Goals as goal

pub returns-clause-took : goal.returns-clause-took
returns-clause-took c =
    let k = c.in_ok-step in
    let old = c.args.self.now.session in
    let job = c.feed.new.self in
    let head = c.follow.new.self in
    let n = k.count in
    let part = fed_part n c.args.item in
    let hungry : IsHungry c.args.self.now = c.wants.ensures.0 c.if-not-wants.false in (
      hungry,
      k.ensures.count,
      λ es fits. (
          let w = wants_of piece_rule old.head.holder old.head.lock (IsFreshPieces old.job) (PieceKnows old.job) (PieceWants old.job) old.head.line es hungry.0 hungry.1 fits in
          let may = k.ensures.ok es w.working w.knows in
          session_as by_piece_rule tt tt old.head.holder head.holder old.head.lock head.lock (IsFreshPieces job) (PieceKnows job) (PieceWants job) head.line (feeding part es) refl c.follow.ensures.kept.holder c.follow.ensures.kept.lock
          (fed_session old.head.holder old.head.lock (IsFreshPieces old.job) (IsFreshPieces job) (PieceKnows old.job) (PieceKnows job) (PieceWants old.job) (PieceWants job) k.step End.Abandoned old.head head part es refl hungry.0 hungry.1 fits may.0 c.follow.ensures.follows)),
    )

pub returns-clause-may : goal.returns-clause-may
returns-clause-may c = λ es fits.
    let k = c.in_ok-step in
    let old = c.args.self.now.session in
    let hungry : IsHungry c.args.self.now = c.wants.ensures.0 c.if-not-wants.false in
    let w = wants_of piece_rule old.head.holder old.head.lock (IsFreshPieces old.job) (PieceKnows old.job) (PieceWants old.job) old.head.line es hungry.0 hungry.1 fits in
    (k.ensures.ok es w.working w.knows).2

pub returns-clause-part : goal.returns-clause-part
returns-clause-part c = λ es fits less now.
    let k = c.in_ok-step in
    let old = c.args.self.now.session in
    let head = c.follow.new.self in
    let hungry : IsHungry c.args.self.now = c.wants.ensures.0 c.if-not-wants.false in
    let w = wants_of piece_rule old.head.holder old.head.lock (IsFreshPieces old.job) (PieceKnows old.job) (PieceWants old.job) old.head.line es hungry.0 hungry.1 fits in
    let may = k.ensures.ok es w.working w.knows in
    step_busy old.head.holder.who (PieceKnows c.feed.new.self) (PieceWants c.feed.new.self) k.step End.Abandoned old.head head (feeding (fed_part k.count c.args.item) es) (may.1 less) may.0 c.follow.ensures.follows now.0 now.1

pub returns-in_err-step-clause-stays : goal.returns-in_err-step-clause-stays
returns-in_err-step-clause-stays c =
    let old = c.args.self.now.session in
    let job = c.feed.new.self in
    let hungry : IsHungry c.args.self.now = c.wants.ensures.0 c.if-not-wants.false in
    any_err c.from_residual.result _ (λ es fits. refused_session old.head.holder old.head.lock (IsFreshPieces old.job) (IsFreshPieces job) (PieceKnows old.job) (PieceKnows job) (PieceWants old.job) (PieceWants job)
    old.head es hungry.0 hungry.1 (λ fs wants. (c.in_err-step.ensures.refused fs wants).1) fits)
