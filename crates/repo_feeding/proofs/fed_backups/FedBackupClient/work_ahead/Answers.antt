use Rattle.std.proofs.Common.{refl, ap, subst, sym, ◌∙◌}
use Rattle.repo_feeding.specs.FedStates.{FedJob, feeder_of, StandsFed, next_of, ended_of, token_of}
use Rattle.repo_feeding.proofs.Feeding.{stands_ahead, next_ahead, ended_ahead, token_ahead}
use Rattle.repo_feeding.proofs.fed_backups.FedBackupClient.work_ahead.Goals as goal

pub returns-then-suppose-clause-fits : goal.returns-then-suppose-clause-fits
returns-then-suppose-clause-fits g c = λ es stands. (
    let mid = c.suppose.new.self in
    let new = c.feed_ahead.new.self in
    let f = feeder_of g.S.Source.told g.S.Source.name g.S.Source.failed g.S.Source.rewinds mid in
    let now = feeder_of g.S.Source.told g.S.Source.name g.S.Source.failed g.S.Source.rewinds new in
    let some = c.suppose.ensures.awaits c.if-suppose.true in
    subst (λ a. StandsFed now a es) (sym c.feed_ahead.ensures.awaited)
    (stands_ahead f now mid.awaited es some c.feed_ahead.ensures.goes c.feed_ahead.ensures.holder (ap (λ (j : FedJob). j.whole) c.feed_ahead.ensures.job) (c.suppose.ensures.fits es stands)))

pub returns-then-suppose-clause-next : goal.returns-then-suppose-clause-next
returns-then-suppose-clause-next g c =
    let mid = c.suppose.new.self in
    let new = c.feed_ahead.new.self in
    ap (next_of new.backup) c.feed_ahead.ensures.awaited ∙ next_ahead new.backup mid.backup mid.awaited (c.suppose.ensures.awaits c.if-suppose.true) ∙ c.suppose.ensures.next

pub returns-then-suppose-clause-ended : goal.returns-then-suppose-clause-ended
returns-then-suppose-clause-ended g c =
    let mid = c.suppose.new.self in
    let new = c.feed_ahead.new.self in
    ap (ended_of new.backup) c.feed_ahead.ensures.awaited ∙ ended_ahead new.backup mid.backup mid.awaited (c.suppose.ensures.awaits c.if-suppose.true) ∙ c.suppose.ensures.ended

pub returns-then-suppose-clause-token : goal.returns-then-suppose-clause-token
returns-then-suppose-clause-token g c =
    let mid = c.suppose.new.self in
    let new = c.feed_ahead.new.self in
    ap (token_of new.backup) c.feed_ahead.ensures.awaited ∙ token_ahead new.backup mid.backup mid.awaited (c.suppose.ensures.awaits c.if-suppose.true) c.feed_ahead.ensures.holder ∙ c.suppose.ensures.token
