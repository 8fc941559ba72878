use Rattle.std.proofs.Common.{◌++◌, true, false, List, sym, subst, take, inl}
use Rattle.repo_restore.specs.declared.nodes.Level.{Level}
use Rattle.repo_session.specs.Received.{Received}
use Rattle.repo_restore.specs.Walking.{WalkWaits}
use Rattle.repo_restore.proofs.Passing.{counted_more, kept_open, part_open}
use Rattle.repo_restore.proofs.walks.Walk.stop_at.Goals as goal

pub returns-in-Done-clause-turns : goal.returns-in-Done-clause-turns
returns-in-Done-clause-turns c = λ came facts gs version root old h count.
    let s = rw c.in-Done.is at h in
    (s.0, counted_more c.args.self.now.entries c.count_entries.result c.saturating_add-entries.result old c.args.out.now count c.count_entries.ensures c.saturating_add-entries.ensures, s.1)

pub returns-in-Waits-clause-turns : goal.returns-in-Waits-clause-turns
returns-in-Waits-clause-turns c = λ came facts gs version root old h count.
    let out = c.args.out.now in
    let fact = c.in-Waits.fact in
    let s = rw c.in-Waits.is at h in
    let now = counted_more c.args.self.now.entries c.count_entries.result c.saturating_add-entries.result old out count c.count_entries.ensures c.saturating_add-entries.ensures in
    let kept = kept_open facts version (Received gs) root s.1 (take c.args.stop.depth c.args.self.now.levels.items) s.0 c.args.stop.begun s.2 old out fact c.saturating_add-entries.result s.5 s.4 now in
    let L : List Level → Type 0 = λ ls. WalkWaits facts version (Received gs) root ls 0 false c.saturating_add-entries.result fact (old ++ out) in
    (subst L (sym (c.keep_open.ensures s.0 s.3)) kept, s.5.given.each)

pub returns-in-GoesOn-clause-turns : goal.returns-in-GoesOn-clause-turns
returns-in-GoesOn-clause-turns c = λ came facts gs version root old h count.
    let out = c.args.out.now in
    let fact = c.in-GoesOn.fact in
    let s = rw c.in-GoesOn.is at h in
    let now = counted_more c.args.self.now.entries c.count_entries.result c.saturating_add-entries.result old out count c.count_entries.ensures c.saturating_add-entries.ensures in
    let kept = part_open facts version (Received gs) root s.1 (take c.args.stop.depth c.args.self.now.levels.items) s.0 c.args.stop.begun s.2 old out fact c.saturating_add-entries.result s.5 s.4 now in
    let L : List Level → Type 0 = λ ls. WalkWaits facts version (Received gs) root ls 0 true c.saturating_add-entries.result fact (old ++ out) in
    (subst L (sym (c.keep_open-in-GoesOn.ensures s.0 s.3)) kept, s.5.stands.given.each)

pub returns-in-Ended-clause-turns : goal.returns-in-Ended-clause-turns
returns-in-Ended-clause-turns c = λ came facts gs version root old h count.
    let s = rw c.in-Ended.is at h in
    (inl s.0, s.1)
