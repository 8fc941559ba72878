use Rattle.std.proofs.Common.{◌≡◌, ◌∷◌, [], Some, refl, sym, subst, inl, ◌∙◌}
use Rattle.std.proofs.lemmas.Option.{same_Some}
use Rattle.repo_session.specs.Jobs.{known_under}
use Rattle.repo_session.specs.Traces.{Exchange, silent}
use Rattle.repo_session.specs.Readings.{KnowsIndexes}
use Rattle.repo_session.proofs.Cataloguing.{are_indexed}
use Rattle.repo_session.proofs.Parting.{part_heeds, part_turns}
use Rattle.repo_session.proofs.KindReads.{due_index}
use Rattle.repo_backup.specs.PieceRules.{piece_rule}
use Rattle.repo_backup.specs.PieceBackups.{PieceKnows, PieceWants}
use Rattle.repo_backup.specs.PieceStates.{piece_task, CanUnread, IsSameWay}
use Rattle.repo_backup.specs.declared.piece_backing.PieceBacking.{PieceBacking}
use Rattle.repo_backup.specs.declared.piece_jobs.PieceJob.{PieceJob}
use Rattle.repo_backup.proofs.PieceStepping.{may_read_pieces, nothing_still, input_first, input_wanted, wants_none}
use Rattle.repo_backup.proofs.piece_jobs.PieceJob.read_on.Goals as goal

pub returns-in-All-clause-ok : goal.returns-in-All-clause-ok
returns-in-All-clause-ok c = λ holding es working obeys asked.
    let old = c.args.self.now in
    let ask = c.args.ask.now in
    let say = c.args.say.now in
    let d = c.read_on.new.self in
    let e : Exchange = silent ask say in
    let reads = rw c.in-All.is at c.in_ok-noted.ensures.ok in
    let all = reads (known_under piece_rule holding.who) (piece_task holding.who) holding.token [] es working asked.may asked.knows.0 in
    let work = asked.knows.1 in
    let indexed = are_indexed d.roll.kind d.roll.names.items d.roll.read d.lookup (e ∷ es) all.1.0 all.1.1 in
    let waits = input_first d.lookup work.0 (e ∷ es) (nothing_still old.catalog work.0 ask say es asked.knows.0 work.2) indexed all.1.0.gives in
    let k = input_wanted d old.backing work.0 (e ∷ es) work.1 waits in
    let back = rw c.in-All.is at c.in_ok-noted.ensures.back in
    let noted = c.in-All.noted in
    let read : (b : PieceBacking) → old.backing ≡ Some b → CanUnread d (Some noted) b.work (e ∷ es) = λ b is reads. (
    let one : work.0 ≡ b = same_Some work.0 b (sym work.1 ∙ is) in
    record {
      old = old.catalog;
      facts = back es asked.knows.0;
      begun = work.0;
      way = subst (λ (x : PieceBacking). IsSameWay work.0.work x.work) one (record { params = refl; version = refl; target = refl });
      knows = asked.knows.0;
      none = work.2;
    }) in
    (inl refl, k.0, (k.1, read))

pub returns-in-Step-clause-ok : goal.returns-in-Step-clause-ok
returns-in-Step-clause-ok c = λ holding es working obeys asked.
    let old = c.args.self.now in
    let who = holding.who in
    let e : Exchange = silent c.args.ask.now c.args.say.now in
    let new : PieceJob = record { backing = old.backing; catalog = c.read_on.new.self; noted = old.noted; alloc = old.alloc } in
    let on = (rw c.in-Step.is at c.in_ok-noted.ensures.ok) (known_under piece_rule who) (piece_task who) holding.token [] es working asked.may asked.knows.0 in
    let work = asked.knows.1 in
    let still = nothing_still old.catalog work.0 e.ask e.say es asked.knows.0 work.2 in
    wants_none piece_rule who (PieceKnows new) (PieceWants new) e es c.in-Step.step
    (part_turns piece_rule who (KnowsIndexes new.catalog) (PieceKnows new) e es c.in-Step.step refl (inl refl) (λ ask due. (may_read_pieces (e ∷ es) ask (due_index (piece_task who) new.catalog (e ∷ es) ask due) work.2.1, inl (due.knows, (work.0, work.1, still)))) on)

pub returns-in-All-clause-heeds : goal.returns-in-All-clause-heeds
returns-in-All-clause-heeds c = λ holding es working obeys asked ends.
    let all = (rw c.in-All.is at c.in_ok-noted.ensures.ok) (known_under piece_rule holding.who) (piece_task holding.who) holding.token [] es working asked.may asked.knows.0 in
    absurd (all.0 ends)

pub returns-in-Step-clause-heeds : goal.returns-in-Step-clause-heeds
returns-in-Step-clause-heeds c = λ holding es working obeys asked.
    let known = known_under piece_rule holding.who in
    let e : Exchange = silent c.args.ask.now c.args.say.now in
    let on = (rw c.in-Step.is at c.in_ok-noted.ensures.ok) known (piece_task holding.who) holding.token [] es working asked.may asked.knows.0 in
    part_heeds known (piece_task holding.who) (KnowsIndexes c.read_on.new.self) e es c.in-Step.step on
