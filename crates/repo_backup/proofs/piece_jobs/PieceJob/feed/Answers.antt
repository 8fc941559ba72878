use Rattle.std.proofs.Common.{arith, ◌≡◌, ◌++◌, [], Some, None, refl, sym, ap, subst, ◌∙◌}
use Rattle.std.proofs.lemmas.Option.{same_Some}
use Rattle.repo_session.specs.Traces.{fed_in, feeding}
use Rattle.repo_session.specs.declared.catalogs.Catalog.{Catalog}
use Rattle.repo_session.specs.declared.jobs.Step.{Step}
use Rattle.repo_writing.specs.Writing.{items_of}
use Rattle.repo_backup.specs.Items.{MayTake, fed_of, fed_part, size_of, place_of}
use Rattle.repo_backup.specs.PieceStates.{IsSameWay, PieceWaits, reopened_backing}
use Rattle.repo_backup.specs.Pieces.{Goes, Stays, IsReady, WorkTakes, LeavesPacked, LeavesRoom, ReopensAt, sealing_at}
use Rattle.repo_backup.specs.declared.piece_jobs.PieceJob.{PieceJob}
use Rattle.repo_backup.specs.declared.piece_works.Took.{Took}
use Rattle.repo_backup.proofs.FedOn.{fed_working}
use Rattle.repo_backup.proofs.PieceFeeding.{works_on, stands_plain, plain_item, fed_waits, fed_done, fed_due, fed_large, fed_fault, fed_still, ended_once, end_memory, one_taken}
use Rattle.repo_backup.proofs.PieceStepping.{input_wanted}
use Rattle.repo_backup.proofs.Unreading.{busy_more, unreads_fed, unreads_still, wants_more}
use Rattle.repo_backup.proofs.piece_jobs.PieceJob.feed.Goals as goal

pub returns-in-Ok-All-default-Some : goal.returns-in-Ok-All-default-Some
returns-in-Ok-All-default-Some c =
    let k = c.in-Ok-All-default-Some in
    let old = c.args.self.now in
    let facts = old.catalog.lookup in
    let item = c.args.item in
    let a = c.in-Some.backing in
    let d = c.feed-fed.new.self in
    let same = c.feed-fed.ensures.same in
    let n = k.count in
    let e = k.ensures in
    let took : Took = Took.All n (Some k.listed) in
    let is : k.field-0 ≡ took = k.field-0-is ∙ ap (Took.All n) k.field-0-1-is in
    let takes : WorkTakes facts item a.work took d.work = subst (λ t. WorkTakes facts item a.work t d.work) is e.ok in
    let left : LeavesPacked (sealing_at item) took d.work = subst (λ t. LeavesPacked (sealing_at item) t d.work) is e.packed in
    let room : LeavesRoom took d.work = subst (λ t. LeavesRoom t d.work) is e.roomy in
    record {
      ok = λ es working wants. (
          let h : PieceWaits facts a es = subst (λ b. PieceWaits facts b es) (same_Some wants.0.0 a (sym wants.0.1 ∙ c.in-Some.is)) wants.0.2 in
          let some = works_on _ c.args.holder.now.token es working in
          let due = fed_due facts a d es h some (ap (λ b. b.waiting) same) (ap (λ b. b.listed) same) (ap (λ b. b.counts) same) n item c.in_default.not-Abandon takes.2 e.params e.version e.aims (Some k.listed) left.1 room k.listed left.0 in
          let held = fed_working _ c.args.holder.now.token (fed_part n item) es h.at.written.indexed.listed.complete working in
          (busy_more c.send_pack.new.self c.args.holder.now.who (feeding (fed_part n item) es) c.send_pack.result (c.send_pack.ensures.busy d (feeding (fed_part n item) es) refl due) (c.send_pack.ensures.sends d (feeding (fed_part n item) es) held refl due), (λ less. c.send_pack.ensures.busy d (feeding (fed_part n item) es) refl due), one_taken facts a d es h some (ap (λ b. b.waiting) same) (ap (λ b. b.listed) same) (ap (λ b. b.counts) same) (fed_part n item) (takes.2 h.at.st (items_of (h.puts ++ [])) (stands_plain facts a d h.puts [] (fed_in es) es h.at h.ready)).0));
      short = c.send_pack.ensures.short;
      count = takes.0;
      refused = tt;
    }

pub returns-in-Ok : goal.returns-in-Ok
returns-in-Ok c =
    let k = c.in-Ok-All-default-None in
    let old = c.args.self.now in
    let facts = old.catalog.lookup in
    let item = c.args.item in
    let a = c.in-Some.backing in
    let d = c.feed-fed.new.self in
    let same = c.feed-fed.ensures.same in
    let e = k.ensures in
    let took : Took = Took.All k.count None in
    let is : k.field-0 ≡ took = k.field-0-is ∙ ap (Took.All k.count) k.field-0-1-is in
    let takes : WorkTakes facts item a.work took d.work = subst (λ t. WorkTakes facts item a.work t d.work) is e.ok in
    let left : LeavesPacked (sealing_at item) took d.work = subst (λ t. LeavesPacked (sealing_at item) t d.work) is e.packed in
    let room : LeavesRoom took d.work = subst (λ t. LeavesRoom t d.work) is e.roomy in
    let none : size_of item ≡ 0 = ap size_of c.in-End.is in
    let part : fed_part 0 item ≡ fed_part k.count item = ended_once 0 k.count item c.in-End.is in
    record {
      ok = λ es working wants. (
          let h : PieceWaits facts a es = subst (λ b. PieceWaits facts b es) (same_Some wants.0.0 a (sym wants.0.1 ∙ c.in-Some.is)) wants.0.2 in
          let some = works_on _ c.args.holder.now.token es working in
          let goes = subst (λ f. Goes facts (sealing_at item) f a.work d.work) (sym part) takes.2 in
          let done = fed_done facts a d es h some (ap (λ b. b.waiting) same) (ap (λ b. b.listed) same) (ap (λ b. b.counts) same) 0 item c.in_default.not-Abandon goes e.params e.version e.aims None left.1 room left.0 (left.2 refl) in
          let held = fed_working _ c.args.holder.now.token (fed_part 0 item) es h.at.written.indexed.listed.complete working in
          let new = c.end.new.self in
          let way : IsSameWay a.work d.work = record { params = e.params; version = e.version; target = e.aims.0 } in
          let unreads = unreads_fed old new a d es c.in-Some.is (ap (λ (j : PieceJob). j.backing) c.in-Ok.ensures.same) c.end.ensures.catalog c.end.ensures.noted way wants.1 (fed_part 0 item) in
          (wants_more new c.args.holder.now.who (feeding (fed_part 0 item) es) c.in-Ok.step unreads (c.in-Ok.ensures.sends d (feeding (fed_part 0 item) es) held refl done), (λ less. absurd (omega (arith, none, less))), one_taken facts a d es h some (ap (λ b. b.waiting) same) (ap (λ b. b.listed) same) (ap (λ b. b.counts) same) (fed_part 0 item) (goes h.at.st (items_of (h.puts ++ [])) (stands_plain facts a d h.puts [] (fed_in es) es h.at h.ready)).0));
      short = c.in-Ok.ensures.short;
      count = (omega (arith, none), λ some. absurd (omega (arith, none, some)));
      refused = tt;
    }

pub returns-in-Err-end : goal.returns-in-Err-end
returns-in-Err-end c =
    let k = c.in-Ok-All-default-None in
    let old = c.args.self.now in
    let facts = old.catalog.lookup in
    let item = c.args.item in
    let a = c.in-Some.backing in
    let d = c.feed-fed.new.self in
    let same = c.feed-fed.ensures.same in
    let e = k.ensures in
    let took : Took = Took.All k.count None in
    let is : k.field-0 ≡ took = k.field-0-is ∙ ap (Took.All k.count) k.field-0-1-is in
    let takes : WorkTakes facts item a.work took d.work = subst (λ t. WorkTakes facts item a.work t d.work) is e.ok in
    let left : LeavesPacked (sealing_at item) took d.work = subst (λ t. LeavesPacked (sealing_at item) t d.work) is e.packed in
    let room : LeavesRoom took d.work = subst (λ t. LeavesRoom t d.work) is e.roomy in
    let back : ReopensAt facts item a.work took d.work = subst (λ t. ReopensAt facts item a.work t d.work) is e.back in
    record {
      ok = tt;
      short = tt;
      count = tt;
      refused = λ es wants. (
          let h : PieceWaits facts a es = subst (λ b. PieceWaits facts b es) (same_Some wants.0.0 a (sym wants.0.1 ∙ c.in-Some.is)) wants.0.2 in
          let r = reopened_backing d in
          let goes = subst (λ f. Goes facts (sealing_at item) f a.work d.work) (ended_once k.count 0 item c.in-End.is) takes.2 in
          let may = subst (λ p. MayTake p (fed_part 0 item)) h.at.at.lead.place (goes h.at.st (items_of (h.puts ++ [])) (stands_plain facts a d h.puts [] (fed_in es) es h.at h.ready)).0 in
          let stays : Stays facts a.work r.work = subst (λ x. ReopensAt facts x a.work took d.work) c.in-End.is back in
          let ready : IsReady r.work = record { unsealed = left.0; unlaid = left.2 refl; opened = room; unended = refl } in
          let still = fed_still facts a r es h (ap (λ b. b.waiting) same) (ap (λ b. b.listed) same) (ap (λ b. b.counts) same) stays ready e.params e.version e.aims in (
            end_memory (place_of (fed_in es)) item c.in-Err-end.error c.in-End.is c.in-Err-end.ensures.err may,
            (
              (r, c.in-Err-end.ensures.backing, subst (λ (x : Catalog). PieceWaits x.lookup r es) (sym c.end.ensures.catalog) still),
              unreads_still old c.end.new.self a r es c.in-Some.is c.in-Err-end.ensures.backing c.end.ensures.catalog c.end.ensures.noted (record { params = e.params; version = e.version; target = e.aims.0 }) wants.1,
            ),
          ));
    }

pub returns-in_default-item : goal.returns-in_default-item
returns-in_default-item c =
    let k = c.in-Ok-All-default-None in
    let old = c.args.self.now in
    let facts = old.catalog.lookup in
    let item = c.args.item in
    let a = c.in-Some.backing in
    let d = c.feed-fed.new.self in
    let same = c.feed-fed.ensures.same in
    let e = k.ensures in
    let n = k.count in
    let took : Took = Took.All n None in
    let is : k.field-0 ≡ took = k.field-0-is ∙ ap (Took.All n) k.field-0-1-is in
    let takes : WorkTakes facts item a.work took d.work = subst (λ t. WorkTakes facts item a.work t d.work) is e.ok in
    let left : LeavesPacked (sealing_at item) took d.work = subst (λ t. LeavesPacked (sealing_at item) t d.work) is e.packed in
    let room : LeavesRoom took d.work = subst (λ t. LeavesRoom t d.work) is e.roomy in
    record {
      ok = λ es working wants. (
          let h : PieceWaits facts a es = subst (λ b. PieceWaits facts b es) (same_Some wants.0.0 a (sym wants.0.1 ∙ c.in-Some.is)) wants.0.2 in
          let some = works_on _ c.args.holder.now.token es working in
          let plain = plain_item item c.in_default-item.not-End c.in_default.not-Abandon in
          let waits = fed_waits facts a d es h some (ap (λ b. b.waiting) same) (ap (λ b. b.listed) same) (ap (λ b. b.counts) same) n item c.in_default.not-Abandon takes.2 e.params e.version e.aims None left.1 room plain left.0 (left.2 refl) in
          let new : PieceJob = record old { backing = Some d } in
          let way : IsSameWay a.work d.work = record { params = e.params; version = e.version; target = e.aims.0 } in
          let unreads = unreads_fed old new a d es c.in-Some.is refl refl refl way wants.1 (fed_part n item) in
          (wants_more new c.args.holder.now.who (feeding (fed_part n item) es) Step.Want unreads (input_wanted old.catalog (Some d) d (feeding (fed_part n item) es) refl waits), (λ less. absurd (takes.1 less refl)), one_taken facts a d es h some (ap (λ b. b.waiting) same) (ap (λ b. b.listed) same) (ap (λ b. b.counts) same) (fed_part n item) (takes.2 h.at.st (items_of (h.puts ++ [])) (stands_plain facts a d h.puts [] (fed_in es) es h.at h.ready)).0));
      short = tt;
      count = takes.0;
      refused = tt;
    }

pub returns-in-Ok-TooLarge : goal.returns-in-Ok-TooLarge
returns-in-Ok-TooLarge c =
    let k = c.in-Ok-TooLarge in
    let old = c.args.self.now in
    let facts = old.catalog.lookup in
    let item = c.args.item in
    let a = c.in-Some.backing in
    let d = c.feed-fed.new.self in
    let same = c.feed-fed.ensures.same in
    let takes : WorkTakes facts item a.work Took.TooLarge d.work = subst (λ t. WorkTakes facts item a.work t d.work) k.field-0-is k.ensures.ok in
    record {
      ok = λ es working wants. (
          let h : PieceWaits facts a es = subst (λ b. PieceWaits facts b es) (same_Some wants.0.0 a (sym wants.0.1 ∙ c.in-Some.is)) wants.0.2 in
          let some = works_on _ c.args.holder.now.token es working in
          let held = fed_working _ c.args.holder.now.token (fed_part 0 item) es h.at.written.indexed.listed.complete working in
          let new : PieceJob = record old { backing = Some d } in
          let way : IsSameWay a.work d.work = record { params = k.ensures.params; version = k.ensures.version; target = k.ensures.aims.0 } in
          let unreads = unreads_fed old new a d es c.in-Some.is refl refl refl way wants.1 (fed_part 0 item) in
          (wants_more new c.args.holder.now.who (feeding (fed_part 0 item) es) c.end_large.result unreads (c.end_large.ensures.sends c.args.holder.now d (feeding (fed_part 0 item) es) held refl (fed_large facts a d es h some (ap (λ b. b.waiting) same) (ap (λ b. b.listed) same) (ap (λ b. b.counts) same) (fed_part 0 item) takes.1 k.ensures.version)), (λ less. absurd (omega (arith, takes.0, less))), one_taken facts a d es h some (ap (λ b. b.waiting) same) (ap (λ b. b.listed) same) (ap (λ b. b.counts) same) (fed_part 0 item) (takes.1 h.at.st (items_of (h.puts ++ [])) (stands_plain facts a d h.puts [] (fed_in es) es h.at h.ready)).0));
      short = c.end_large.ensures.short;
      count = (omega (arith, takes.0), λ some. absurd (omega (arith, takes.0, some)));
      refused = tt;
    }

pub returns-in-Err : goal.returns-in-Err
returns-in-Err c =
    let k = c.in-Err in
    let old = c.args.self.now in
    let facts = old.catalog.lookup in
    let item = c.args.item in
    let a = c.in-Some.backing in
    let d = c.feed-fed.new.self in
    let same = c.feed-fed.ensures.same in
    let e = k.ensures in
    record {
      ok = tt;
      short = tt;
      count = tt;
      refused = λ es wants. (
          let h : PieceWaits facts a es = subst (λ b. PieceWaits facts b es) (same_Some wants.0.0 a (sym wants.0.1 ∙ c.in-Some.is)) wants.0.2 in (
            fed_fault facts a d es h (fed_of item) k.error e.refused,
            (
              (d, refl, fed_still facts a d es h (ap (λ b. b.waiting) same) (ap (λ b. b.listed) same) (ap (λ b. b.counts) same) e.stays e.ready e.params e.version e.aims),
              unreads_still old (record old { backing = Some d }) a d es c.in-Some.is refl refl refl (record { params = e.params; version = e.version; target = e.aims.0 }) wants.1,
            ),
          ));
    }

pub returns-then-not-is_ready-clause-refused : goal.returns-then-not-is_ready-clause-refused
returns-then-not-is_ready-clause-refused c = λ es wants.
    let ready = c.is_ready.ensures.1 (wants.0.0, wants.0.1, wants.0.2.ready) in
    let no = c.if-not-is_ready.true in
    absurd (cc)
