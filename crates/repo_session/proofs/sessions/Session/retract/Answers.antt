use Rattle.std.specs.Prelude.{⊤}
use Rattle.std.proofs.Common.{◌≡◌, ℕ, Some, None, refl, subst}
use Rattle.repo_name.specs.declared.names.Instance.{Instance}
use Rattle.repo_wire.specs.declared.messages.Request.{Request}
use Rattle.repo_session.specs.Sessions.{Leaves, SessionEndsBy, pending_line}
use Rattle.repo_session.specs.declared.sessions.Head.{Head}
use Rattle.repo_session.proofs.Sessioning.{put_work, put_other, work_left, session_as}
use Rattle.repo_session.proofs.sessions.Session.retract.Goals as goal

pub returns-clause-fits : goal.returns-clause-fits
returns-clause-fits g c = λ other es h.
    let s = c.args.self.now in
    let r = c.args.letter in
    let say = c.args.say.now in
    let new = c.leave.new.self in
    let rule = g.J.Job.rule (g.J.Job.handed s.job) in
    let handed = g.J.Job.handed s.job in
    let holding = s.head.holder in
    let w = put_work r.ask h.put in
    let head : Head = record { holder = holding; lock = s.head.lock; line = pending_line holding r } in
    let instance : r.instance ≡ holding.who.instance = (h.at s.head.lock).stands.next.instance in
    let q = c.request-request.ensures.value in
    let end = c.end_of-end.result in
    let L : Instance → ℕ → Type 0 = λ i n. Leaves (record { holder = holding; lock = s.head.lock; line = record { instance = i; sequence = n; next = Some r; outcome = None } }) end new in
    let left : Leaves head end new = subst (λ i. L i r.sequence) instance (subst (λ (x : Request). L x.instance x.sequence) q c.leave.ensures.leaves) in
    let ends : SessionEndsBy r.ask say c.end_of-end.result = subst (λ (x : Request). SessionEndsBy x.ask say c.end_of-end.result) q (c.end_of-end.ensures.fenced, c.end_of-end.ensures.caused) in
    let at = work_left rule holding s.head.lock ⊤ (λ ask fs. ⊤) (λ fs. ⊥) (pending_line holding r) r es refl (h.at s.head.lock) w say (g.J.Job.fresh s.job) (g.J.Job.knows s.job) (g.J.Job.wants s.job) c.end_of-end.result head new refl refl
    (put_other rule.notes r.ask say h.put other) ends left in
    session_as g.J.Job.rule handed handed holding new.holder s.head.lock new.lock (g.J.Job.fresh s.job) (g.J.Job.knows s.job) (g.J.Job.wants s.job) new.line _ refl c.leave.ensures.kept.holder c.leave.ensures.kept.lock at
