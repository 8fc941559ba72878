use Rattle.std.proofs.Common.{◌≡◌, ◌≢◌, ◌∷◌, [], Bool, false, cond, Option, Some, None, IfSome, is_some, refl, sym, ap, subst, ◌∙◌}
use Rattle.repo_wire.specs.declared.messages.Code.{Code}
use Rattle.repo_wire.specs.declared.messages.Request.{Request}
use Rattle.repo_wire.specs.declared.messages.Say.{Say}
use Rattle.repo_session.specs.declared.outcomes.End.{End}
use Rattle.repo_session.specs.Askers.{Holding}
use Rattle.repo_session.specs.Ends.{IsUnwelcome}
use Rattle.repo_session.specs.Jobs.{TurnsOn, HeedsReply}
use Rattle.repo_session.specs.Sessions.{IsAwaited, IsPut, SessionAt, SessionEndsBy, FollowsStep}
use Rattle.repo_session.specs.Traces.{giving}
use Rattle.repo_session.proofs.Sessioning.{asked_before, follows_none, put_work, working_on, stepped, still_awaited, session_as}
use Rattle.repo_session.proofs.sessions.Session.suppose.Goals as goal

if_some : {A : Type 0} (P : A → Type 0) (o : Option A) (x : A) → o ≡ Some x → P x → IfSome o P
if_some P o x is h = subst (λ (y : Option _). IfSome y P) (sym is) h

no_outcome : {A : Type 0} (o : Option A) → is_some o ≡ false → o ≡ None
no_outcome None h = refl
no_outcome (Some x) h = absurd (cc)

pub returns-clause-supposed : goal.returns-clause-supposed
returns-clause-supposed g c =
    let s = c.args.self.now in
    let r = c.in-Some.letter in
    let p = c.in-Some.is in
    let job = c.reply.new.self in
    let new = c.follow.new.self in
    let step = c.in-Ok.step in
    let h = g.J.Job.handed s.job in
    let rule = g.J.Job.rule h in
    let given = g.J.Job.given job in
    let q : c.request.result.now ≡ r = c.request.ensures.value in
    let put : IsPut r.ask = (c.in-Put.token, c.in-Put.kind, c.in-Put.name, c.in-Put.bytes, ap (λ x. x.ask) (sym q) ∙ c.in-Put.is) in
    let w = put_work r.ask put in
    let live : Say.Done ≢ Say.Refused Code.Dead = λ d. absurd (cc) in
    let R : Request → Type 0 = λ x. TurnsOn rule s.head.holder (g.J.Job.knows s.job) (g.J.Job.knows job) (g.J.Job.wants job) (giving x.ask Say.Done given) step in
    let H : Request → Type 0 = λ x. HeedsReply rule s.head.holder (g.J.Job.knows s.job) (giving x.ask Say.Done given) step in
    let ends : SessionEndsBy r.ask Say.Done End.BadReply = ((λ d. absurd (live d)), (λ unwelcome known. absurd (subst (λ a. IsUnwelcome a Say.Done) put.4 unwelcome tt))) in
    let follows : FollowsStep s.head step End.BadReply new = follows_none step End.BadReply s.head new (subst (λ n. FollowsStep (record s.head { line = record s.head.line { next = n } }) step End.BadReply new) c.take-letter.ensures.after c.follow.ensures.follows) in
    if_some _ c.take-letter.result r (c.take-letter.ensures.value ∙ p) (record {
      pending = p;
      unended = no_outcome s.head.line.outcome (sym c.is_some.ensures ∙ c.if-is_some.false);
      put = put;
      awaits = λ es f.
          let awaited = still_awaited rule s.head.holder s.head.lock (g.J.Job.fresh s.job) (g.J.Job.knows s.job) (g.J.Job.wants s.job) s.head.line r es p f w put in
          subst (λ x. IsAwaited (g.J.Job.rule x) new.holder r es) (sym c.reply.ensures.handed) (subst (λ (x : Holding). IsAwaited rule x r es) (sym c.follow.ensures.kept.holder) awaited);
      fits = λ es f.
          let asked = asked_before rule s.head.holder s.head.lock (g.J.Job.fresh s.job) (g.J.Job.knows s.job) (g.J.Job.wants s.job) s.head.line r es p f w in
          let on = working_on rule s.head.holder s.head.lock (g.J.Job.fresh s.job) (g.J.Job.knows s.job) (g.J.Job.wants s.job) s.head.line r es p f w (giving r.ask Say.Done given) refl live in
          let at = stepped rule s.head.holder s.head.lock (g.J.Job.fresh s.job) (g.J.Job.knows s.job) (g.J.Job.wants s.job) s.head.line r es p f w (g.J.Job.fresh job) (g.J.Job.knows job) (g.J.Job.wants job) Say.Done given step End.BadReply s.head new refl refl
          live (subst R q c.in-Ok.ensures.steps es on f.obeys asked) (subst H q c.in-Ok.ensures.heeds es on f.obeys asked) ends follows in
          let T : Bool → Type 0 = λ b. SessionAt rule s.head.holder s.head.lock (g.J.Job.fresh job) (g.J.Job.knows job) (g.J.Job.wants job) new.line (giving r.ask Say.Done (cond b given []) ∷ es) in
          session_as g.J.Job.rule h (g.J.Job.handed job) s.head.holder new.holder s.head.lock new.lock (g.J.Job.fresh job) (g.J.Job.knows job) (g.J.Job.wants job) new.line _ c.reply.ensures.handed c.follow.ensures.kept.holder c.follow.ensures.kept.lock
          (subst T (sym c.is_taken-self.ensures) at);
    })
