use Rattle.std.proofs.Common.{rules, ◌≡◌, ◌≤◌, ◌∷◌, ℕ, List, refl, sym, subst}
use Rattle.repo_wire.specs.declared.messages.Ask.{Ask}
use Rattle.repo_wire.specs.declared.messages.Code.{Code}
use Rattle.repo_wire.specs.declared.messages.Say.{Say}
use Rattle.repo_tree.specs.ConfigText.{IsConfigText, ConfigFault}
use Rattle.repo_session.specs.declared.outcomes.End.{End}
use Rattle.repo_session.specs.Ends.{CausedBy}
use Rattle.repo_session.specs.Jobs.{known_under}
use Rattle.repo_session.specs.Traces.{Trace, silent}
use Rattle.repo_session.specs.Versions.{shared}
use Rattle.repo_session.proofs.Holding.{unwelcome_config}
use Rattle.repo_session.proofs.Sessioning.{begins, config_left, session_as}
use Rattle.repo_session.proofs.sessions.Session.take_config.Goals as goal

bytes_live : (x : List ℕ) (say : Say) (end : End) → say ≡ Say.Bytes x → say ≡ Say.Refused Code.Dead → end ≡ End.Fenced
bytes_live x say end p q = absurd (cc)

pub returns-in_default : goal.returns-in_default
returns-in_default g c = record {
  taken = λ r es p q ends f.
      let s = c.args.self.now in
      let say = c.args.say.now in
      let h = g.J.Job.handed s.job in
      let new = c.leave.new.self in
      let fs : Trace = silent r.ask say ∷ es in
      let known = known_under (g.J.Job.rule h) s.head.holder.who in
      let caused : CausedBy known r.ask say c.args.end = subst (λ a. CausedBy known a say c.args.end) (sym q) (ends.1 (unwelcome_config say c.in_default.not-Bytes) known) in
      session_as g.J.Job.rule h h s.head.holder new.holder s.head.lock new.lock (g.J.Job.fresh s.job) (g.J.Job.knows s.job) (g.J.Job.wants s.job) new.line fs refl c.leave.ensures.kept.holder c.leave.ensures.kept.lock
      (config_left (g.J.Job.rule h) s.head.holder s.head.lock (g.J.Job.fresh s.job) (g.J.Job.knows s.job) (g.J.Job.wants s.job) s.head.line r es p f say (g.J.Job.fresh s.job) (g.J.Job.knows s.job) (g.J.Job.wants s.job) c.args.end s.head new refl refl q caused ends.0 c.leave.ensures.leaves);
  err = tt;
  calm = λ code p. refl;
  handed = refl;
  who = c.leave.ensures.kept.holder;
}

pub returns-in-Ok-clause-taken : goal.returns-in-Ok-clause-taken
returns-in-Ok-clause-taken g c = λ r es p q ends f.
    let s = c.args.self.now in
    let say = c.args.say.now in
    let h = g.J.Job.handed s.job in
    let job = c.opened-step.new.self in
    let new = c.follow.new.self in
    let text = c.in-Bytes.bytes in
    let fs : Trace = silent r.ask say ∷ es in
    let P : List ℕ → Type 0 = λ x. IsConfigText x c.in-Ok.config in
    let read = c.in-Ok.ensures.ok in
    let reads = subst P c.as_slice.ensures read.0 in
    let known : c.in-Ok.config.version ≤ known_under (g.J.Job.rule h) s.head.holder.who = search rules in
    session_as g.J.Job.rule h (g.J.Job.handed job) s.head.holder new.holder s.head.lock new.lock (g.J.Job.fresh job) (g.J.Job.knows job) (g.J.Job.wants job) new.line fs c.opened-step.ensures.handed c.follow.ensures.kept.holder c.follow.ensures.kept.lock
    (begins (g.J.Job.rule h) s.head.holder s.head.lock (g.J.Job.fresh s.job) (g.J.Job.knows s.job) (g.J.Job.wants s.job) s.head.line r es p f say (g.J.Job.fresh job) (g.J.Job.knows job) (g.J.Job.wants job) text c.in-Ok.config c.opened-step.result c.args.end s.head new refl refl
    q c.in-Bytes.is reads known c.follow.ensures.follows (λ fresh. c.opened-step.ensures.begins text fresh reads known))

pub returns-in_ok-end-in-Err-clause-taken : goal.returns-in_ok-end-in-Err-clause-taken
returns-in_ok-end-in-Err-clause-taken g c = λ r es p q ends f.
    let s = c.args.self.now in
    let say = c.args.say.now in
    let h = g.J.Job.handed s.job in
    let new = c.leave-in-Err.new.self in
    let end = c.in_ok-end-in-Err.end in
    let text = c.in-Bytes.bytes in
    let fs : Trace = silent r.ask say ∷ es in
    let versions = shared (g.J.Job.rule h).versions s.head.holder.who.versions in
    let known = known_under (g.J.Job.rule h) s.head.holder.who in
    let F : List ℕ → Type 0 = λ x. ConfigFault known x c.in-Err.error in
    let fault : ConfigFault known c.as_slice.result.now c.in-Err.error = search rules in
    let cause : CausedBy known Ask.Config say end = subst (λ z. CausedBy known Ask.Config z end) (sym c.in-Bytes.is) (c.in_ok-end-in-Err.ensures versions text (subst F c.as_slice.ensures fault)) in
    session_as g.J.Job.rule h h s.head.holder new.holder s.head.lock new.lock (g.J.Job.fresh s.job) (g.J.Job.knows s.job) (g.J.Job.wants s.job) new.line fs refl c.leave-in-Err.ensures.kept.holder c.leave-in-Err.ensures.kept.lock
    (config_left (g.J.Job.rule h) s.head.holder s.head.lock (g.J.Job.fresh s.job) (g.J.Job.knows s.job) (g.J.Job.wants s.job) s.head.line r es p f say (g.J.Job.fresh s.job) (g.J.Job.knows s.job) (g.J.Job.wants s.job) end s.head new refl refl q
    (subst (λ a. CausedBy known a say end) (sym q) cause) (bytes_live text say end c.in-Bytes.is) c.leave-in-Err.ensures.leaves)
