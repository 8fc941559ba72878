-- A session whose job is fed an item.
use Rattle.std.proofs.Common.{◌≡◌, ◌≢◌, ◌∷◌, [], ℕ, Bool, Option, Some, None, refl, sym, ap, subst, inl, inr, ◌∙◌}
use Rattle.repo_name.specs.declared.rows.LockRow.{LockRow}
use Rattle.repo_session.specs.Askers.{Holding}
use Rattle.repo_session.specs.Feeds.{Fed}
use Rattle.repo_session.specs.Askers.{Asker}
use Rattle.repo_session.specs.Ends.{MayFollow}
use Rattle.repo_session.specs.Jobs.{task_under, known_under, MayGoOn}
use Rattle.repo_session.specs.Lines.{IsSentOnLine, or_spent}
use Rattle.repo_session.specs.Obedience.{holds_whole}
use Rattle.repo_session.specs.Sessions.{SessionAt, SessionStands, FollowsStep}
use Rattle.repo_session.specs.Traces.{Each, Trace, feeding}
use Rattle.repo_session.specs.declared.jobs.Step.{Step}
use Rattle.repo_session.specs.declared.lines.Line.{Line}
use Rattle.repo_session.specs.declared.outcomes.End.{End}
use Rattle.repo_session.specs.declared.outcomes.Outcome.{Outcome}
use Rattle.repo_session.specs.declared.sessions.Head.{Head}
use Rattle.repo_session.proofs.Heeding.{follow_before}
use Rattle.repo_session.proofs.Holding.{holds_of}
use Rattle.repo_session.proofs.Sessioning.{wants_of, input_taken}
use Rattle.repo_wire.specs.declared.messages.Ask.{Ask}
use Rattle.repo_backup.specs.PieceRules.{PieceAllows, piece_rule}
use Rattle.repo_backup.proofs.FedOn.{fed_length, fed_obeys, fed_working}

-- an item leaves what was asked and said
fed_follow : (known : ℕ) (notes : Bool) (item : Fed) (es : Trace) → Each (MayFollow known notes) es → Each (MayFollow known notes) (feeding item es)
fed_follow known notes item [] all = tt
fed_follow known notes item (e ∷ es) all = all

module _ (holding : Holding) (lock : Option LockRow) (Fresh Fresh' : Type 0) (Knows Knows' : Ask → Trace → Type 0) (Wants Wants' : Trace → Type 0) where
  -- the item was taken, and the session follows the step that its job made of it
  pub fed_session : (step : Step) (end : End) (old new : Head) (item : Fed) (es : Trace) → old.holder ≡ holding → old.line.next ≡ None → old.line.outcome ≡ None
      → SessionAt piece_rule holding lock Fresh Knows Wants old.line es → MayGoOn piece_rule holding.who Knows' Wants' (feeding item es) step → FollowsStep old step end new
      → SessionAt piece_rule holding lock Fresh' Knows' Wants' new.line (feeding item es)
  fed_session step end old new item es is next none at may follows =
      let w = wants_of piece_rule holding lock Fresh Knows Wants old.line es next none at in
      let task = task_under piece_rule holding.who in
      let known = known_under piece_rule holding.who in
      let whole = holds_whole task holding.token es (holds_of task holding.token es w.working) in
      input_taken piece_rule holding lock Fresh' Knows' Wants' step end old new (feeding item es) is at.instance none (w.counted ∙ sym (fed_length item es))
      (fed_obeys task PieceAllows item es at.obeys) (fed_follow known piece_rule.notes item es (follow_before known piece_rule.notes old.line.outcome es none whole at.heeded))
      (fed_working task holding.token item es w.may.indexes.listed.complete w.working) may follows

  -- the item was refused, and the job knows what it knew
  pub refused_session : (old : Head) (es : Trace) → old.line.next ≡ None → old.line.outcome ≡ None → ((fs : Trace) → Wants fs → Wants' fs)
      → SessionAt piece_rule holding lock Fresh Knows Wants old.line es → SessionAt piece_rule holding lock Fresh' Knows' Wants' old.line es
  refused_session old es next none still at =
      let w = wants_of piece_rule holding lock Fresh Knows Wants old.line es next none at in
      record {
        instance = at.instance;
        obeys = at.obeys;
        heeded = at.heeded;
        stands = subst (λ n. SessionStands piece_rule holding lock Fresh' Knows' Wants' old.line n es) (sym next) (inr (record { working = w.working; none = none; counted = w.counted; may = w.may; knows = still es w.knows }));
      }

-- ---- where its job doesn't want input, something is pending or it has ended

spent_some : (o : Option Outcome) → or_spent o ≢ None
spent_some None e = absurd (cc)
spent_some (Some o) e = absurd (cc)

line_busy : (old : Line) (ask : Ask) (new : Line) → IsSentOnLine old ask new → new.next ≡ None → new.outcome ≡ None → ⊥
line_busy old ask new (inl is) next none = (let sent = ap (λ l. l.next) is in absurd (cc))
line_busy old ask new (inr is) next none = spent_some old.outcome (sym (ap (λ l. l.outcome) is.1) ∙ none)

pub step_busy : (who : Asker) (Knows : Ask → Trace → Type 0) (Wants : Trace → Type 0) (step : Step) (end : End) (old new : Head) (es : Trace) → step ≢ Step.Want → MayGoOn piece_rule who Knows Wants es step → FollowsStep old step end new
    → new.line.next ≡ None → new.line.outcome ≡ None → ⊥
step_busy who Knows Wants (Step.Ask ask) end old new es other may follows next none = line_busy old.line ask new.line follows next none
step_busy who Knows Wants (Step.Finish outcome) end old new es other may follows next none = line_busy (record { instance = old.line.instance; sequence = old.line.sequence; next = old.line.next; outcome = Some outcome }) (Ask.Unlock old.holder.token) new.line follows next none
step_busy who Knows Wants Step.Want end old new es other may follows next none = other refl
step_busy who Knows Wants Step.Away end old new es other may follows next none = may
