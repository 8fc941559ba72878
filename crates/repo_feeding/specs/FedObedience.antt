-- A backup that feeds itself is obedient.
use Rattle.std.specs.Prelude.{◌≡◌, ◌⊎◌, ◌+◌, ◌∷◌, [], ⊤, ℕ, Bool, false, List, Option, Some, None}
use Rattle.std.proofs.Common.{refl, sym, ap, subst, inl, inr, ◌∙◌}
use Rattle.repo_name.specs.declared.tokens.Token.{Token}
use Rattle.repo_wire.specs.declared.messages.Ask.{Ask}
use Rattle.repo_wire.specs.declared.messages.Request.{Request}
use Rattle.repo_wire.specs.declared.messages.Say.{Say}
use Rattle.repo_session.specs.Askers.{Asker}
use Rattle.repo_session.specs.Clients.{IsNextRequest, IsObedientBy, TellsToken}
use Rattle.repo_session.specs.Ends.{AreHeeded, Concludes, MayConclude, before_unlock, without_unlock}
use Rattle.repo_session.specs.Feeds.{Fed}
use Rattle.repo_session.specs.Order.{IsPermitted, May, Obeys}
use Rattle.repo_session.specs.Obedience.{obeys_at}
use Rattle.repo_session.specs.Sessions.{pending_line, token_beside, who_in, next_in, ended_in, token_in}
use Rattle.repo_session.specs.Tickets.{tells_at}
use Rattle.repo_session.specs.Traces.{Exchange, Trace}
use Rattle.repo_session.specs.Versions.{upto}
use Rattle.repo_session.specs.declared.outcomes.Outcome.{Outcome}
use Rattle.repo_backup.specs.Items.{at_root}
use Rattle.repo_backup.specs.PieceObedience.{pieces_obey, pieces_tell}
use Rattle.repo_backup.specs.PieceRules.{PieceAllows, PieceConcludes, piece_rule}
use Rattle.repo_backup.specs.PieceStates.{piece_task}
use Rattle.repo_feeding.specs.FedRules.{IsAsTold, IsOnTheWay, IsFedLate, IsFedSo, FedAllows, FedConcludes, fed_rule}
use Rattle.repo_feeding.specs.FedStates.{Feeder, job_of, IsFedRight, AreFedRight, FitsFed, IsAhead, StandsFed, next_of, ended_of, token_of}
use Rattle.repo_feeding.specs.Sources.{whole_of}
use Rattle.repo_feeding.specs.Unfed.{unfed}
use Rattle.repo_feeding.specs.Unseen.{unfed_length, exchanged_so, so_exchanged, may_so, so_holds, before_so, spent_so, cause_so, heeded_so}

-- before anything was fed nothing ended
pub told_first : (whole : Option (List Fed)) → IsAsTold whole at_root
told_first None = tt
told_first (Some whole) = λ over. absurd (cc)

pub way_first : (whole : Option (List Fed)) → IsOnTheWay whole at_root
way_first None = tt
way_first (Some whole) = (whole, ([], refl, tt, refl))

-- what was fed so far is the source's
pub right_at : (whole : Option (List Fed)) (gave : Bool) (fs : Trace) → AreFedRight whole gave fs → IsFedRight whole gave fs
right_at whole gave [] right = record { welcome = tt; late = tt; so_far = λ kept. way_first whole; told = told_first whole; reason = λ gone. absurd gone }
right_at whole gave (e ∷ fs) right = right.0

module _ (who : Asker) (whole : Option (List Fed)) (gave : Bool) where
  -- a backup that is fed obeys, as others see it, the rule of one that feeds itself
  so_fed : (fs : Trace) → AreFedRight whole gave fs → Obeys (piece_task who) PieceAllows (λ before e. ⊥) fs → IsFedSo who whole (unfed fs) fs
  so_fed fs right h = let top = right_at whole gave fs right in record { same = refl; obeys = h; welcome = top.welcome; late = top.late; so_far = top.so_far; told = top.told }

  permitted_so : (fs : Trace) (ask : Ask) → AreFedRight whole gave fs → Obeys (piece_task who) PieceAllows (λ before e. ⊥) fs → May (piece_task who) fs ask → IsPermitted PieceAllows fs ask → IsPermitted (FedAllows who whole) (unfed fs) ask
  permitted_so fs ask right h in_order may work = (fs, so_fed fs right h, in_order, may work)

  pub obeys_so : (fs : Trace) → AreFedRight whole gave fs → Obeys (piece_task who) PieceAllows (λ before e. ⊥) fs → Obeys (piece_task who) (FedAllows who whole) (λ before e. ⊥) (unfed fs)
  obeys_so [] right h = h
  obeys_so (e ∷ fs) right h = (may_so (piece_task who) fs e.ask h.0, permitted_so fs e.ask right.1 h.3 h.0 h.1, inl (silent_so h.2), obeys_so fs right.1 h.3)
    where
      silent_so : (e.emitted ≡ []) ⊎ ⊥ → e.emitted ≡ []
      silent_so (inl none) = none
      silent_so (inr given) = absurd given

  next_so : (fs : Trace) (request : Request) → AreFedRight whole gave fs → Obeys (piece_task who) PieceAllows (λ before e. ⊥) fs → IsNextRequest (piece_task who) PieceAllows fs request → IsNextRequest (piece_task who) (FedAllows who whole) (unfed fs) request
  next_so fs request right h n = record {
    instance = n.instance;
    sequence = n.sequence ∙ ap (λ l. l + 1) (sym (unfed_length fs));
    may = may_so (piece_task who) fs request.ask n.may;
    permitted = permitted_so fs request.ask right h n.may n.permitted;
  }

  -- ---- how it may end

  older_obeys : (ask : Ask) (e : Exchange) (fs : Trace) → Obeys (piece_task who) PieceAllows (λ before e. ⊥) (e ∷ fs) → Obeys (piece_task who) PieceAllows (λ before e. ⊥) (without_unlock ask (e ∷ fs) fs)
  older_obeys (Ask.Unlock token) e fs h = h.3
  older_obeys Ask.Ticket e fs h = h
  older_obeys (Ask.Lock row) e fs h = h
  older_obeys (Ask.Refresh token time) e fs h = h
  older_obeys Ask.Locks e fs h = h
  older_obeys (Ask.List k after) e fs h = h
  older_obeys (Ask.Get k n) e fs h = h
  older_obeys (Ask.Range pack offset len) e fs h = h
  older_obeys (Ask.Put token k n x) e fs h = h
  older_obeys (Ask.Delete token k n) e fs h = h
  older_obeys Ask.Config e fs h = h
  older_obeys (Ask.Upgrade token) e fs h = h

  older_right : (ask : Ask) (e : Exchange) (fs : Trace) → AreFedRight whole gave (e ∷ fs) → AreFedRight whole gave (without_unlock ask (e ∷ fs) fs)
  older_right (Ask.Unlock token) e fs h = h.1
  older_right Ask.Ticket e fs h = h
  older_right (Ask.Lock row) e fs h = h
  older_right (Ask.Refresh token time) e fs h = h
  older_right Ask.Locks e fs h = h
  older_right (Ask.List k after) e fs h = h
  older_right (Ask.Get k n) e fs h = h
  older_right (Ask.Range pack offset len) e fs h = h
  older_right (Ask.Put token k n x) e fs h = h
  older_right (Ask.Delete token k n) e fs h = h
  older_right Ask.Config e fs h = h
  older_right (Ask.Upgrade token) e fs h = h

  pub before_right : (fs : Trace) → AreFedRight whole gave fs → AreFedRight whole gave (before_unlock fs)
  before_right [] h = h
  before_right (e ∷ fs) h = older_right e.ask e fs h

  before_obeys : (fs : Trace) → Obeys (piece_task who) PieceAllows (λ before e. ⊥) fs → Obeys (piece_task who) PieceAllows (λ before e. ⊥) (before_unlock fs)
  before_obeys [] h = h
  before_obeys (e ∷ fs) h = older_obeys e.ask e fs h

  -- over exchanges that end before the unlock
  concludes_so : (known : ℕ) (fs : Trace) (outcome : Outcome) → AreFedRight whole gave fs → Obeys (piece_task who) PieceAllows (λ before e. ⊥) fs → Concludes known PieceConcludes fs outcome → Concludes known (FedConcludes who whole) (unfed fs) outcome
  concludes_so known fs (Outcome.Ended end) right h (inl cause) = inl (cause_so known fs end cause)
  concludes_so known fs (Outcome.Ended end) right h (inr own) = inr (fs, so_fed fs right h, own)
  concludes_so known fs (Outcome.Stored name blobs bytes) right h own = (fs, so_fed fs right h, own)
  concludes_so known fs (Outcome.Complete entries) right h own = (fs, so_fed fs right h, own)
  concludes_so known fs (Outcome.Listed snapshots) right h own = (fs, so_fed fs right h, own)
  concludes_so known fs (Outcome.Forgotten names) right h own = (fs, so_fed fs right h, own)
  concludes_so known fs (Outcome.Pruned packs bytes) right h own = (fs, so_fed fs right h, own)
  concludes_so known fs (Outcome.Clean snapshots indexes packs blobs) right h own = (fs, so_fed fs right h, own)
  concludes_so known fs (Outcome.Faults faults) right h own = (fs, so_fed fs right h, own)
  concludes_so known fs Outcome.Upgraded right h own = (fs, so_fed fs right h, own)

  may_conclude_so : (fs : Trace) (outcome : Outcome) → AreFedRight whole gave fs → Obeys (piece_task who) PieceAllows (λ before e. ⊥) fs → MayConclude (upto (piece_task who).versions) false PieceConcludes (before_unlock fs) outcome
      → MayConclude (upto (piece_task who).versions) false (FedConcludes who whole) (before_unlock (unfed fs)) outcome
  may_conclude_so fs outcome right h may =
      subst (λ es. Concludes (upto (piece_task who).versions) (FedConcludes who whole) es outcome) (sym (before_so fs)) (concludes_so (upto (piece_task who).versions) (before_unlock fs) outcome (before_right fs right) (before_obeys fs h) may)

  -- ---- where it stands

  obedient_so : (next : Option Request) (outcome : Option Outcome) (fs : Trace) → IsFedLate fs → AreFedRight whole gave fs → ¬ ((next ≡ None) × (outcome ≡ None))
      → IsObedientBy piece_rule who next outcome fs → IsObedientBy (fed_rule who whole) who next outcome (unfed fs)
  obedient_so next outcome fs late right full h = record {
    obeys = obeys_so fs right h.obeys;
    pending = λ request is. next_so fs request right h.obeys (h.pending request is);
    settled = λ none no. full (none, no);
    concluded = λ o is. may_conclude_so fs o right h.obeys (h.concluded o is);
    released = λ none is token holds. spent_so fs (h.released none is token (so_holds (piece_task who) token fs late holds));
    heeded = subst (λ es. AreHeeded (upto (piece_task who).versions) false outcome es) (sym (before_so fs)) (heeded_so (upto (piece_task who).versions) false outcome (before_unlock fs) h.heeded);
    beside = h.beside;
    ending = h.ending;
  }

pub fed_obeys : (f : Feeder) (es : Trace) → FitsFed f es
    → IsObedientBy (fed_rule (job_of f).who (job_of f).whole) (job_of f).who (next_in f.backup.session) (ended_in f.backup.session) es
fed_obeys f es fits =
    let b = f.backup in
    let who = who_in b.session in
    let whole = whole_of f.told in
    let P : Trace → Type 0 = λ fs. IsObedientBy (fed_rule who whole) who (next_in b.session) (ended_in b.session) fs in
    let u = fits.upto.fed in
    subst P u.same (obedient_so who whole f.gave (next_in b.session) (ended_in b.session) fits.fs (right_at whole f.gave fits.fs u.right).late u.right fits.full (pieces_obey b fits.fs u.at))

-- as a client
ahead_obeys : (f : Feeder) (request : Request) (es : Trace) → IsAhead f request es → IsObedientBy (fed_rule (job_of f).who (job_of f).whole) (job_of f).who (Some request) None es
ahead_obeys f request es h =
    let holding = f.backup.session.head.holder in
    let whole = whole_of f.told in
    let P : Trace → Type 0 = λ fs. IsObedientBy (fed_rule holding.who whole) holding.who (Some request) None fs in
    subst P h.same (obedient_so holding.who whole false (Some request) None h.fs (right_at whole false h.fs h.right).late h.right (λ both. let some = both.0 in absurd (cc))
    (obeys_at piece_rule holding None ⊤ (λ ask fs. ⊤) (λ fs. ⊥) (pending_line holding request) h.fs (h.awaited.at None)))

pub stands_obeys : (f : Feeder) (awaited : Option Request) (es : Trace) → StandsFed f awaited es
    → IsObedientBy (fed_rule (job_of f).who (job_of f).whole) (job_of f).who (next_of f.backup awaited) (ended_of f.backup awaited) es
stands_obeys f None es h = fed_obeys f es h
stands_obeys f (Some request) es h = ahead_obeys f request es h

-- the token of its ticket is the one that it tells
told_so : (token : Option Token) (outcome : Option Outcome) (fs : Trace) → TellsToken token outcome fs → TellsToken token outcome (unfed fs)
told_so token outcome fs told = record {
  given = λ one is. exchanged_so fs Ask.Ticket (Say.Token one) (told.given one is);
  tells = λ one none is. told.tells one none (so_exchanged fs Ask.Ticket (Say.Token one) is);
}

pub fed_tells : (f : Feeder) (es : Trace) → FitsFed f es → TellsToken (token_in f.backup.session) (ended_in f.backup.session) es
fed_tells f es fits =
    let b = f.backup in
    let u = fits.upto.fed in
    let told = pieces_tell b fits.fs u.at in
    let P : Trace → Type 0 = λ fs. TellsToken (token_in b.session) (ended_in b.session) fs in
    subst P u.same (told_so (token_in b.session) (ended_in b.session) fits.fs told)

ahead_tells : (f : Feeder) (request : Request) (es : Trace) → IsAhead f request es → TellsToken (token_of f.backup (Some request)) None es
ahead_tells f request es h =
    let holding = f.backup.session.head.holder in
    let put = h.awaited.put in
    let at = tells_at piece_rule holding None ⊤ (λ ask fs. ⊤) (λ fs. ⊥) (pending_line holding request) h.fs (h.awaited.at None) in
    let told : TellsToken (Some holding.token) None h.fs = subst (λ a. TellsToken (token_beside holding.token a) None h.fs) put.4 at in
    let P : Trace → Type 0 = λ fs. TellsToken (Some holding.token) None fs in
    subst P h.same (told_so (Some holding.token) None h.fs told)

pub stands_tells : (f : Feeder) (awaited : Option Request) (es : Trace) → StandsFed f awaited es → TellsToken (token_of f.backup awaited) (ended_of f.backup awaited) es
stands_tells f None es h = fed_tells f es h
stands_tells f (Some request) es h = ahead_tells f request es h
