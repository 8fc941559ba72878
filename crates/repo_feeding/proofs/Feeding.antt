-- A backup that feeds itself goes on, item by item.
use Rattle.std.specs.Prelude.{◌++◌, ⊤, IsSome, is_some}
use Rattle.std.proofs.Common.{arith, ◌≡◌, ◌≢◌, ◌≤◌, ◌+◌, ◌∷◌, ◌⊎◌, [], ℕ, Bool, true, false, List, length, take, drop, Option, Some, None, refl, sym, ap, subst, inl, inr, length-append, ◌∙◌}
use Rattle.std.proofs.lemmas.Option.{same_Some}
use Rattle.repo_name.specs.declared.kinds.Kind.{Kind}
use Rattle.repo_name.specs.declared.tokens.Token.{Token}
use Rattle.repo_wire.specs.declared.messages.Ask.{Ask}
use Rattle.repo_wire.specs.declared.messages.Request.{Request}
use Rattle.repo_wire.specs.declared.messages.Say.{Say}
use Rattle.repo_session.specs.Ends.{AreHeeded, IsCause, before_unlock}
use Rattle.repo_session.specs.Feeds.{Fed, fed_dir, fed_file, fed_bytes, fed_close, fed_end, fed_abandon}
use Rattle.repo_session.specs.Order.{Task, locked, opened, IsNoUnlock, IsUnlock, IsWork, IsWorking, Obeys}
use Rattle.repo_session.specs.Askers.{Asker, Holding}
use Rattle.repo_name.specs.declared.names.Name.{Name}
use Rattle.repo_session.specs.Sessions.{IsAwaited, IsPut, who_in, next_in, ended_in, token_in, token_told, token_beside}
use Rattle.repo_session.specs.Traces.{Each, Exchange, Trace, Exchanged, giving, silent, fed_in, feeding}
use Rattle.repo_session.specs.Versions.{upto}
use Rattle.repo_session.specs.declared.emissions.Emission.{Emission}
use Rattle.repo_session.specs.declared.outcomes.End.{End}
use Rattle.repo_session.specs.declared.outcomes.Outcome.{Outcome}
use Rattle.repo_session.proofs.Sessioning.{put_unwelcome, wants_of}
use Rattle.repo_backup.specs.declared.items.Item.{Item}
use Rattle.repo_feeding.specs.inner.Rooms.{Fills, IsItemOf, IsLessBy}
use Rattle.repo_feeding.specs.declared.reasons.GivenUp.{GivenUp}
use Rattle.repo_feeding.specs.declared.sources.Found.{Found}
use Rattle.repo_backup.specs.Items.{fed_of, fed_part, size_of, NobodyGaveUp, MayTake, Place, after, at_root, place_of}
use Rattle.repo_backup.specs.PieceBackups.{PieceKnows, PieceWants, IsFreshPieces, FitsPieces, IsHungry, PieceAwaits, PieceSupposes}
use Rattle.repo_backup.specs.PieceObedience.{pieces_obey}
use Rattle.repo_backup.specs.PieceRules.{PieceAllows, PieceConcludes, WantsInput, WasGivenUp, piece_rule}
use Rattle.repo_backup.specs.PieceStates.{IsListedOrGot, piece_task}
use Rattle.repo_backup.specs.declared.piece_backups.PieceBackup.{PieceBackup}
use Rattle.repo_feeding.specs.FedObedience.{right_at, before_right}
use Rattle.repo_feeding.specs.FedRules.{IsAsTold, IsOnTheWay, IsFedLate, AreWelcome}
use Rattle.repo_feeding.specs.FedStates.{Feeder, held_of, FeedsOn, IsFedRight, AreFedRight, HasCome, IsFed, IsWell, IsFedUpto, FitsFed, IsAhead, StandsFed, next_of, ended_of, token_of}
use Rattle.repo_feeding.specs.Reasons.{IsNextItem, HasReason}
use Rattle.repo_feeding.specs.Sources.{Told, whole_of, fed_found, IsSound, IsUntouched, Comes}
use Rattle.repo_feeding.specs.Unfed.{unfed}
use Rattle.repo_feeding.specs.Unseen.{unfed_length}
use Rattle.repo_feeding.proofs.Among.{before_exchanged}
use Rattle.repo_feeding.proofs.Places.{IsClear, IsWhole, not_over, on_the_way, over_more, clear_of, come_clear, come_part, comes_whole, comes_on, comes_told, comes_waiting, comes_next, next_part, fresh_on, less_first}

-- a backup, what its source was told, what waits, whether it was given up, and the cause of that
abbrev pub standing : PieceBackup → Option Told → List ℕ → Bool → (Place → Type 0) → Feeder
standing backup told rest gave cause = record { backup = backup; told = told; rest = rest; gave = gave; cause = cause }

-- ---- where a backup wants input

working_long : (task : Task) (token : Token) (es : Trace) → IsWorking task token es → 3 ≤ length es
working_long task token es (config, h) = omega (arith, ap length h.since, length-append h.later (opened task token h.text))

-- the newest exchange didn't end the lock
abbrev pub HasNotEnded : Trace → Type 0
HasNotEnded [] = ⊤
HasNotEnded (e ∷ es) = ¬ IsUnlock e.ask

no_unlock : (ask : Ask) → ((token : Token) → ask ≢ Ask.Unlock token) → ¬ IsUnlock ask
no_unlock (Ask.Unlock token) none unlock = none token refl
no_unlock Ask.Ticket none unlock = unlock
no_unlock (Ask.Lock row) none unlock = unlock
no_unlock (Ask.Refresh token time) none unlock = unlock
no_unlock Ask.Locks none unlock = unlock
no_unlock (Ask.List k after) none unlock = unlock
no_unlock (Ask.Get k n) none unlock = unlock
no_unlock (Ask.Range pack offset len) none unlock = unlock
no_unlock (Ask.Put token k n x) none unlock = unlock
no_unlock (Ask.Delete token k n) none unlock = unlock
no_unlock Ask.Config none unlock = unlock
no_unlock (Ask.Upgrade token) none unlock = unlock

-- one that goes on, behind some others, isn't its end
open_so : (later older : Trace) (e : Exchange) → ¬ IsUnlock e.ask → Each IsNoUnlock later → HasNotEnded (later ++ e ∷ older)
open_so [] older e none h = none
open_so (x ∷ later) older e none h = no_unlock x.ask h.0

working_open : (task : Task) (token : Token) (es : Trace) → IsWorking task token es → HasNotEnded es
working_open task token es (config, h) =
    subst HasNotEnded (sym h.since) (open_so h.later (locked task token) (silent Ask.Config (Say.Bytes h.text)) (λ unlock. unlock) h.held.unended)

module _ (b : PieceBackup) (fs : Trace) (hungry : IsHungry b) (fits : FitsPieces b fs) where
  pub hungry_wants : WantsInput fs
  hungry_wants = (pieces_obey b fs fits).settled hungry.0 hungry.1

  pub hungry_open : HasNotEnded fs
  hungry_open =
      let s = b.session in
      let w = wants_of piece_rule s.head.holder s.head.lock (IsFreshPieces s.job) (PieceKnows s.job) (PieceWants s.job) s.head.line fs hungry.0 hungry.1 fits in
      working_open (piece_task s.head.holder.who) s.head.holder.token fs w.working

  pub hungry_long : 3 ≤ length fs
  hungry_long =
      let s = b.session in
      let w = wants_of piece_rule s.head.holder s.head.lock (IsFreshPieces s.job) (PieceKnows s.job) (PieceWants s.job) s.head.line fs hungry.0 hungry.1 fits in
      working_long (piece_task s.head.holder.who) s.head.holder.token fs w.working

-- before anything was said it wants none
pub full_first : (b : PieceBackup) → FitsPieces b [] → ¬ IsHungry b
full_first b fits hungry = let complete = (hungry_wants b [] hungry fits).indexes.listed.complete in absurd (cc)

-- once somebody gave up it wants none
pub full_gone : (b : PieceBackup) (fs : Trace) → 3 ≤ length fs → FitsPieces b (feeding fed_abandon fs) → ¬ IsHungry b
full_gone b [] long fits hungry = absurd (omega (arith, long))
full_gone b (e ∷ fs) long fits hungry = (hungry_wants b (feeding fed_abandon (e ∷ fs)) hungry fits).kept

-- ---- what was fed

unfed_fed : (item : Fed) (fs : Trace) → unfed (feeding item fs) ≡ unfed fs
unfed_fed item [] = refl
unfed_fed item (e ∷ fs) = refl

late_fed : (item : Fed) (fs : Trace) → 3 ≤ length fs → IsFedLate fs → IsFedLate (feeding item fs)
late_fed item [] long late = late
late_fed item (e ∷ fs) long late = (λ some. omega (arith, long), late.1)

-- an item that is wanted, and may be taken, is welcome
welcome_fed : (item : Fed) (fs : Trace) → 3 ≤ length fs → HasNotEnded fs → WantsInput fs → MayTake (place_of (fed_in fs)) item → AreWelcome fs → AreWelcome (feeding item fs)
welcome_fed item [] long open_still wants may h = absurd (omega (arith, long))
welcome_fed item (e ∷ fs) long open_still wants may h = ((open_still, wants, may, h.0), h.1)

right_fed : (whole : Option (List Fed)) (gave : Bool) (item : Fed) (fs : Trace) → AreFedRight whole gave fs → IsFedRight whole gave (feeding item fs) → AreFedRight whole gave (feeding item fs)
right_fed whole gave item [] h top = tt
right_fed whole gave item (e ∷ fs) h top = (top, h.1)

-- a reason stays
right_kept : (whole : Option (List Fed)) (gave : Bool) (fs : Trace) → AreFedRight whole gave fs → AreFedRight whole true fs
right_kept whole gave [] h = tt
right_kept whole gave (e ∷ fs) h = (record { welcome = h.0.welcome; late = h.0.late; so_far = h.0.so_far; told = h.0.told; reason = λ gone. refl }, right_kept whole gave fs h.1)

fed_place : (item : Fed) (fs : Trace) → 3 ≤ length fs → place_of (fed_in (feeding item fs)) ≡ after (place_of (fed_in fs)) item
fed_place item [] long = absurd (omega (arith, long))
fed_place item (e ∷ fs) long = refl

-- either nobody gave up or somebody did
nobody_gone : (items : List Fed) → NobodyGaveUp items → ¬ WasGivenUp items
nobody_gone [] kept gone = gone
nobody_gone (fed_dir name ∷ items) kept gone = gone
nobody_gone (fed_file name ∷ items) kept gone = gone
nobody_gone (fed_bytes bytes ∷ items) kept gone = gone
nobody_gone (fed_close ∷ items) kept gone = gone
nobody_gone (fed_end ∷ items) kept gone = gone
nobody_gone (fed_abandon ∷ items) kept gone = kept

-- nobody gives up by this item
abbrev pub GoesOn : Fed → Type 0
GoesOn item = (items : List Fed) → ¬ WasGivenUp (item ∷ items)

still_kept : (item : Fed) (fs : Trace) → 3 ≤ length fs → GoesOn item → ¬ WasGivenUp (fed_in (feeding item fs))
still_kept item [] long on gone = absurd (omega (arith, long))
still_kept item (e ∷ fs) long on gone = on (fed_in (e ∷ fs)) gone

-- ---- one item more

module _ (f : Feeder) (new : PieceBackup) (es fs : Trace) (hungry : IsHungry f.backup) (fed : IsFed f es fs) where
  -- one by which nobody gives up
  fed_more : (item : Fed) (told : Option Told) (rest : List ℕ) (cause : Place → Type 0) → MayTake (place_of (fed_in fs)) item → GoesOn item → whole_of told ≡ whole_of f.told → FitsPieces new (feeding item fs)
      → IsAsTold (whole_of told) (after (place_of (fed_in fs)) item) → HasCome told (after (place_of (fed_in fs)) item) rest → ((p : Place) → cause p)
      → IsFedUpto (standing new told rest f.gave cause) es (feeding item fs)
  fed_more item told rest cause may on same fits right come caused =
      let long = hungry_long f.backup fs hungry fed.at in
      let wants = hungry_wants f.backup fs hungry fed.at in
      let place = fed_place item fs long in
      record {
        fed = record {
          same = unfed_fed item fs ∙ fed.same;
          at = fits;
          right = right_fed (whole_of told) f.gave item fs (subst (λ whole. AreFedRight whole f.gave fs) (sym same) fed.right)
              (record {
                welcome = welcome_fed item fs long (hungry_open f.backup fs hungry fed.at) wants may (right_at (whole_of f.told) f.gave fs fed.right).welcome;
                late = late_fed item fs long (right_at (whole_of f.told) f.gave fs fed.right).late;
                so_far = λ kept. subst (λ p. IsOnTheWay (whole_of told) p) (sym place) (on_the_way told (after (place_of (fed_in fs)) item) rest come);
                told = subst (λ p. IsAsTold (whole_of told) p) (sym place) right;
                reason = λ gone. absurd (still_kept item fs long on gone);
              });
          gone = λ gave. absurd (nobody_gone (fed_in fs) wants.kept (fed.gone gave).0);
        };
        come = λ unended kept. subst (λ p. HasCome told p rest) (sym place) come;
        caused = λ why. caused (place_of (fed_in (feeding item fs)));
      }

  -- one by which somebody does
  pub fed_up : (cause : Place → Type 0) → cause (place_of (fed_in fs)) → FitsPieces new (feeding fed_abandon fs) → FitsFed (standing new f.told f.rest true cause) es
  fed_up cause caused fits =
      let long = hungry_long f.backup fs hungry fed.at in
      let wants = hungry_wants f.backup fs hungry fed.at in
      let place = fed_place fed_abandon fs long in
      record {
        fs = feeding fed_abandon fs;
        upto = record {
          fed = record {
            same = unfed_fed fed_abandon fs ∙ fed.same;
            at = fits;
            right = right_fed (whole_of f.told) true fed_abandon fs (right_kept (whole_of f.told) f.gave fs fed.right)
                (record {
                  welcome = welcome_fed fed_abandon fs long (hungry_open f.backup fs hungry fed.at) wants tt (right_at (whole_of f.told) f.gave fs fed.right).welcome;
                  late = late_fed fed_abandon fs long (right_at (whole_of f.told) f.gave fs fed.right).late;
                  so_far = λ kept. absurd (gone_up fs long kept);
                  told = subst (λ p. IsAsTold (whole_of f.told) p) (sym place) (not_over (whole_of f.told) (place_of (fed_in fs)) wants.goes_on);
                  reason = λ gone. refl;
                });
            gone = λ gave. (abandoned fs long, ap (λ (p : Place). p.over) place ∙ wants.goes_on);
          };
          come = λ unended kept. absurd (gone_up fs long kept);
          caused = λ why. subst cause (sym place) caused;
        };
        full = full_gone new fs long fits;
      }
    where
      abandoned : (fs : Trace) → 3 ≤ length fs → WasGivenUp (fed_in (feeding fed_abandon fs))
      abandoned [] long = absurd (omega (arith, long))
      abandoned (e ∷ fs) long = tt

      gone_up : (fs : Trace) → 3 ≤ length fs → ¬ NobodyGaveUp (fed_in (feeding fed_abandon fs))
      gone_up [] long kept = absurd (omega (arith, long))
      gone_up (e ∷ fs) long kept = kept

module _ (f : Feeder) (new : PieceBackup) (es fs : Trace) (hungry : IsHungry f.backup) (upto : IsFedUpto f es fs) where
  -- some first bytes of those that wait
  pub fed_part_of : (n : ℕ) (cause : Place → Type 0) → f.rest ≢ [] → MayTake (place_of (fed_in fs)) (fed_bytes (take n f.rest)) → ((p : Place) → cause p) → FitsPieces new (feeding (fed_bytes (take n f.rest)) fs)
      → IsFedUpto (standing new f.told (drop n f.rest) f.gave cause) es (feeding (fed_bytes (take n f.rest)) fs)
  fed_part_of n cause some may caused fits =
      let wants = hungry_wants f.backup fs hungry upto.fed.at in
      let p = place_of (fed_in fs) in
      fed_more f new es fs hungry upto.fed (fed_bytes (take n f.rest)) f.told (drop n f.rest) cause may (λ items gone. gone) refl fits
      (not_over (whole_of f.told) (after p (fed_bytes (take n f.rest))) wants.goes_on) (come_part f.told p f.rest n some may (upto.come (inl hungry.1) wants.kept)) caused

  -- what came, where nothing waits
  pub fed_found_item : (item : Fed) (told : Option Told) (cause : Place → Type 0) → MayTake (place_of (fed_in fs)) item → f.rest ≡ [] → GoesOn item → Comes f.told (Some item) told → ((p : Place) → cause p) → FitsPieces new (feeding item fs)
      → IsFedUpto (standing new told [] f.gave cause) es (feeding item fs)
  fed_found_item item told cause may none on comes caused fits =
      let wants = hungry_wants f.backup fs hungry upto.fed.at in
      let p = place_of (fed_in fs) in
      let here = clear_of f.told p f.rest none (upto.come (inl hungry.1) wants.kept) in
      let next = comes_on f.told item told p wants.goes_on may comes here in
      fed_more f new es fs hungry upto.fed item told [] cause may on (comes_whole f.told (Some item) told comes) fits
      (comes_told f.told item told p wants.goes_on comes here next) (come_clear told (after p item) next) caused

  -- what came comes next, where nothing waits
  pub found_next : (item : Fed) (told : Option Told) → f.rest ≡ [] → Comes f.told (Some item) told → IsNextItem (whole_of told) (place_of (fed_in fs)) item
  found_next item told none comes =
      let wants = hungry_wants f.backup fs hungry upto.fed.at in
      comes_next f.told item told (place_of (fed_in fs)) wants.goes_on comes (clear_of f.told (place_of (fed_in fs)) f.rest none (upto.come (inl hungry.1) wants.kept))

  -- the bytes that wait do
  pub rest_next : f.rest ≢ [] → IsNextItem (whole_of f.told) (place_of (fed_in fs)) (fed_bytes f.rest)
  rest_next some = let wants = hungry_wants f.backup fs hungry upto.fed.at in next_part f.told (place_of (fed_in fs)) f.rest some (upto.come (inl hungry.1) wants.kept)

  -- nothing waits, and all that came was fed
  pub hungry_clear : f.rest ≡ [] → IsClear f.told (place_of (fed_in fs))
  hungry_clear none = let wants = hungry_wants f.backup fs hungry upto.fed.at in clear_of f.told (place_of (fed_in fs)) f.rest none (upto.come (inl hungry.1) wants.kept)

  -- no more is to come, and waits, than the source was made to give
  pub hungry_less : IsLessBy 0 f.told f.rest
  hungry_less = let wants = hungry_wants f.backup fs hungry upto.fed.at in less_first f.told (place_of (fed_in fs)) f.rest (upto.come (inl hungry.1) wants.kept)

-- bytes came, where nothing waits
pub bytes_found : (f : Feeder) (es fs : Trace) (bytes : List ℕ) (told : Option Told) (cause : Place → Type 0) → IsHungry f.backup → f.rest ≡ [] → bytes ≢ [] → Comes f.told (Some (fed_bytes bytes)) told → ((p : Place) → cause p) → IsFedUpto f es fs
    → IsFedUpto (standing f.backup told bytes f.gave cause) es fs
bytes_found f es fs bytes told cause hungry none some comes caused upto =
    let goes = (hungry_wants f.backup fs hungry upto.fed.at).goes_on in
    let p = place_of (fed_in fs) in
    let same = comes_whole f.told (Some (fed_bytes bytes)) told comes in
    record {
      fed = record { same = upto.fed.same; at = upto.fed.at; right = subst (λ whole. AreFedRight whole f.gave fs) (sym same) upto.fed.right; gone = upto.fed.gone };
      come = λ unended kept. comes_waiting f.told bytes told p goes some comes (clear_of f.told p f.rest none (upto.come unended kept));
      caused = λ why. caused p;
    }

-- nothing was fed, and what came is lost
pub fed_none : (f : Feeder) (new : PieceBackup) (es fs : Trace) (told : Option Told) (rest : List ℕ) (cause : Place → Type 0) → whole_of told ≡ whole_of f.told → FitsPieces new fs → IsFed f es fs
    → IsFed (standing new told rest f.gave cause) es fs
fed_none f new es fs told rest cause same fits fed = record { same = fed.same; at = fits; right = subst (λ whole. AreFedRight whole f.gave fs) (sym same) fed.right; gone = fed.gone }

-- nothing was fed, and what came waits
pub still_found : (f : Feeder) (new : PieceBackup) (es fs : Trace) (told : Option Told) (rest : List ℕ) (cause : Place → Type 0) → told ≡ f.told → rest ≡ f.rest → ((p : Place) → cause p) → FitsPieces new fs → ended_in new.session ≡ ended_in f.backup.session → IsFedUpto f es fs
    → IsFedUpto (standing new told rest f.gave cause) es fs
still_found f new es fs told rest cause same waits caused fits ended upto = record {
  fed = fed_none f new es fs told rest cause (ap whole_of same) fits upto.fed;
  come = λ well kept. subst (λ o. HasCome o (place_of (fed_in fs)) rest) (sym same) (subst (λ bytes. HasCome f.told (place_of (fed_in fs)) bytes) (sym waits) (upto.come (subst (λ o. IsWell o) ended well) kept));
  caused = λ why. caused (place_of (fed_in fs));
}

-- ---- one exchange more

right_next : (whole : Option (List Fed)) (gave : Bool) (ask : Ask) (say : Say) (emitted : List Emission) (fs : Trace) → AreFedRight whole gave fs → AreFedRight whole gave (giving ask say emitted ∷ fs)
right_next whole gave ask say emitted fs h = let top = right_at whole gave fs h in (record { welcome = (tt, top.welcome); late = (λ some. absurd (some refl), top.late); so_far = top.so_far; told = top.told; reason = top.reason }, h)

pub taken_on : (f : Feeder) (new : PieceBackup) (es fs : Trace) (ask : Ask) (say : Say) (emitted : List Emission) → (IsWell (ended_in new.session) → IsWell (ended_in f.backup.session)) → FitsPieces new (giving ask say emitted ∷ fs) → IsFedUpto f es fs
    → IsFedUpto (standing new f.told f.rest f.gave f.cause) (giving ask say emitted ∷ es) (giving ask say emitted ∷ fs)
taken_on f new es fs ask say emitted back fits upto = record {
  fed = record {
    same = ap (λ xs. giving ask say emitted ∷ xs) upto.fed.same;
    at = fits;
    right = right_next (whole_of f.told) f.gave ask say emitted fs upto.fed.right;
    gone = upto.fed.gone;
  };
  come = λ well. upto.come (back well);
  caused = λ why. upto.caused (elim why [ inl gave ↦ inl gave | inr well ↦ inr (back well) ]);
}

-- it stands as before, though its backup may hold other things inside
pub upto_still : (f : Feeder) (new : PieceBackup) (es fs : Trace) → FitsPieces new fs → ended_in new.session ≡ ended_in f.backup.session → IsFedUpto f es fs → IsFedUpto (standing new f.told f.rest f.gave f.cause) es fs
upto_still f new es fs fits ended upto = record {
  fed = fed_none f new es fs f.told f.rest f.cause refl fits upto.fed;
  come = λ well. upto.come (subst (λ o. IsWell o) ended well);
  caused = λ why. upto.caused (elim why [ inl gave ↦ inl gave | inr well ↦ inr (subst (λ o. IsWell o) ended well) ]);
}

pub fits_still : (f : Feeder) (new : PieceBackup) (es : Trace) → ((fs : Trace) → FitsPieces f.backup fs → FitsPieces new fs) → next_in new.session ≡ next_in f.backup.session → ended_in new.session ≡ ended_in f.backup.session → FitsFed f es
    → FitsFed (standing new f.told f.rest f.gave f.cause) es
fits_still f new es fits next ended h = record {
  fs = h.fs;
  upto = upto_still f new es h.fs (fits h.fs h.upto.fed.at) ended h.upto;
  full = λ hungry. h.full (sym next ∙ hungry.0, sym ended ∙ hungry.1);
}

-- ---- the beginning, and the end

pub fits_first : (b : PieceBackup) (told : Option Told) (cause : Place → Type 0) → FitsPieces b [] → IsUntouched told → ((p : Place) → cause p) → FitsFed (standing b told [] false cause) []
fits_first b told cause fits fresh caused = record {
  fs = [];
  upto = record { fed = record { same = refl; at = fits; right = tt; gone = λ gave. absurd (cc) }; come = λ unended kept. come_clear told (place_of []) (fresh_on told fresh); caused = λ why. caused (place_of []) };
  full = full_first b fits;
}

-- giving up has no other cause
no_cause : (known : ℕ) (es : Trace) → ¬ IsCause known es End.Abandoned
no_cause known [] h = h
no_cause known (e ∷ es) (inl h) = h
no_cause known (e ∷ es) (inr (is, spent)) = absurd (cc)

-- where it ended as one that was given up there is a reason
pub reason_of : (f : Feeder) (es : Trace) → FitsFed f es → ended_in f.backup.session ≡ Some (Outcome.Ended End.Abandoned) → f.gave ≡ true
reason_of f es fits is =
    let u = fits.upto.fed in
    own ((pieces_obey f.backup fits.fs u.at).concluded (Outcome.Ended End.Abandoned) is)
  where
    own : IsCause (upto (piece_task (who_in f.backup.session)).versions) (before_unlock fits.fs) End.Abandoned ⊎ PieceConcludes (before_unlock fits.fs) (Outcome.Ended End.Abandoned) → f.gave ≡ true
    own (inl cause) = absurd (no_cause (upto (piece_task (who_in f.backup.session)).versions) (before_unlock fits.fs) cause)
    own (inr h) =
        (right_at (whole_of f.told) f.gave (before_unlock fits.fs) (before_right (who_in f.backup.session) (whole_of f.told) f.gave fits.fs fits.upto.fed.right)).reason h.1

-- ---- what was found

-- where it is no other item, bytes were found
pub found_none : (name : List ℕ) (old : Option Told) (rest : List ℕ) (new : Option Told) (found : Found) → IsItemOf name found None → Fills name old rest new found → (rest ≢ []) × Comes old (Some (fed_bytes rest)) new
found_none name old rest new (Found.Bytes count) item h = h
found_none name old rest new Found.Dir item h = absurd item
found_none name old rest new Found.File item h = absurd item
found_none name old rest new Found.Close item h = absurd item
found_none name old rest new Found.End item h = absurd item

pub fills_whole : (name : List ℕ) (old : Option Told) (rest : List ℕ) (new : Option Told) (found : Found) → Fills name old rest new found → whole_of new ≡ whole_of old
fills_whole name old rest new (Found.Bytes count) h = comes_whole old (Some (fed_bytes rest)) new h.1
fills_whole name old rest new Found.Dir h = comes_whole old (Some (fed_dir name)) new h.1
fills_whole name old rest new Found.File h = comes_whole old (Some (fed_file name)) new h.1
fills_whole name old rest new Found.Close h = comes_whole old (Some fed_close) new h.1
fills_whole name old rest new Found.End h = comes_whole old (Some fed_end) new h.1

-- another item was found, which is fed whole
pub record FoundOne (old : Option Told) (rest : List ℕ) (new : Option Told) (item : Fed) : Type 0 where
  pub none : rest ≡ []
  pub comes : Comes old (Some item) new
  pub on : GoesOn item
  pub whole : IsWhole item

one_found : (old : Option Told) (rest : List ℕ) (new : Option Told) (item : Item) (n : ℕ) (fed : Fed) → size_of item ≡ 0 → fed_of item ≡ fed → n ≤ size_of item → rest ≡ [] → Comes old (Some fed) new → GoesOn fed → IsWhole fed → FoundOne old rest new (fed_part n item)
one_found old rest new item n fed size is few none comes on whole =
    let all : n ≡ size_of item = omega (arith, size, few) in
    let same : fed_part n item ≡ fed = ap (λ k. fed_part k item) all ∙ is in
    record { none = none; comes = subst (λ x. Comes old (Some x) new) (sym same) comes; on = subst (λ x. GoesOn x) (sym same) on; whole = subst (λ x. IsWhole x) (sym same) whole }

pub found_some : (name : List ℕ) (old : Option Told) (rest : List ℕ) (new : Option Told) (found : Found) (item : Item) (n : ℕ) → IsItemOf name found (Some item) → Fills name old rest new found → n ≤ size_of item → FoundOne old rest new (fed_part n item)
found_some name old rest new (Found.Bytes count) item n is h few = absurd (cc)
found_some name old rest new Found.Dir item n is h few = one_found old rest new item n (fed_dir name) is.0 is.1 few h.0 h.1 (λ items gone. gone) tt
found_some name old rest new Found.File item n is h few = one_found old rest new item n (fed_file name) is.0 is.1 few h.0 h.1 (λ items gone. gone) tt
found_some name old rest new Found.Close item n is h few = one_found old rest new item n fed_close is.0 is.1 few h.0 h.1 (λ items gone. gone) tt
found_some name old rest new Found.End item n is h few = one_found old rest new item n fed_end is.0 is.1 few h.0 h.1 (λ items gone. gone) tt

-- another item than bytes is what was found
pub item_found : (name : List ℕ) (found : Found) (item : Item) → IsItemOf name found (Some item) → fed_of item ≡ fed_found name [] found
item_found name (Found.Bytes count) item is = absurd (cc)
item_found name Found.Dir item is = is.1
item_found name Found.File item is = is.1
item_found name Found.Close item is = is.1
item_found name Found.End item is = is.1

-- what was found, and isn't bytes, may wait
pub item_held : (name : List ℕ) (found : Found) (item : Item) → IsItemOf name found (Some item) → held_of name (Some found) ≡ Some (fed_found name [] found)
item_held name (Found.Bytes count) item is = absurd (cc)
item_held name Found.Dir item is = refl
item_held name Found.File item is = refl
item_held name Found.Close item is = refl
item_held name Found.End item is = refl

pub some_is : {A : Type 0} (o : Option A) → IsSome o → is_some o ≡ true
some_is None h = absurd (cc)
some_is (Some a) h = refl

-- ---- where there is a reason, no snapshot was stored

snapshot_over : (who : Asker) (fs : Trace) (token : Token) (n : Name) (x : List ℕ) (say : Say) → Obeys (piece_task who) PieceAllows (λ before e. ⊥) fs → Exchanged fs (Ask.Put token Kind.Snapshot n x) say → (place_of (fed_in fs)).over ≡ true
snapshot_over who [] token n x say h was = absurd was
snapshot_over who (e ∷ fs) token n x say h (inl (is, said)) =
    let may = subst (λ ask. PieceAllows fs ask) is (h.1 (subst (λ ask. IsWork ask) (sym is) tt)) in
    over_more e.fed (fed_in fs) may.0
snapshot_over who (e ∷ fs) token n x say h (inr was) = over_more e.fed (fed_in fs) (snapshot_over who fs token n x say h.3 was)

pub not_stored : (f : Feeder) (es : Trace) (name : Name) (blobs bytes : ℕ) → FitsFed f es → ended_in f.backup.session ≡ Some (Outcome.Stored name blobs bytes) → f.gave ≢ true
not_stored f es name blobs bytes fits is gave =
    let u = fits.upto.fed in
    let o = pieces_obey f.backup fits.fs u.at in
    let stored = o.concluded (Outcome.Stored name blobs bytes) is in
    let put = stored.put in
    let over = snapshot_over (who_in f.backup.session) fits.fs put.0 name stored.text Say.Done o.obeys (before_exchanged fits.fs (Ask.Put put.0 Kind.Snapshot name stored.text) Say.Done put.1) in
    let open_still = (u.gone gave).1 in
    absurd (cc)

-- ---- why it was given up

-- where it wants input there is no reason
pub no_reason : (f : Feeder) (es fs : Trace) → IsHungry f.backup → IsFed f es fs → f.gave ≢ true
no_reason f es fs hungry fed gave = nobody_gone (fed_in fs) (hungry_wants f.backup fs hungry fed.at).kept (fed.gone gave).0

module _ {E : Type 0} (failed : E → Type 0) (rewinds : Type 0) (whole : Option (List Fed)) where
  -- where there is no reason its source hasn't failed
  pub sound_of : (p : Place) (given_up : Option (GivenUp E)) → is_some given_up ≢ true → HasReason failed rewinds whole p given_up → IsSound failed
  sound_of p None none h = h
  sound_of p (Some reason) none h = absurd (none refl)

  pub reason_so : (given_up : Option (GivenUp E)) → is_some given_up ≢ true → IsSound failed → (p : Place) → HasReason failed rewinds whole p given_up
  reason_so None none h p = h
  reason_so (Some reason) none h p = absurd (none refl)

-- ---- ahead of a reply

-- what was supposed to be done is awaited; and were it that, it would stand there
pub supposed_on : (f : Feeder) (new : PieceBackup) (request : Request) (es fs : Trace) → f.gave ≡ false → PieceSupposes f.backup request new → IsFedUpto f es fs
    → PieceAwaits new request fs × AreFedRight (whole_of f.told) false fs × IsFedUpto (standing new f.told f.rest f.gave f.cause) (silent request.ask Say.Done ∷ es) (silent request.ask Say.Done ∷ fs)
supposed_on f new request es fs none supposes upto =
    (supposes.awaits fs upto.fed.at, subst (λ gave. AreFedRight (whole_of f.told) gave fs) none upto.fed.right, taken_on f new es fs request.ask Say.Done [] (λ well. inl supposes.unended) (supposes.fits fs upto.fed.at) upto)

-- and with what was fed since, or the reason to give up, it is ahead of the reply
pub ahead_on : (f : Feeder) (b : PieceBackup) (new : Feeder) (request : Request) (es : Trace) → f.gave ≡ false → PieceSupposes f.backup request b → FitsFed f es
    → ((hs fs : Trace) → IsFedUpto (standing b f.told f.rest f.gave f.cause) hs fs → (more : Trace) × IsFedUpto new hs more) → new.backup.session.head.holder ≡ b.session.head.holder → whole_of new.told ≡ whole_of f.told → IsAhead new request es
ahead_on f b new request es none supposes fits goes holder whole =
    let k = supposed_on f b request es fits.fs none supposes fits.upto in
    let up = goes (silent request.ask Say.Done ∷ es) (silent request.ask Say.Done ∷ fits.fs) k.2 in
    record {
      fs = fits.fs;
      same = fits.upto.fed.same;
      awaited = subst (λ (h : Holding). IsAwaited piece_rule h request fits.fs) (sym holder) k.0;
      right = subst (λ w. AreFedRight w false fits.fs) (sym whole) k.1;
      more = up.0;
      upto = up.1;
    }

-- with more that was fed it is ahead still
pub ahead_fed : (f new : Feeder) (request : Request) (es : Trace) → FeedsOn f new → new.backup.session.head.holder ≡ f.backup.session.head.holder → whole_of new.told ≡ whole_of f.told → IsAhead f request es → IsAhead new request es
ahead_fed f new request es goes holder whole h =
    let up = goes (silent request.ask Say.Done ∷ es) h.more h.upto in
    record {
      fs = h.fs;
      same = h.same;
      awaited = subst (λ (x : Holding). IsAwaited piece_rule x request h.fs) (sym holder) h.awaited;
      right = subst (λ w. AreFedRight w false h.fs) (sym whole) h.right;
      more = up.0;
      upto = up.1;
    }

-- while it is ahead of a reply, more may be fed
pub stands_ahead : (f new : Feeder) (awaited : Option Request) (es : Trace) → IsSome awaited → FeedsOn f new → new.backup.session.head.holder ≡ f.backup.session.head.holder → whole_of new.told ≡ whole_of f.told → StandsFed f awaited es → StandsFed new awaited es
stands_ahead f new None es some goes holder whole stands = absurd (cc)
stands_ahead f new (Some request) es some goes holder whole stands = ahead_fed f new request es goes holder whole stands

-- and that isn't seen
pub next_ahead : (b c : PieceBackup) (awaited : Option Request) → IsSome awaited → next_of b awaited ≡ next_of c awaited
next_ahead b c None some = absurd (cc)
next_ahead b c (Some request) some = refl

pub ended_ahead : (b c : PieceBackup) (awaited : Option Request) → IsSome awaited → ended_of b awaited ≡ ended_of c awaited
ended_ahead b c None some = absurd (cc)
ended_ahead b c (Some request) some = refl

pub token_ahead : (b c : PieceBackup) (awaited : Option Request) → IsSome awaited → b.session.head.holder ≡ c.session.head.holder → token_of b awaited ≡ token_of c awaited
token_ahead b c None some holder = absurd (cc)
token_ahead b c (Some request) some holder = ap (λ (h : Holding). Some h.token) holder

-- ---- behind the reading

-- the last reply of the reading is taken back, and what was fed since
pub again_fed : (f : Feeder) (letter : Request) (b : PieceBackup) (told : Option Told) (cause : Place → Type 0) (e : Exchange) (es more : Trace) → IsHungry f.backup → letter.ask ≡ e.ask → IsListedOrGot e.ask → letter.sequence ≡ length es + 1
    → ((x : Exchange) (fs : Trace) → letter.sequence ≡ length fs + 1 → letter.ask ≡ x.ask → IsListedOrGot x.ask → FitsPieces f.backup (x ∷ fs) → FitsPieces b fs × (fed_in fs ≡ []))
    → next_in b.session ≡ Some letter → whole_of told ≡ whole_of f.told → ((p : Place) → HasCome f.told p f.rest → HasCome told at_root []) → ((p : Place) → cause p) → IsFedUpto f (e ∷ es) more
    → FitsFed (standing b told [] f.gave cause) es
again_fed f letter b told cause e es [] hungry ask reads sequence back next whole come caused upto = let same = upto.fed.same in absurd (cc)
again_fed f letter b told cause e es (x ∷ fs) hungry ask reads sequence back next whole come caused upto =
    let same : giving x.ask x.say x.emitted ∷ unfed fs ≡ e ∷ es = upto.fed.same in
    let older : unfed fs ≡ es = cc in
    let first : giving x.ask x.say x.emitted ≡ e = cc in
    let asks : x.ask ≡ e.ask = ap (λ (y : Exchange). y.ask) first in
    let k = back x fs (omega (arith, sequence, ap length older, unfed_length fs)) (ask ∙ sym asks) (subst IsListedOrGot (sym asks) reads) upto.fed.at in
    let wants = hungry_wants f.backup (x ∷ fs) hungry upto.fed.at in
    let here = come (place_of (fed_in (x ∷ fs))) (upto.come (inl hungry.1) wants.kept) in
    record {
      fs = fs;
      upto = record {
        fed = record {
          same = older;
          at = k.0;
          right = subst (λ w. AreFedRight w f.gave fs) (sym whole) upto.fed.right.1;
          gone = λ gave. absurd (nobody_gone (fed_in (x ∷ fs)) wants.kept (upto.fed.gone gave).0);
        };
        come = λ well kept. subst (λ items. HasCome told (place_of items) []) (sym k.1) here;
        caused = λ why. caused (place_of (fed_in fs));
      };
      full = λ now. (let none = now.0 in absurd (cc));
    }

-- while a put is pending it tells its token
pub token_put : (b : PieceBackup) (request : Request) → next_in b.session ≡ Some request → ended_in b.session ≡ None → IsPut request.ask → token_in b.session ≡ Some b.session.head.holder.token
token_put b request pending unended put =
    let token = b.session.head.holder.token in
    (λ i. token_told token (unended i) (pending i)) ∙ ap (λ a. token_beside token a) put.4

-- any reply to a put but that it is done ends it, and nothing is stored
not_well : (b : PieceBackup) (ask : Ask) (say : Say) (fs : Trace) → IsPut ask → say ≢ Say.Done → FitsPieces b (silent ask say ∷ fs) → ¬ IsWell (ended_in b.session)
not_well b ask say fs (token, k, n, x, is) other fits well =
    let obeys = pieces_obey b (silent ask say ∷ fs) fits in
    let task = piece_task (who_in b.session) in
    let heeded = subst (λ a. AreHeeded (upto task.versions) task.notes (ended_in b.session) (before_unlock (silent a say ∷ fs))) is obeys.heeded in
    let by = heeded.0 (inr (inl (put_unwelcome token k n x say other))) in
    ended well by.1 by.2.1
  where
    ended : {o : Outcome} {end : End} → IsWell (ended_in b.session) → ended_in b.session ≡ Some o → o ≡ Outcome.Ended end → ⊥
    ended (inl none) some caused = absurd (cc)
    ended (inr stored) some caused = let s = stored.3 in absurd (cc)

-- another reply came, by which it ended
pub retracted_on : (f : Feeder) (new : PieceBackup) (request : Request) (say : Say) (es : Trace) (cause : Place → Type 0) → say ≢ Say.Done → IsAhead f request es
    → ((fs : Trace) → PieceAwaits f.backup request fs → FitsPieces new (silent request.ask say ∷ fs))
    → (more : Trace) × IsFedUpto (standing new f.told f.rest false cause) (silent request.ask say ∷ es) more
retracted_on f new request say es cause other h fits =
    let none = not_well new request.ask say h.fs h.awaited.put other (fits h.fs h.awaited) in (
      silent request.ask say ∷ h.fs,
      record {
        fed = record {
          same = ap (λ xs. silent request.ask say ∷ xs) h.same;
          at = fits h.fs h.awaited;
          right = right_next (whole_of f.told) false request.ask say [] h.fs h.right;
          gone = λ gave. absurd (cc);
        };
        come = λ well. absurd (none well);
        caused = λ why. elim why [ inl gave ↦ absurd (cc) | inr well ↦ absurd (none well) ];
      },
    )

-- it is done
pub settled_on : (f : Feeder) (request : Request) (say : Say) (es : Trace) → say ≡ Say.Done → IsAhead f request es → (more : Trace) × IsFedUpto f (silent request.ask say ∷ es) more
settled_on f request say es done h = (h.more, subst (λ s. IsFedUpto f (silent request.ask s ∷ es) h.more) (sym done) h.upto)

-- where it has ended it is ahead of no reply
pub ended_fed : (f : Feeder) (awaited : Option Request) (es : Trace) (outcome : Outcome) → StandsFed f awaited es → ended_of f.backup awaited ≡ Some outcome → FitsFed f es × (ended_in f.backup.session ≡ Some outcome)
ended_fed f None es outcome h is = (h, is)
ended_fed f (Some request) es outcome h is = absurd (cc)

-- a reply to what is pending, where it is ahead of one, is to that
pub heard_ahead : (f : Feeder) (awaited : Option Request) (letter request : Request) (es : Trace) → awaited ≡ Some letter → next_of f.backup awaited ≡ Some request → StandsFed f awaited es → IsAhead f letter es × (letter ≡ request)
heard_ahead f awaited letter request es is next stands = (subst (λ a. StandsFed f a es) is stands, same_Some letter request (sym (ap (next_of f.backup) is) ∙ next))

-- where it is well once it went on, it was so before
pub well_before : (old new : PieceBackup) → ((outcome : Outcome) → ended_in old.session ≡ Some outcome → ended_in new.session ≡ Some outcome) → IsWell (ended_in new.session) → IsWell (ended_in old.session)
well_before old new stays well = by (ended_in old.session) refl
  where
    by : (o : Option Outcome) → ended_in old.session ≡ o → IsWell (ended_in old.session)
    by None is = inl is
    by (Some outcome) is = subst (λ o. IsWell o) (stays outcome is ∙ sym is) well

-- if it hasn't ended once it went on, it hadn't before
pub unended_before : (old new : PieceBackup) → ((outcome : Outcome) → ended_in old.session ≡ Some outcome → ended_in new.session ≡ Some outcome) → ended_in new.session ≡ None → ended_in old.session ≡ None
unended_before old new stays none = by (ended_in old.session) refl
  where
    by : (o : Option Outcome) → ended_in old.session ≡ o → ended_in old.session ≡ None
    by None is = is
    by (Some outcome) is = let some = stays outcome is in absurd (cc)

-- what isn't there
pub nothing_there : {A : Type 0} (o : Option A) → ((a : A) → o ≢ Some a) → o ≡ None
nothing_there None other = refl
nothing_there (Some a) other = absurd (other a refl)

pub none_given : {A : Type 0} (o : Option A) → is_some o ≢ true → o ≡ None
none_given None other = refl
none_given (Some a) other = absurd (other refl)
