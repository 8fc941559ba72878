-- What is armed, through the calls that an answer makes.
use Rattle.std.proofs.Common.{◌≡◌, ◌≢◌, ◌⊎◌, ◌≤◌, ◌<◌, ◌-◌, ◌+◌, ◌==◌, ◌∙◌, inl, inr, ℕ, Bool, true, false, List, Option, Some, None, Result, Ok, Err, refl, sym, ap, subst, arith, if◌then◌else◌}
use Rattle.std.proofs.lemmas.Bool.{eqb-true}
use Rattle.repo_name.specs.declared.rows.LockRow.{LockRow}
use Rattle.repo_locks.specs.declared.outcomes.LockError.{LockError}
use Rattle.repo_wire.specs.declared.messages.Ask.{Ask}
use Rattle.repo_wire.specs.declared.messages.Code.{Code}
use Rattle.repo_wire.specs.declared.messages.Say.{Say}
use Rattle.repo_store.specs.declared.faults.Armed.{Armed}
use Rattle.repo_store.specs.declared.faults.Fail.{Fail}
use Rattle.repo_store.specs.declared.shelves.ShelfError.{ShelfError}
use Rattle.repo_store.specs.Failing.{HasFailed, IsRefused, IsWritten, FailsWriting, FailsItself, IsAlwaysRead, Failing, FailsAsArmed, MakesCalls, IsAsArmed}
use Rattle.repo_store.specs.Faults.{fails_reading, fails_writing, ReadsAsArmed, one_less, StillWaits, MayReadAsArmed, WritesAsArmed, told_after, ArmIsSpent, IsPassed}
use Rattle.repo_store.specs.Laws.{Writes, HasCause}
use Rattle.repo_store.specs.StoreMachine.{reads_of, Answers, GetSays, IsQuiet, IsRuledOut, Step, Looks, refusal, lock_refusal}
use Rattle.repo_store.specs.Stores.{Store}
use Rattle.repo_store.specs.Upgrades.{IsDue, IsRaised}
use Rattle.repo_store.specs.declared.upgrades.Due.{Due}

-- ---- calls that weren't the armed one

-- so many reading and writing calls passed
abbrev pub Passed : ℕ → ℕ → Armed → Armed → Type 0
Passed reads writes Armed.Nothing left = left ≡ Armed.Nothing
Passed reads writes (Armed.Next Fail.Read) left = (left ≡ Armed.Next Fail.Read) × (reads ≡ 0)
Passed reads writes (Armed.Next (Fail.Write applied)) left = (left ≡ Armed.Next (Fail.Write applied)) × (writes ≡ 0)
Passed reads writes (Armed.Call number applied) left = (left ≡ Armed.Call (number - (reads + writes)) applied) × (1 ≤ number → reads + writes < number)

pub none_passed : (a : Armed) → Passed 0 0 a a
none_passed Armed.Nothing = refl
none_passed (Armed.Next Fail.Read) = (refl, refl)
none_passed (Armed.Next (Fail.Write applied)) = (refl, refl)
none_passed (Armed.Call number applied) = let n : number ≡ number - (0 + 0) = omega arith in (ap (λ n. Armed.Call n applied) n, λ some. (omega arith))

not_one : (n : ℕ) → (n == 1) ≡ false → n ≢ 1
not_one n h e = let c : (1 == 1) ≡ false = subst (λ m. (m == 1) ≡ false) e h in absurd (cc)

one_read_more : (reads : ℕ) (a mid left : Armed) → Passed reads 0 a mid → fails_reading mid ≡ false → left ≡ one_less mid → Passed (reads + 1) 0 a left
one_read_more reads Armed.Nothing mid left p other is = is ∙ ap one_less p
one_read_more reads (Armed.Next Fail.Read) mid left p other is = let c : true ≡ false = subst (λ m. fails_reading m ≡ false) p.0 other in absurd (cc)
one_read_more reads (Armed.Next (Fail.Write applied)) mid left p other is = (is ∙ ap one_less p.0, refl)
one_read_more reads (Armed.Call number applied) mid left p other is =
    let next : number - (reads + 0) ≢ 1 = not_one (number - (reads + 0)) (subst (λ m. fails_reading m ≡ false) p.0 other) in
    let n : number - (reads + 0) - 1 ≡ number - (reads + 1 + 0) = omega arith in
    (is ∙ ap one_less p.0 ∙ ap (λ n. Armed.Call n applied) n, λ some. let less : reads + 0 < number = p.1 some in (omega (arith, next)))

no_write : (n : ℕ) (applied : Bool) → fails_writing (Armed.Call n applied) ≡ None → n ≢ 1
no_write n applied h e = let c : Some applied ≡ None = subst (λ m. fails_writing (Armed.Call m applied) ≡ None) e h in absurd (cc)

-- the writing call passed, after the reading ones
one_write_more : (reads : ℕ) (a mid left : Armed) → Passed reads 0 a mid → fails_writing mid ≡ None → left ≡ one_less mid → Passed reads 1 a left
one_write_more reads Armed.Nothing mid left p other is = is ∙ ap one_less p
one_write_more reads (Armed.Next Fail.Read) mid left p other is = (is ∙ ap one_less p.0, p.1)
one_write_more reads (Armed.Next (Fail.Write applied)) mid left p other is = let c : Some applied ≡ None = subst (λ m. fails_writing m ≡ None) p.0 other in absurd (cc)
one_write_more reads (Armed.Call number applied) mid left p other is =
    let next : number - (reads + 0) ≢ 1 = no_write (number - (reads + 0)) applied (subst (λ m. fails_writing m ≡ None) p.0 other) in
    let n : number - (reads + 0) - 1 ≡ number - (reads + 1) = omega arith in
    (is ∙ ap one_less p.0 ∙ ap (λ n. Armed.Call n applied) n, λ some. let less : reads + 0 < number = p.1 some in (omega (arith, next)))

-- a reading call that gave something passed
pub read_on : {T : Type 0} (reads : ℕ) (armed mid left : Armed) (own between owned : ℕ) (x : T) → Passed reads 0 armed mid × (own ≤ between) → ReadsAsArmed mid between (Ok x) left owned
    → Passed (reads + 1) 0 armed left × (own ≤ owned)
read_on reads armed mid left own between owned x (p, less) r = go (fails_reading mid) refl where
  go : (b : Bool) → fails_reading mid ≡ b → Passed (reads + 1) 0 armed left × (own ≤ owned)
  go true h = let c : Ok x ≡ Err ShelfError.Fault = (r.0 h).0 in absurd (cc)
  go false h = let more : between ≤ owned = (r.1 h).1 in (one_read_more reads armed mid left p h (r.1 h).0, (omega arith))

-- one that may have been kept from before
pub read_some : {T : Type 0} (armed left : Armed) (own owned : ℕ) (x : T) → MayReadAsArmed armed own (Ok x) left owned → (reads : ℕ) × (reads ≤ 1) × Passed reads 0 armed left × (own ≤ owned)
read_some armed left own owned x (inl r) = let n : own ≤ own = omega arith in let p = read_on 0 armed armed left own own owned x (none_passed armed, n) r in (1, (omega arith), p.0, p.1)
read_some armed left own owned x (inr (is, same, plain)) = (0, (omega arith), subst (Passed 0 0 armed) (sym is) (none_passed armed), (omega (arith, same)))

-- ---- what a step does by them

unrefused : refusal ShelfError.Memory ≡ Say.Refused Code.Fault → ⊥
unrefused h = absurd (cc)

has_failed : (T : Type 0) (own between owned : ℕ) → own ≤ between → HasCause {T = T} between (Err ShelfError.Fault) owned → HasFailed own owned
has_failed T own between owned less (stays, inl more) = inl (omega arith)
has_failed T own between owned less (stays, inr most) = inr most

module _ (own owned : ℕ) (old : Store) (ask : Ask) (say : Say) (new : Store) where
  -- no call was the armed one
  module _ (reads writes : ℕ) (left : Armed) (makes : MakesCalls reads writes old ask say) (step : Step old ask say new) (caused : say ≡ Say.Refused Code.Fault → HasFailed own owned)
      (stays : say ≡ Say.Refused Code.Fault → writes ≡ 0 → new ≡ old) where
    waits : (armed : Armed) → Passed reads writes armed left → StillWaits armed left
    waits Armed.Nothing p = p
    waits (Armed.Next Fail.Read) p = p.0
    waits (Armed.Next (Fail.Write applied)) p = p.0
    waits (Armed.Call number applied) p = (number - (reads + writes), (omega arith), p.0)

    unwritten : (applied : Bool) → writes ≡ 0 → Step old ask say new → Failing (HasFailed own owned) (Fail.Write applied) old ask say new
    unwritten applied none (inl answers) = inr (inl (answers, λ written. absurd (let one : writes ≡ 1 = makes.3 written in omega (arith, one, none))))
    unwritten applied none (inr (looks, inl (fault, either))) = inr (inr (looks, stays fault none, inl (fault, caused fault)))
    unwritten applied none (inr (looks, inr (memory, same))) = inr (inr (looks, same, inr memory))

    fails : (armed : Armed) → Passed reads writes armed left → FailsAsArmed (HasFailed own owned) armed old ask say left new
    fails Armed.Nothing p = (step, caused)
    fails (Armed.Next Fail.Read) p = inr ((λ always. absurd (let one : 1 ≤ reads = makes.1 always in omega (arith, one, p.1))), (step, caused))
    fails (Armed.Next (Fail.Write applied)) p = unwritten applied p.1 step
    fails (Armed.Call number applied) p = λ some. inr (inr (reads, writes, makes, p.1 some, p.0, (step, caused)))

    pub passed : (armed : Armed) → Passed reads writes armed left → IsAsArmed armed own old ask say left owned new
    passed armed p = (inr (waits armed p, caused), fails armed p)

  -- a reading call was the armed one
  module _ (reads : ℕ) (mid left : Armed) (met : fails_reading mid ≡ true) (is : left ≡ Armed.Nothing) (few : reads + 1 ≤ reads_of ask) (looks : Looks old ask) (same : new ≡ old) (fault : say ≡ Say.Refused Code.Fault) where
    some_read : (armed : Armed) → Passed reads 0 armed mid → armed ≢ Armed.Nothing
    some_read armed p none =
        let m : mid ≡ Armed.Nothing = subst (λ a. Passed reads 0 a mid) none p in
        let c : false ≡ true = subst (λ a. fails_reading a ≡ true) m met in absurd (cc)

    fails_read : (armed : Armed) → Passed reads 0 armed mid → FailsAsArmed (HasFailed own owned) armed old ask say left new
    fails_read Armed.Nothing p = absurd (some_read Armed.Nothing p refl)
    fails_read (Armed.Next Fail.Read) p = inl (looks, same, fault)
    fails_read (Armed.Next (Fail.Write applied)) p = let c : false ≡ true = subst (λ a. fails_reading a ≡ true) p.0 met in absurd (cc)
    fails_read (Armed.Call number applied) p = λ some.
        let one : number - (reads + 0) ≡ 1 = eqb-true (number - (reads + 0)) 1 (subst (λ a. fails_reading a ≡ true) p.0 met) in
        inl (is, (omega (arith, one, few)), (looks, same, fault))

    pub met_reading : (armed : Armed) → Passed reads 0 armed mid → IsAsArmed armed own old ask say left owned new
    met_reading armed p = (inl (some_read armed p, is, fault), fails_read armed p)

  -- the writing call was the armed one
  module _ (reads : ℕ) (mid left : Armed) (x : Bool) (met : fails_writing mid ≡ Some x) (is : left ≡ Armed.Nothing) (few : reads ≤ reads_of ask) (fault : say ≡ Say.Refused Code.Fault)
      (how : FailsWriting x old ask say new ⊎ FailsItself (HasFailed own owned) old ask say new) where
    some_write : (armed : Armed) → Passed reads 0 armed mid → armed ≢ Armed.Nothing
    some_write armed p none =
        let m : mid ≡ Armed.Nothing = subst (λ a. Passed reads 0 a mid) none p in
        let c : None ≡ Some x = subst (λ a. fails_writing a ≡ Some x) m met in absurd (cc)

    so : (y : Bool) → y ≡ x → FailsWriting y old ask say new ⊎ FailsItself (HasFailed own owned) old ask say new
    so y e = subst (λ z. FailsWriting z old ask say new ⊎ FailsItself (HasFailed own owned) old ask say new) (sym e) how

    next_write : (y : Bool) → FailsWriting y old ask say new ⊎ FailsItself (HasFailed own owned) old ask say new → Failing (HasFailed own owned) (Fail.Write y) old ask say new
    next_write y (inl w) = inl w
    next_write y (inr w) = inr (inr w)

    this_write : (n : ℕ) (y : Bool) → fails_writing (Armed.Call n y) ≡ Some x → (n ≡ 1) × (y ≡ x)
    this_write n y h = go (n == 1) refl h where
      go : (b : Bool) → (n == 1) ≡ b → (if b then Some y else None) ≡ Some x → (n ≡ 1) × (y ≡ x)
      go true e h = (eqb-true n 1 e, (cc))
      go false e h = absurd (cc)

    fails_write : (armed : Armed) → Passed reads 0 armed mid → FailsAsArmed (HasFailed own owned) armed old ask say left new
    fails_write Armed.Nothing p = absurd (some_write Armed.Nothing p refl)
    fails_write (Armed.Next Fail.Read) p = let c : None ≡ Some x = subst (λ a. fails_writing a ≡ Some x) p.0 met in absurd (cc)
    fails_write (Armed.Next (Fail.Write y)) p = let c : Some y ≡ Some x = subst (λ a. fails_writing a ≡ Some x) p.0 met in next_write y (so y (cc))
    fails_write (Armed.Call number y) p = λ some.
        let one = this_write (number - (reads + 0)) y (subst (λ a. fails_writing a ≡ Some x) p.0 met) in
        let n : number - (reads + 0) ≡ 1 = one.0 in
        inr (inl (is, (omega (arith, n, few)), so y one.1))

    pub met_writing : (armed : Armed) → Passed reads 0 armed mid → IsAsArmed armed own old ask say left owned new
    met_writing armed p = (inl (some_write armed p, is, fault), fails_write armed p)

-- ---- answers that nothing is written for

-- after so many reading calls
pub answered : (armed left : Armed) (own owned : ℕ) (old : Store) (ask : Ask) (say : Say) (new : Store) (reads : ℕ) → Passed reads 0 armed left → reads ≤ reads_of ask
    → (IsAlwaysRead old ask say → 1 ≤ reads) → ¬ IsWritten old ask say → say ≢ Say.Refused Code.Fault → Step old ask say new → IsAsArmed armed own old ask say left owned new
answered armed left own owned old ask say new reads p few always unwritten plain step =
    passed own owned old ask say new reads 0 left (few, always, (omega arith), (λ written. absurd (unwritten written)), λ quiet. refl) step (λ fault. absurd (plain fault)) (λ fault none. absurd (plain fault)) armed p

-- before any
pub unasked : (armed : Armed) (own : ℕ) (old : Store) (ask : Ask) (say : Say) (new : Store) → ¬ IsAlwaysRead old ask say → ¬ IsWritten old ask say → say ≢ Say.Refused Code.Fault
    → Step old ask say new → IsAsArmed armed own old ask say armed own new
unasked armed own old ask say new never unwritten plain step =
    answered armed armed own own old ask say new 0 (none_passed armed) (omega arith) (λ always. absurd (never always)) unwritten plain step

-- after the device was read, or what was kept of it
pub looked_up : {T : Type 0} (armed left : Armed) (own owned : ℕ) (old : Store) (ask : Ask) (say : Say) (new : Store) (x : T) → MayReadAsArmed armed own (Ok x) left owned → 1 ≤ reads_of ask
    → ¬ IsAlwaysRead old ask say → ¬ IsWritten old ask say → say ≢ Say.Refused Code.Fault → Step old ask say new → IsAsArmed armed own old ask say left owned new
looked_up armed left own owned old ask say new x may one never unwritten plain step =
    let r = read_some armed left own owned x may in
    let few : r.0 ≤ 1 = r.1 in
    answered armed left own owned old ask say new r.0 r.2 (omega (arith, few, one)) (λ always. absurd (never always)) unwritten plain step

-- after the device was read
pub fetched : {T : Type 0} (armed left : Armed) (own owned : ℕ) (old : Store) (ask : Ask) (say : Say) (new : Store) (x : T) → ReadsAsArmed armed own (Ok x) left owned → 1 ≤ reads_of ask
    → ¬ IsWritten old ask say → say ≢ Say.Refused Code.Fault → Step old ask say new → IsAsArmed armed own old ask say left owned new
fetched armed left own owned old ask say new x reads one unwritten plain step =
    let n : own ≤ own = omega arith in
    answered armed left own owned old ask say new 1 (read_on 0 armed armed left own own owned x (none_passed armed, n) reads).0 one (λ always. (omega arith)) unwritten plain step

-- ---- reading calls that failed

refused_unwritten : (old : Store) (ask : Ask) (e : ShelfError) → ¬ IsWritten old ask (refusal e)
refused_unwritten old ask ShelfError.Fault w = w.1 tt
refused_unwritten old ask ShelfError.Memory w = w.1 tt

told_as : (armed left : Armed) (own owned : ℕ) (old : Store) (ask : Ask) (say : Say) (new : Store) (e : ShelfError) → say ≡ refusal e → IsAsArmed armed own old ask (refusal e) left owned new
    → IsAsArmed armed own old ask say left owned new
told_as armed left own owned old ask say new e told = subst (λ x. IsAsArmed armed own old ask x left owned new) (sym told)

-- after so many reading calls that passed, one more failed
module _ (T : Type 0) (own between owned : ℕ) (old : Store) (ask : Ask) (new : Store) (reads : ℕ) (armed mid left : Armed) (p : Passed reads 0 armed mid) (less : own ≤ between)
    (few : reads + 1 ≤ reads_of ask) (looks : Looks old ask) (same : new ≡ old) where
  fault_is : (e : ShelfError) → Step old ask (refusal e) new
  fault_is ShelfError.Fault = inr (looks, inl (refl, inl same))
  fault_is ShelfError.Memory = inr (looks, inr (refl, same))

  caused_by : (e : ShelfError) → HasCause {T = T} between (Err e) owned → refusal e ≡ Say.Refused Code.Fault → HasFailed own owned
  caused_by ShelfError.Fault cause told = has_failed T own between owned less cause
  caused_by ShelfError.Memory cause told = absurd (unrefused told)

  failed_on : (e : ShelfError) → ReadsAsArmed {T = T} mid between (Err e) left owned → IsAsArmed armed own old ask (refusal e) left owned new
  failed_on e r = go (fails_reading mid) refl where
    go : (b : Bool) → fails_reading mid ≡ b → IsAsArmed armed own old ask (refusal e) left owned new
    go true h =
        let is : ◌≡◌ {A = Result T ShelfError} (Err e) (Err ShelfError.Fault) = (r.0 h).0 in
        let fault : e ≡ ShelfError.Fault = (cc) in
        met_reading own owned old ask (refusal e) new reads mid left h (r.0 h).1 few looks same (ap refusal fault) armed p
    go false h =
        passed own owned old ask (refusal e) new (reads + 1) 0 left (few, (λ always. (omega arith)), (omega arith), (λ w. absurd (refused_unwritten old ask e w)), λ quiet. refl) (fault_is e) (caused_by e (r.1 h).1)
        (λ fault none. same) armed (one_read_more reads armed mid left p h (r.1 h).0)

  kept_on : (e : ShelfError) → e ≢ ShelfError.Fault → (IsAlwaysRead old ask (Say.Refused Code.NoMemory) → 1 ≤ reads) → left ≡ mid → IsAsArmed armed own old ask (refusal e) left owned new
  kept_on ShelfError.Fault plain always is = absurd (plain refl)
  kept_on ShelfError.Memory plain always is =
      let fewer : reads ≤ reads_of ask = omega (arith, few) in
      passed own owned old ask (refusal ShelfError.Memory) new reads 0 left (fewer, always, (omega arith), (λ w. absurd (refused_unwritten old ask ShelfError.Memory w)), λ quiet. refl) (fault_is ShelfError.Memory)
      (λ told. absurd (unrefused told)) (λ fault none. same) armed (subst (Passed reads 0 armed) (sym is) p)

-- the first reading call failed
pub fetch_failed : {T : Type 0} (armed left : Armed) (own owned : ℕ) (old : Store) (ask : Ask) (say : Say) (new : Store) (e : ShelfError) → say ≡ refusal e → ReadsAsArmed {T = T} armed own (Err e) left owned
    → 1 ≤ reads_of ask → Looks old ask → new ≡ old → IsAsArmed armed own old ask say left owned new
fetch_failed {T} armed left own owned old ask say new e told reads few looks same =
    let n : own ≤ own = omega arith in
    told_as armed left own owned old ask say new e told (failed_on T own own owned old ask new 0 armed armed left (none_passed armed) n few looks same e reads)

pub look_up_failed : {T : Type 0} (armed left : Armed) (own owned : ℕ) (old : Store) (ask : Ask) (say : Say) (new : Store) (e : ShelfError) → say ≡ refusal e → MayReadAsArmed {T = T} armed own (Err e) left owned
    → 1 ≤ reads_of ask → Looks old ask → new ≡ old → ¬ IsAlwaysRead old ask (Say.Refused Code.NoMemory) → IsAsArmed armed own old ask say left owned new
look_up_failed {T} armed left own owned old ask say new e told (inl reads) few looks same never = fetch_failed armed left own owned old ask say new e told reads few looks same
look_up_failed {T} armed left own owned old ask say new e told (inr (is, less, plain)) few looks same never =
    let n : own ≤ own = omega arith in
    told_as armed left own owned old ask say new e told
    (kept_on T own own owned old ask new 0 armed armed left (none_passed armed) n few looks same e (λ fault. plain (ap (λ e. Err e) fault)) (λ always. absurd (never always)) is)

-- the second one did
pub second_fetch_failed : {T U : Type 0} (armed mid left : Armed) (own between owned : ℕ) (old : Store) (ask : Ask) (say : Say) (new : Store) (x : U) (e : ShelfError) → say ≡ refusal e
    → MayReadAsArmed armed own (Ok x) mid between → ReadsAsArmed {T = T} mid between (Err e) left owned → 2 ≤ reads_of ask → Looks old ask → new ≡ old → IsAsArmed armed own old ask say left owned new
second_fetch_failed {T} armed mid left own between owned old ask say new x e told may reads few looks same =
    let r = read_some armed mid own between x may in
    let one : r.0 ≤ 1 = r.1 in
    told_as armed left own owned old ask say new e told (failed_on T own between owned old ask new r.0 armed mid left r.2 r.3 (omega (arith, one, few)) looks same e reads)

-- ---- the writing call of an answer

told_never : (inner : Result (Unit {0}) ShelfError) → Ok tt ≡ told_after inner → ⊥
told_never (Ok done) h = absurd (cc)
told_never (Err error) h = absurd (cc)

is_refused : (say : Say) → IsRuledOut say → IsRefused say
is_refused (Say.Token token) h = absurd h
is_refused Say.Done h = absurd h
is_refused (Say.Names more names) h = absurd h
is_refused (Say.Bytes bytes) h = absurd h
is_refused (Say.LockList rows) h = absurd h
is_refused (Say.Refused code) h = tt

-- after so many reading calls that passed; s is the store then
module _ (W : Store → Store → Type 0) (own between owned : ℕ) (old s new : Store) (ask : Ask) (other : Say) (written : IsWritten old ask other)
    (reads : ℕ) (armed mid left : Armed) (p : Passed reads 0 armed mid) (few : reads ≤ reads_of ask) (always : (say : Say) → IsAlwaysRead old ask say → 1 ≤ reads) where
  -- it made its change
  made_on : WritesAsArmed W mid s between (Ok tt) left new owned → other ≢ Say.Refused Code.Fault → Step old ask other new → IsAsArmed armed own old ask other left owned new
  made_on w plain step = go (fails_writing mid) refl where
    nothing : IsQuiet old ask ⊎ IsRuledOut other → ◌≡◌ {A = ℕ} 1 0
    nothing (inl quiet) = absurd (written.0 quiet)
    nothing (inr ruled) = absurd (written.1 (is_refused other ruled))

    go : (f : Option Bool) → fails_writing mid ≡ f → IsAsArmed armed own old ask other left owned new
    go (Some true) h = let t = (w.0 h).0 in absurd (told_never t.0 t.3)
    go (Some false) h = absurd (w.1 h).0
    go None h =
        passed own owned old ask other new reads 1 left (few, always other, (omega arith), (λ so. refl), nothing) step (λ told. absurd (plain told)) (λ told none. absurd (plain told)) armed
        (one_write_more reads armed mid left p h (w.2 h).1)

module _ (W : Store → Store → Type 0) (own between owned : ℕ) (old s new : Store) (ask : Ask) (other : Say) (same : s ≡ old) (looks : Looks old ask) (written : IsWritten old ask other)
    (made : (after : Store) → W old after → Answers old ask other after) (can : (after : Store) × W old after)
    (reads : ℕ) (armed mid left : Armed) (p : Passed reads 0 armed mid) (less : own ≤ between) (few : reads ≤ reads_of ask) (always : (say : Say) → IsAlwaysRead old ask say → 1 ≤ reads) where
  changed : W s new → FailsWriting true old ask (refusal ShelfError.Fault) new
  changed w = (other, new, made new (subst (λ x. W x new) same w), written, refl, refl)

  met : (x : Bool) → fails_writing mid ≡ Some x → left ≡ Armed.Nothing → FailsWriting x old ask (refusal ShelfError.Fault) new ⊎ FailsItself (HasFailed own owned) old ask (refusal ShelfError.Fault) new
      → IsAsArmed armed own old ask (refusal ShelfError.Fault) left owned new
  met x h is how = met_writing own owned old ask (refusal ShelfError.Fault) new reads mid left x h is few refl how armed p

  -- there was no memory for it, and it waits still
  unmade : left ≡ mid → Step old ask (refusal ShelfError.Memory) new → IsAsArmed armed own old ask (refusal ShelfError.Memory) left owned new
  unmade is step =
      passed own owned old ask (refusal ShelfError.Memory) new reads 0 left (few, always (refusal ShelfError.Memory), (omega arith), (λ w. absurd (refused_unwritten old ask ShelfError.Memory w)), λ quiet. refl) step
      (λ told. absurd (unrefused told)) (λ told none. absurd (unrefused told)) armed (subst (Passed reads 0 armed) (sym is) p)

  applied : (e : ShelfError) (inner : Result (Unit {0}) ShelfError) → fails_writing mid ≡ Some true → Writes W s inner new → HasCause between inner owned → Err e ≡ told_after inner → ArmIsSpent mid (Err e) left
      → Step old ask (refusal e) new → IsAsArmed armed own old ask (refusal e) left owned new
  applied ShelfError.Fault (Ok done) h w cause t is step = met true h is (inl (changed w))
  applied ShelfError.Fault (Err ShelfError.Fault) h (inl stays) cause t is step = met true h is (inr (looks, stays ∙ same, inl (refl, has_failed (Unit {0}) own between owned less cause)))
  applied ShelfError.Fault (Err ShelfError.Fault) h (inr w) cause t is step = met true h is (inl (changed w))
  applied ShelfError.Fault (Err ShelfError.Memory) h w cause t is step = absurd (cc)
  applied ShelfError.Memory (Ok done) h w cause t is step = absurd (cc)
  applied ShelfError.Memory (Err ShelfError.Fault) h w cause t is step = absurd (cc)
  applied ShelfError.Memory (Err ShelfError.Memory) h w cause t is step = unmade is step

  unapplied : (e : ShelfError) → fails_writing mid ≡ Some false → new ≡ s → ArmIsSpent mid (Err e) left → Step old ask (refusal e) new → IsAsArmed armed own old ask (refusal e) left owned new
  unapplied ShelfError.Fault h stays is step = met false h is (inl (other, can.0, made can.0 can.1, written, refl, stays ∙ same))
  unapplied ShelfError.Memory h stays is step = unmade is step

  -- it wasn't the armed one
  nothing : (e : ShelfError) → IsQuiet old ask ⊎ IsRuledOut (refusal e) → ◌≡◌ {A = ℕ} 1 0
  nothing e (inl quiet) = absurd (written.0 quiet)
  nothing ShelfError.Fault (inr ruled) = absurd (ruled.0 refl)
  nothing ShelfError.Memory (inr ruled) = absurd (ruled.1 refl)

  by_itself : (e : ShelfError) → HasCause {T = Unit {0}} between (Err e) owned → refusal e ≡ Say.Refused Code.Fault → HasFailed own owned
  by_itself ShelfError.Fault cause t = has_failed (Unit {0}) own between owned less cause
  by_itself ShelfError.Memory cause t = absurd (unrefused t)

  went_by : (e : ShelfError) → fails_writing mid ≡ None → HasCause {T = Unit {0}} between (Err e) owned → left ≡ one_less mid → Step old ask (refusal e) new → IsAsArmed armed own old ask (refusal e) left owned new
  went_by e h cause is step =
      passed own owned old ask (refusal e) new reads 1 left (few, always (refusal e), (omega arith), (λ w. absurd (refused_unwritten old ask e w)), nothing e) step (by_itself e cause) (λ told none. absurd (omega (arith, none)))
      armed (one_write_more reads armed mid left p h is)

  other_call : (e : ShelfError) → fails_writing mid ≡ None → HasCause {T = Unit {0}} between (Err e) owned → IsPassed mid (Err e) left → Step old ask (refusal e) new → IsAsArmed armed own old ask (refusal e) left owned new
  other_call ShelfError.Fault h cause is step = went_by ShelfError.Fault h cause is step
  other_call ShelfError.Memory h cause (inl is) step = went_by ShelfError.Memory h cause is step
  other_call ShelfError.Memory h cause (inr is) step = unmade is step

  unwritten_on : (e : ShelfError) → WritesAsArmed W mid s between (Err e) left new owned → Step old ask (refusal e) new → IsAsArmed armed own old ask (refusal e) left owned new
  unwritten_on e w step = go (fails_writing mid) refl where
    go : (f : Option Bool) → fails_writing mid ≡ f → IsAsArmed armed own old ask (refusal e) left owned new
    go (Some true) h = let t = (w.0 h).0 in applied e t.0 h t.1 t.2 t.3 (w.0 h).1 step
    go (Some false) h = unapplied e h (w.1 h).1 (w.1 h).3 step
    go None h = other_call e h (w.2 h).0 (w.2 h).1 step

-- the ledger, or a token, was looked up, and then the answer was written
pub write_made : {T : Type 0} (W : Store → Store → Type 0) (armed mid left : Armed) (own between owned : ℕ) (old s new : Store) (ask : Ask) (say : Say) (x : T) → 1 ≤ reads_of ask → IsWritten old ask say
    → ((say : Say) → ¬ IsAlwaysRead old ask say) → say ≢ Say.Refused Code.Fault → MayReadAsArmed armed own (Ok x) mid between → WritesAsArmed W mid s between (Ok tt) left new owned → Step old ask say new
    → IsAsArmed armed own old ask say left owned new
write_made W armed mid left own between owned old s new ask say x one written never plain may w step =
    let r = read_some armed mid own between x may in
    let few : r.0 ≤ 1 = r.1 in
    made_on W own between owned old s new ask say written r.0 armed mid left r.2 (omega (arith, few, one)) (λ say always. absurd (never say always)) w plain step

pub write_failed : {T : Type 0} (W : Store → Store → Type 0) (armed mid left : Armed) (own between owned : ℕ) (old s new : Store) (ask : Ask) (other say : Say) (x : T) (e : ShelfError) → say ≡ refusal e → s ≡ old
    → Looks old ask → 1 ≤ reads_of ask → IsWritten old ask other → ((say : Say) → ¬ IsAlwaysRead old ask say) → ((after : Store) → W old after → Answers old ask other after) → ((after : Store) × W old after)
    → MayReadAsArmed armed own (Ok x) mid between → WritesAsArmed W mid s between (Err e) left new owned → Step old ask say new → IsAsArmed armed own old ask say left owned new
write_failed W armed mid left own between owned old s new ask other say x e is same looks one written never made can may w step =
    let r = read_some armed mid own between x may in
    let few : r.0 ≤ 1 = r.1 in
    let now : Step old ask (refusal e) new = subst (λ y. Step old ask y new) is step in
    told_as armed left own owned old ask say new e is
    (unwritten_on W own between owned old s new ask other same looks written made can r.0 armed mid left r.2 r.3 (omega (arith, few, one)) (λ say always. absurd (never say always)) e w now)

-- a token was looked up, and the config read
pub read_both : {T U : Type 0} (armed mid left : Armed) (own between owned : ℕ) (x : T) (y : U) → MayReadAsArmed armed own (Ok x) mid between → ReadsAsArmed mid between (Ok y) left owned
    → (reads : ℕ) × (1 ≤ reads) × (reads ≤ 2) × Passed reads 0 armed left × (own ≤ owned)
read_both armed mid left own between owned x y may reads =
    let r = read_some armed mid own between x may in
    let few : r.0 ≤ 1 = r.1 in
    let p = read_on r.0 armed mid left own between owned y (r.2, r.3) reads in
    (r.0 + 1, (omega arith), (omega (arith, few)), p.0, p.1)

pub fetched_both : {T U : Type 0} (armed mid left : Armed) (own between owned : ℕ) (old : Store) (ask : Ask) (say : Say) (new : Store) (x : T) (y : U) → MayReadAsArmed armed own (Ok x) mid between
    → ReadsAsArmed mid between (Ok y) left owned → 2 ≤ reads_of ask → ¬ IsWritten old ask say → say ≢ Say.Refused Code.Fault → Step old ask say new → IsAsArmed armed own old ask say left owned new
fetched_both armed mid left own between owned old ask say new x y may reads two unwritten plain step =
    let r = read_both armed mid left own between owned x y may reads in
    let some : 1 ≤ r.0 = r.1 in
    let few : r.0 ≤ 2 = r.2 in
    answered armed left own owned old ask say new r.0 r.3 (omega (arith, few, two)) (λ always. some) unwritten plain step

pub write_made_after : {T U : Type 0} (W : Store → Store → Type 0) (armed first mid left : Armed) (own once between owned : ℕ) (old s new : Store) (ask : Ask) (say : Say) (x : T) (y : U)
    → MayReadAsArmed armed own (Ok x) first once → ReadsAsArmed first once (Ok y) mid between → 2 ≤ reads_of ask → IsWritten old ask say → say ≢ Say.Refused Code.Fault
    → WritesAsArmed W mid s between (Ok tt) left new owned → Step old ask say new → IsAsArmed armed own old ask say left owned new
write_made_after W armed first mid left own once between owned old s new ask say x y may reads two written plain w step =
    let r = read_both armed first mid own once between x y may reads in
    let some : 1 ≤ r.0 = r.1 in
    let few : r.0 ≤ 2 = r.2 in
    made_on W own between owned old s new ask say written r.0 armed mid left r.3 (omega (arith, few, two)) (λ say always. some) w plain step

pub write_failed_after : {T U : Type 0} (W : Store → Store → Type 0) (armed first mid left : Armed) (own once between owned : ℕ) (old s new : Store) (ask : Ask) (other say : Say) (x : T) (y : U) (e : ShelfError)
    → say ≡ refusal e → s ≡ old → MayReadAsArmed armed own (Ok x) first once → ReadsAsArmed first once (Ok y) mid between → Looks old ask → 2 ≤ reads_of ask → IsWritten old ask other
    → ((after : Store) → W old after → Answers old ask other after) → ((after : Store) × W old after) → WritesAsArmed W mid s between (Err e) left new owned → Step old ask say new
    → IsAsArmed armed own old ask say left owned new
write_failed_after W armed first mid left own once between owned old s new ask other say x y e is same may reads looks two written made can w step =
    let r = read_both armed first mid own once between x y may reads in
    let some : 1 ≤ r.0 = r.1 in
    let few : r.0 ≤ 2 = r.2 in
    let now : Step old ask (refusal e) new = subst (λ z. Step old ask z new) is step in
    told_as armed left own owned old ask say new e is
    (unwritten_on W own between owned old s new ask other same looks written made can r.0 armed mid left r.3 r.4 (omega (arith, few, two)) (λ say always. some) e w now)

-- ---- what is said isn't a fault

pub got_plain : (limit : ℕ) (found : Option (List ℕ)) (say : Say) → GetSays limit found say → say ≢ Say.Refused Code.Fault
got_plain limit None say is fault = let c : Say.Refused Code.Missing ≡ Say.Refused Code.Fault = sym is ∙ fault in absurd (cc)
got_plain limit (Some bytes) say (inl is) fault = let c : Say.Bytes bytes ≡ Say.Refused Code.Fault = sym is.1 ∙ fault in absurd (cc)
got_plain limit (Some bytes) say (inr is) fault = let c : Say.Refused Code.TooLarge ≡ Say.Refused Code.Fault = sym is.1 ∙ fault in absurd (cc)

lock_refused_plain : (e : LockError) → lock_refusal e ≡ Say.Refused Code.Fault → ⊥
lock_refused_plain LockError.Dead h = absurd (cc)
lock_refused_plain LockError.OtherKind h = absurd (cc)
lock_refused_plain LockError.Busy h = absurd (cc)
lock_refused_plain LockError.Full h = absurd (cc)
lock_refused_plain LockError.Memory h = absurd (cc)

lock_refused : (e : LockError) → IsRefused (lock_refusal e)
lock_refused LockError.Dead = tt
lock_refused LockError.OtherKind = tt
lock_refused LockError.Busy = tt
lock_refused LockError.Full = tt
lock_refused LockError.Memory = tt

-- a lock that isn't granted
pub ungranted : {T : Type 0} (armed left : Armed) (own owned : ℕ) (old : Store) (row : LockRow) (say : Say) (new : Store) (x : T) (e : LockError) → say ≡ lock_refusal e → MayReadAsArmed armed own (Ok x) left owned
    → Step old (Ask.Lock row) say new → IsAsArmed armed own old (Ask.Lock row) say left owned new
ungranted armed left own owned old row say new x e is may step =
    looked_up armed left own owned old (Ask.Lock row) say new x may (omega arith) (λ x. elim x [ ]) (λ w. w.1 (subst IsRefused (sym is) (lock_refused e))) (λ fault. lock_refused_plain e (sym is ∙ fault)) step

-- a config that isn't raised
pub undue_plain : (found : Option (List ℕ)) (code : Code) → IsDue found (Due.Refuse code) → Say.Refused code ≡ Say.Refused Code.Fault → ⊥
undue_plain None code is fault = let c : Due.Refuse code ≡ Due.Refuse Code.Missing = is in let d : Say.Refused code ≡ Say.Refused Code.Fault = fault in absurd (cc)
undue_plain (Some text) code (inl is) fault = let c : Say.Refused Code.NoMemory ≡ Say.Refused Code.Fault = ap (λ k. Say.Refused k) (sym is) ∙ fault in absurd (cc)
undue_plain (Some text) code (inr is) fault = let c : Say.Refused Code.Malformed ≡ Say.Refused Code.Fault = ap (λ k. Say.Refused k) (sym is.0) ∙ fault in absurd (cc)

pub raised_already : (old : Store) (found : Option (List ℕ)) → found ≡ old.config → IsDue found Due.Nothing → IsRaised old
raised_already old None is due = absurd (cc)
raised_already old (Some text) is due = (text, sym is, due)
