-- What each call of a hall does.
use Rattle.std.proofs.Common.{◌≡◌, ◌≢◌, ◌⊎◌, ◌<◌, ◌+◌, ◌++◌, ◌∷◌, [], ℕ, zero, suc, List, Some, Bool, true, false, Result, Ok, Err, IfOk, OnOk, OnErr, length, take, drop, slice_get, slice_set, slice_index_or, refl, sym, ap, subst, arith, inl, inr, ◌∙◌}
use Rattle.repo_wire.specs.declared.messages.Reply.{Reply}
use Rattle.repo_wire.specs.declared.messages.Request.{Request}
use Rattle.repo_wire.specs.Messages.{requests}
use Rattle.repo_wire.specs.Reading.{Reading, Follows, fed}
use Rattle.repo_wire.proofs.Streams.{readers_follow}
use Rattle.repo_store.specs.declared.forms.ServiceError.{ServiceError}
use Rattle.repo_store.specs.Runs.{StoreRun}
use Rattle.repo_store.specs.Serving.{HaveCause, Ran}
use Rattle.repo_store.specs.Stores.{Store}
use Rattle.repo_store.proofs.RunLemmas.{run_on}
use Rattle.repo_store.proofs.ServiceLemmas.{causes_on}
use Rattle.repo_hall.specs.declared.guests.Guest.{Guest}
use Rattle.repo_hall.specs.Guests.{GuestAnswered, GuestRests, GuestGoes, IsGuest, IsNewGuest, out_of}
use Rattle.repo_hall.specs.Halls.{Housed, Stands, AnswerAdds, LeavesOthers, StaysGuest}
use Rattle.repo_hall.specs.Happenings.{Happening, Brought, Answered, Given, Log, Stay, IsStay, all_asked, all_replies, no_stay, going_on, stay, whose}
use Rattle.repo_hall.proofs.Staying.{IsDue, empty_stay, guest_stay, new_guest, guest_answers, guest_rests, guest_brought, guest_gave, get_set, housed_set, housed_on, stays_on}

-- what a call does to a table of guests, from wherever it stands

abbrev pub answers_at : List Guest → ℕ → ℕ → Store → ℕ → Result Bool ServiceError → List Guest → ℕ → Store → ℕ → Type 0
answers_at old entered place mid k result new entering to l = (from : Store) (failed : ℕ) (log : Log) → Stands from failed old entered log mid k
    → (next : Log) × AnswerAdds old place result log next × Stands from failed new entering next to l

abbrev pub happens_at : (ℕ → Happening) → List Guest → ℕ → ℕ → List Guest → ℕ → Type 0
happens_at what old entered place new entering = (from to : Store) (failed failing : ℕ) (log : Log) → Stands from failed old entered log to failing
    → (g : Guest) × (slice_get old place ≡ Some g) × Stands from failed new entering (what g.number ∷ log) to failing

abbrev pub nothing_happens : List Guest → ℕ → List Guest → ℕ → Type 0
nothing_happens old entered new entering = (from to : Store) (failed failing : ℕ) (log : Log) → Stands from failed old entered log to failing
    → Stands from failed new entering log to failing

-- a place that is there has the guest that a reference to it shows
pub get_there : (xs : List Guest) (k : ℕ) (d : Guest) → k < length xs → d ≡ slice_index_or xs k d → slice_get xs k ≡ Some d
get_there [] k d less e = absurd (omega (arith, less))
get_there (x ∷ xs) zero d less e = ap Some (sym e)
get_there (x ∷ xs) (suc k) d less e = get_there xs k d (by_arith less) e where
  by_arith : suc k < suc (length xs) → k < length xs
  by_arith h = omega (arith, h)

-- a place that is there has a guest
pub there : (xs : List Guest) (k : ℕ) → k < length xs → (g : Guest) × (slice_get xs k ≡ Some g)
there [] k less = absurd (omega (arith, less))
there (x ∷ xs) zero less = (x, refl)
there (x ∷ xs) (suc k) less = there xs k (by_arith less) where
  by_arith : suc k < suc (length xs) → k < length xs
  by_arith h = omega (arith, h)

-- at the place where one was set there is that one
pub get_own : (xs : List Guest) (k : ℕ) (y g : Guest) → slice_get (slice_set xs k y) k ≡ Some g → g ≡ y
get_own xs k y g h = own (get_set xs k y k g h) where
  own : ((k ≡ k) × (g ≡ y)) ⊎ ((k ≢ k) × (slice_get xs k ≡ Some g)) → g ≡ y
  own (inl e) = e.1
  own (inr e) = absurd (e.0 refl)

-- the others of a table in which one was set
pub set_others : (xs : List Guest) (k : ℕ) (y : Guest) → LeavesOthers xs k (slice_set xs k y)
set_others [] k y j other = refl
set_others (x ∷ xs) zero y zero other = absurd (other refl)
set_others (x ∷ xs) zero y (suc j) other = refl
set_others (x ∷ xs) (suc k) y zero other = refl
set_others (x ∷ xs) (suc k) y (suc j) other = set_others xs k y j (λ e. other (ap suc e))

-- the number of one that was set in the place of another one of that number
pub set_number : (xs : List Guest) (k : ℕ) (d y : Guest) → slice_get xs k ≡ Some d → y.number ≡ d.number → StaysGuest xs k (slice_set xs k y)
set_number xs k d y at same g h found now =
    let was : d ≡ g = cc (at, found) in
    ap (λ (x : Guest). x.number) (get_own xs k y h now) ∙ same ∙ ap (λ (x : Guest). x.number) was

-- a table in which one was set that was there already
pub set_same : (xs : List Guest) (k : ℕ) (d : Guest) → slice_get xs k ≡ Some d → slice_set xs k d ≡ xs
set_same [] zero d h = refl
set_same [] (suc k) d h = refl
set_same (x ∷ xs) zero d h = let e : x ≡ d = cc h in ap (λ y. y ∷ xs) (sym e)
set_same (x ∷ xs) (suc k) d h = ap (λ ys. x ∷ ys) (set_same xs k d h)

no_cause : (n : ℕ) → HaveCause n [] n
no_cause n = refl

pub begins : (from : Store) (failed : ℕ) → Stands from failed [] 0 [] from failed
begins from failed = record {
  hosted = record { run = refl; cause = no_cause failed; stays = λ k. empty_stay };
  housed = record { each = λ j g h. absurd (cc h); apart = λ i j g h e d n. absurd (cc e); known = λ j g h. absurd (cc h); later = λ k far. refl };
}

-- ---- answering

one_more : (guests : List Guest) (entered place : ℕ) (old new : Guest) (mid : Store) (k : ℕ) (to : Store) (l : ℕ) (request : Request) (reply : Reply) (from : Store) (failed : ℕ) (log : Log)
    → slice_get guests place ≡ Some old → GuestAnswered old new request reply mid k to l → IsDue new reply → Stands from failed guests entered log mid k
    → Stands from failed (slice_set guests place new) entered (Answered old.number request reply ∷ log) to l
one_more guests entered place old new mid k to l request reply from failed log at a due s =
    let h = Answered old.number request reply in
    let is = guest_answers (stay old.number log) old new request reply mid k to l (s.housed.each place old at) a due in
    record {
      hosted = record {
        run = run_on from (all_asked log) (all_replies log) mid request reply to s.hosted.run a.step;
        cause = causes_on failed k l (all_replies log) reply s.hosted.cause a.cause;
        stays = stays_on log h s.hosted.stays (guest_stay (going_on h (stay old.number log)) new is);
      };
      housed = housed_on guests entered log place old new h s.housed at a.number refl is;
    }

none_more : (guests : List Guest) (entered place : ℕ) (old new : Guest) (mid : Store) (k : ℕ) (to : Store) (l : ℕ) (from : Store) (failed : ℕ) (log : Log) → slice_get guests place ≡ Some old
    → GuestRests old new mid k to l → Stands from failed guests entered log mid k → Stands from failed (slice_set guests place new) entered log to l
none_more guests entered place old new mid k to l from failed log at r s =
    let P : Store → Type 0 = λ x. StoreRun from (all_asked log) (all_replies log) x in
    let Q : ℕ → Type 0 = λ x. HaveCause failed (all_replies log) x in
    record {
      hosted = record { run = subst P (sym r.store) s.hosted.run; cause = subst Q (sym r.failures) s.hosted.cause; stays = s.hosted.stays };
      housed = housed_set guests entered log log place old new s.housed at r.number (λ n other. refl) (guest_rests (stay old.number log) old new mid k to l (s.housed.each place old at) r);
    }

pub hall_answers : (guests : List Guest) (entered place : ℕ) (result : Result Bool ServiceError) (old new : Guest) (mid : Store) (k : ℕ) (to : Store) (l : ℕ) → slice_get guests place ≡ Some old
    → GuestGoes old result new mid k to l → answers_at guests entered place mid k result (slice_set guests place new) entered to l
hall_answers guests entered place (Ok true) old new mid k to l at (request, reply, a, out, up) from failed log s = (
  Answered old.number request reply ∷ log,
  (old, at, request, reply, refl),
  one_more guests entered place old new mid k to l request reply from failed log at a (inl (out, up)) s,
)
hall_answers guests entered place (Ok false) old new mid k to l at r from failed log s = (log, refl, none_more guests entered place old new mid k to l from failed log at r s)
hall_answers guests entered place (Err (ServiceError.Wire fault)) old new mid k to l at (r, told) from failed log s =
    let n = old.number in
    let stream = (readers_follow requests).told (stay n log).bytes (stay n log).asked fault old.reader new.reader (s.housed.each place old at).reader told in
    (log, (refl, (old, at, stream)), none_more guests entered place old new mid k to l from failed log at r s)
hall_answers guests entered place (Err ServiceError.Memory) old new mid k to l at (inl r) from failed log s =
    (log, inl refl, none_more guests entered place old new mid k to l from failed log at r s)
hall_answers guests entered place (Err ServiceError.Memory) old new mid k to l at (inr (request, reply, a, out, over)) from failed log s = (
  Answered old.number request reply ∷ log,
  inr (old, at, request, reply, refl),
  one_more guests entered place old new mid k to l request reply from failed log at a (inr (out, over)) s,
)
hall_answers guests entered place (Err ServiceError.Write) old new mid k to l at never from failed log s = absurd never
hall_answers guests entered place (Err ServiceError.Limit) old new mid k to l at never from failed log s = absurd never

-- whatever stood before, it is a run
answered_ran : (old new : Guest) (request : Request) (reply : Reply) (from : Store) (failed : ℕ) (to : Store) (failing : ℕ) → GuestAnswered old new request reply from failed to failing → Ran from failed to failing
answered_ran old new request reply from failed to failing a = (request ∷ [], reply ∷ [], (to, a.step, refl), (failing, a.cause, refl))

rests_ran : (old new : Guest) (from : Store) (failed : ℕ) (to : Store) (failing : ℕ) → GuestRests old new from failed to failing → Ran from failed to failing
rests_ran old new from failed to failing r =
    let Q : ℕ → Type 0 = λ x. HaveCause failed [] x in
    ([], [], r.store, subst Q (sym r.failures) (no_cause failed))

pub goes_ran : (result : Result Bool ServiceError) (old new : Guest) (from : Store) (failed : ℕ) (to : Store) (failing : ℕ) → GuestGoes old result new from failed to failing → Ran from failed to failing
goes_ran (Ok true) old new from failed to failing (request, reply, a, out, up) = answered_ran old new request reply from failed to failing a
goes_ran (Ok false) old new from failed to failing r = rests_ran old new from failed to failing r
goes_ran (Err (ServiceError.Wire fault)) old new from failed to failing r = rests_ran old new from failed to failing r.0
goes_ran (Err ServiceError.Memory) old new from failed to failing (inl r) = rests_ran old new from failed to failing r
goes_ran (Err ServiceError.Memory) old new from failed to failing (inr (request, reply, a, out, over)) = answered_ran old new request reply from failed to failing a
goes_ran (Err ServiceError.Write) old new from failed to failing never = absurd never
goes_ran (Err ServiceError.Limit) old new from failed to failing never = absurd never

-- ---- the guests

-- something happened to a guest, and nothing to the store
happened : (guests : List Guest) (entered place : ℕ) (old new : Guest) (h : Happening) (from to : Store) (failed failing : ℕ) (log : Log) → slice_get guests place ≡ Some old → new.number ≡ old.number
    → whose h ≡ old.number → all_asked (h ∷ log) ≡ all_asked log → all_replies (h ∷ log) ≡ all_replies log → IsGuest (going_on h (stay old.number log)) new
    → Stands from failed guests entered log to failing → Stands from failed (slice_set guests place new) entered (h ∷ log) to failing
happened guests entered place old new h from to failed failing log at number own asked replies is s =
    let P : List Request → Type 0 = λ x. StoreRun from x (all_replies log) to in
    let R : List Reply → Type 0 = λ x. StoreRun from (all_asked (h ∷ log)) x to in
    let Q : List Reply → Type 0 = λ x. HaveCause failed x failing in
    let V : ℕ → Type 0 = λ n. IsStay (going_on h (stay n log)) in
    record {
      hosted = record {
        run = subst R (sym replies) (subst P (sym asked) s.hosted.run);
        cause = subst Q (sym replies) s.hosted.cause;
        stays = stays_on log h s.hosted.stays (subst V (sym own) (guest_stay (going_on h (stay old.number log)) new is));
      };
      housed = housed_on guests entered log place old new h s.housed at number own is;
    }

pub hall_brings : (guests : List Guest) (entered place : ℕ) (old new : Guest) (piece : List ℕ) → slice_get guests place ≡ Some old → new.reader ≡ fed old.reader piece → new.number ≡ old.number
    → out_of new ≡ out_of old → new.ended ≡ old.ended → happens_at (λ n. Brought n piece) guests entered place (slice_set guests place new) entered
hall_brings guests entered place old new piece at reader number out ended from to failed failing log s =
    let is = guest_brought (stay old.number log) old new piece (s.housed.each place old at) reader out ended in
    (old, at, happened guests entered place old new (Brought old.number piece) from to failed failing log at number refl refl refl is s)

pub hall_gives : (guests : List Guest) (entered place : ℕ) (old new : Guest) (n : ℕ) → slice_get guests place ≡ Some old → new.reader ≡ old.reader → new.number ≡ old.number
    → out_of new ≡ drop n (out_of old) → new.ended ≡ old.ended → happens_at (λ k. Given k (take n (out_of old))) guests entered place (slice_set guests place new) entered
hall_gives guests entered place old new n at reader number out ended from to failed failing log s =
    let is = guest_gave (stay old.number log) old new n (s.housed.each place old at) reader out ended in
    (old, at, happened guests entered place old new (Given old.number (take n (out_of old))) from to failed failing log at number refl refl refl is s)

-- a guest that is as it was
pub hall_same : (guests : List Guest) (entered place : ℕ) (old new : Guest) → slice_get guests place ≡ Some old → new.reader ≡ old.reader → new.number ≡ old.number
    → out_of new ≡ out_of old → new.ended ≡ old.ended → nothing_happens guests entered (slice_set guests place new) entered
hall_same guests entered place old new at reader number out ended from to failed failing log s =
    none_more guests entered place old new to failing to failing from failed log at rests s where
      follows : (bytes : List ℕ) (asked : List Request) → Follows requests bytes asked old.reader → Follows requests bytes asked new.reader
      follows bytes asked h = let P : Reading → Type 0 = λ r. Follows requests bytes asked r in subst P (sym reader) h

      rests : GuestRests old new to failing to failing
      rests = record { number = number; follows = follows; out = out; ended = λ up. sym ended ∙ up; store = refl; failures = refl }

-- ---- who comes

-- a table with a new guest at one place, and elsewhere what was there
housed_new : (guests next : List Guest) (entered k : ℕ) (new : Guest) (log : Log) → Housed guests entered log → IsNewGuest new entered
    → ((j : ℕ) (g : Guest) → slice_get next j ≡ Some g → ((j ≡ k) × (g ≡ new)) ⊎ ((j ≢ k) × (slice_get guests j ≡ Some g))) → Housed next (entered + 1) log
housed_new guests next entered k new log s is_new at = record {
  each = λ j g h. each j g (at j g h);
  apart = λ i j g f h e. apart i j g f (at i g h) (at j f e);
  known = λ j g h. known j g (at j g h);
  later = λ n far. s.later n (omega (arith, far));
} where
  none : stay new.number log ≡ no_stay
  none = s.later new.number (omega (arith, is_new.number))

  each : (j : ℕ) (g : Guest) → ((j ≡ k) × (g ≡ new)) ⊎ ((j ≢ k) × (slice_get guests j ≡ Some g)) → IsGuest (stay g.number log) g
  each j g (inl e) =
      let P : Guest → Type 0 = λ x. IsGuest (stay x.number log) x in
      let Q : Stay → Type 0 = λ v. IsGuest v new in
      subst P (sym e.1) (subst Q (sym none) (new_guest new entered is_new))
  each j g (inr e) = s.each j g e.1

  numbered : (g : Guest) → g ≡ new → g.number ≡ entered
  numbered g e = ap (λ (x : Guest). x.number) e ∙ is_new.number

  apart : (i j : ℕ) (g f : Guest) → ((i ≡ k) × (g ≡ new)) ⊎ ((i ≢ k) × (slice_get guests i ≡ Some g)) → ((j ≡ k) × (f ≡ new)) ⊎ ((j ≢ k) × (slice_get guests j ≡ Some f)) → g.number ≡ f.number → i ≡ j
  apart i j g f (inl e) (inl d) n = e.0 ∙ sym d.0
  apart i j g f (inl e) (inr d) n = let less = s.known j f d.1 in let is = numbered g e.1 in absurd (omega (arith, less, is, n))
  apart i j g f (inr e) (inl d) n = let less = s.known i g e.1 in let is = numbered f d.1 in absurd (omega (arith, less, is, n))
  apart i j g f (inr e) (inr d) n = s.apart i j g f e.1 d.1 n

  known : (j : ℕ) (g : Guest) → ((j ≡ k) × (g ≡ new)) ⊎ ((j ≢ k) × (slice_get guests j ≡ Some g)) → g.number < entered + 1
  known j g (inl e) = let is = numbered g e.1 in omega (arith, is)
  known j g (inr e) = let less = s.known j g e.1 in omega (arith, less)

get_push : (xs : List Guest) (y : Guest) (j : ℕ) (g : Guest) → slice_get (xs ++ y ∷ []) j ≡ Some g → ((j ≡ length xs) × (g ≡ y)) ⊎ ((j ≢ length xs) × (slice_get xs j ≡ Some g))
get_push [] y zero g h = inl (refl, cc h)
get_push [] y (suc j) g h = absurd (cc h)
get_push (x ∷ xs) y zero g h = inr (λ e. omega (arith, e), h)
get_push (x ∷ xs) y (suc j) g h = further (get_push xs y j g h) where
  further : ((j ≡ length xs) × (g ≡ y)) ⊎ ((j ≢ length xs) × (slice_get xs j ≡ Some g)) → ((suc j ≡ suc (length xs)) × (g ≡ y)) ⊎ ((suc j ≢ suc (length xs)) × (slice_get xs j ≡ Some g))
  further (inl e) = inl (ap suc e.0, e.1)
  further (inr e) = inr (λ same. e.0 (omega (arith, same)), e.1)

pub hall_renews : (guests : List Guest) (entered place : ℕ) (new : Guest) → IsNewGuest new entered → nothing_happens guests entered (slice_set guests place new) (entered + 1)
hall_renews guests entered place new is_new from to failed failing log s =
    record { hosted = s.hosted; housed = housed_new guests (slice_set guests place new) entered place new log s.housed is_new (get_set guests place new) }

pub hall_grows : (guests : List Guest) (entered : ℕ) (new : Guest) → IsNewGuest new entered → nothing_happens guests entered (guests ++ new ∷ []) (entered + 1)
hall_grows guests entered new is_new from to failed failing log s =
    record { hosted = s.hosted; housed = housed_new guests (guests ++ new ∷ []) entered (length guests) new log s.housed is_new (get_push guests new) }

-- ---- what follows in one case

pub ok_then : {A E : Type 0} (result : Result A E) (P Q : Type 0) → OnOk result P → (P → Q) → OnOk result Q
ok_then (Ok x) P Q h f = f h
ok_then (Err e) P Q h f = tt

pub err_then : {A E : Type 0} (result : Result A E) (P Q : Type 0) → OnErr result P → (P → Q) → OnErr result Q
err_then (Ok x) P Q h f = tt
err_then (Err e) P Q h f = f h

pub if_ok_then : {A E : Type 0} (result : Result A E) (P Q : A → Type 0) → IfOk result P → ((x : A) → P x → Q x) → IfOk result Q
if_ok_then (Ok x) P Q h f = f x h
if_ok_then (Err e) P Q h f = tt
