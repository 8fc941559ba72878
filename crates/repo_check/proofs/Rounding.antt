-- A round over the objects of one kind.
use Rattle.std.proofs.Common.{arith, ◌≡◌, ◌≢◌, ◌≤◌, ◌+◌, ◌++◌, ◌∷◌, [], ℕ, Bool, true, false, List, length, map, take, slice_get, suc, cond, Option, Some, None, refl, sym, ap, subst, inl, inr, ◌∙◌, length-append, Contains}
use Rattle.std.proofs.lemmas.List.{append-nil, take_all}
use Rattle.std.proofs.lemmas.List.Elements.{Contains-append_left, Contains-append_right}
use Rattle.std.proofs.lemmas.Option.{slice_get_within, get_or_from_slice_get}
use Rattle.std.proofs.Math.Seq.{take-suc}
use Rattle.std.specs.Prelude.{Result, Ok, Err, IfOk, OnErr, OnOk}
use Rattle.repo_name.proofs.Containing.{first_contained, none_contained}
use Rattle.repo_name.specs.declared.kinds.Kind.{Kind}
use Rattle.repo_name.specs.declared.names.Name.{Name}
use Rattle.repo_name.specs.declared.tokens.Token.{Token}
use Rattle.repo_wire.specs.declared.messages.Ask.{Ask}
use Rattle.repo_wire.specs.declared.messages.Code.{Code}
use Rattle.repo_wire.specs.declared.messages.Say.{Say}
use Rattle.repo_store.specs.Pages.{Above, Has, NamesAscend}
use Rattle.repo_store.proofs.PageLemmas.{has_left, has_right}
use Rattle.repo_session.specs.Ends.{IsOfOtherVersion}
use Rattle.repo_session.specs.Order.{Task, IsWorking, May, last_of}
use Rattle.repo_session.specs.Readings.{KnowsRoll, Pages, TakesPage}
use Rattle.repo_session.specs.Rolls.{IsNamedObject, IsPaged, IsRolled}
use Rattle.repo_session.specs.Traces.{Each, Exchange, Exchanged, Trace, WasAsked, Object, same_kind, page_names, is_last_page, object_got, objects_in, silent}
use Rattle.repo_session.proofs.Rolling.{has_got, paged_on}
use Rattle.repo_session.specs.Versions.{upto}
use Rattle.repo_session.specs.declared.jobs.Step.{Step}
use Rattle.repo_session.specs.declared.outcomes.End.{End}
use Rattle.repo_session.specs.declared.outcomes.Outcome.{Outcome}
use Rattle.repo_session.specs.declared.parts.Came.{Came}
use Rattle.repo_session.specs.declared.versions.Versions.{Versions}
use Rattle.repo_reach.specs.declared.roots.Root.{Root}
use Rattle.repo_check.specs.Answers.{Answer, IsAnswer}
use Rattle.repo_check.specs.Arrivals.{IsRootOf, TellsNothing}
use Rattle.repo_check.specs.Checking.{CameFor, AreGot}
use Rattle.repo_check.specs.Rounds.{ArePast, CheckComes, IsUntouched, RoundIsListing, IsWholeRound, AsksNext, KnowsRound, CheckSteps, TurnsOn, TurnsWith, TakesObject, TakesSnapshot, Match, IsNoteOf, AreNoted, RoundView, round_of}
use Rattle.repo_check.specs.declared.rounds.Note.{Note}
use Rattle.repo_check.specs.declared.rounds.Round.{Round}

-- ---- what comes of an exchange, by what else is known

module _ (task : Task) (e : Exchange) (es : Trace) (Knows Other : Ask → Trace → Type 0) (on : (ask : Ask) → Knows ask (e ∷ es) → Other ask (e ∷ es)) where
  pub steps_as : (step : Step) → CheckSteps task Knows e es step → CheckSteps task Other e es step
  steps_as (Step.Ask ask) h = (on ask h.0, h.1)
  steps_as (Step.Finish outcome) h = h
  steps_as Step.Want h = h
  steps_as Step.Away h = h

  pub comes_as : (Holds More : Trace → Type 0) → (Holds (e ∷ es) → More (e ∷ es)) → (came : Came (Unit {0})) → CheckComes task Knows Holds came e es → CheckComes task Other More came e es
  comes_as Holds More all (Came.All _) h = all h
  comes_as Holds More all (Came.Step step) h = steps_as step h

-- what holds besides is known, and one thing of another
module _ {T : Type 0} (task : Task) (k : Kind) (round : RoundView T) (turn : Came (Unit {0})) (e : Exchange) (es : Trace) where
  pub turns_with : (Holds : Trace → Type 0) → Holds (e ∷ es) → TurnsOn task k round turn e es → TurnsWith task k round Holds turn e es
  turns_with Holds h = comes_as task e es (KnowsRound k round) (λ ask fs. KnowsRound k round ask fs × Holds fs) (λ ask knows. (knows, h)) (IsWholeRound k round) (λ fs. IsWholeRound k round fs × Holds fs) (λ whole. (whole, h)) turn

  pub turns_as : (Holds More : Trace → Type 0) → (Holds (e ∷ es) → More (e ∷ es)) → TurnsWith task k round Holds turn e es → TurnsWith task k round More turn e es
  turns_as Holds More more = comes_as task e es (λ ask fs. KnowsRound k round ask fs × Holds fs) (λ ask fs. KnowsRound k round ask fs × More fs) (λ ask both. (both.0, more both.1))
      (λ fs. IsWholeRound k round fs × Holds fs) (λ fs. IsWholeRound k round fs × More fs) (λ both. (both.0, more both.1)) turn

-- ---- what comes next

-- a listed name may be got
may_get : (task : Task) (token : Token) (k : Kind) (names : List Name) (i : ℕ) (n : Name) (es : Trace) → IsWorking task token es → IsPaged k names true es → slice_get names i ≡ Some n → May task es (Ask.Get k n)
may_get task token k names i n es w paged next = ((token, w), inl (paged.rise, subst (λ ns. Has ns n) (sym paged.listed) (has_got names i n next)))

module _ {T : Type 0} where
  pub next_on : (task : Task) (token : Token) (k : Kind) (round : RoundView T) (turn : Came (Unit {0})) (e : Exchange) (es : Trace) → IsWorking task token (e ∷ es) → round.kind ≡ k → IsPaged k round.names true (e ∷ es)
      → AsksNext round turn → TurnsOn task k round turn e es
  next_on task token k round (Came.All _) e es w kind paged asks = record { of_kind = kind; paged = paged; all = asks }
  next_on task token k round (Came.Step step) e es w kind paged asks =
      let n = asks.0 in
      let is : Step.Ask (Ask.Get k n) ≡ step = ap (λ j. Step.Ask (Ask.Get j n)) (sym kind) ∙ sym asks.1 in
      subst (λ s. CheckSteps task (KnowsRound k round) e es s) is
      ((refl, record { of_kind = kind; paged = paged; next = asks.2 }), may_get task token k round.names (length round.notes) n (e ∷ es) w paged asks.2)

  -- what the roll knows while its pages come
  pub listing_rolls : (k : Kind) (own : Round T) (after : Option Name) (es : Trace) → RoundIsListing k (round_of own) es → KnowsRoll own.roll (Ask.List k after) es
  listing_rolls k own after es h =
      let round = round_of own in
      let R : Kind → ℕ → Type 0 = λ j read. IsRolled j round.names read false es in
      (sym h.of_kind, h.none_read, subst (λ j. R j round.read) (sym h.of_kind) (subst (λ read. R k read) (sym h.none_read) h.rolled))

  -- and what the round knows of it
  pub roll_known : (k : Kind) (own : Round T) (ask : Ask) (es : Trace) → own.roll.kind ≡ k → own.roll.read ≡ 0 → own.notes.items ≡ [] → ArePast k own.roll.names.items es → KnowsRoll own.roll ask es
      → KnowsRound k (round_of own) ask es
  roll_known k own (Ask.List j after) es kind read none past h =
      let round = round_of own in
      let R : Kind → ℕ → Type 0 = λ i n. IsRolled i round.names n false es in
      (h.0 ∙ kind, record { of_kind = kind; none_read = read; rolled = subst (λ i. R i 0) kind (subst (λ n. R round.kind n) read h.2); past = past; none = none })
  roll_known k own (Ask.Get j n) es kind read none past h =
      let round = round_of own in (
        h.0 ∙ kind,
        record {
          of_kind = kind;
          paged = subst (λ i. IsPaged i round.names true es) kind h.2.paged;
          next = ap (λ i. slice_get round.names i) (ap length none ∙ sym read) ∙ h.1;
        },
      )
  roll_known k own Ask.Ticket es kind read none past h = absurd h
  roll_known k own (Ask.Lock row) es kind read none past h = absurd h
  roll_known k own (Ask.Refresh token time) es kind read none past h = absurd h
  roll_known k own (Ask.Unlock token) es kind read none past h = absurd h
  roll_known k own Ask.Locks es kind read none past h = absurd h
  roll_known k own (Ask.Range pack offset len) es kind read none past h = absurd h
  roll_known k own (Ask.Put token j n x) es kind read none past h = absurd h
  roll_known k own (Ask.Delete token j n) es kind read none past h = absurd h
  roll_known k own (Ask.Upgrade token) es kind read none past h = absurd h
  roll_known k own Ask.Config es kind read none past h = absurd h

-- ---- exchanges of another kind

-- the request is of another kind, or for a place
abbrev pub IsAside : Kind → Ask → Type 0
IsAside k (Ask.List j after) = same_kind j k ≡ false
IsAside k (Ask.Get j n) = same_kind j k ≡ false
IsAside k (Ask.Range pack offset len) = Unit {0}
IsAside k _ = ⊥

module _ (k : Kind) where
  no_names : (ask : Ask) (say : Say) → IsAside k ask → page_names k ask say ≡ []
  no_names (Ask.List j after) (Say.Names more names) h = ap (λ b. cond b names []) h
  no_names (Ask.List j after) (Say.Token token) h = refl
  no_names (Ask.List j after) Say.Done h = refl
  no_names (Ask.List j after) (Say.Bytes x) h = refl
  no_names (Ask.List j after) (Say.LockList rows) h = refl
  no_names (Ask.List j after) (Say.Refused code) h = refl
  no_names (Ask.Get j n) say h = refl
  no_names (Ask.Range pack offset len) say h = refl
  no_names Ask.Ticket say h = absurd h
  no_names (Ask.Lock row) say h = absurd h
  no_names (Ask.Refresh token time) say h = absurd h
  no_names (Ask.Unlock token) say h = absurd h
  no_names Ask.Locks say h = absurd h
  no_names (Ask.Put token j n x) say h = absurd h
  no_names (Ask.Delete token j n) say h = absurd h
  no_names (Ask.Upgrade token) say h = absurd h
  no_names Ask.Config say h = absurd h

  no_last : (ask : Ask) (say : Say) → IsAside k ask → is_last_page k ask say ≡ false
  no_last (Ask.List j after) (Say.Names true names) h = refl
  no_last (Ask.List j after) (Say.Names false names) h = h
  no_last (Ask.List j after) (Say.Token token) h = refl
  no_last (Ask.List j after) Say.Done h = refl
  no_last (Ask.List j after) (Say.Bytes x) h = refl
  no_last (Ask.List j after) (Say.LockList rows) h = refl
  no_last (Ask.List j after) (Say.Refused code) h = refl
  no_last (Ask.Get j n) say h = refl
  no_last (Ask.Range pack offset len) say h = refl
  no_last Ask.Ticket say h = absurd h
  no_last (Ask.Lock row) say h = absurd h
  no_last (Ask.Refresh token time) say h = absurd h
  no_last (Ask.Unlock token) say h = absurd h
  no_last Ask.Locks say h = absurd h
  no_last (Ask.Put token j n x) say h = absurd h
  no_last (Ask.Delete token j n) say h = absurd h
  no_last (Ask.Upgrade token) say h = absurd h
  no_last Ask.Config say h = absurd h

  no_object : (ask : Ask) (say : Say) → IsAside k ask → object_got k ask say ≡ []
  no_object (Ask.List j after) say h = refl
  no_object (Ask.Get j n) (Say.Bytes x) h = ap (λ b. cond b (record { name = n; bytes = x } ∷ []) []) h
  no_object (Ask.Get j n) (Say.Names more names) h = refl
  no_object (Ask.Get j n) (Say.Token token) h = refl
  no_object (Ask.Get j n) Say.Done h = refl
  no_object (Ask.Get j n) (Say.LockList rows) h = refl
  no_object (Ask.Get j n) (Say.Refused code) h = refl
  no_object (Ask.Range pack offset len) say h = refl
  no_object Ask.Ticket say h = absurd h
  no_object (Ask.Lock row) say h = absurd h
  no_object (Ask.Refresh token time) say h = absurd h
  no_object (Ask.Unlock token) say h = absurd h
  no_object Ask.Locks say h = absurd h
  no_object (Ask.Put token j n x) say h = absurd h
  no_object (Ask.Delete token j n) say h = absurd h
  no_object (Ask.Upgrade token) say h = absurd h
  no_object Ask.Config say h = absurd h

  other_self : (j : Kind) → same_kind j k ≡ false → j ≡ k → ⊥
  other_self j h same = let self : same_kind k k ≡ false = subst (λ i. same_kind i k ≡ false) same h in itself k self
    where
      itself : (i : Kind) → same_kind i i ≡ false → ⊥
      itself Kind.Pack p = absurd (cc p)
      itself Kind.Index p = absurd (cc p)
      itself Kind.Snapshot p = absurd (cc p)

  no_list : (ask : Ask) → IsAside k ask → (after : Option Name) → ask ≡ Ask.List k after → ⊥
  no_list (Ask.List j before) h after is = other_self j h (let p = is in cc)
  no_list (Ask.Get j n) h after is = absurd (cc is)
  no_list (Ask.Range pack offset len) h after is = absurd (cc is)
  no_list Ask.Ticket h after is = absurd h
  no_list (Ask.Lock row) h after is = absurd h
  no_list (Ask.Refresh token time) h after is = absurd h
  no_list (Ask.Unlock token) h after is = absurd h
  no_list Ask.Locks h after is = absurd h
  no_list (Ask.Put token j n x) h after is = absurd h
  no_list (Ask.Delete token j n) h after is = absurd h
  no_list (Ask.Upgrade token) h after is = absurd h
  no_list Ask.Config h after is = absurd h

  no_get : (ask : Ask) → IsAside k ask → (n : Name) → ask ≡ Ask.Get k n → ⊥
  no_get (Ask.Get j m) h n is = other_self j h (let p = is in cc)
  no_get (Ask.List j before) h n is = absurd (cc is)
  no_get (Ask.Range pack offset len) h n is = absurd (cc is)
  no_get Ask.Ticket h n is = absurd h
  no_get (Ask.Lock row) h n is = absurd h
  no_get (Ask.Refresh token time) h n is = absurd h
  no_get (Ask.Unlock token) h n is = absurd h
  no_get Ask.Locks h n is = absurd h
  no_get (Ask.Put token j m x) h n is = absurd h
  no_get (Ask.Delete token j m) h n is = absurd h
  no_get (Ask.Upgrade token) h n is = absurd h
  no_get Ask.Config h n is = absurd h

  pub paged_aside : (names : List Name) (whole : Bool) (e : Exchange) (es : Trace) → IsAside k e.ask → IsPaged k names whole es → IsPaged k names whole (e ∷ es)
  paged_aside names whole e es aside h = paged_on k e names whole es (no_names e.ask e.say aside) (no_last e.ask e.say aside) (no_list e.ask aside) h

  past_aside : (names : List Name) (e : Exchange) (es : Trace) → IsAside k e.ask → ArePast k names es → ArePast k names (e ∷ es)
  past_aside names e es aside past after (inl is) = absurd (no_list e.ask aside after is)
  past_aside names e es aside past after (inr was) = past after was

  pub untouched_aside : (e : Exchange) (es : Trace) → IsAside k e.ask → IsUntouched k es → IsUntouched k (e ∷ es)
  untouched_aside e es aside h =
      let same : objects_in k es ++ object_got k e.ask e.say ≡ objects_in k es = ap (λ os. objects_in k es ++ os) (no_object e.ask e.say aside) ∙ append-nil (objects_in k es) in
      record {
        rolled = record {
          paged = paged_aside [] false e es aside h.rolled.paged;
          within = h.rolled.within;
          received = ap (λ os. map (λ (o : Object). o.name) os) same ∙ h.rolled.received;
          named = subst (λ os. Each IsNamedObject os) (sym same) h.rolled.named;
          asked = λ n was. untouched_still n was;
        };
        past = past_aside [] e es aside h.past;
      }
    where
      untouched_still : (n : Name) → WasAsked (e ∷ es) (Ask.Get k n) → Has (take 0 []) n
      untouched_still n (inl is) = absurd (no_get e.ask aside n is)
      untouched_still n (inr was) = h.rolled.asked n was

  -- a page that was asked for behind the names so far, and rose behind them
  pub past_on : (names page : List Name) (after : Option Name) (say : Say) (es : Trace) → NamesAscend after page → page ≢ [] → ArePast k names es → ArePast k (names ++ page) (silent (Ask.List k after) say ∷ es)
  past_on names [] after say es rises some past a was = absurd (some refl)
  past_on names (n ∷ page) after say es rises some past a (inl is) =
      let same : after ≡ a = cc in
      (n, has_right names (n ∷ page) n (inl refl), subst (λ o. Above o n) same rises.0)
  past_on names (n ∷ page) after say es rises some past a (inr was) =
      let p = past a was in
      (p.0, has_left names (n ∷ page) p.0 p.1, p.2)

-- ---- a page that isn't the last one

module _ {T : Type 0} where
  pub page_steps : (task : Task) (k : Kind) (old new : Round T) (after : Option Name) (say : Say) (es : Trace) (step : Step) → new.roll.kind ≡ old.roll.kind → new.roll.read ≡ old.roll.read → new.notes ≡ old.notes → TakesPage old.roll say (Came.Step step) new.roll
      → May task es (Ask.List k after) → RoundIsListing k (round_of old) es → Pages (upto task.versions) task new.roll (Came.Step step) (silent (Ask.List k after) say) es → CheckSteps task (KnowsRound k (round_of new)) (silent (Ask.List k after) say) es step
  page_steps task k old new after say es (Step.Ask ask) kind read notes takes may listing due =
      let e = silent (Ask.List k after) say in
      let page = takes.0 in
      let rises = subst (λ a. NamesAscend a page.0) (sym (may.1.last ∙ ap last_of listing.rolled.paged.listed)) page.2.0 in
      let past = subst (λ ns. ArePast k ns (e ∷ es)) (sym page.3) (past_on k old.roll.names.items page.0 after say es rises (page.2.1 refl) listing.past) in
      (roll_known k new ask (e ∷ es) (kind ∙ listing.of_kind) (read ∙ listing.none_read) (ap (λ v. v.items) notes ∙ listing.none) past due.1.knows, due.1.may)
  page_steps task k old new after say es (Step.Finish outcome) kind read notes takes may listing ends = (ends, inl takes.1)
  page_steps task k old new after say es Step.Want kind read notes takes may listing never = never
  page_steps task k old new after say es Step.Away kind read notes takes may listing unwelcome = (unwelcome, λ tells. tells)

-- ---- notes

-- a request for another thing adds nothing to what was said to this
pub heard_before : (e : Exchange) (es : Trace) (ask : Ask) (say : Say) → (e.ask ≡ ask → ⊥) → Exchanged (e ∷ es) ask say → Exchanged es ask say
heard_before e es ask say other (inl h) = absurd (other h.0)
heard_before e es ask say other (inr h) = h

-- to what was asked something was said
pub heard_of : (es : Trace) (ask : Ask) → WasAsked es ask → (say : Say) × Exchanged es ask say
heard_of [] ask h = absurd h
heard_of (e ∷ es) ask (inl here) = (e.say, inl (here, refl))
heard_of (e ∷ es) ask (inr before) = let more = heard_of es ask before in (more.0, inr more.1)

-- no object of the kind was asked for
abbrev pub IsUngot : Kind → Trace → Type 0
IsUngot k es = (n : Name) (say : Say) → Exchanged es (Ask.Get k n) say → ⊥

-- a request for none of the kind's objects
abbrev pub IsNoGet : Kind → Ask → Type 0
IsNoGet k ask = (n : Name) → ask ≡ Ask.Get k n → ⊥

got_grows : (e : Exchange) (es : Trace) (k : Kind) (n : Name) (bytes : Option (List ℕ)) → CameFor es k n bytes → CameFor (e ∷ es) k n bytes
got_grows e es k n (Some x) h = inr h
got_grows e es k n None h = inr h

all_grow : (e : Exchange) (es : Trace) (k : Kind) (answers : List Answer) → Each (λ (a : Answer). CameFor es k a.name a.bytes) answers → Each (λ (a : Answer). CameFor (e ∷ es) k a.name a.bytes) answers
all_grow e es k [] h = tt
all_grow e es k (a ∷ answers) h = (got_grows e es k a.name a.bytes h.0, all_grow e es k answers h.1)

-- what came just now
pub got_now : (k : Kind) (n : Name) (say : Say) (a : Answer) (es : Trace) → IsAnswer n say a → (a.name ≡ n) × CameFor (silent (Ask.Get k n) say ∷ es) k a.name a.bytes
got_now k n (Say.Bytes x) a es h =
    let fs : Trace = silent (Ask.Get k n) (Say.Bytes x) ∷ es in
    (h.0, subst (λ m. CameFor fs k m a.bytes) (sym h.0) (subst (λ (b : Option (List ℕ)). CameFor fs k n b) (sym h.1) (inl (refl, refl))))
got_now k n (Say.Refused Code.Missing) a es h =
    let fs : Trace = silent (Ask.Get k n) (Say.Refused Code.Missing) ∷ es in
    (h.0, subst (λ m. CameFor fs k m a.bytes) (sym h.0) (subst (λ (b : Option (List ℕ)). CameFor fs k n b) (sym h.1) (inl (refl, refl))))
got_now k n (Say.Refused Code.Malformed) a es h = absurd h
got_now k n (Say.Refused Code.Dead) a es h = absurd h
got_now k n (Say.Refused Code.Busy) a es h = absurd h
got_now k n (Say.Refused Code.NotExclusive) a es h = absurd h
got_now k n (Say.Refused Code.NameMismatch) a es h = absurd h
got_now k n (Say.Refused Code.TooLarge) a es h = absurd h
got_now k n (Say.Refused Code.Range) a es h = absurd h
got_now k n (Say.Refused Code.OtherKind) a es h = absurd h
got_now k n (Say.Refused Code.Fault) a es h = absurd h
got_now k n (Say.Refused Code.NoMemory) a es h = absurd h
got_now k n (Say.Refused Code.Full) a es h = absurd h
got_now k n (Say.Refused Code.Exhausted) a es h = absurd h
got_now k n (Say.Refused Code.AppendOnly) a es h = absurd h
got_now k n (Say.Token token) a es h = absurd h
got_now k n Say.Done a es h = absurd h
got_now k n (Say.Names more names) a es h = absurd h
got_now k n (Say.LockList rows) a es h = absurd h

each_end : {A : Type 0} (P : A → Type 0) (xs : List A) (a : A) → Each P xs → P a → Each P (xs ++ a ∷ [])
each_end P [] a h p = (p, tt)
each_end P (x ∷ xs) a h p = (h.0, each_end P xs a h.1 p)

map_end : {A B : Type 0} (f : A → B) (xs : List A) (a : A) → map f (xs ++ a ∷ []) ≡ map f xs ++ f a ∷ []
map_end f [] a = refl
map_end f (x ∷ xs) a = ap (λ l. f x ∷ l) (map_end f xs a)

one_more : (names : List Name) (i : ℕ) (n : Name) → slice_get names i ≡ Some n → take (i + 1) names ≡ take i names ++ n ∷ []
one_more names i n q =
    let s : i + 1 ≡ suc i = omega arith in
    ap (λ j. take j names) s ∙ take-suc names i n (slice_get_within names i n q) ∙ ap (λ y. take i names ++ y ∷ []) (get_or_from_slice_get names i n n q)

pub match_end : {A B : Type 0} (R : A → B → Type 0) (xs : List A) (ys : List B) (a : A) (b : B) → Match R xs ys → R a b → Match R (xs ++ a ∷ []) (ys ++ b ∷ [])
match_end R [] [] a b h r = (r, tt)
match_end R (x ∷ xs) (y ∷ ys) a b h r = (h.0, match_end R xs ys a b h.1 r)
match_end R [] (y ∷ ys) a b h r = absurd h
match_end R (x ∷ xs) [] a b h r = absurd h

module _ {T : Type 0} (k : Kind) (Gives : Answer → T → Type 0) where
  -- nothing is noted yet
  pub none_noted : (names : List Name) (notes : List (Note T)) (es : Trace) → notes ≡ [] → IsUngot k es → AreNoted k Gives names notes es
  none_noted names notes es none ungot =
      subst (λ ns. AreNoted k Gives names ns es) (sym none) (record { answers = []; named = refl; got = tt; only = λ n say h. absurd (ungot n say h); noted = tt })

  pub noted_grow : (names : List Name) (notes : List (Note T)) (e : Exchange) (es : Trace) → IsNoGet k e.ask → AreNoted k Gives names notes es → AreNoted k Gives names notes (e ∷ es)
  noted_grow names notes e es other h =
      record { answers = h.answers; named = h.named; got = all_grow e es k h.answers h.got; only = λ n say heard. h.only n say (heard_before e es (Ask.Get k n) say (other n) heard); noted = h.noted }

  none_matched : (answers : List Answer) (a : Answer) → Match (IsNoteOf k Gives) answers [] → Contains answers a → ⊥
  none_matched [] a m c = none_contained a c
  none_matched (b ∷ answers) a m c = absurd m

  -- where nothing is noted nothing was asked for
  pub ungot : (names : List Name) (notes : List (Note T)) (es : Trace) → notes ≡ [] → AreNoted k Gives names notes es → IsUngot k es
  ungot names notes es none h n say heard = let a = h.only n say heard in none_matched h.answers a.0 (subst (λ ns. Match (IsNoteOf k Gives) h.answers ns) none h.noted) a.1

  -- so it is after a page
  pub noted_page : (old new : RoundView T) (e : Exchange) (es : Trace) → old.notes ≡ [] → new.notes ≡ old.notes → IsNoGet k e.ask → AreNoted k Gives old.names old.notes es → AreNoted k Gives new.names new.notes (e ∷ es)
  noted_page old new e es none same other h =
      none_noted new.names new.notes (e ∷ es) (same ∙ none) (λ n say heard. ungot old.names old.notes es none h n say (heard_before e es (Ask.Get k n) say (other n) heard))

  -- one more note
  pub noted_more : (names : List Name) (notes more : List (Note T)) (note : Note T) (n : Name) (say : Say) (a : Answer) (es : Trace) → AreNoted k Gives names notes es → slice_get names (length notes) ≡ Some n → IsAnswer n say a
      → IsNoteOf k Gives a note → more ≡ notes ++ note ∷ [] → AreNoted k Gives names more (silent (Ask.Get k n) say ∷ es)
  noted_more names notes more note n say a es h next answer noted is =
      let e = silent (Ask.Get k n) say in
      let now = got_now k n say a es answer in
      let long : length (notes ++ note ∷ []) ≡ length notes + 1 = length-append notes (note ∷ []) in
      let f : Answer → Name = λ b. b.name in
      subst (λ ns. AreNoted k Gives names ns (e ∷ es)) (sym is) (record {
        answers = h.answers ++ a ∷ [];
        named = map_end f h.answers a ∙ ap (λ l. l ++ a.name ∷ []) h.named ∙ ap (λ m. take (length notes) names ++ m ∷ []) now.0 ∙ sym (one_more names (length notes) n next) ∙ ap (λ i. take i names) (sym long);
        got = each_end (λ (b : Answer). CameFor (e ∷ es) k b.name b.bytes) h.answers a (all_grow e es k h.answers h.got) now.1;
        only = λ m said heard. elim heard [
          | inl this ↦ (
              let same : n ≡ m = let p = this.0 in cc in
              (a, Contains-append_right h.answers (a ∷ []) a (first_contained a []), subst (λ i. IsAnswer i said a) same (subst (λ s. IsAnswer n s a) this.1 answer))
              )
          | inr before ↦ (let there = h.only m said before in (there.0, Contains-append_left h.answers (a ∷ []) there.0 there.1, there.2))
        ];
        noted = match_end (IsNoteOf k Gives) h.answers notes a note h.noted noted;
      })

  -- what is known after an object was noted
  pub taken : (old new : RoundView T) (note : Note T) (n : Name) (say : Say) (turn : Came (Unit {0})) → ((a : Answer) × IsAnswer n say a × IsNoteOf k Gives a note) → new.kind ≡ old.kind → new.names ≡ old.names → new.notes ≡ old.notes ++ note ∷ [] → AsksNext new turn → TakesObject k Gives old n say turn new
  taken old new note n say turn look kind names notes asks = λ task token es w getting noted.
      let e = silent (Ask.Get k n) say in
      let paged = paged_on k e old.names true es refl refl (λ after same. absurd (cc same)) getting.paged in
      let more = noted_more old.names old.notes new.notes note n say look.0 es noted getting.next look.1 look.2 notes in
      turns_with task k new turn e es (AreNoted k Gives new.names new.notes) (subst (λ ns. AreNoted k Gives ns new.notes (e ∷ es)) (sym names) more)
      (next_on task token k new turn e es w (kind ∙ getting.of_kind) (subst (λ ns. IsPaged k ns true (e ∷ es)) (sym names) paged) asks)

  -- a reply that tells nothing ends the round
  pub ended : (round : RoundView T) (n : Name) (say : Say) → TellsNothing (Ask.Get k n) say → TakesObject k Gives round n say (Came.Step Step.Away) round
  ended round n say nothing = λ task token es w getting noted. nothing

  -- once all are noted they were received
  pub all_got : (round : RoundView T) (es : Trace) → IsWholeRound k round es → (h : AreNoted k Gives round.names round.notes es) → AreGot es k h.answers
  all_got round es whole h = record {
    listed = record { complete = whole.paged.complete; rise = whole.paged.rise };
    names = h.named ∙ take_all (length round.notes) round.names whole.all ∙ sym whole.paged.listed;
    each = h.got;
    only = h.only;
  }

-- what two clauses say of a result
pub ok_with : {T E : Type 0} (r : Result T E) (A : Type 0) (P Q : T → Type 0) → ((x : T) → A → P x → Q x) → OnOk r A → IfOk r P → IfOk r Q
ok_with (Ok x) A P Q f a p = f x a p
ok_with (Err e) A P Q f a p = p

pub of_any : {T E : Type 0} (r : Result T E) (P : T → Type 0) → ((x : T) → P x) → IfOk r P
of_any (Ok x) P h = h x
of_any (Err e) P h = tt

pub on_any : {T E P : Type 0} (r : Result T E) → P → OnErr r P
on_any (Ok x) p = tt
on_any (Err e) p = p

-- a page after which nothing is to be asked for brought nothing
pub none_brought : (old page : List Name) (n : ℕ) → n ≡ 0 → length (old ++ page) ≤ n → old ++ page ≡ old
none_brought [] [] n none few = refl
none_brought [] (x ∷ page) n none few = absurd (omega (arith, none, few))
none_brought (x ∷ old) page n none few = absurd (omega (arith, none, few))

pub err_with : {T E A B : Type 0} (r : Result T E) → (A → B) → OnErr r A → OnErr r B
err_with (Ok x) f a = tt
err_with (Err e) f a = f a

-- ---- snapshots, of who knows some versions

pub by_versions : (versions : Versions) (old new : RoundView Root) (n : Name) (say : Say) (turn : Came (Unit {0})) → TakesObject Kind.Snapshot IsRootOf old n say turn new → TakesSnapshot versions old n say turn new
by_versions versions old new n say turn h = λ task token es is w getting noted. h task token es w getting noted

pub other_version : (versions : Versions) (round : RoundView Root) (n : Name) (say : Say) → IsOfOtherVersion (upto versions) (Ask.Get Kind.Snapshot n) say
    → TakesSnapshot versions round n say (Came.Step (Step.Finish (Outcome.Ended End.Version))) round
other_version versions round n say h = λ task token es is w getting noted. ((End.Version, refl, subst (λ v. IsOfOtherVersion (upto v) (Ask.Get Kind.Snapshot n) say) (sym is) h), inr refl)
