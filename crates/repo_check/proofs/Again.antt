-- A survey asks for nothing again, and for one kind after the other.
use Rattle.std.proofs.Common.{◌≡◌, ◌-◌, ◌∷◌, [], ℕ, suc, arith, List, length, map, slice_get, Option, Some, None, refl, sym, ap, subst, inl, inr, ◌∙◌}
use Rattle.repo_name.specs.Naming.{Before}
use Rattle.repo_index.specs.Order.{names_total}
use Rattle.repo_name.proofs.Containing.{contains_got}
use Rattle.repo_name.specs.declared.kinds.Kind.{Kind}
use Rattle.repo_name.specs.declared.names.Name.{Name}
use Rattle.repo_wire.specs.declared.messages.Ask.{Ask}
use Rattle.repo_wire.specs.declared.messages.Code.{Code}
use Rattle.repo_wire.specs.declared.messages.Say.{Say}
use Rattle.repo_store.specs.Pages.{Above, Has, NamesAscend}
use Rattle.repo_session.specs.Order.{IsNextPage, May, Task, last_of}
use Rattle.repo_session.specs.Traces.{Trace, WasAsked, names_in}
use Rattle.repo_session.proofs.Rolling.{not_among, not_before}
use Rattle.repo_check.specs.Answers.{Answer, IsAnswer, IsReachedBlob}
use Rattle.repo_check.specs.Arrivals.{IsIndexOf, IsPackOf, IsRootOf}
use Rattle.repo_name.specs.declared.kinds.BlobKind.TheVariants.{Tree}
use Rattle.repo_check.specs.Checking.{AreAllHeard, IsAskedInTurn, MayRead}
use Rattle.repo_check.specs.Laws.{HeardOnce}
use Rattle.repo_check.specs.Rounds.{AreNoted, ArePast, IsGetting, IsWholeRound, KnowsRound, RoundView}
use Rattle.repo_check.specs.Surveys.{AtTrees, KnowsNotes, RoundsView, Surveys}
use Rattle.repo_check.specs.Walks.{IsSettled, WalkView}
use Rattle.repo_check.proofs.Finding.{got_once, has_name}
use Rattle.repo_check.proofs.Gathered.{HasCome, answers_of, lies_of}
use Rattle.repo_check.proofs.Led.{got, ranged_so_far, tree_reached}
use Rattle.repo_check.proofs.Reading.{seen_settled}
use Rattle.repo_check.proofs.Rounding.{all_got, got_now, heard_of}
use Rattle.repo_check.proofs.Walking.{due_not_settled}

-- what was said is what came
say_of : Option (List ℕ) → Say
say_of (Some x) = Say.Bytes x
say_of None = Say.Refused Code.Missing

said_is : (n : Name) (say : Say) (a : Answer) → IsAnswer n say a → say ≡ say_of a.bytes
unfolding say_of
said_is n (Say.Bytes x) a h = sym (ap say_of h.1)
said_is n (Say.Refused Code.Missing) a h = sym (ap say_of h.1)
said_is n (Say.Refused Code.Malformed) a h = absurd h
said_is n (Say.Refused Code.Dead) a h = absurd h
said_is n (Say.Refused Code.Busy) a h = absurd h
said_is n (Say.Refused Code.NotExclusive) a h = absurd h
said_is n (Say.Refused Code.NameMismatch) a h = absurd h
said_is n (Say.Refused Code.TooLarge) a h = absurd h
said_is n (Say.Refused Code.Range) a h = absurd h
said_is n (Say.Refused Code.OtherKind) a h = absurd h
said_is n (Say.Refused Code.Fault) a h = absurd h
said_is n (Say.Refused Code.NoMemory) a h = absurd h
said_is n (Say.Refused Code.Full) a h = absurd h
said_is n (Say.Refused Code.Exhausted) a h = absurd h
said_is n (Say.Refused Code.AppendOnly) a h = absurd h
said_is n (Say.Token token) a h = absurd h
said_is n Say.Done a h = absurd h
said_is n (Say.Names more names) a h = absurd h
said_is n (Say.LockList rows) a h = absurd h

pub heard_once : HeardOnce
heard_once es answers are k n one other heard again =
    let got = are.objects k in
    let a = got.only n one heard in
    let b = got.only n other again in
    let same : a.0 ≡ b.0 = got_once es k (answers.objects k) got a.0 b.0 a.1 b.1 ((got_now k n one a.0 es a.2).0 ∙ sym (got_now k n other b.0 es b.2).0) in
    said_is n one a.0 a.2 ∙ ap (λ (c : Answer). say_of c.bytes) same ∙ sym (said_is n other b.0 b.2)

-- behind the last of names that ascend comes none of them
above_more : (a : Option Name) (n m : Name) → Above a n → Before n m → Above a m
above_more None n m above before = tt
above_more (Some b) n m above before = names_total.trans b n m above before

none_past : (a : Option Name) (names : List Name) → NamesAscend a names → (n : Name) → Has names n → (last : Option Name) → last_of names ≡ last → Above last n → ⊥
none_past a [] h n has last is above = has
none_past a (x ∷ []) h n (inl same) last is above = not_before x (subst (λ m. Before x m) same (subst (λ o. Above o n) (sym is) above))
none_past a (x ∷ []) h n (inr more) last is above = more
none_past a (x ∷ y ∷ names) h n (inl same) last is above =
    let step : length (x ∷ y ∷ names) - 1 ≡ suc (length (y ∷ names) - 1) = omega arith in
    none_past (Some x) (y ∷ names) h.1 y (inl refl) last (sym (ap (λ i. slice_get (x ∷ y ∷ names) i) step) ∙ is) (above_more last x y (subst (λ m. Above last m) same above) h.1.0)
none_past a (x ∷ y ∷ names) h n (inr more) last is above =
    let step : length (x ∷ y ∷ names) - 1 ≡ suc (length (y ∷ names) - 1) = omega arith in
    none_past (Some x) (y ∷ names) h.1 n more last (sym (ap (λ i. slice_get (x ∷ y ∷ names) i) step) ∙ is) above

-- the next page wasn't asked for
page_new : (k : Kind) (after : Option Name) (names : List Name) (es : Trace) → IsNextPage k after es → names_in k es ≡ names → ArePast k names es → WasAsked es (Ask.List k after) → ⊥
page_new k after names es next listed past was =
    let p = past after was in
    none_past None names (subst (λ ns. NamesAscend None ns) listed next.rise.ascend) p.0 p.1 after (sym (next.last ∙ ap last_of listed)) p.2

-- where each object was noted, each was heard of
all_heard : {T : Type 0} (k : Kind) (Gives : Answer → T → Type 0) (round : RoundView T) (es : Trace) → IsWholeRound k round es → AreNoted k Gives round.names round.notes es → AreAllHeard k es
all_heard k Gives round es whole noted = (noted.answers, all_got k Gives round es whole noted)

module _ {T : Type 0} (k : Kind) (Gives : Answer → T → Type 0) (round : RoundView T) (es : Trace) (noted : AreNoted k Gives round.names round.notes es) where
  -- the next object wasn't asked for
  never_got : (n : Name) → IsGetting k round n es → WasAsked es (Ask.Get k n) → ⊥
  never_got n getting was =
      let heard = heard_of es (Ask.Get k n) was in
      let a = noted.only n heard.0 heard.1 in
      let named : a.0.name ≡ n = (got_now k n heard.0 a.0 es a.2).0 in
      let has : Has (map (λ (b : Answer). b.name) noted.answers) n = subst (λ m. Has (map (λ (b : Answer). b.name) noted.answers) m) named (has_name noted.answers a.0 a.1) in
      not_among None round.names (length round.notes) n (subst (λ ns. NamesAscend None ns) getting.paged.listed getting.paged.rise.ascend) getting.next (subst (λ ns. Has ns n) noted.named has)

  -- what is pending of a round may be read, where the kinds before it were heard of
  round_new : (task : Task) (ask : Ask) → May task es ask → IsAskedInTurn k es → KnowsRound k round ask es → MayRead es ask
  round_new task (Ask.List j after) may turn h =
      let next = subst (λ i. IsNextPage i after es) h.0 may.1 in
      (λ was. page_new k after round.names es next h.1.rolled.paged.listed h.1.past (subst (λ i. WasAsked es (Ask.List i after)) h.0 was), subst (λ i. IsAskedInTurn i es) (sym h.0) turn)
  round_new task (Ask.Get j n) may turn h = (λ was. never_got n h.1 (subst (λ i. WasAsked es (Ask.Get i n)) h.0 was), subst (λ i. IsAskedInTurn i es) (sym h.0) turn)
  round_new task Ask.Ticket may turn h = absurd h
  round_new task (Ask.Lock row) may turn h = absurd h
  round_new task (Ask.Refresh token time) may turn h = absurd h
  round_new task (Ask.Unlock token) may turn h = absurd h
  round_new task Ask.Locks may turn h = absurd h
  round_new task (Ask.Range pack offset len) may turn h = absurd h
  round_new task (Ask.Put token j n x) may turn h = absurd h
  round_new task (Ask.Delete token j n) may turn h = absurd h
  round_new task (Ask.Upgrade token) may turn h = absurd h
  round_new task Ask.Config may turn h = absurd h

-- the place of the tree that is awaited is due
range_new : (rounds : RoundsView) (walk : WalkView) (ask : Ask) (es : Trace) → KnowsNotes rounds es → AtTrees rounds walk ask es → MayRead es ask
range_new rounds walk ask es notes at =
    let fact = at.fact in
    let known = walk.known in
    let awaits = at.awaits in
    let came : HasCome rounds walk es = record { notes = notes; roots = at.roots; objects = at.objects; led = awaits.walks.led; answers = at.answers; reads = at.reads } in
    subst (λ a. MayRead es a) (sym at.asked) (record {
      answers = answers_of came;
      so_far = record { objects = got rounds walk es came; trees = ranged_so_far rounds walk es came };
      tree = fact.name;
      reached = subst (λ n. IsReachedBlob (answers_of came) Tree n) awaits.of_tree (tree_reached rounds walk es came awaits.visit (contains_got walk.visits walk.place awaits.visit awaits.here));
      lies = lies_of rounds walk es came Tree fact.name fact.place awaits.due.least;
      unanswered = λ a c same. due_not_settled known fact.name fact awaits.due (subst (λ n. IsSettled known n) same (seen_settled known es a (at.reads.seen.each a c)));
    })

-- what is pending of a survey may be read
pub survey_new : (task : Task) (rounds : RoundsView) (walk : WalkView) (ask : Ask) (es : Trace) → May task es ask → Surveys rounds walk ask es → MayRead es ask
survey_new task rounds walk ask es may (notes, inl at) = round_new Kind.Snapshot IsRootOf rounds.snapshots es notes.snapshots task ask may tt at.snapshots
survey_new task rounds walk ask es may (notes, inr (inl at)) =
    round_new Kind.Index IsIndexOf rounds.indexes es notes.indexes task ask may (all_heard Kind.Snapshot IsRootOf rounds.snapshots es at.snapshots notes.snapshots) at.indexes
survey_new task rounds walk ask es may (notes, inr (inr (inl at))) =
    let before : IsAskedInTurn Kind.Pack es = (all_heard Kind.Snapshot IsRootOf rounds.snapshots es at.snapshots notes.snapshots, all_heard Kind.Index IsIndexOf rounds.indexes es at.indexes notes.indexes) in
    round_new Kind.Pack IsPackOf rounds.packs es notes.packs task ask may before at.packs
survey_new task rounds walk ask es may (notes, inr (inr (inr at))) = range_new rounds walk ask es notes at
