-- On which replies a survey ends at once, and how.
use Rattle.std.proofs.Common.{◌≡◌, ◌⊎◌, ◌∷◌, [], ℕ, Bool, true, List, Option, Some, None, sym, ap, subst, inl, inr, ⊎_elim, ◌∙◌}
use Rattle.std.specs.Prelude.{Result, IfOk}
use Rattle.repo_name.specs.declared.kinds.Kind.{Kind}
use Rattle.repo_name.specs.declared.names.Name.{Name}
use Rattle.repo_wire.specs.declared.messages.Ask.{Ask}
use Rattle.repo_wire.specs.declared.messages.Say.{Say}
use Rattle.repo_index.specs.declared.facts.Fact.{Fact}
use Rattle.repo_session.specs.Blobs.{range_of}
use Rattle.repo_store.specs.Pages.{PageRises}
use Rattle.repo_session.specs.Askers.{Asker}
use Rattle.repo_session.specs.Ends.{IsOfOtherVersion, IsPassedOn, IsSenseless, IsUnwelcome, IsUseless, MayFollow, TellsFault}
use Rattle.repo_session.specs.Jobs.{HeedsOn}
use Rattle.repo_session.specs.Order.{Task, May, last_of}
use Rattle.repo_session.specs.Readings.{TakesPage}
use Rattle.repo_session.specs.Traces.{Trace, names_in, silent}
use Rattle.repo_session.specs.Versions.{upto}
use Rattle.repo_session.specs.declared.jobs.Step.{Step}
use Rattle.repo_session.specs.declared.outcomes.End.{End}
use Rattle.repo_session.specs.declared.parts.Came.{Came}
use Rattle.repo_session.specs.declared.rolls.Roll.{Roll}
use Rattle.repo_session.specs.declared.versions.Versions.{Versions}
use Rattle.repo_session.proofs.Heeding.{bytes_wanted, heeds_follow, page_follows}
use Rattle.repo_check.specs.Answers.{Answer, IsAnswer, IsTreeAnswer}
use Rattle.repo_check.specs.Checking.{CameFor, IsRanged, check_task}
use Rattle.repo_check.specs.Rounds.{HeedsCame, KnowsRound, RoundView}
use Rattle.repo_check.specs.Surveys.{GoesAfter, GoesToTrees, IsPageBehind, RoundsView, Surveys, last_in}
use Rattle.repo_check.specs.Walks.{WalkView}
use Rattle.repo_check.proofs.Rounding.{got_now, of_any}
use Rattle.repo_check.proofs.Surveying.{no_range}
use Rattle.repo_check.proofs.Trailing.{ranged_now}

-- ---- a check goes on by what is the answer of an object or of a tree

answer_noted : (known : ℕ) (k : Kind) (n : Name) (say : Say) (a : Answer) → IsAnswer n say a → ¬ (IsPassedOn true (Ask.Get k n) say ⊎ IsUseless known true (Ask.Get k n) say)
answer_noted known k n say a is = noted a.bytes (got_now k n say a [] is).1
  where
    noted : (bytes : Option (List ℕ)) → CameFor (silent (Ask.Get k n) say ∷ []) k a.name bytes → ¬ (IsPassedOn true (Ask.Get k n) say ⊎ IsUseless known true (Ask.Get k n) say)
    noted (Some x) (inl came) (inl passed) = bytes_wanted k n say x came.1 passed.0
    noted (Some x) (inl came) (inr useless) = subst (λ s. IsUseless known true (Ask.Get k n) s) came.1 useless tt
    noted (Some x) (inr never) ends = never
    noted None (inl came) (inl passed) = passed.1 (subst (λ s. TellsFault (Ask.Get k n) s) (sym came.1) tt)
    noted None (inl came) (inr useless) = subst (λ s. IsUseless known true (Ask.Get k n) s) came.1 useless tt
    noted None (inr never) ends = never

tree_noted : (known : ℕ) (fact : Fact) (say : Say) (a : Answer) (pack : Name) (offset len : ℕ) → IsTreeAnswer fact.name say a → ¬ (IsPassedOn true (Ask.Range pack offset len) say ⊎ IsUseless known true (Ask.Range pack offset len) say)
tree_noted known fact say a pack offset len is = noted a.bytes (ranged_now fact say a [] is).1
  where
    asked : Ask
    asked = Ask.Range pack offset len

    noted : (bytes : Option (List ℕ)) → IsRanged (silent (range_of fact) say ∷ []) fact.place bytes → ¬ (IsPassedOn true asked say ⊎ IsUseless known true asked say)
    noted (Some x) (inl came) (inl passed) = subst (λ s. IsUnwelcome asked s) came.1 passed.0 tt
    noted (Some x) (inl came) (inr useless) = subst (λ x. IsUseless known true asked x) came.1 useless tt
    noted (Some x) (inr never) ends = never
    noted None (inl (inl came)) (inl passed) = passed.1 (subst (λ s. TellsFault asked s) (sym came.1) tt)
    noted None (inl (inl came)) (inr useless) = subst (λ x. IsUseless known true asked x) came.1 useless tt
    noted None (inl (inr never)) ends = never
    noted None (inr (inl came)) (inl passed) = passed.1 (subst (λ s. TellsFault asked s) (sym came.1) tt)
    noted None (inr (inl came)) (inr useless) = subst (λ x. IsUseless known true asked x) came.1 useless tt
    noted None (inr (inr never)) ends = never

-- ---- what comes of a reply

-- on which a check goes on, anything may come
pub follow_heeds : (known : ℕ) (ask : Ask) (say : Say) (came : Came (Unit {0})) → MayFollow known true (silent ask say) → HeedsCame known ask say came
follow_heeds known ask say (Came.All _) follow = follow
follow_heeds known ask say (Came.Step step) follow = heeds_follow known true (silent ask say) step follow

-- a page that doesn't rise behind the last name makes no sense
senseless_page : {more : Bool} {names : List Name} (known : ℕ) (kind : Kind) (after last : Option Name) (say : Say) → say ≡ Say.Names more names → after ≡ last → ¬ PageRises last more names → IsSenseless known (Ask.List kind after) say
senseless_page {more} {names} known kind after last say is behind falls = subst (λ s. IsSenseless known (Ask.List kind after) s) (sym is) (λ rises. falls (subst (λ a. PageRises a more names) behind rises))

-- so it is of a page that isn't the last one
pub page_heeds : (known : ℕ) (kind : Kind) (after : Option Name) (old new : Roll) (say : Say) (step : Step) → after ≡ last_of old.names.items → TakesPage old say (Came.Step step) new → HeedsOn known true (silent (Ask.List kind after) say) step
page_heeds known kind after old new say (Step.Ask ask) behind takes = heeds_follow known true (silent (Ask.List kind after) say) (Step.Ask ask) (page_follows known true kind after (last_of old.names.items) say [] takes.0.1 behind takes.0.2)
page_heeds known kind after old new say (Step.Finish outcome) behind takes = λ ends. (End.BadReply, takes.1, senseless_page known kind after (last_of old.names.items) say takes.0.2 behind takes.0.3)
page_heeds known kind after old new say Step.Want behind takes = absurd takes
page_heeds known kind after old new say Step.Away behind takes = λ ends. tt

-- after the answer of an object anything may come
pub object_heeds : (known : ℕ) (k : Kind) (n : Name) (say : Say) (a : Answer) (turn : Came (Unit {0})) → IsAnswer n say a → ¬ IsOfOtherVersion known (Ask.Get k n) say → HeedsCame known (Ask.Get k n) say turn
object_heeds known k n say a turn is understood = follow_heeds known (Ask.Get k n) say turn (⊎_elim understood (answer_noted known k n say a is))

pub noted_heeds : {E : Type 0} (k : Kind) (n : Name) (say : Say) (a : Answer) (r : Result (Came (Unit {0})) E) → IsAnswer n say a → ((known : ℕ) → ¬ IsOfOtherVersion known (Ask.Get k n) say) → IfOk r (λ turn. (known : ℕ) → HeedsCame known (Ask.Get k n) say turn)
noted_heeds k n say a r is understood = of_any r _ (λ turn known. object_heeds known k n say a turn is (understood known))

-- so it does after that of a tree
pub tree_heeds : (known : ℕ) (fact : Fact) (say : Say) (a : Answer) (pack : Name) (offset len : ℕ) (next : Came (Unit {0})) → IsTreeAnswer fact.name say a → HeedsCame known (Ask.Range pack offset len) say next
tree_heeds known fact say a pack offset len next is = follow_heeds known (Ask.Range pack offset len) say next (⊎_elim (λ other. other) (tree_noted known fact say a pack offset len is))

-- where a turn ends the round it ends the survey
pub next_heeds : (known : ℕ) (ask : Ask) (say : Say) (turn last next : Came (Unit {0})) → GoesAfter turn last next → HeedsCame known ask say turn → HeedsCame known ask say next
next_heeds known ask say (Came.All _) last next goes follow = follow_heeds known ask say next follow
next_heeds known ask say (Came.Step step) last next goes heeds = subst (λ n. HeedsCame known ask say n) (sym goes) heeds

-- so it does after the packs
pub trees_heed : (known : ℕ) (ask : Ask) (say : Say) (rounds : RoundsView) (walk : WalkView) (turn next : Came (Unit {0})) → GoesToTrees rounds walk turn next → HeedsCame known ask say turn → HeedsCame known ask say next
trees_heed known ask say rounds walk (Came.All _) next goes follow = follow_heeds known ask say next follow
trees_heed known ask say rounds walk (Came.Step step) next goes heeds = subst (λ n. HeedsCame known ask say n) (sym goes) heeds

-- ---- a page is asked for behind the last name of its kind

round_behind : {T : Type 0} (k j : Kind) (round : RoundView T) (after : Option Name) (es : Trace) → KnowsRound k round (Ask.List j after) es → after ≡ last_of (names_in j es) → after ≡ last_of round.names
round_behind k j round after es h next = next ∙ ap (λ i. last_of (names_in i es)) h.0 ∙ ap last_of h.1.rolled.paged.listed

pub asks_behind : (task : Task) (rounds : RoundsView) (walk : WalkView) (ask : Ask) (es : Trace) → May task es ask → Surveys rounds walk ask es → IsPageBehind rounds ask
asks_behind task rounds walk (Ask.List j after) es may (notes, inl at) = subst (λ i. after ≡ last_in rounds i) (sym at.snapshots.0) (round_behind Kind.Snapshot j rounds.snapshots after es at.snapshots may.1.last)
asks_behind task rounds walk (Ask.List j after) es may (notes, inr (inl at)) = subst (λ i. after ≡ last_in rounds i) (sym at.indexes.0) (round_behind Kind.Index j rounds.indexes after es at.indexes may.1.last)
asks_behind task rounds walk (Ask.List j after) es may (notes, inr (inr (inl at))) = subst (λ i. after ≡ last_in rounds i) (sym at.packs.0) (round_behind Kind.Pack j rounds.packs after es at.packs may.1.last)
asks_behind task rounds walk (Ask.List j after) es may (notes, inr (inr (inr at))) = no_range (Ask.List j after) rounds walk es _ (λ pack offset len is. absurd (cc is)) at
asks_behind task rounds walk (Ask.Get k n) es may h = tt
asks_behind task rounds walk (Ask.Range pack offset len) es may h = tt
asks_behind task rounds walk (Ask.Put t k n x) es may h = tt
asks_behind task rounds walk (Ask.Delete t k n) es may h = tt
asks_behind task rounds walk (Ask.Upgrade t) es may h = tt
asks_behind task rounds walk Ask.Ticket es may h = tt
asks_behind task rounds walk (Ask.Lock row) es may h = tt
asks_behind task rounds walk (Ask.Refresh t time) es may h = tt
asks_behind task rounds walk (Ask.Unlock t) es may h = tt
asks_behind task rounds walk Ask.Locks es may h = tt
asks_behind task rounds walk Ask.Config es may h = tt

-- so all of it is heeded by the versions that who asks knows, where the request was pending
pub asker_heeds : (versions : Versions) (who : Asker) (rounds : RoundsView) (walk : WalkView) (ask : Ask) (say : Say) (next : Came (Unit {0})) (es : Trace) → versions ≡ who.versions → (IsPageBehind rounds ask → HeedsCame (upto versions) ask say next)
    → May (check_task who) es ask → Surveys rounds walk ask es → HeedsCame (upto who.versions) ask say next
asker_heeds versions who rounds walk ask say next es same heeds may knows = subst (λ v. HeedsCame (upto v) ask say next) same (heeds (asks_behind (check_task who) rounds walk ask es may knows))
