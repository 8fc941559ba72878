-- At which ends a job that notes what is wrong goes on: it ends by none of them.
use Rattle.std.proofs.Common.{◌≡◌, ◌∷◌, ◌∙◌, ℕ, Bool, true, false, sym, ap, subst, inl}
use Rattle.repo_name.specs.declared.kinds.Thing.{Thing}
use Rattle.repo_name.specs.declared.names.Name.{Name}
use Rattle.repo_wire.specs.declared.messages.Ask.{Ask}
use Rattle.repo_wire.specs.declared.messages.Code.{Code}
use Rattle.repo_wire.specs.declared.messages.Say.{Say}
use Rattle.repo_session.specs.declared.outcomes.End.{End}
use Rattle.repo_session.specs.declared.outcomes.Outcome.{Outcome}
use Rattle.repo_session.specs.Ends.{AsksFor, AsksPart, CausedBy, Concludes, IsBad, IsNoFaultsEnd, IsUnwelcome, MayConclude, IsPassedOn, TellsFault}
use Rattle.repo_session.specs.Order.{IsWork}
use Rattle.repo_session.specs.Traces.{Exchange, Trace}

-- ---- the faults are those of a job's own requests

asks_work : (ask : Ask) (thing : Thing) (name : Name) → AsksFor ask thing name → IsWork ask
asks_work (Ask.Get k n) thing name a = tt
asks_work (Ask.Range pack offset len) thing name a = tt
asks_work (Ask.List k after) thing name a = tt
asks_work (Ask.Put token k n x) thing name a = tt
asks_work (Ask.Delete token k n) thing name a = tt
asks_work (Ask.Upgrade token) thing name a = tt
asks_work Ask.Ticket thing name a = absurd a
asks_work (Ask.Lock row) thing name a = absurd a
asks_work (Ask.Refresh token time) thing name a = absurd a
asks_work (Ask.Unlock token) thing name a = absurd a
asks_work Ask.Locks thing name a = absurd a
asks_work Ask.Config thing name a = absurd a

bad_work : (known : ℕ) (ask : Ask) (say : Say) (thing : Thing) (name : Name) → IsBad known ask say thing name → IsWork ask
bad_work known (Ask.Get k n) say thing name a = tt
bad_work known (Ask.Range pack offset len) say thing name a = tt
bad_work known (Ask.List k after) say thing name a = tt
bad_work known (Ask.Put token k n x) say thing name a = tt
bad_work known (Ask.Delete token k n) say thing name a = tt
bad_work known (Ask.Upgrade token) say thing name a = tt
bad_work known Ask.Ticket say thing name a = absurd a
bad_work known (Ask.Lock row) say thing name a = absurd a
bad_work known (Ask.Refresh token time) say thing name a = absurd a
bad_work known (Ask.Unlock token) say thing name a = absurd a
bad_work known Ask.Locks say thing name a = absurd a
bad_work known Ask.Config say thing name a = absurd a

part_work : (ask : Ask) → AsksPart ask → IsWork ask
part_work (Ask.Range pack offset len) a = tt
part_work (Ask.Get k n) a = absurd a
part_work (Ask.List k after) a = absurd a
part_work (Ask.Put token k n x) a = absurd a
part_work (Ask.Delete token k n) a = absurd a
part_work (Ask.Upgrade token) a = absurd a
part_work Ask.Ticket a = absurd a
part_work (Ask.Lock row) a = absurd a
part_work (Ask.Refresh token time) a = absurd a
part_work (Ask.Unlock token) a = absurd a
part_work Ask.Locks a = absurd a
part_work Ask.Config a = absurd a

-- what is bad came
bad_came : (known : ℕ) (ask : Ask) (say : Say) (thing : Thing) (name : Name) → IsBad known ask say thing name → IsUnwelcome ask say → ⊥
bad_came known (Ask.Get k n) say thing name a u = subst (λ s. IsUnwelcome (Ask.Get k n) s) a.1 u tt
bad_came known (Ask.Range pack offset len) say thing name a u = a
bad_came known (Ask.List k after) say thing name a u = a
bad_came known (Ask.Put token k n x) say thing name a u = a
bad_came known (Ask.Delete token k n) say thing name a u = a
bad_came known (Ask.Upgrade token) say thing name a u = a
bad_came known Ask.Ticket say thing name a u = a
bad_came known (Ask.Lock row) say thing name a u = a
bad_came known (Ask.Refresh token time) say thing name a u = a
bad_came known (Ask.Unlock token) say thing name a u = a
bad_came known Ask.Locks say thing name a u = a
bad_came known Ask.Config say thing name a u = a

-- that a thing isn't there, or doesn't reach so far, tells a fault
missing_tells : (ask : Ask) (say : Say) (thing : Thing) (name : Name) → AsksFor ask thing name → say ≡ Say.Refused Code.Missing → TellsFault ask say
missing_tells (Ask.Get k n) say thing name a missing = subst (TellsFault (Ask.Get k n)) (sym missing) tt
missing_tells (Ask.Range pack offset len) say thing name a missing = subst (TellsFault (Ask.Range pack offset len)) (sym missing) tt
missing_tells (Ask.List k after) say thing name a missing = absurd a
missing_tells (Ask.Put token k n x) say thing name a missing = absurd a
missing_tells (Ask.Delete token k n) say thing name a missing = absurd a
missing_tells (Ask.Upgrade token) say thing name a missing = absurd a
missing_tells Ask.Ticket say thing name a missing = absurd a
missing_tells (Ask.Lock row) say thing name a missing = absurd a
missing_tells (Ask.Refresh token time) say thing name a missing = absurd a
missing_tells (Ask.Unlock token) say thing name a missing = absurd a
missing_tells Ask.Locks say thing name a missing = absurd a
missing_tells Ask.Config say thing name a missing = absurd a

part_tells : (ask : Ask) (say : Say) → AsksPart ask → say ≡ Say.Refused Code.Range → TellsFault ask say
part_tells (Ask.Range pack offset len) say a range = subst (TellsFault (Ask.Range pack offset len)) (sym range) tt
part_tells (Ask.Get k n) say a range = absurd a
part_tells (Ask.List k after) say a range = absurd a
part_tells (Ask.Put token k n x) say a range = absurd a
part_tells (Ask.Delete token k n) say a range = absurd a
part_tells (Ask.Upgrade token) say a range = absurd a
part_tells Ask.Ticket say a range = absurd a
part_tells (Ask.Lock row) say a range = absurd a
part_tells (Ask.Refresh token time) say a range = absurd a
part_tells (Ask.Unlock token) say a range = absurd a
part_tells Ask.Locks say a range = absurd a
part_tells Ask.Config say a range = absurd a

-- that the token is dead tells none
dead_tells : (ask : Ask) → TellsFault ask (Say.Refused Code.Dead) → ⊥
dead_tells (Ask.Get k n) t = t
dead_tells (Ask.Range pack offset len) t = t
dead_tells (Ask.List k after) t = t
dead_tells (Ask.Put token k n x) t = t
dead_tells (Ask.Delete token k n) t = t
dead_tells (Ask.Upgrade token) t = t
dead_tells Ask.Ticket t = t
dead_tells (Ask.Lock row) t = t
dead_tells (Ask.Refresh token time) t = t
dead_tells (Ask.Unlock token) t = t
dead_tells Ask.Locks t = t
dead_tells Ask.Config t = t

-- ---- how a session may end

-- what is no end at a fault may be one, whichever job it is
pub may_conclude : (notes : Bool) (known : ℕ) (Own : Trace → Outcome → Type 0) (es : Trace) (outcome : Outcome) → Concludes known Own es outcome → IsNoFaultsEnd es outcome → MayConclude known notes Own es outcome
may_conclude false known Own es outcome c none = c
may_conclude true known Own es outcome c none = (c, none)

-- and each way to end is one of those that every job has
pub concluded_of : (notes : Bool) (known : ℕ) (Own : Trace → Outcome → Type 0) (es : Trace) (outcome : Outcome) → MayConclude known notes Own es outcome → Concludes known Own es outcome
concluded_of false known Own es outcome c = c
concluded_of true known Own es outcome c = c.0

-- the numbers are spent
pub spent_end : (es : Trace) → IsNoFaultsEnd es (Outcome.Ended (End.Refused Code.Exhausted))
spent_end es = λ is. absurd (cc)

-- it ends on the reply to a request of its own
pub own_end : (known : ℕ) (e : Exchange) (es : Trace) (end : End) → ¬ IsWork e.ask → CausedBy known e.ask e.say end → IsNoFaultsEnd (e ∷ es) (Outcome.Ended end)
own_end known e es (End.Missing thing name) own caused = absurd (own (asks_work e.ask thing name caused.0))
own_end known e es (End.BadObject thing name) own caused = absurd (own (bad_work known e.ask e.say thing name caused))
own_end known e es (End.Refused code) own caused = λ is part. own (part_work e.ask part)
own_end known e es End.Busy own caused = tt
own_end known e es End.Fenced own caused = tt
own_end known e es End.BadReply own caused = tt
own_end known e es End.Version own caused = tt
own_end known e es End.DirectoryTooLarge own caused = tt
own_end known e es End.FileTooLarge own caused = tt
own_end known e es End.Abandoned own caused = tt

no_fault : (known : ℕ) (e : Exchange) (es : Trace) (end : End) → IsUnwelcome e.ask e.say → ¬ TellsFault e.ask e.say → CausedBy known e.ask e.say end → IsNoFaultsEnd (e ∷ es) (Outcome.Ended end)
no_fault known e es (End.Missing thing name) unwelcome untold caused = absurd (untold (missing_tells e.ask e.say thing name caused.0 caused.1))
no_fault known e es (End.BadObject thing name) unwelcome untold caused = absurd (bad_came known e.ask e.say thing name caused unwelcome)
no_fault known e es (End.Refused code) unwelcome untold caused = λ is part. untold (part_tells e.ask e.say part (caused.0 ∙ ap Say.Refused is))
no_fault known e es End.Busy unwelcome untold caused = tt
no_fault known e es End.Fenced unwelcome untold caused = tt
no_fault known e es End.BadReply unwelcome untold caused = tt
no_fault known e es End.Version unwelcome untold caused = tt
no_fault known e es End.DirectoryTooLarge unwelcome untold caused = tt
no_fault known e es End.FileTooLarge unwelcome untold caused = tt
no_fault known e es End.Abandoned unwelcome untold caused = tt

-- it ends on a reply that the job passed on
pub passed_on : (notes : Bool) (known : ℕ) (Own : Trace → Outcome → Type 0) (e : Exchange) (es : Trace) (end : End) → IsPassedOn notes e.ask e.say → CausedBy known e.ask e.say end
    → MayConclude known notes Own (e ∷ es) (Outcome.Ended end)
passed_on false known Own e es end may caused = inl (inl caused)
passed_on true known Own e es end may caused = (inl (inl caused), no_fault known e es end may.0 may.1 caused)

-- what is passed on isn't wanted
pub unwelcome_of : (notes : Bool) (ask : Ask) (say : Say) → IsPassedOn notes ask say → IsUnwelcome ask say
unwelcome_of false ask say may = may
unwelcome_of true ask say may = may.0

-- the word that the token is dead
pub dead_passes : (notes : Bool) (ask : Ask) (say : Say) → say ≡ Say.Refused Code.Dead → IsUnwelcome ask say → IsPassedOn notes ask say
dead_passes false ask say dead unwelcome = unwelcome
dead_passes true ask say dead unwelcome = (unwelcome, λ tells. dead_tells ask (subst (TellsFault ask) dead tells))
