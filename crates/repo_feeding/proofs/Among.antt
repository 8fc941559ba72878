-- What was said before the end of the lock.
use Rattle.std.proofs.Common.{◌⊎◌, ◌∷◌, [], inl, inr}
use Rattle.repo_wire.specs.declared.messages.Ask.{Ask}
use Rattle.repo_wire.specs.declared.messages.Say.{Say}
use Rattle.repo_session.specs.Ends.{before_unlock}
use Rattle.repo_session.specs.Traces.{Trace, Exchanged}
use Rattle.repo_session.proofs.Concluding.{either}

pub before_exchanged : (es : Trace) (ask : Ask) (say : Say) → Exchanged (before_unlock es) ask say → Exchanged es ask say
before_exchanged [] ask say h = h
before_exchanged (e ∷ es) ask say h = among (either (λ fs. Exchanged fs ask say) e.ask (e ∷ es) es h)
  where
    among : Exchanged (e ∷ es) ask say ⊎ Exchanged es ask say → Exchanged (e ∷ es) ask say
    among (inl h) = h
    among (inr h) = inr h
