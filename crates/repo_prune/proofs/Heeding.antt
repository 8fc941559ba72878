-- On what a prune goes on while it asks for parts of packs, and puts.
use Rattle.std.proofs.Common.{◌≡◌, ◌⊎◌, ℕ, List, false, sym, subst, inl, inr}
use Rattle.repo_name.specs.declared.kinds.Kind.{Kind}
use Rattle.repo_name.specs.declared.names.Name.{Name}
use Rattle.repo_name.specs.declared.tokens.Token.{Token}
use Rattle.repo_wire.specs.declared.messages.Ask.{Ask}
use Rattle.repo_wire.specs.declared.messages.Say.{Say}
use Rattle.repo_session.specs.declared.jobs.Step.{Step}
use Rattle.repo_session.specs.Ends.{IsSenseless, IsUnwelcome}
use Rattle.repo_session.specs.Jobs.{HeedsOn, IsEndStep}
use Rattle.repo_session.specs.Traces.{silent}
use Rattle.repo_session.proofs.Heeding.{heeds_follow, welcome_follows}
use Rattle.repo_prune.specs.inner.Sorts.{IsBytes}

-- on the bytes of a part of a pack it goes on, whatever they are
pub range_heeds : (known : ℕ) (pack : Name) (offset len : ℕ) (say : Say) (step : Step) → (step ≡ Step.Away) ⊎ IsBytes say → HeedsOn known false (silent (Ask.Range pack offset len) say) step
range_heeds known pack offset len say step (inl away) = λ ends. subst (IsEndStep known (silent (Ask.Range pack offset len) say)) (sym away) tt
range_heeds known pack offset len say step (inr (x, is)) =
    let asked : Ask = Ask.Range pack offset len in
    heeds_follow known false (silent asked say) step (welcome_follows known false (silent asked say) (λ other. other) (record {
      wanted = λ w. subst (λ s. IsUnwelcome asked s) is w tt;
      sensible = λ u. subst (λ s. IsSenseless known asked s) is u tt;
      good = λ thing name bad. bad;
    }))

-- where a put is done it goes on
pub put_heeds : (known : ℕ) (token : Token) (kind : Kind) (name : Name) (x : List ℕ) (say : Say) (step : Step) → (step ≡ Step.Away) ⊎ (say ≡ Say.Done) → HeedsOn known false (silent (Ask.Put token kind name x) say) step
put_heeds known token kind name x say step (inl away) = λ ends. subst (IsEndStep known (silent (Ask.Put token kind name x) say)) (sym away) tt
put_heeds known token kind name x say step (inr is) =
    let asked : Ask = Ask.Put token kind name x in
    heeds_follow known false (silent asked say) step (welcome_follows known false (silent asked say) (λ other. other) (record {
      wanted = λ w. subst (λ s. IsUnwelcome asked s) is w tt;
      sensible = λ u. subst (λ s. IsSenseless known asked s) is u tt;
      good = λ thing n bad. bad;
    }))
