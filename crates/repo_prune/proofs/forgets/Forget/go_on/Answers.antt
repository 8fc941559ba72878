use Rattle.std.proofs.Common.{◌≡◌, ◌∷◌, Some, length, slice_get, refl, sym, subst, inl}
use Rattle.std.proofs.lemmas.Option.{slice_get_read}
use Rattle.repo_name.specs.declared.kinds.Kind.{Kind}
use Rattle.repo_name.specs.declared.tokens.Token.{Token}
use Rattle.repo_wire.specs.declared.messages.Ask.{Ask}
use Rattle.repo_session.specs.Jobs.{MayAsk}
use Rattle.repo_session.specs.Traces.{silent}
use Rattle.repo_prune.specs.Forgetting.{forget_rule}
use Rattle.repo_prune.specs.ForgetStates.{KnowsForget}
use Rattle.repo_prune.proofs.Choosing.{next_due}
use Rattle.repo_prune.proofs.forgets.Forget.go_on.Goals as goal

pub returns-in-Some-clause-goes : goal.returns-in-Some-clause-goes
returns-in-Some-clause-goes c = λ ask say es w deletes.
    let f = c.args.self.now in
    let who = c.args.holder.now.who in
    let name = c.in-Some.name.now in
    let found = c.in-Some.ensures.lookup in
    let read = slice_get_read c.as_slice.result.now (length c.as_slice.result.now) f.deleted name refl found.3.0 found.1 in
    let at : slice_get f.chosen.items f.deleted ≡ Some name = subst (λ names. slice_get names f.deleted ≡ Some name) c.as_slice.ensures.value read in
    let D : Token → Type 0 = λ t. MayAsk (forget_rule f.choice) who (KnowsForget f) (silent ask say ∷ es) (Ask.Delete t Kind.Snapshot name) in
    (inl refl, subst D (sym c.token.ensures) (next_due f who c.args.holder.now.token name (silent ask say ∷ es) w at deletes))
