-- What a prune wants.
use Rattle.std.proofs.Common.{◌≡◌, ◌∷◌, [], sym, subst, inl, inr, Contains}
use Rattle.repo_index.specs.IndexText.{fact_of}
use Rattle.repo_index.specs.declared.facts.Fact.{Fact}
use Rattle.repo_session.specs.Deletions.{NoneDeleted}
use Rattle.repo_session.specs.Traces.{Trace, ReadFact}
use Rattle.repo_prune.specs.Pruning.{FollowsBadCopy, IsLastWanted, IsWanted}

-- what is wanted an index gives
copy_read : (es : Trace) (copy : Fact) → FollowsBadCopy es copy → ReadFact es copy
copy_read [] copy h = absurd h
copy_read (e ∷ es) copy (bad, was, came, next) =
    let is : fact_of bad.kind bad.name copy.place ≡ copy = λ i. record { kind = sym next.kind i; name = sym next.name i; place = copy.place } in
    (next.known.gives copy).0 (subst (Contains next.known.facts) is next.next.among)

pub wanted_read : (es : Trace) (fact : Fact) → IsWanted es fact → ReadFact es fact
wanted_read es fact (inl tree) = (tree.known.gives fact).0 tree.copy.least.among
wanted_read es fact (inr (inl move)) = (move.known.gives fact).0 move.must.copy.least.among
wanted_read es fact (inr (inr follows)) = copy_read es fact follows

-- and nothing was deleted before
copy_first : (es : Trace) (copy : Fact) → FollowsBadCopy es copy → NoneDeleted es
copy_first [] copy h = absurd h
copy_first (e ∷ es) copy h = h.3.known.none

pub wanted_first : (es : Trace) (fact : Fact) → IsWanted es fact → NoneDeleted es
wanted_first es fact (inl tree) = tree.known.none
wanted_first es fact (inr (inl move)) = move.known.none
wanted_first es fact (inr (inr follows)) = copy_first es fact follows

-- what is to be had nowhere else is wanted
pub last_wanted : (es : Trace) (fact : Fact) → IsLastWanted es fact → IsWanted es fact
last_wanted es fact (inl tree) = inl tree
last_wanted es fact (inr copy) = inr copy.0
