-- What a new index may list of what was put or stays.
use Rattle.std.proofs.Common.{◌↔◌, ◌∷◌, ℕ, List, inl, inr, Contains}
use Rattle.repo_name.specs.declared.kinds.BlobKind.{BlobKind}
use Rattle.repo_name.specs.declared.kinds.Kind.{Kind}
use Rattle.repo_name.specs.declared.names.Name.{Name}
use Rattle.repo_index.specs.declared.facts.Fact.{Fact}
use Rattle.repo_index.specs.declared.facts.PackFacts.{PackFacts}
use Rattle.repo_session.specs.Traces.{Exchange, Trace, ReadFact}
use Rattle.repo_writing.proofs.PutLemmas.{put_done_later}
use Rattle.repo_writing.specs.Laws.{IsPutOrKept}
use Rattle.repo_writing.specs.Putting.{IsKeptPack, IsIndexOf}
use Rattle.repo_prune.specs.Pruning.{MayStayBy, IsPutOrStays, MayPutIndex}

-- a pack that stays, by just the facts that the indexes give, is one that is kept
pub stays_kept : (es : Trace) (IsUsed : BlobKind → Name → Type 0) (facts : List Fact) → ((fact : Fact) → Contains facts fact ↔ ReadFact es fact) → (listed : PackFacts) → MayStayBy IsUsed facts listed → IsKeptPack es listed
stays_kept es IsUsed facts gives listed stays fact = (
  λ has. let b = (stays.all.each fact).0 has in ((gives fact).0 b.0, b.1),
  λ both. (stays.all.each fact).1 ((gives fact).1 both.0, both.1),
)

put_or_kept : (es : Trace) (IsUsed : BlobKind → Name → Type 0) (facts : List Fact) → ((fact : Fact) → Contains facts fact ↔ ReadFact es fact) → (listed : PackFacts) → IsPutOrStays es IsUsed facts listed → IsPutOrKept es listed
put_or_kept es IsUsed facts gives listed (inl put) = inl put
put_or_kept es IsUsed facts gives listed (inr stays) = inr (stays_kept es IsUsed facts gives listed stays)

-- an index that may be put is one of packs that were put or are kept
pub lists_put_or_kept : (es : Trace) (x : List ℕ) → MayPutIndex es x → IsIndexOf (IsPutOrKept es) x
lists_put_or_kept es x h = record {
  packs = h.lists.packs;
  reads = h.lists.reads;
  some = h.lists.some;
  each = λ listed among. put_or_kept es _ h.known.facts h.known.gives listed (h.lists.each listed among);
}

-- over an exchange
pub put_or_stays_later : (e : Exchange) (es : Trace) (IsUsed : BlobKind → Name → Type 0) (facts : List Fact) (listed : PackFacts) → IsPutOrStays es IsUsed facts listed → IsPutOrStays (e ∷ es) IsUsed facts listed
put_or_stays_later e es IsUsed facts listed (inl put) = inl (record { bytes = put.bytes; items = put.items; put = put_done_later e es Kind.Pack listed.pack put.bytes put.put; holds = put.holds; exact = put.exact })
put_or_stays_later e es IsUsed facts listed (inr stays) = inr stays
