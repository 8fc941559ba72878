-- Used blobs that no index gives.
use Rattle.std.specs.Prelude.{◌≡◌, [], ℕ, List, slice_get, Option, Some, None, Contains, ◌↔◌}
use Rattle.repo_name.specs.declared.kinds.BlobKind.TheVariants.{Content}
use Rattle.repo_name.specs.declared.names.Name.{Name}
use Rattle.repo_index.specs.declared.facts.Fact.{Fact}
use Rattle.repo_reach.specs.Used.{UsedHasPair}
use Rattle.repo_reach.specs.declared.links.Links.{Links}
use Rattle.repo_reach.specs.declared.looks.Seen.{Seen}
use Rattle.repo_reach.specs.declared.used.Used.{Used}
use Rattle.repo_writing.specs.Blobs.{HasFact}
use Rattle.repo_name.specs.declared.kinds.BlobKind.{BlobKind}
use Rattle.repo_prune.specs.Reading.{AreFound}
use Rattle.repo_reach.specs.Laws.{IsUsed}

-- the content that a tree which was read names; none of another
abbrev pub content_in : Option Links → List Name
content_in None = []
content_in (Some links) = links.content.items

-- this is the content of a tree that was seen
abbrev pub IsContentOf : Seen → List Name → Type 0
IsContentOf seen content = content ≡ content_in seen.links

-- facts give all used content that one of these trees names
abbrev pub GiveContent : List Fact → Used → List Seen → Type 0
GiveContent facts used all = (i : ℕ) (seen : Seen) (n : Name) → slice_get all i ≡ Some seen → Contains (content_in seen.links) n → UsedHasPair used Content n → HasFact facts Content n

-- where the trees were found and these are the pairs that they give, each has a fact
abbrev pub AllFound : List Fact → Used → List Seen → Type 0
AllFound facts used all = AreFound facts all → ((k : BlobKind) (n : Name) → UsedHasPair used k n ↔ IsUsed all k n) → (k : BlobKind) (n : Name) → UsedHasPair used k n → HasFact facts k n
