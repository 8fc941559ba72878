-- The least and the greatest keys of a kind and name.
use Rattle.std.specs.Prelude.{◌≡◌}
use Rattle.repo_name.specs.declared.names.Name.{Name}
use Rattle.repo_name.specs.declared.kinds.BlobKind.{BlobKind}
use Rattle.repo_pack.specs.declared.places.Place.{Place}
use Rattle.repo_index.specs.IndexText.{IsPlace}
use Rattle.repo_index.specs.Order.{IsAtMost}
use Rattle.repo_index.specs.declared.facts.Fact.{Fact}

-- a fact of this kind and name stands at or before all of them
pub record IsBeforePair (kind : BlobKind) (name : Name) (least : Fact) : Type 0 where
  pub kind_is : least.kind ≡ kind
  pub name_is : least.name ≡ name
  pub before : (other : Place) → IsPlace other → IsAtMost least.place other

-- a fact of this kind and name stands at or after all of them
pub record IsAfterPair (kind : BlobKind) (name : Name) (greatest : Fact) : Type 0 where
  pub kind_is : greatest.kind ≡ kind
  pub name_is : greatest.name ≡ name
  pub after : (other : Place) → IsPlace other → IsAtMost other greatest.place
  pub place : IsPlace greatest.place
