-- In which stage a prune is.
use Rattle.std.proofs.Common.{◌≡◌, Option}
use Rattle.repo_pack.specs.declared.places.Place.{Place}
use Rattle.repo_index.specs.declared.facts.Fact.{Fact}
use Rattle.repo_reach.specs.declared.trees.Trees.{Trees}
use Rattle.repo_prune.specs.declared.moving.Moving.{Moving}
use Rattle.repo_prune.specs.declared.prunes.Stage.{Stage}
use Rattle.repo_prune.specs.declared.relisting.Relisting.{Relisting}
use Rattle.repo_prune.specs.declared.deleting.Deleting.{Deleting}

pub same_walk : (a b : Trees) (f g : Fact) → Stage.Walking a f ≡ Stage.Walking b g → a ≡ b
same_walk a b f g h = cc

pub same_fact : (a b : Trees) (f g : Fact) → Stage.Walking a f ≡ Stage.Walking b g → f ≡ g
same_fact a b f g h = cc

pub same_moving : (a b : Moving) (p q : Option Place) → Stage.Moving a p ≡ Stage.Moving b q → a ≡ b
same_moving a b p q h = cc

pub same_relisting : (a b : Relisting) → Stage.Relisting a ≡ Stage.Relisting b → a ≡ b
same_relisting a b h = cc

pub same_deleting : (a b : Deleting) → Stage.Deleting a ≡ Stage.Deleting b → a ≡ b
same_deleting a b h = cc
