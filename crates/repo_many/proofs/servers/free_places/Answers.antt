use Rattle.std.proofs.Common.{rules, ◌≡◌, ◌++◌, ◌∷◌, []}
use Rattle.repo_many.specs.declared.places.Place.{Place}
use Rattle.repo_many.proofs.Connecting.{more_free, none_taken}
use Rattle.repo_many.proofs.servers.free_places.Goals as goal

pub loop-place-init : goal.loop-place-init
loop-place-init g c = rw c.new-places.ensures.items (λ j s. none_taken j s)

pub loop-place-preserved : goal.loop-place-preserved
loop-place-preserved g c =
    let pushed : c.push.new.self.items ≡ c.loop-place.places.items ++ Place.Free ∷ [] = search rules in
    rw pushed (more_free c.loop-place.places.items c.loop-place.invariant)
