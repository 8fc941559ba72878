use Rattle.repo_name.specs.NameMaps.{found}
use Rattle.repo_name.proofs.NameMaps.{dropped}
use Rattle.repo_name.proofs.name_maps.remove_named.Goals as goal

pub returns : goal.returns
returns g c = dropped (found c.args.map.now) (found c.remove.new.self) c.args.name.now c.remove.ensures.updates.0 c.remove.ensures.updates.1
