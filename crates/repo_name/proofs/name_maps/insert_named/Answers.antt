use Rattle.repo_name.specs.NameMaps.{found}
use Rattle.repo_name.proofs.NameMaps.{inserted}
use Rattle.repo_name.proofs.name_maps.insert_named.Goals as goal

pub returns-in-Ok-clause-ok : goal.returns-in-Ok-clause-ok
returns-in-Ok-clause-ok g c =
    inserted (found c.args.map.now) (found c.insert.new.self) c.args.name c.args.value c.in-Ok.ensures.updates.0 c.in-Ok.ensures.updates.1
