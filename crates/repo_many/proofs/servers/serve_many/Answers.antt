use Rattle.std.proofs.Common.{◌++◌, [], inl, refl}
use Rattle.repo_hall.proofs.Hosting.{begins}
use Rattle.repo_many.specs.Wires.{Hears, Says}
use Rattle.repo_many.proofs.Connecting.{begun}
use Rattle.repo_many.proofs.servers.serve_many.Goals as goal

pub returns-in_default-clause-hosted : goal.returns-in_default-clause-hosted
returns-in_default-clause-hosted g c honest = ([], (begins (g.S.Shelf.store c.args.shelf.now) (g.S.Shelf.failed c.args.shelf.now)).hosted, tt)

pub returns-in_err-server-clause-hosted : goal.returns-in_err-server-clause-hosted
returns-in_err-server-clause-hosted g c honest = ([], (begins (g.S.Shelf.store c.args.shelf.now) (g.S.Shelf.failed c.args.shelf.now)).hosted, tt)

pub returns-in_err-serve-clause-hosted : goal.returns-in_err-serve-clause-hosted
returns-in_err-serve-clause-hosted g c honest =
    let store = g.S.Shelf.store c.args.shelf.now in
    let failed = g.S.Shelf.failed c.args.shelf.now in
    let x = c.serve.ensures.leads honest store failed [] (rw c.in_ok-server.ensures.hall (c.in-Ok.ensures.stands store failed)) tt in
    (x.0 ++ [], x.1.hosted, x.2)

pub returns-clause-hosted : goal.returns-clause-hosted
returns-clause-hosted g c honest =
    let store = g.S.Shelf.store c.args.shelf.now in
    let failed = g.S.Shelf.failed c.args.shelf.now in
    let x = c.serve.ensures.leads honest store failed [] (rw c.in_ok-server.ensures.hall (c.in-Ok.ensures.stands store failed)) tt in
    (x.0 ++ [], x.1.hosted, x.2)

pub returns-in_default-clause-connected : goal.returns-in_default-clause-connected
returns-in_default-clause-connected g c honest = ([], (begins (g.S.Shelf.store c.args.shelf.now) (g.S.Shelf.failed c.args.shelf.now)).hosted, tt, λ n. inl refl)

pub returns-in_err-server-clause-connected : goal.returns-in_err-server-clause-connected
returns-in_err-server-clause-connected g c honest = ([], (begins (g.S.Shelf.store c.args.shelf.now) (g.S.Shelf.failed c.args.shelf.now)).hosted, tt, λ n. inl refl)

pub returns-in_err-serve-clause-connected : goal.returns-in_err-serve-clause-connected
returns-in_err-serve-clause-connected g c honest =
    let store = g.S.Shelf.store c.args.shelf.now in
    let failed = g.S.Shelf.failed c.args.shelf.now in
    let x = c.serve.ensures.connected honest store failed [] (rw c.in_ok-server.ensures.hall (c.in-Ok.ensures.stands store failed)) tt
    (begun (Hears g.L.Stream.Read.remaining) (Says g.L.Stream.Write.contents) _ _ c.in_ok-server.ensures.free) in
    (x.0 ++ [], x.1.hosted, x.2, x.3.each)

pub returns-clause-connected : goal.returns-clause-connected
returns-clause-connected g c honest =
    let store = g.S.Shelf.store c.args.shelf.now in
    let failed = g.S.Shelf.failed c.args.shelf.now in
    let x = c.serve.ensures.connected honest store failed [] (rw c.in_ok-server.ensures.hall (c.in-Ok.ensures.stands store failed)) tt
    (begun (Hears g.L.Stream.Read.remaining) (Says g.L.Stream.Write.contents) _ _ c.in_ok-server.ensures.free) in
    (x.0 ++ [], x.1.hosted, x.2, x.3.each)
