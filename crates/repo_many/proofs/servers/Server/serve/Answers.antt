use Rattle.std.proofs.Common.{◌≡◌, ◌∙◌, subst}
use Rattle.repo_many.specs.Wires.{Hears, Says}
use Rattle.repo_many.proofs.Connecting.{connects_on, connects_seated, connects_still}
use Rattle.repo_many.proofs.Leading.{leads_on}
use Rattle.repo_many.specs.declared.times.Served.{Served}
use Rattle.repo_many.specs.declared.times.Tally.{Tally}
use Rattle.repo_many.proofs.servers.Server.serve.Goals as goal

pub returns-in_err-wait-clause-leads : goal.returns-in_err-wait-clause-leads
returns-in_err-wait-clause-leads g c honest =
    rw (c.wait.ensures.hall, c.tell_full.ensures.connections) (leads_on _ _ _ _ _ _ _ _ _ _ _ _ (c.loop-turn.invariant.leads honest) (rw c.welcome.ensures.hall at c.round.ensures.leads (c.loop-turn.invariant.honest honest)))

pub returns-in_err-wait-clause-connected : goal.returns-in_err-wait-clause-connected
returns-in_err-wait-clause-connected g c honest =
    let seen = c.welcome.ensures.seated in
    let still = rw c.tell_full.ensures.connections at c.wait.ensures.still in
    let before = c.loop-turn.invariant.connected honest in
    let came = connects_seated (Hears g.T.Read.remaining) (Says g.T.Write.contents) _ _ _ _ seen.0 _ _ seen.1 in
    let went = rw c.welcome.ensures.hall at c.round.ensures.connected (c.loop-turn.invariant.honest honest) in
    let waited = connects_still (Hears g.T.Read.remaining) (Says g.T.Write.contents) _ _ _ _ _ _ still in
    rw (c.wait.ensures.hall, c.tell_full.ensures.connections)
    (connects_on (Hears g.T.Read.remaining) (Says g.T.Write.contents) _ _ _ _ _ _ _ _ _ _ _ _ _ _ _ before (connects_on (Hears g.T.Read.remaining) (Says g.T.Write.contents) _ _ _ _ _ _ _ _ _ _ _ _ _ _ _ came
    (connects_on (Hears g.T.Read.remaining) (Says g.T.Write.contents) _ _ _ _ _ _ _ _ _ _ _ _ _ _ _ went waited)))

pub loop-turn-preserved : goal.loop-turn-preserved
loop-turn-preserved g c = record {
  leads = λ honest. rw (c.wait.ensures.hall, c.tell_full.ensures.connections) (leads_on _ _ _ _ _ _ _ _ _ _ _ _ (c.loop-turn.invariant.leads honest) (rw c.welcome.ensures.hall at c.round.ensures.leads (c.loop-turn.invariant.honest honest)));
  connected = λ honest.
      let seen = c.welcome.ensures.seated in
      let still = rw c.tell_full.ensures.connections at c.wait.ensures.still in
      let before = c.loop-turn.invariant.connected honest in
      let came = connects_seated (Hears g.T.Read.remaining) (Says g.T.Write.contents) _ _ _ _ seen.0 _ _ seen.1 in
      let went = rw c.welcome.ensures.hall at c.round.ensures.connected (c.loop-turn.invariant.honest honest) in
      let waited = connects_still (Hears g.T.Read.remaining) (Says g.T.Write.contents) _ _ _ _ _ _ still in
      rw (c.wait.ensures.hall, c.tell_full.ensures.connections)
      (connects_on (Hears g.T.Read.remaining) (Says g.T.Write.contents) _ _ _ _ _ _ _ _ _ _ _ _ _ _ _ before (connects_on (Hears g.T.Read.remaining) (Says g.T.Write.contents) _ _ _ _ _ _ _ _ _ _ _ _ _ _ _ came
      (connects_on (Hears g.T.Read.remaining) (Says g.T.Write.contents) _ _ _ _ _ _ _ _ _ _ _ _ _ _ _ went waited)));
  honest = λ honest. c.round.ensures.honest (c.loop-turn.invariant.honest honest);
  silent = λ well.
      let said = c.tell_full.ensures.silent (subst (λ (t : Tally). t.served ≡ Served.Well) c.wait.ensures.tally well) in
      let now = c.round.ensures.silent said.0 in
      let came = c.welcome.ensures.silent now.0 in
      let before = c.loop-turn.invariant.silent came.0 in
      (before.0, said.1 ∙ now.1 ∙ came.1 ∙ before.1);
}
