use Rattle.std.proofs.Common.{ap}
use Rattle.repo_world.specs.Stages.{seen}
use Rattle.repo_play.specs.Lines.{host_of, time_of}
use Rattle.repo_play.proofs.Telling.{started}
use Rattle.repo_play.proofs.players.Player.start.Goals as goal

pub returns-clause-starts : goal.returns-clause-starts
returns-clause-starts g c =
    let store = g.S.Shelf.store in
    let start = c.args.start.now in
    let w = seen store c.args.self.now.world in
    let u = seen store c.job_of.new.self.world in
    let v = seen store c.happen.new.world in
    record {
      job = c.in_ok-job.job;
      is_job = c.in_ok-job.ensures.job;
      applied = c.in_ok-applied.applied;
      happens = started w u c.in_ok-job.job (host_of start) c.in_ok-host.host (time_of start) c.time_of-time.result c.args.old c.in_ok-applied.applied v
          (ap (seen store) c.job_of.ensures.same) c.in_ok-host.ensures.host c.time_of-time.ensures c.in_ok-applied.ensures;
      told = c.in_ok-start_line.ensures;
      left = c.in_ok-job.ensures.left;
    }
