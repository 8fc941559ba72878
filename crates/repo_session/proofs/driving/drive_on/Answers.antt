use Rattle.std.proofs.Common.{rules, subst, sym}
use Rattle.std.specs.Io.KnownBytes.{Appends, Consumes}
use Rattle.repo_store.specs.Channels.{heard_in, said_in}
use Rattle.repo_store.proofs.ChannelLemmas.{passes_named, passes_read, passes_write}
use Rattle.repo_session.proofs.Awaiting.{drives_written}
use Rattle.repo_session.proofs.driving.drive_on.Goals as goal

pub returns-clause-carries : goal.returns-clause-carries
returns-clause-carries g c bytes told h =
    let handed = c.drive_over-driven.ensures.carries bytes told h in
    let n = handed.0 in
    let left = g.R.Read.remaining in
    let held = g.W.Write.contents in
    let ends = c.drive_over-driven.new.channel in
    let reader = passes_named _ _ (λ s. s.reader.ghost_name) (λ a b bytes k. k.0) (λ a b bytes k. k.0) _ ends n.passages n.passes in
    let writer = passes_named _ _ (λ s. s.writer.ghost_name) (λ a b bytes k. k.1) (λ a b bytes k. k.1) _ ends n.passages n.passes in
    let read : Consumes (left c.args.reader.now) (left ends.reader.now) (heard_in n.passages) =
    passes_read _ _ (λ s. left s.reader.now) (λ s. held s.writer.now) (λ a b bytes k. (k.2, k.3)) (λ a b bytes k. (k.2, k.3)) _ ends n.passages n.passes in
    let brought : Consumes (left c.args.reader.now) (left ends.reader.now) n.said.bytes = subst (λ x. Consumes (left c.args.reader.now) (left ends.reader.now) x) (sym n.bytes) read in
    let wrote : Appends (held c.args.writer.now) (held ends.writer.now) (said_in n.passages) =
    passes_write _ _ (λ s. left s.reader.now) (λ s. held s.writer.now) (λ a b bytes k. (k.2, k.3)) (λ a b bytes k. (k.2, k.3)) _ ends n.passages n.passes in (
      n.said,
      (search (rules)),
      drives_written bytes told _ _ _ _ _ _ n.said (held c.args.writer.now) _ (said_in n.passages) (search (rules)) n.drives,
      n.rests,
      handed.1,
    )
