use Rattle.std.proofs.Common.{rules}
use Rattle.std.specs.Io.KnownBytes.{Appends, Consumes}
use Rattle.repo_store.specs.Channels.{heard_in, said_in}
use Rattle.repo_store.proofs.ChannelLemmas.{channel_only_appends, connection_written, passes_named, passes_read, passes_write}
use Rattle.repo_store.proofs.serving.serve.Goals as goal

pub returns-clause-serves : goal.returns-clause-serves
returns-clause-serves g c honest =
    let h = c.serve_over-served.ensures.serves honest in
    let left = g.R.Read.remaining in
    let held = g.W.Write.contents in
    let ends = c.serve_over-served.new.channel in
    let reader = passes_named _ _ (λ s. s.reader.ghost_name) (λ a b bytes k. k.0) (λ a b bytes k. k.0) _ ends h.passages h.passes in
    let writer = passes_named _ _ (λ s. s.writer.ghost_name) (λ a b bytes k. k.1) (λ a b bytes k. k.1) _ ends h.passages h.passes in
    let read : Consumes (left c.args.reader.now) (left ends.reader.now) (heard_in h.passages) =
    passes_read _ _ (λ s. left s.reader.now) (λ s. held s.writer.now) (λ a b bytes k. (k.2, k.3)) (λ a b bytes k. (k.2, k.3)) _ ends h.passages h.passes in
    let wrote : Appends (held c.args.writer.now) (held ends.writer.now) (said_in h.passages) =
    passes_write _ _ (λ s. left s.reader.now) (λ s. held s.writer.now) (λ a b bytes k. (k.2, k.3)) (λ a b bytes k. (k.2, k.3)) _ ends h.passages h.passes in
    connection_written c.serve_over-served.result (left c.args.reader.now) _ (heard_in h.passages) h.left (g.S.Shelf.store c.args.shelf.now) (g.S.Shelf.store c.serve_over-served.new.shelf)
    (g.S.Shelf.failed c.args.shelf.now) (g.S.Shelf.failed c.serve_over-served.new.shelf) (held c.args.writer.now) _ (said_in h.passages) (search rules) (λ none. let over = h.over none in search rules) (search rules) h.serves

pub returns-clause-kept : goal.returns-clause-kept
returns-clause-kept g c honest = channel_only_appends _ _ _ _ _ _ _ _ _ _ (c.serve_over-served.ensures.serves honest)
