use Rattle.std.proofs.Common.{rules}
use Rattle.std.specs.Io.KnownBytes.{Appends}
use Rattle.repo_store.specs.Channels.{said_in}
use Rattle.repo_store.proofs.ChannelLemmas.{each_written, said_named, said_writes}
use Rattle.repo_store.proofs.services.Service.answer_all.Goals as goal

pub returns-clause-all : goal.returns-clause-all
returns-clause-all g c honest =
    let e = c.answer_over-answered.ensures.all honest in
    let held = g.W.Write.contents in
    let name =
    said_named _ _ (λ s. s.writer.ghost_name) (λ s. held s.writer.now) (λ a b bytes h. h.0) (λ a b bytes h. h.1) _ c.answer_over-answered.new.channel e.passages e.alone e.passes in
    let wrote : Appends (held c.args.writer.now) (held c.answer_over-answered.new.channel.writer.now) (said_in e.passages) =
    said_writes _ _ (λ s. s.writer.ghost_name) (λ s. held s.writer.now) (λ a b bytes h. h.0) (λ a b bytes h. h.1) _ c.answer_over-answered.new.channel e.passages e.alone e.passes in
    each_written g.F.Form.shown c.args.self.now c.answer_over-answered.new.self c.answer_over-answered.result (g.S.Shelf.store c.args.shelf.now) (g.S.Shelf.store c.answer_over-answered.new.shelf)
    (g.S.Shelf.failed c.args.shelf.now) (g.S.Shelf.failed c.answer_over-answered.new.shelf) (held c.args.writer.now) _ (said_in e.passages) e.does (search rules)
