use Rattle.std.proofs.Common.{inl}
use Rattle.repo_check.proofs.knowing.note_of.Goals as goal

pub returns-in-Read-clause-some : goal.returns-in-Read-clause-some
returns-in-Read-clause-some c = inl (c.in-Read.kept, c.read_note.ensures.kept)
