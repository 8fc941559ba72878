use Rattle.std.proofs.Common.{◌≡◌, ◌≤◌, ◌<◌, ◌^◌, [], List, Some, length, vec_len}
use Rattle.repo_store.specs.Channels.{Passage, Passes, AreAnsweredInTurn, heard_in, said_in}
use Rattle.repo_store.specs.Services.{Rests}
use Rattle.repo_store.specs.Serving.{Past, seen, plain}
use Rattle.repo_store.proofs.serving.serve_over.Given as goal

abbrev pub invariant-loop-turn : goal.invariant-loop-turn
invariant-loop-turn g l = record {
  all : g.S.Shelf.honest l.fn.shelf
      → (passages : List Passage) × Passes g.C.Channel.hears g.C.Channel.says l.fn.channel passages l.channel × AreAnsweredInTurn (g.S.Shelf.store l.fn.shelf) passages
      × (past : Past) × (past.bytes ≡ heard_in passages) × (l.turn ≤ length past.bytes)
      × Rests plain (seen (g.S.Shelf.store l.fn.shelf) (g.S.Shelf.failed l.fn.shelf) (Some [])) l.service past (seen (g.S.Shelf.store l.shelf) (g.S.Shelf.failed l.shelf) (Some (said_in passages)));
  honest : g.S.Shelf.honest l.fn.shelf → g.S.Shelf.honest l.shelf;
  few : l.service.answered < 2 ^ 32;
  piece : vec_len l.piece ≡ 65536;
}
