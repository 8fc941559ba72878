use Rattle.std.proofs.Common.{arith, [], false}
use Rattle.repo_reach.specs.declared.roots.Root.{Root}
use Rattle.repo_check.specs.declared.rounds.Note.{Note}
use Rattle.repo_check.proofs.Gatherings.{begun_all, begun_next}
use Rattle.repo_check.proofs.gathering.visits_of.Goals as goal

pub loop-note-preserved : goal.loop-note-preserved
loop-note-preserved c =
    let none : Note Root = Note.Well (record { tree = record { 0 = [] }; follows = false }) in
    begun_next c.args.notes.now c.loop-note.note-index none c.loop-note-test.true c.loop-note.visits c.add_root.new.visits c.in_ok-add_root.ensures c.loop-note.invariant

pub returns : goal.returns
returns c = (let stop = c.loop-note-test.false in begun_all c.args.notes.now c.loop-note.note-index (omega (arith, stop)) c.loop-note.visits c.loop-note.invariant)
