use Rattle.std.proofs.Common.{arith, rules, ◌≡◌, ◌≤◌, ◌++◌, ◌∷◌, [], length}
use Rattle.std.proofs.lemmas.List.{length-append}
use Rattle.repo_many.specs.Rooms.{index_of}
use Rattle.repo_many.proofs.Rooming.{index_behind, index_within}
use Rattle.repo_many.proofs.large_frames.LargeFrames.enqueue.Goals as goal

pub returns-in_ok-map_err-clause-ok : goal.returns-in_ok-map_err-clause-ok
returns-in_ok-map_err-clause-ok c =
    let fs = c.args.self.now.frames.items in
    let f = c.args.frame in
    let pushed : c.push.new.self.items ≡ fs ++ f ∷ [] = search rules in
    let far : length fs ≤ index_of fs f.place = search rules in
    let within = index_within fs f.place in
    let last = index_behind fs f far in
    let long = length-append fs (f ∷ []) in
    let is : c.index_of-index.result ≡ index_of fs f.place = search rules in
    (rw pushed (omega (arith, is, last, far, within)), rw pushed (omega (arith, is, long, within)))
