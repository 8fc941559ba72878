use Rattle.std.proofs.Common.{rules, ◌≡◌, ◌<◌, Some, length, sym, ap, refl, ◌∙◌}
use Rattle.repo_many.proofs.Connecting.{again_other, again_same, again_there, get_at, still_same}
use Rattle.repo_many.proofs.connections.Connections.turn_at.Goals as goal

pub returns-in-Taken-clause-serves : goal.returns-in-Taken-clause-serves
returns-in-Taken-clause-serves g c honest s seat =
    let places = c.args.self.now.places.items in
    let less : c.args.turn.place < length places = search rules in
    let at = get_at places c.args.turn.place c.index_mut.result.now less c.index_mut.ensures.value ∙ ap Some (sym c.replace-here.ensures.value ∙ c.in-Taken.is) in
    let same : s ≡ c.in-Taken.socket = cc (seat, at) in
    let sv = c.turn-progress.ensures.serves honest in
    (c.turn-progress.new.self, again_there places c.args.turn.place _ _ less, sv.0, sv.1, rw same sv.2)

pub returns-in-Taken-clause-nobody : goal.returns-in-Taken-clause-nobody
returns-in-Taken-clause-nobody g c none =
    let places = c.args.self.now.places.items in
    let less : c.args.turn.place < length places = search rules in
    absurd (none c.in-Taken.socket (get_at places c.args.turn.place c.index_mut.result.now less c.index_mut.ensures.value ∙ ap Some (sym c.replace-here.ensures.value ∙ c.in-Taken.is)))

pub returns-in-Taken-clause-kept : goal.returns-in-Taken-clause-kept
returns-in-Taken-clause-kept g c j other = again_other c.args.self.now.places.items c.args.turn.place _ _ j other

pub returns-in_default-clause-serves : goal.returns-in_default-clause-serves
returns-in_default-clause-serves g c honest s seat =
    let places = c.args.self.now.places.items in
    let less : c.args.turn.place < length places = search rules in
    let at = get_at places c.args.turn.place c.index_mut.result.now less c.index_mut.ensures.value ∙ ap Some (sym c.replace-here.ensures.value) in
    absurd (c.in_default.not-Taken s (cc (seat, at)))

pub returns-in_default-clause-nobody : goal.returns-in_default-clause-nobody
returns-in_default-clause-nobody g c none =
    let places = c.args.self.now.places.items in
    let less : c.args.turn.place < length places = search rules in
    let at = get_at places c.args.turn.place c.index_mut.result.now less c.index_mut.ensures.value ∙ ap Some (sym c.replace-here.ensures.value) in
    (refl, refl, still_same _ _ (again_same places c.args.turn.place _ _ less at), refl)

pub returns-in_default-clause-kept : goal.returns-in_default-clause-kept
returns-in_default-clause-kept g c j other = again_other c.args.self.now.places.items c.args.turn.place _ _ j other
