use Rattle.std.proofs.Common.{rules, ◌+◌, ◌++◌, ◌∷◌, [], true, false, take, drop, sym, ap, subst, append_assoc, take-append-drop, refl, ◌∙◌}
use Rattle.std.proofs.lemmas.List.{take_more}
use Rattle.std.specs.Fn.{CalledAt}
use denote.Param.Always.{mut_next}
use Rattle.repo_session.specs.Sinks.{AreTaken}
use Rattle.repo_session.proofs.Handing.{taken_on}
use Rattle.repo_session.proofs.driving.hand_out.Goals as goal

pub returns-then-not-sink-clause-stops : goal.returns-then-not-sink-clause-stops
returns-then-not-sink-clause-stops g c = λ no.
    let all = c.args.emitted.now in
    let i = c.loop-emission.emission-index in
    let item = c.emission-item.result in
    let call : CalledAt g.F.FnMut c.loop-emission.sink item false c.sink.new.self = search (rules) in
    record {
      first = take i all;
      emission = item;
      later = drop (i + 1) all;
      order = sym (take-append-drop (i + 1) all)
          ∙ (ap (λ xs. xs ++ drop (i + 1) all) (take_more all i item c.loop-emission-test.true ∙ ap (λ x. take i all ++ x ∷ []) (sym c.emission-item.is))
          ∙ append_assoc (take i all) (item ∷ []) (drop (i + 1) all));
      mid = c.loop-emission.sink;
      taken = c.loop-emission.invariant.taken;
      refused = call;
    }

pub loop-emission-preserved : goal.loop-emission-preserved
loop-emission-preserved g c =
    let all = c.args.emitted.now in
    let i = c.loop-emission.emission-index in
    let item = c.emission-item.result in
    let call : CalledAt g.F.FnMut c.loop-emission.sink item true c.sink.new.self = search (rules) in
    record {
      sink = mut_next g.F.FnMut _ _ _ _ _ c.sink.ensures refl c.loop-emission.invariant.sink;
      taken = subst (λ xs. AreTaken (CalledAt g.F.FnMut) c.args.sink.now xs c.sink.new.self) (ap (λ x. take i all ++ x ∷ []) c.emission-item.is ∙ sym (take_more all i item c.loop-emission-test.true))
          (taken_on (CalledAt g.F.FnMut) (take i all) item c.args.sink.now c.loop-emission.sink c.sink.new.self c.loop-emission.invariant.taken call);
    }
