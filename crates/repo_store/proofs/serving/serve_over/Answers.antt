use Rattle.std.proofs.Common.{◌++◌, ◌∷◌, [], Bool, Ok, Some, refl, sym, ap, subst, inr, lit≤, arith}
use Rattle.std.proofs.lemmas.Result.{err_from_is_err_and}
use Rattle.repo_store.specs.Channels.{heard_in, TakesPiece}
use Rattle.repo_store.specs.Services.{nothing}
use Rattle.repo_store.specs.Serving.{seen, plain}
use Rattle.repo_store.proofs.ChannelLemmas.{passes_join, channel_only_appends}
use Rattle.repo_store.proofs.ServiceLemmas.{whole_served, finish_served}
use Rattle.repo_store.proofs.serving.serve_over.Goals as goal

pub returns-in_err-piece-clause-serves : goal.returns-in_err-piece-clause-serves
returns-in_err-piece-clause-serves g c honest =
    let now = seen (g.S.Shelf.store c.args.shelf.now) (g.S.Shelf.failed c.args.shelf.now) (Some []) in
    let p = err_from_is_err_and c.from_residual.result c.from_residual.ensures.1 in
    rw (p.1, p.2) (record {
      passages = [];
      passes = refl;
      in_turn = tt;
      left = 0 ∷ [];
      over = λ none. absurd (cc);
      serves = (nothing, [], refl, whole_served plain now c.new-service.result nothing now (c.new-service.ensures now).has);
    })

pub loop-turn-init : goal.loop-turn-init
loop-turn-init g c = record {
  all = λ honest. ([], refl, tt, nothing, refl, lit≤ tt, c.new-service.ensures (seen (g.S.Shelf.store c.args.shelf.now) (g.S.Shelf.failed c.args.shelf.now) (Some [])));
  honest = λ honest. honest;
  few =
      let none = (c.new-service.ensures (seen (g.S.Shelf.store c.args.shelf.now) (g.S.Shelf.failed c.args.shelf.now) (Some []))).has.count in
      omega (arith, none);
  piece = c.in_ok-piece.ensures;
}

pub returns-in_err-more-clause-serves : goal.returns-in_err-more-clause-serves
returns-in_err-more-clause-serves g c honest =
    let i = c.loop-turn.invariant.all honest in
    let p = err_from_is_err_and c.from_residual-in_err-more.result c.from_residual-in_err-more.ensures.1 in
    let e = c.in_err-more.ensures.next (c.loop-turn.invariant.honest honest) (g.S.Shelf.store c.args.shelf.now) (g.S.Shelf.failed c.args.shelf.now) i.0 i.3 i.4 i.6 in
    rw (p.1, p.2) (record {
      passages = e.passages ++ i.0;
      passes = passes_join g.C.Channel.hears g.C.Channel.says _ _ _ e.passages i.0 i.1 e.passes;
      in_turn = e.in_turn i.2;
      left = e.goes.0;
      over = e.goes.1;
      serves = e.goes.2;
    })

pub returns-then-not-more-clause-serves : goal.returns-then-not-more-clause-serves
returns-then-not-more-clause-serves g c honest =
    let from = g.S.Shelf.store c.args.shelf.now in
    let failures = g.S.Shelf.failed c.args.shelf.now in
    let i = c.loop-turn.invariant.all honest in
    let P : Bool → Type 0 = λ more. TakesPiece g.C.Channel.hears g.C.Channel.says g.C.Channel.is_over from failures i.0 i.3 c.loop-turn.channel (Ok more) c.take_piece.new.service c.take_piece.new.channel
    (g.S.Shelf.store c.take_piece.new.shelf) (g.S.Shelf.failed c.take_piece.new.shelf) in
    let e = subst P c.if-not-more.true (c.in_ok-more.ensures.next (c.loop-turn.invariant.honest honest) from failures i.0 i.3 i.4 i.6) in
    rw c.ok_or.ensures.value (record {
      passages = e.passages ++ i.0;
      passes = passes_join g.C.Channel.hears g.C.Channel.says _ _ _ e.passages i.0 i.1 e.passes;
      in_turn = e.in_turn i.2;
      left = [];
      over = λ none. e.goes.1;
      serves = finish_served c.finish.result (Some (heard_in (e.passages ++ i.0) ++ [])) (Some []) (seen from failures (Some [])) i.3 _ (ap (λ x. x ++ []) (sym e.goes.0)) refl (c.finish.ensures.finishes (seen from failures (Some [])) _ i.3 e.goes.2);
    })

pub loop-turn-preserved : goal.loop-turn-preserved
loop-turn-preserved g c = record {
  all = λ honest.
      let from = g.S.Shelf.store c.args.shelf.now in
      let failures = g.S.Shelf.failed c.args.shelf.now in
      let i = c.loop-turn.invariant.all honest in
      let P : Bool → Type 0 = λ more. TakesPiece g.C.Channel.hears g.C.Channel.says g.C.Channel.is_over from failures i.0 i.3 c.loop-turn.channel (Ok more) c.take_piece.new.service c.take_piece.new.channel
      (g.S.Shelf.store c.take_piece.new.shelf) (g.S.Shelf.failed c.take_piece.new.shelf) in
      let e = subst P c.if-not-more.false (c.in_ok-more.ensures.next (c.loop-turn.invariant.honest honest) from failures i.0 i.3 i.4 i.6) in
      (e.passages ++ i.0, passes_join g.C.Channel.hears g.C.Channel.says _ _ _ e.passages i.0 i.1 e.passes, e.in_turn i.2, e.goes.0, e.goes.1, omega (arith, i.5, e.goes.2), e.goes.3);
  honest = λ honest. c.take_piece.ensures.honest (c.loop-turn.invariant.honest honest);
  few = c.in_ok-more.ensures.few;
  piece = c.loop-turn.invariant.piece;
}

pub returns-clause-serves : goal.returns-clause-serves
returns-clause-serves g c honest =
    let now = seen (g.S.Shelf.store c.args.shelf.now) (g.S.Shelf.failed c.args.shelf.now) (Some []) in
    let i = c.loop-turn.invariant.all honest in
    let many = c.loop-turn-test.false in
    record {
      passages = i.0;
      passes = i.1;
      in_turn = i.2;
      left = 0 ∷ [];
      over = λ none. absurd (cc);
      serves = (i.3, ap (λ x. x ++ 0 ∷ []) (sym i.4), whole_served plain now c.loop-turn.service i.3 _ i.6.has, inr (omega (arith, i.5, many)));
    }

-- whatever came of it, it was a run
pub returns-in_err-more-clause-kept : goal.returns-in_err-more-clause-kept
returns-in_err-more-clause-kept g c honest = channel_only_appends g.C.Channel.hears g.C.Channel.says g.C.Channel.is_over _ _ _ _ _ _ _ (returns-in_err-more-clause-serves g c honest)

pub returns-then-not-more-clause-kept : goal.returns-then-not-more-clause-kept
returns-then-not-more-clause-kept g c honest = channel_only_appends g.C.Channel.hears g.C.Channel.says g.C.Channel.is_over _ _ _ _ _ _ _ (returns-then-not-more-clause-serves g c honest)

pub returns-clause-kept : goal.returns-clause-kept
returns-clause-kept g c honest = channel_only_appends g.C.Channel.hears g.C.Channel.says g.C.Channel.is_over _ _ _ _ _ _ _ (returns-clause-serves g c honest)
