use Rattle.std.proofs.Common.{Bool, Ok, refl, subst, ◌∙◌, arith}
use Rattle.std.proofs.lemmas.Result.{err_from_is_err_and}
use Rattle.repo_store.specs.Channels.{GoesOver}
use Rattle.repo_store.specs.Services.{ServesNext, with_reply}
use Rattle.repo_store.proofs.ChannelLemmas.{says_none, says_then}
use Rattle.repo_store.proofs.ServiceLemmas.{whole_served}
use Rattle.repo_store.proofs.services.Service.answer_over.Goals as goal

pub loop-self-init : goal.loop-self-init
loop-self-init g c = record {
  all = λ honest. says_none g.C.Channel.hears g.C.Channel.says _ c.args.channel.now _ _ _ _ (λ w before past has. (past, refl, has));
  honest = λ honest. honest;
}

pub loop-self-preserved : goal.loop-self-preserved
loop-self-preserved g c = record {
  all = λ honest.
      let P : Bool → Type 0 = λ more. GoesOver g.C.Channel.hears g.C.Channel.says (λ at after. ServesNext g.F.Form.shown c.loop-self.self at (Ok more) c.answer_next.new.self after)
      c.loop-self.channel (g.S.Shelf.store c.loop-self.shelf) (g.S.Shelf.failed c.loop-self.shelf) c.answer_next.new.channel (g.S.Shelf.store c.answer_next.new.shelf) (g.S.Shelf.failed c.answer_next.new.shelf) in
      says_then g.C.Channel.hears g.C.Channel.says _ _ _ _ _ _ _ _ _ _ _ _
      (λ x y z first then before past has.
      let i = first before past has in
      let a = then before i.0 i.2 in
      (with_reply i.0 a.0 a.1, i.1, a.2))
      (c.loop-self.invariant.all honest) (subst P c.if-not-more.false (c.in_ok-more.ensures.next (c.loop-self.invariant.honest honest)));
  honest = λ honest. c.answer_next.ensures.honest (c.loop-self.invariant.honest honest);
}

pub returns-in_err-more-clause-all : goal.returns-in_err-more-clause-all
returns-in_err-more-clause-all g c honest =
    let p = err_from_is_err_and c.from_residual.result c.from_residual.ensures.1 in
    rw (p.1, p.2) (says_then g.C.Channel.hears g.C.Channel.says _ _ _ _ _ _ _ _ _ _ _ _
    (λ x y z first then before past has.
    let i = first before past has in
    let e = then before i.0 i.2 in
    (e.0, e.1 ∙ i.1, e.2))
    (c.loop-self.invariant.all honest) (c.in_err-more.ensures.next (c.loop-self.invariant.honest honest)))

pub returns-then-not-more-clause-all : goal.returns-then-not-more-clause-all
returns-then-not-more-clause-all g c honest =
    let P : Bool → Type 0 = λ more. GoesOver g.C.Channel.hears g.C.Channel.says (λ at after. ServesNext g.F.Form.shown c.loop-self.self at (Ok more) c.answer_next.new.self after)
    c.loop-self.channel (g.S.Shelf.store c.loop-self.shelf) (g.S.Shelf.failed c.loop-self.shelf) c.answer_next.new.channel (g.S.Shelf.store c.answer_next.new.shelf) (g.S.Shelf.failed c.answer_next.new.shelf) in
    says_then g.C.Channel.hears g.C.Channel.says _ _ _ _ _ _ _ _ _ _ _ _
    (λ x y z first then before past has.
    let i = first before past has in
    (i.0, i.1, then before i.0 i.2))
    (c.loop-self.invariant.all honest) (subst P c.if-not-more.true (c.in_ok-more.ensures.next (c.loop-self.invariant.honest honest)))

pub returns-clause-all : goal.returns-clause-all
returns-clause-all g c honest =
    let many = c.loop-self-test.false in
    let i = c.loop-self.invariant.all honest in
    record {
      passages = i.passages;
      passes = i.passes;
      alone = i.alone;
      does = λ w before past has.
          let j = i.does w before past has in
          (j.0, j.1, (whole_served g.F.Form.shown before c.loop-self.self j.0 _ j.2, omega (arith, j.2.count, many)));
    }
