use Rattle.std.proofs.Common.{◌≡◌, ◌<◌, ◌+◌, ◌++◌, ◌∷◌, [], ℕ, true, false, List, Result, Ok, Err, Some, None, OnOk, OnErr, IsOk, is_err, true≢false, length, take, get_or, suc, refl, sym, inl, inr, ap, subst, arith, option_map, take-suc, ◌∙◌}
use Rattle.std.proofs.lemmas.Option.{slice_get_read}
use Rattle.repo_wire.specs.declared.messages.Reply.{Reply}
use Rattle.repo_session.specs.Clients.{AnswersNext}
use Rattle.repo_session.specs.Talks.{TookEach, trace_of}
use Rattle.repo_session.proofs.Taking.{replied_or, took_on, took_rest, took_same}
use Rattle.repo_session.proofs.Talking.{numbered_next}
use Rattle.repo_session.proofs.replies.take_each.Goals as goal

-- ---- what a result says

on_err : {T E P : Type 0} (r : Result T E) → is_err r ≡ true → OnErr r P → P
on_err (Ok x) e h = absurd (true≢false (sym e))
on_err (Err x) e h = h

on_ok : {T E P : Type 0} (r : Result T E) → is_err r ≡ false → OnOk r P → P
on_ok (Ok x) e h = h
on_ok (Err x) e h = absurd (true≢false e)

not_ok : {T E : Type 0} (r : Result T E) → is_err r ≡ true → IsOk r → ⊥
not_ok (Ok x) e h = absurd (true≢false (sym e))
not_ok (Err x) e h = absurd (true≢false (sym h))

-- the first ones, and one more
one_more : (replies : List Reply) (k : ℕ) (reply : Reply) → k < length replies → reply ≡ get_or replies k reply → take k replies ++ reply ∷ [] ≡ take (k + 1) replies
one_more replies k reply within is =
    let more : suc k ≡ k + 1 = omega arith in
    ap (λ e. take k replies ++ e ∷ []) is ∙ sym (take-suc replies k reply within) ∙ ap (λ n. take n replies) more

-- ---- the goals

pub returns-in_default-clause-all : goal.returns-in_default-clause-all
returns-in_default-clause-all g c =
    let none : g.C.Client.next c.loop-before.client ≡ None = sym c.pending.ensures.next ∙ ap (option_map (λ r. r.now)) c.in_default.is in
    took_rest (g.C.Client.who (g.C.Client.job c.args.client.now)).instance g.C.Client.fits g.C.Client.next c.args.client.now c.loop-before.client c.args.replies.now c.loop-before.before c.loop-before.invariant.took none

pub returns-then-is_err-clause-part : goal.returns-then-is_err-clause-part
returns-then-is_err-clause-part g c =
    let pending : g.C.Client.next c.loop-before.client ≡ Some c.in-Some.field-0.now = sym c.pending.ensures.next ∙ ap (option_map (λ r. r.now)) c.in-Some.is in
    let reply = c.index-replies-before.result in
    let failed : is_err c.take.result ≡ true = sym c.is_err.ensures.value ∙ c.if-is_err.true in
    let same = on_err c.take.result failed c.take.ensures.next in (
      took_same (g.C.Client.who (g.C.Client.job c.args.client.now)).instance g.C.Client.fits g.C.Client.next c.args.client.now c.loop-before.client c.take.new.self (take c.loop-before.before c.args.replies.now)
          c.loop-before.invariant.took same (on_err c.take.result failed c.take.ensures.fits),
      record {
        request = c.in-Some.field-0.now;
        pending = same ∙ pending;
        reply = reply;
        there = slice_get_read c.args.replies.now (length c.args.replies.now) c.loop-before.before reply refl c.loop-before-test.true c.index-replies-before.is;
        answers = elim (replied_or c.in-Some.field-0.now reply) [
          | inl answers ↦ answers
          | inr other ↦ absurd (not_ok c.take.result failed (c.take.ensures.steady (λ a. other (subst (λ n. AnswersNext n reply) pending a))))
        ];
        unsteady = λ steady. not_ok c.take.result failed (c.take.ensures.sure c.in-Some.field-0.now pending steady);
        refusal = λ code says calm. not_ok c.take.result failed (c.take.ensures.calm code says (subst (λ j. (g.C.Client.rule j).calm) (sym c.loop-before.invariant.job) calm));
      },
    )

pub loop-before-preserved : goal.loop-before-preserved
loop-before-preserved g c =
    let pending : g.C.Client.next c.loop-before.client ≡ Some c.in-Some.field-0.now = sym c.pending.ensures.next ∙ ap (option_map (λ r. r.now)) c.in-Some.is in
    let instance = (g.C.Client.who (g.C.Client.job c.args.client.now)).instance in
    let request = c.in-Some.field-0.now in
    let reply = c.index-replies-before.result in
    let i = c.loop-before.invariant in
    let went : is_err c.take.result ≡ false = sym c.is_err.ensures.value ∙ c.if-is_err.false in
    let on = took_on instance g.C.Client.fits g.C.Client.next c.args.client.now c.loop-before.client c.take.new.self (take c.loop-before.before c.args.replies.now) request reply (g.C.Client.given c.take.new.self) i.took
    pending (c.pending.ensures.frame request pending)
    (λ es f. numbered_next _ _ _ _ _ _ _ es instance request (g.met.C.Client.obedient c.loop-before.client es f) pending (ap (λ j. (g.C.Client.who j).instance) i.job))
    (λ answers. on_ok c.take.result went c.take.ensures.taken request pending answers) c.take.ensures.other in
    record {
      took = (on.0, subst (λ some. TookEach instance g.C.Client.fits g.C.Client.next c.args.client.now some on.0 c.take.new.self) (one_more c.args.replies.now c.loop-before.before reply c.loop-before-test.true c.index-replies-before.is) on.1);
      stays = λ es outcome f e. c.take.ensures.stays (trace_of i.took.0 ++ es) outcome (i.took.1.went.fits es f) (i.stays es outcome f e);
      job = c.take.ensures.job ∙ i.job;
    }
