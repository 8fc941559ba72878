use Rattle.std.proofs.Common.{◌++◌, Option, Some, Ok, refl, subst, ap, ◌∙◌, arith}
use Rattle.std.proofs.lemmas.Result.{err_from_is_err_and}
use Rattle.repo_wire.specs.declared.messages.Request.{Request}
use Rattle.repo_wire.specs.Messages.{requests, reply_body}
use Rattle.repo_wire.specs.Reading.{NextMessage}
use Rattle.repo_wire.specs.Stream.{frame}
use Rattle.repo_store.specs.Serving.{seen}
use Rattle.repo_store.proofs.ChannelLemmas.{says_none, says_some}
use Rattle.repo_store.proofs.ServiceLemmas.{reader_ended, answered_next, frame_refused, frame_cut, frame_written, service_rests}
use Rattle.repo_store.proofs.services.Service.answer_next.Goals as goal

pub returns-in_default-clause-next : goal.returns-in_default-clause-next
returns-in_default-clause-next g c honest =
    let P : Option Request → Type 0 = λ found. NextMessage requests c.args.self.now.reader (Ok found) c.next_request.new.self in
    let none = subst P c.in_default.is c.in_ok-request.ensures in
    let store = g.S.Shelf.store c.args.shelf.now in
    let failures = g.S.Shelf.failed c.args.shelf.now in
    says_none g.C.Channel.hears g.C.Channel.says _ c.args.channel.now store store failures failures (λ w before past has. service_rests g.F.Form.shown before c.args.self.now _ past (seen store failures (Some w)) has none refl)

pub returns-in_err-request-clause-next : goal.returns-in_err-request-clause-next
returns-in_err-request-clause-next g c honest =
    let p = err_from_is_err_and c.from_residual.result c.from_residual.ensures.1 in
    let store = g.S.Shelf.store c.args.shelf.now in
    let failures = g.S.Shelf.failed c.args.shelf.now in
    rw (p.1, p.2) (says_none g.C.Channel.hears g.C.Channel.says _ c.args.channel.now store store failures failures
    (λ w before past has. reader_ended g.F.Form.shown before c.args.self.now c.next_request.new.self past (seen store failures (Some w)) c.in_err-request.field-0.0 has c.in_err-request.ensures))

pub returns-in_err-write_reply-clause-next : goal.returns-in_err-write_reply-clause-next
returns-in_err-write_reply-clause-next g c honest =
    let p = err_from_is_err_and c.from_residual-in_err-write_reply.result c.from_residual-in_err-write_reply.ensures.1 in
    let P : Option Request → Type 0 = λ found. NextMessage requests c.args.self.now.reader (Ok found) c.next_request.new.self in
    let given = subst P c.in-Some.is c.in_ok-request.ensures in
    let store = g.S.Shelf.store c.args.shelf.now in
    let failures = g.S.Shelf.failed c.args.shelf.now in
    let to = g.S.Shelf.store c.answer-reply.new.shelf in
    let count = g.S.Shelf.failed c.answer-reply.new.shelf in
    rw (p.1, p.2) (says_none g.C.Channel.hears g.C.Channel.says _ c.args.channel.now store to failures count (λ w before past has.
    let answered = answered_next g.F.Form.shown before c.args.self.now c.next_request.new.self past (seen store failures (Some w)) (seen to count (Some w)) c.in-Some.request c.answer-reply.result has given
    (c.answer-reply.ensures.replies honest) (c.answer-reply.ensures.cause honest) c.answer-reply.ensures.fits in
    frame_refused g.F.Form.shown before c.next_request.new.self past (seen to count (Some w)) c.in-Some.request c.answer-reply.result answered has.written))

pub returns-in_err-show-clause-next : goal.returns-in_err-show-clause-next
returns-in_err-show-clause-next g c honest =
    let p = err_from_is_err_and c.from_residual-in_err-show.result c.from_residual-in_err-show.ensures.1 in
    let P : Option Request → Type 0 = λ found. NextMessage requests c.args.self.now.reader (Ok found) c.next_request.new.self in
    let given = subst P c.in-Some.is c.in_ok-request.ensures in
    let store = g.S.Shelf.store c.args.shelf.now in
    let failures = g.S.Shelf.failed c.args.shelf.now in
    let to = g.S.Shelf.store c.answer-reply.new.shelf in
    let count = g.S.Shelf.failed c.answer-reply.new.shelf in
    rw (p.1, p.2) (says_none g.C.Channel.hears g.C.Channel.says _ c.args.channel.now store to failures count (λ w before past has.
    let answered = answered_next g.F.Form.shown before c.args.self.now c.next_request.new.self past (seen store failures (Some w)) (seen to count (Some w)) c.in-Some.request c.answer-reply.result has given
    (c.answer-reply.ensures.replies honest) (c.answer-reply.ensures.cause honest) c.answer-reply.ensures.fits in
    frame_refused g.F.Form.shown before c.next_request.new.self past (seen to count (Some w)) c.in-Some.request c.answer-reply.result answered has.written))

pub returns-in_err-say-clause-next : goal.returns-in_err-say-clause-next
returns-in_err-say-clause-next g c honest =
    let p = err_from_is_err_and c.from_residual-in_err-say.result c.from_residual-in_err-say.ensures.1 in
    let P : Option Request → Type 0 = λ found. NextMessage requests c.args.self.now.reader (Ok found) c.next_request.new.self in
    let given = subst P c.in-Some.is c.in_ok-request.ensures in
    let store = g.S.Shelf.store c.args.shelf.now in
    let failures = g.S.Shelf.failed c.args.shelf.now in
    let to = g.S.Shelf.store c.answer-reply.new.shelf in
    let count = g.S.Shelf.failed c.answer-reply.new.shelf in
    let frames = c.in_ok-write_reply.ensures.ok ∙ ap (λ x. x ++ frame (reply_body c.answer-reply.result)) c.clear.ensures.items in
    let bytes = c.as_slice.ensures.value ∙ c.in_ok-show.ensures ∙ ap g.F.Form.shown frames in
    let part = c.in_err-say.ensures.err in
    rw (p.1, p.2) (says_some g.C.Channel.hears g.C.Channel.says _ c.args.channel.now store to failures count c.say.new.self _ part.2 (λ w before past has.
    let answered = answered_next g.F.Form.shown before c.args.self.now c.next_request.new.self past (seen store failures (Some w)) (seen to count (Some w)) c.in-Some.request c.answer-reply.result has given
    (c.answer-reply.ensures.replies honest) (c.answer-reply.ensures.cause honest) c.answer-reply.ensures.fits in
    frame_cut g.F.Form.shown before c.next_request.new.self past to count (Some w) (Some _) c.in-Some.request c.answer-reply.result c.as_slice.result.now answered has.written bytes (part.0, refl)))

pub returns-clause-next : goal.returns-clause-next
returns-clause-next g c honest =
    let P : Option Request → Type 0 = λ found. NextMessage requests c.args.self.now.reader (Ok found) c.next_request.new.self in
    let given = subst P c.in-Some.is c.in_ok-request.ensures in
    let store = g.S.Shelf.store c.args.shelf.now in
    let failures = g.S.Shelf.failed c.args.shelf.now in
    let to = g.S.Shelf.store c.answer-reply.new.shelf in
    let count = g.S.Shelf.failed c.answer-reply.new.shelf in
    let frames = c.in_ok-write_reply.ensures.ok ∙ ap (λ x. x ++ frame (reply_body c.answer-reply.result)) c.clear.ensures.items in
    let bytes = c.as_slice.ensures.value ∙ c.in_ok-show.ensures ∙ ap g.F.Form.shown frames in
    says_some g.C.Channel.hears g.C.Channel.says _ c.args.channel.now store to failures count c.say.new.self c.as_slice.result.now c.in_ok-say.ensures.ok (λ w before past has.
    let answered = answered_next g.F.Form.shown before c.args.self.now c.next_request.new.self past (seen store failures (Some w)) (seen to count (Some w)) c.in-Some.request c.answer-reply.result has given
    (c.answer-reply.ensures.replies honest) (c.answer-reply.ensures.cause honest) c.answer-reply.ensures.fits in (
      c.in-Some.request,
      c.answer-reply.result,
      frame_written g.F.Form.shown before _ past to count (Some w) (Some _) c.in-Some.request c.answer-reply.result c.as_slice.result.now
          answered (omega (arith, has.count)) has.written bytes refl,
    ))
