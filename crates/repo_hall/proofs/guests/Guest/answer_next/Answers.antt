use Rattle.std.proofs.Common.{rules, ◌≡◌, [], false, length, Ok, Some, Result, Option, inr, subst, ap, sym, refl, ◌∙◌}
use Rattle.std.proofs.lemmas.List.{nil_from_length}
use Rattle.repo_wire.specs.declared.faults.WireError.{WireError}
use Rattle.repo_wire.specs.declared.messages.Request.{Request}
use Rattle.repo_wire.specs.Messages.{requests, reply_body}
use Rattle.repo_wire.specs.Reading.{Reading, NextMessage}
use Rattle.repo_wire.specs.Stream.{frame}
use Rattle.repo_hall.specs.Guests.{out_of}
use Rattle.repo_hall.proofs.Staying.{told_goes}
use Rattle.repo_hall.proofs.guests.Guest.answer_next.Goals as goal

-- there was no memory for the reply
pub returns-then-is_err-clause-goes : goal.returns-then-is_err-clause-goes
returns-then-is_err-clause-goes g c honest =
    let old = c.args.self.now in
    let P : Result (Option Request) WireError → Type 0 = λ found. NextMessage requests old.reader found c.next_request.new.self in
    let Q : Reading → Type 0 = λ r. NextMessage requests old.reader (Ok (Some c.in-Ok-Some.request)) r in
    let all : length (out_of old) ≡ 0 = search rules in
    let none : c.write_reply.new.out.items ≡ [] = search rules in
    inr (
      c.in-Ok-Some.request,
      c.answer-reply.result,
      record {
        up = search rules;
        given = nil_from_length (out_of old) all;
        number = refl;
        read = subst Q (sym c.give_back.ensures) (subst P (c.in-Ok-Some.is ∙ ap Ok c.in-Ok-Some.field-0-is) c.next_request.ensures);
        step = c.answer-reply.ensures.replies honest;
        cause = c.answer-reply.ensures.cause honest;
        fits = c.answer-reply.ensures.fits;
      },
      none,
      refl,
    )

pub returns-else-is_err-clause-goes : goal.returns-else-is_err-clause-goes
returns-else-is_err-clause-goes g c honest =
    let old = c.args.self.now in
    let P : Result (Option Request) WireError → Type 0 = λ found. NextMessage requests old.reader found c.next_request.new.self in
    let Q : Reading → Type 0 = λ r. NextMessage requests old.reader (Ok (Some c.in-Ok-Some.request)) r in
    let all : length (out_of old) ≡ 0 = search rules in
    let one : c.write_reply.new.out.items ≡ frame (reply_body c.answer-reply.result) = search rules in
    let up : old.ended ≡ false = search rules in (
      c.in-Ok-Some.request,
      c.answer-reply.result,
      record {
        up = up;
        given = nil_from_length (out_of old) all;
        number = refl;
        read = subst Q (sym c.give_back.ensures) (subst P (c.in-Ok-Some.is ∙ ap Ok c.in-Ok-Some.field-0-is) c.next_request.ensures);
        step = c.answer-reply.ensures.replies honest;
        cause = c.answer-reply.ensures.cause honest;
        fits = c.answer-reply.ensures.fits;
      },
      one,
      up,
    )

-- the stream has a fault, or there was no memory for a request
pub returns-in-Err-clause-goes : goal.returns-in-Err-clause-goes
returns-in-Err-clause-goes g c honest =
    let P : Result (Option Request) WireError → Type 0 = λ found. NextMessage requests c.args.self.now.reader found c.next_request.new.self in
    told_goes c.in-Err.error c.from.result _ _ _ _ c.from.ensures (subst P c.in-Err.is c.next_request.ensures) refl refl refl
