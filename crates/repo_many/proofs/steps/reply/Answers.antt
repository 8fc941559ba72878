use Rattle.std.proofs.Common.{Bool, Ok, subst}
use Rattle.repo_hall.specs.Guests.{AnswerCause}
use Rattle.repo_many.proofs.Wiring.{answered}
use Rattle.repo_many.proofs.steps.reply.Goals as goal

pub returns-in-Ok-true-clause-answers : goal.returns-in-Ok-true-clause-answers
returns-in-Ok-true-clause-answers g c honest = answered _ _ c.args.place _ _ _ _ _ _ _ c.answer_at.ensures.cause (c.answer_at.ensures.stands honest)

pub returns-in-Ok-false-clause-answers : goal.returns-in-Ok-false-clause-answers
returns-in-Ok-false-clause-answers g c honest = answered _ _ c.args.place _ _ _ _ _ _ _ c.answer_at.ensures.cause (c.answer_at.ensures.stands honest)

pub returns-in-Err-clause-answers : goal.returns-in-Err-clause-answers
returns-in-Err-clause-answers g c honest = answered _ _ c.args.place _ _ _ _ _ _ _ c.answer_at.ensures.cause (c.answer_at.ensures.stands honest)

pub returns-in-Ok-false-clause-still : goal.returns-in-Ok-false-clause-still
returns-in-Ok-false-clause-still g c still =
    let none = c.in-Ok-false.field-0-test in
    ((c.in-Ok-false.ensures.still none).0, λ h found. subst (λ (b : Bool). AnswerCause h (Ok b)) none (c.in-Ok-false.ensures.cause h found))
