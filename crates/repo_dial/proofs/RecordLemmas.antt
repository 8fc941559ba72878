-- What is recorded, and one thing more.
use Rattle.std.proofs.Common.{◌≡◌, ◌++◌, ◌∷◌, [], ℕ, Bool, true, false, List, Option, Some, Result, refl, sym, subst, ◌∙◌}
use Rattle.std.proofs.lemmas.List.{append-nil}
use Rattle.repo_wire.specs.declared.messages.Reply.{Reply}
use Rattle.repo_wire.specs.declared.messages.Request.{Request}
use Rattle.repo_store.specs.Channels.{Passage}
use Rattle.repo_session.specs.declared.driving.DriveError.{DriveError}
use Rattle.repo_session.specs.Turns.{IsAskedFirst}
use Rattle.repo_dial.specs.Dialing.{AsksOnce}
use Rattle.repo_dial.specs.Ends.{Records}
use Rattle.repo_dial.specs.Recording.{onto, passage_of, recorded, record_ends}
use Rattle.repo_dial.specs.declared.recording.Went.{Went}

onto_more : (passages : List Passage) (went : List Went) (x : Went) → onto passages (went ++ x ∷ []) ≡ passage_of x ∷ onto passages went
onto_more passages [] x = refl
onto_more passages (y ∷ went) x = onto_more (passage_of y ∷ passages) went x

pub pushed : (whole : Bool) (went : List Went) (x : Went) → Records (recorded whole went) (passage_of x ∷ []) (recorded whole (went ++ x ∷ []))
pushed true went x = onto_more [] went x
pushed false went x = tt

-- what is recorded of one ask
pub recorded_ask : (request : Request) (result : Result Reply DriveError) (left rest : List ℕ) (before after : Option (List Passage)) (passages : List Passage) → before ≡ Some [] → after ≡ Some passages
    → AsksOnce request (record_ends left before) result (record_ends rest after) → IsAskedFirst [] [] request passages
recorded_ask request result left rest before after passages none all n =
    let noted : Records (Some []) n.0 (Some passages) = subst (λ x. Records (Some []) n.0 x) all (subst (λ x. Records x n.0 after) none n.2.goes.recorded) in
    subst (λ x. IsAskedFirst [] [] request x) (sym (noted ∙ append-nil n.0)) n.2.in_turn
