-- How what a hall's calls do leads on. A hall is its table of guests here, and the number of the next one.
use Rattle.std.proofs.Common.{◌≡◌, ◌<◌, ◌++◌, ◌∷◌, [], ℕ, List, Some, Bool, true, false, Result, Ok, Err, length, slice_get, sym, subst, inl, inr, ◌∙◌}
use Rattle.std.proofs.lemmas.List.{append_assoc}
use Rattle.repo_store.specs.declared.forms.ServiceError.{ServiceError}
use Rattle.repo_store.specs.Stores.{Store}
use Rattle.repo_hall.specs.declared.guests.Guest.{Guest}
use Rattle.repo_hall.specs.Halls.{AnswerAdds, LeavesOthers, StaysGuest, Stands}
use Rattle.repo_hall.specs.Guests.{AnswerCause, IsAwaited}
use Rattle.repo_hall.specs.Happenings.{Answered, AreInTurn, Brought, Given, Log}
use Rattle.repo_hall.proofs.Hosting.{answers_at, happens_at, nothing_happens, there}
use Rattle.repo_hall.proofs.Turning.{answers_in_turn, brings_in_turn}

abbrev pub leads : List Guest → ℕ → Store → ℕ → List Guest → ℕ → Store → ℕ → Type 0
leads old entered mid k new entering to l = (from : Store) (failed : ℕ) (log : Log) → Stands from failed old entered log mid k → AreInTurn log
    → (more : Log) × Stands from failed new entering (more ++ log) to l × AreInTurn (more ++ log)

-- answering adds to what happened
adds_more : (guests : List Guest) (place : ℕ) (result : Result Bool ServiceError) (log next : Log) → AnswerAdds guests place result log next → (more : Log) × (next ≡ more ++ log)
adds_more guests place (Ok true) log next (g, at, request, reply, is) = (Answered g.number request reply ∷ [], is)
adds_more guests place (Ok false) log next adds = ([], adds)
adds_more guests place (Err (ServiceError.Wire fault)) log next adds = ([], adds.0)
adds_more guests place (Err ServiceError.Memory) log next (inl adds) = ([], adds)
adds_more guests place (Err ServiceError.Memory) log next (inr (g, at, request, reply, is)) = (Answered g.number request reply ∷ [], is)
adds_more guests place (Err ServiceError.Write) log next adds = absurd adds
adds_more guests place (Err ServiceError.Limit) log next adds = absurd adds

pub answers_lead : (old : List Guest) (entered place : ℕ) (mid : Store) (k : ℕ) (result : Result Bool ServiceError) (new : List Guest) (entering : ℕ) (to : Store) (l : ℕ)
    → ((g : Guest) → slice_get old place ≡ Some g → AnswerCause g result) → answers_at old entered place mid k result new entering to l → leads old entered mid k new entering to l
answers_lead old entered place mid k result new entering to l cause h from failed log s turns =
    let a = h from failed log s in
    let m = adds_more old place result log a.0 a.1 in (
      m.0,
      subst (λ x. Stands from failed new entering x to l) m.1 a.2,
      subst AreInTurn m.1 (answers_in_turn old entered place result from failed log a.0 mid k cause s turns a.1),
    )

pub brings_leads : (piece : List ℕ) (old : List Guest) (entered place : ℕ) (new : List Guest) (entering : ℕ) → ((g : Guest) → slice_get old place ≡ Some g → IsAwaited g)
    → happens_at (λ n. Brought n piece) old entered place new entering → (mid : Store) (k : ℕ) → leads old entered mid k new entering mid k
brings_leads piece old entered place new entering awaited h to failing from failed log s turns =
    let a = h from to failed failing log s in
    (Brought a.0.number piece ∷ [], a.2, brings_in_turn old entered place a.0 piece from failed log to failing a.1 (awaited a.0 a.1) s turns)

pub gives_leads : (piece : List ℕ) (old : List Guest) (entered place : ℕ) (new : List Guest) (entering : ℕ) → happens_at (λ n. Given n piece) old entered place new entering
    → (mid : Store) (k : ℕ) → leads old entered mid k new entering mid k
gives_leads piece old entered place new entering h to failing from failed log s turns = let a = h from to failed failing log s in (Given a.0.number piece ∷ [], a.2, turns)

pub nothing_leads : (old : List Guest) (entered : ℕ) (new : List Guest) (entering : ℕ) → nothing_happens old entered new entering
    → (mid : Store) (k : ℕ) → leads old entered mid k new entering mid k
nothing_leads old entered new entering h to failing from failed log s turns = ([], h from to failed failing log s, turns)

pub leads_on : (old : List Guest) (entered : ℕ) (a : Store) (k : ℕ) (mid : List Guest) (between : ℕ) (b : Store) (l : ℕ) (new : List Guest) (entering : ℕ) (c : Store) (m : ℕ)
    → leads old entered a k mid between b l → leads mid between b l new entering c m → leads old entered a k new entering c m
leads_on old entered a k mid between b l new entering c m h g from failed log s turns =
    let x = h from failed log s turns in
    let y = g from failed (x.0 ++ log) x.1 x.2 in
    let all = sym (append_assoc y.0 x.0 log) in
    (y.0 ++ x.0, subst (λ z. Stands from failed new entering z c m) all y.1, subst AreInTurn all y.2)

-- where two calls leave the guests so, both do
pub stays_on : (old mid new : List Guest) (place : ℕ) → place < length mid → LeavesOthers old place mid × StaysGuest old place mid → LeavesOthers mid place new × StaysGuest mid place new
    → LeavesOthers old place new × StaysGuest old place new
stays_on old mid new place less first second = (λ j other. second.0 j other ∙ first.0 j other, λ g h at now. (let m = there mid place less in second.1 m.0 h m.1 now ∙ first.1 g m.0 at m.1))
