-- How what goes over a connection follows what happens to its guest. A hall is its table of guests here, and the number of the next one.
use Rattle.std.proofs.Common.{◌≡◌, ◌≢◌, ◌<◌, ◌⊎◌, ◌++◌, ◌∷◌, [], ℕ, List, Some, Bool, true, false, Result, Ok, Err, IfOk, take, cond, eqb, length, slice_get, sym, subst, ap, refl, inl, inr, ◌∙◌}
use Rattle.std.proofs.lemmas.List.{append_assoc}
use Rattle.std.proofs.lemmas.Bool.Decides.{eqb_tells}
use Rattle.repo_store.specs.declared.forms.ServiceError.{ServiceError}
use Rattle.repo_store.specs.Channels.{Passage, heard, said}
use Rattle.repo_store.specs.Stores.{Store}
use Rattle.repo_hall.specs.declared.guests.Guest.{Guest}
use Rattle.repo_hall.specs.Halls.{AnswerAdds, IsOneMore, StaysGuest, Stands}
use Rattle.repo_hall.specs.Guests.{AnswerCause, IsAwaited}
use Rattle.repo_hall.specs.Happenings.{Answered, AreInTurn, Brought, Given, Happening, Log, whose}
use Rattle.repo_hall.proofs.Hosting.{answers_at, happens_at, nothing_happens, there}
use Rattle.repo_hall.proofs.Turning.{answers_in_turn, brings_in_turn}
use Rattle.repo_many.specs.declared.progress.Progress.{Progress}
use Rattle.repo_many.specs.Wires.{IsLost, IsSpared, IsWired, bare, passages}
use Rattle.repo_many.proofs.Leading.{leads}

-- ---- one happening more

own_cond : {X : Type 0} (n k : ℕ) (x y : X) → n ≡ k → cond (eqb n k) x y ≡ x
own_cond n k x y own = by_test (eqb_tells n k) where
  by_test : ((eqb n k ≡ true) × (n ≡ k)) ⊎ ((eqb n k ≡ false) × (n ≢ k)) → cond (eqb n k) x y ≡ x
  by_test (inl is) = ap (λ b. cond b x y) is.0
  by_test (inr other) = absurd (other.1 own)

other_cond : {X : Type 0} (n k : ℕ) (x y : X) → n ≢ k → cond (eqb n k) x y ≡ y
other_cond n k x y other = by_test (eqb_tells n k) where
  by_test : ((eqb n k ≡ true) × (n ≡ k)) ⊎ ((eqb n k ≡ false) × (n ≢ k)) → cond (eqb n k) x y ≡ y
  by_test (inl is) = absurd (other is.1)
  by_test (inr is) = ap (λ b. cond b x y) is.0

-- the guests of other numbers are spared
spares : (h : Happening) (number n : ℕ) (log : Log) → whose h ≡ number → n ≢ number → IsSpared n log (h ∷ log)
spares (Brought k piece) number n log own other = let far : k ≢ n = λ e. other (sym e ∙ own) in (other_cond k n _ _ far, other_cond k n _ _ far)
spares (Answered k request reply) number n log own other = let far : k ≢ n = λ e. other (sym e ∙ own) in (other_cond k n _ _ far, refl)
spares (Given k piece) number n log own other = let far : k ≢ n = λ e. other (sym e ∙ own) in (other_cond k n _ _ far, other_cond k n _ _ far)

bare_heard : (bytes : List ℕ) (ps qs : List Passage) → bare ps ≡ bare qs → bare (heard bytes ∷ ps) ≡ bare (heard bytes ∷ qs)
bare_heard [] ps qs same = same
bare_heard (b ∷ bytes) ps qs same = ap (λ rest. heard (b ∷ bytes) ∷ rest) same

bare_said : (bytes : List ℕ) (ps qs : List Passage) → bare ps ≡ bare qs → bare (said bytes ∷ ps) ≡ bare (said bytes ∷ qs)
bare_said [] ps qs same = same
bare_said (b ∷ bytes) ps qs same = ap (λ rest. said (b ∷ bytes) ∷ rest) same

module _ {C : Type 0} (Hears Says : C → List ℕ → C → Type 0) where
  abbrev pub serves : List Guest → ℕ → Store → ℕ → ℕ → C → List Passage → List Guest → ℕ → Store → ℕ → C → Type 0
  serves old entered mid k place s lost new entering to l t = (from : Store) (failed : ℕ) (log : Log) → Stands from failed old entered log mid k → AreInTurn log
      → (g : Guest) → slice_get old place ≡ Some g
      → (more : Log) × Stands from failed new entering (more ++ log) to l × AreInTurn (more ++ log)
      × ((n : ℕ) → n ≢ g.number → IsSpared n log (more ++ log))
      × ((came : C) → IsWired Hears Says came (passages g.number log) s → IsWired Hears Says came (lost ++ passages g.number (more ++ log)) t)

  -- nothing happens, and nothing goes over the connection
  pub still_serves : (old : List Guest) (entered place : ℕ) (s : C) (new : List Guest) (entering : ℕ) → nothing_happens old entered new entering
      → (mid : Store) (k : ℕ) → serves old entered mid k place s [] new entering mid k s
  still_serves old entered place s new entering h mid k from failed log stands turns g at =
      ([], h from mid failed k log stands, turns, (λ n other. (refl, refl)), (λ came w. w))

  -- nothing happens, and some bytes are heard that are lost
  pub loses_serves : (bytes : List ℕ) (old : List Guest) (entered place : ℕ) (s t : C) (new : List Guest) (entering : ℕ) → Hears s bytes t → nothing_happens old entered new entering
      → (mid : Store) (k : ℕ) → serves old entered mid k place s (heard bytes ∷ []) new entering mid k t
  loses_serves bytes old entered place s t new entering hears h mid k from failed log stands turns g at =
      ([], h from mid failed k log stands, turns, (λ n other. (refl, refl)), (λ came w. (heard bytes ∷ w.0, (s, w.1, hears), bare_heard bytes w.0 (passages g.number log) w.2)))

  pub hears_none : (old : List Guest) (entered place : ℕ) (s t : C) (new : List Guest) (entering : ℕ) → Hears s [] t → nothing_happens old entered new entering
      → (mid : Store) (k : ℕ) → serves old entered mid k place s [] new entering mid k t
  hears_none old entered place s t new entering hears h mid k from failed log stands turns g at =
      ([], h from mid failed k log stands, turns, (λ n other. (refl, refl)), (λ came w. (heard [] ∷ w.0, (s, w.1, hears), w.2)))

  pub says_none : (old : List Guest) (entered place : ℕ) (s t : C) (new : List Guest) (entering : ℕ) → Says s [] t → nothing_happens old entered new entering
      → (mid : Store) (k : ℕ) → serves old entered mid k place s [] new entering mid k t
  says_none old entered place s t new entering says h mid k from failed log stands turns g at =
      ([], h from mid failed k log stands, turns, (λ n other. (refl, refl)), (λ came w. (said [] ∷ w.0, (s, w.1, says), w.2)))

  pub gives_serves : (piece : List ℕ) (old : List Guest) (entered place : ℕ) (s t : C) (new : List Guest) (entering : ℕ) → Says s piece t
      → happens_at (λ n. Given n piece) old entered place new entering → (mid : Store) (k : ℕ) → serves old entered mid k place s [] new entering mid k t
  gives_serves piece old entered place s t new entering says h mid k from failed log stands turns g at =
      let a = h from mid failed k log stands in
      let own : a.0.number ≡ g.number = let same : a.0 ≡ g = cc (a.1, at) in ap (λ (x : Guest). x.number) same in (
        Given a.0.number piece ∷ [],
        a.2,
        turns,
        (λ n other. spares (Given a.0.number piece) g.number n log own other),
        (λ came w.
            let is : passages g.number (Given a.0.number piece ∷ log) ≡ said piece ∷ passages g.number log = own_cond a.0.number g.number _ _ own in
            (said piece ∷ w.0, (s, w.1, says), bare_said piece w.0 (passages g.number log) w.2 ∙ ap bare (sym is))),
      )

  pub brings_serves : (piece : List ℕ) (old : List Guest) (entered place : ℕ) (s t : C) (new : List Guest) (entering : ℕ) → Hears s piece t → ((g : Guest) → slice_get old place ≡ Some g → IsAwaited g)
      → happens_at (λ n. Brought n piece) old entered place new entering → (mid : Store) (k : ℕ) → serves old entered mid k place s [] new entering mid k t
  brings_serves piece old entered place s t new entering hears awaited h mid k from failed log stands turns g at =
      let a = h from mid failed k log stands in
      let own : a.0.number ≡ g.number = let same : a.0 ≡ g = cc (a.1, at) in ap (λ (x : Guest). x.number) same in (
        Brought a.0.number piece ∷ [],
        a.2,
        brings_in_turn old entered place a.0 piece from failed log mid k a.1 (awaited a.0 a.1) stands turns,
        (λ n other. spares (Brought a.0.number piece) g.number n log own other),
        (λ came w.
            let is : passages g.number (Brought a.0.number piece ∷ log) ≡ heard piece ∷ passages g.number log = own_cond a.0.number g.number _ _ own in
            (heard piece ∷ w.0, (s, w.1, hears), bare_heard piece w.0 (passages g.number log) w.2 ∙ ap bare (sym is))),
      )

  -- one after the other
  pub serves_on : (old : List Guest) (entered : ℕ) (a : Store) (k place : ℕ) (s : C) (mid : List Guest) (between : ℕ) (b : Store) (l : ℕ) (t : C) (lost : List Passage) (new : List Guest) (entering : ℕ) (c : Store) (m : ℕ) (u : C)
      → place < length mid → StaysGuest old place mid → serves old entered a k place s [] mid between b l t → serves mid between b l place t lost new entering c m u → serves old entered a k place s lost new entering c m u
  serves_on old entered a k place s mid between b l t lost new entering c m u less stays first second from failed log stands turns g at =
      let x = first from failed log stands turns g at in
      let h = there mid place less in
      let same : h.0.number ≡ g.number = stays g h.0 at h.1 in
      let y = second from failed (x.0 ++ log) x.1 x.2 h.0 h.1 in
      let all = sym (append_assoc y.0 x.0 log) in (
        y.0 ++ x.0,
        subst (λ (z : Log). Stands from failed new entering z c m) all y.1,
        subst AreInTurn all y.2,
        (λ n other.
            let one = x.3 n other in
            let two = y.3 n (λ e. other (e ∙ same)) in
            subst (λ (z : Log). IsSpared n log z) all (two.0 ∙ one.0, two.1 ∙ one.1)),
        (λ came w.
            let mine = x.4 came w in
            let next = y.4 came (subst (λ (n : ℕ). IsWired Hears Says came (passages n (x.0 ++ log)) t) (sym same) mine) in
            subst (λ (z : Log). IsWired Hears Says came (lost ++ passages g.number z) u) all (subst (λ (n : ℕ). IsWired Hears Says came (lost ++ passages n (y.0 ++ (x.0 ++ log))) u) same next)),
      )

  -- what serves a connection leads on
  pub serves_lead : (old : List Guest) (entered : ℕ) (a : Store) (k place : ℕ) (s : C) (lost : List Passage) (new : List Guest) (entering : ℕ) (c : Store) (m : ℕ) (u : C)
      → place < length old → serves old entered a k place s lost new entering c m u → leads old entered a k new entering c m
  serves_lead old entered a k place s lost new entering c m u less h from failed log stands turns =
      let g = there old place less in
      let x = h from failed log stands turns g.0 g.1 in
      (x.0, x.1, x.2)

-- ---- answers, which go over no connection

abbrev pub answers : List Guest → ℕ → Store → ℕ → ℕ → List Guest → ℕ → Store → ℕ → Type 0
answers old entered mid k place new entering to l = (from : Store) (failed : ℕ) (log : Log) → Stands from failed old entered log mid k → AreInTurn log
    → (g : Guest) → slice_get old place ≡ Some g
    → (more : Log) × Stands from failed new entering (more ++ log) to l × AreInTurn (more ++ log)
    × ((n : ℕ) → n ≢ g.number → IsSpared n log (more ++ log)) × (passages g.number (more ++ log) ≡ passages g.number log)

-- one answer to the guest at a place, or none
abbrev is_of : (g : Guest) (log next : Log) → Type 0
is_of g log next = (more : Log) × (next ≡ more ++ log) × ((n : ℕ) → n ≢ g.number → IsSpared n log (more ++ log)) × (passages g.number (more ++ log) ≡ passages g.number log)

none_of : (g : Guest) (log next : Log) → next ≡ log → is_of g log next
none_of g log next is = ([], is, (λ n other. (refl, refl)), refl)

one_of : (guests : List Guest) (place : ℕ) (g : Guest) → slice_get guests place ≡ Some g → (log next : Log) → IsOneMore guests place log next → is_of g log next
one_of guests place g at log next (h, found, request, reply, is) =
    let own : h.number ≡ g.number = let same : h ≡ g = cc (found, at) in ap (λ (x : Guest). x.number) same in
    (Answered h.number request reply ∷ [], is, (λ n other. spares (Answered h.number request reply) g.number n log own other), refl)

answer_of : (guests : List Guest) (place : ℕ) (g : Guest) → slice_get guests place ≡ Some g → (result : Result Bool ServiceError) (log next : Log) → AnswerAdds guests place result log next → is_of g log next
answer_of guests place g at (Ok true) log next adds = one_of guests place g at log next adds
answer_of guests place g at (Ok false) log next adds = none_of g log next adds
answer_of guests place g at (Err (ServiceError.Wire fault)) log next adds = none_of g log next adds.0
answer_of guests place g at (Err ServiceError.Memory) log next (inl adds) = none_of g log next adds
answer_of guests place g at (Err ServiceError.Memory) log next (inr adds) = one_of guests place g at log next adds
answer_of guests place g at (Err ServiceError.Write) log next adds = absurd adds
answer_of guests place g at (Err ServiceError.Limit) log next adds = absurd adds

pub answered : (old : List Guest) (entered place : ℕ) (mid : Store) (k : ℕ) (result : Result Bool ServiceError) (new : List Guest) (entering : ℕ) (to : Store) (l : ℕ)
    → ((g : Guest) → slice_get old place ≡ Some g → AnswerCause g result) → answers_at old entered place mid k result new entering to l → answers old entered mid k place new entering to l
answered old entered place mid k result new entering to l cause h from failed log s turns g at =
    let a = h from failed log s in
    let m = answer_of old place g at result log a.0 a.1 in (
      m.0,
      subst (λ (x : Log). Stands from failed new entering x to l) m.1 a.2,
      subst AreInTurn m.1 (answers_in_turn old entered place result from failed log a.0 mid k cause s turns a.1),
      m.2,
      m.3,
    )

-- an answer goes over no connection
pub answers_serve : {C : Type 0} (Hears Says : C → List ℕ → C → Type 0) (old : List Guest) (entered : ℕ) (mid : Store) (k place : ℕ) (s : C) (new : List Guest) (entering : ℕ) (to : Store) (l : ℕ)
    → answers old entered mid k place new entering to l → serves Hears Says old entered mid k place s [] new entering to l s
answers_serve Hears Says old entered mid k place s new entering to l h from failed log stands turns g at =
    let x = h from failed log stands turns g at in
    (x.0, x.1, x.2, x.3, (λ came w. subst (λ (ps : List Passage). IsWired Hears Says came ps s) (sym x.4) w))

-- a count of none
pub none_told : {E : Type 0} (r : Result ℕ E) (n : ℕ) (P : List ℕ → Type 0) (bytes : List ℕ) → r ≡ Ok n → n ≡ 0 → IfOk r (λ m. P (take m bytes)) → P []
none_told r n P bytes is zero h = subst (λ (m : ℕ). P (take m bytes)) zero (subst (λ (q : Result ℕ _). IfOk q (λ m. P (take m bytes))) is h)

-- a turn that came to nothing lost nothing
pub none_lost : (progress : Progress) (lost : List Passage) (next : Progress) → progress ≡ Progress.Still → IsLost progress lost → IsLost next lost
none_lost progress lost next still (inl none) = inl none
none_lost progress lost next still (inr failed) = absurd (cc (still, failed))
