-- One connection that is served is a hall with one guest.
use Rattle.std.proofs.Common.{◌≡◌, ◌≢◌, ◌++◌, ◌∷◌, [], ℕ, zero, suc, List, cond, drop, take, refl, sym, ◌∙◌, ap, subst, append-nil, append_assoc, arith}
use Rattle.std.proofs.lemmas.Bool.{ne_eqb}
use Rattle.std.proofs.lemmas.List.{take-append-drop}
use Rattle.std.proofs.lemmas.List.Elements.{All-nil}
use Rattle.repo_wire.specs.declared.messages.Reply.{Reply}
use Rattle.repo_wire.specs.declared.messages.Request.{Request}
use Rattle.repo_wire.specs.Messages as messages
use Rattle.repo_wire.specs.Stream.{FitsFrame}
use Rattle.repo_store.specs.Runs.{StoreRun}
use Rattle.repo_store.specs.Serving.{HaveCause, Moment, Past, SomeServed, plain, shown}
use Rattle.repo_store.specs.Stores.{Store}
use Rattle.repo_hall.specs.Happenings.{AreRepliesTo, Answered, Brought, Given, Happening, IsStay, Log, Stay, all_asked, all_replies, going_on, no_stay, stay, whose}
use Rattle.repo_runs.specs.Connected.{IsHosted, ServingIsHosting}

-- these answers to the first guest, behind what happened
abbrev built : Log → List Request → List Reply → Log
built log [] [] = log
built log (q ∷ qs) (r ∷ rs) = built (Answered 0 q r ∷ log) qs rs
built log [] (r ∷ rs) = log
built log (q ∷ qs) [] = log

built_asked : (log : Log) (qs : List Request) (rs : List Reply) (from to : Store) → StoreRun from qs rs to → all_asked (built log qs rs) ≡ all_asked log ++ qs
built_asked log [] [] from to run = sym (append-nil (all_asked log))
built_asked log (q ∷ qs) (r ∷ rs) from to run = built_asked (Answered 0 q r ∷ log) qs rs run.0 to run.2 ∙ append_assoc (all_asked log) (q ∷ []) qs
built_asked log [] (r ∷ rs) from to run = absurd run
built_asked log (q ∷ qs) [] from to run = absurd run

built_replies : (log : Log) (qs : List Request) (rs : List Reply) (from to : Store) → StoreRun from qs rs to → all_replies (built log qs rs) ≡ all_replies log ++ rs
built_replies log [] [] from to run = sym (append-nil (all_replies log))
built_replies log (q ∷ qs) (r ∷ rs) from to run = built_replies (Answered 0 q r ∷ log) qs rs run.0 to run.2 ∙ append_assoc (all_replies log) (r ∷ []) rs
built_replies log [] (r ∷ rs) from to run = absurd run
built_replies log (q ∷ qs) [] from to run = absurd run

abbrev more : Stay → List Request → List Reply → Stay
more s qs rs = record { bytes = s.bytes; asked = s.asked ++ qs; replies = s.replies ++ rs; given = s.given }

built_stay : (log : Log) (qs : List Request) (rs : List Reply) (from to : Store) → StoreRun from qs rs to → stay 0 (built log qs rs) ≡ more (stay 0 log) qs rs
built_stay log [] [] from to run =
    λ i. record { bytes = (stay 0 log).bytes; asked = sym (append-nil (stay 0 log).asked) i; replies = sym (append-nil (stay 0 log).replies) i; given = (stay 0 log).given }
built_stay log (q ∷ qs) (r ∷ rs) from to run = built_stay (Answered 0 q r ∷ log) qs rs run.0 to run.2
    ∙ (λ i. record { bytes = (stay 0 log).bytes; asked = append_assoc (stay 0 log).asked (q ∷ []) qs i; replies = append_assoc (stay 0 log).replies (r ∷ []) rs i; given = (stay 0 log).given })
built_stay log [] (r ∷ rs) from to run = absurd run
built_stay log (q ∷ qs) [] from to run = absurd run

not_first : (k : ℕ) → zero ≢ suc k
not_first k e = absurd (omega (arith, e))

stay_other : (h : Happening) (k : ℕ) (log : Log) → whose h ≢ k → stay k (h ∷ log) ≡ stay k log
stay_other h k log other = ap (λ b. cond b (going_on h (stay k log)) (stay k log)) (ne_eqb (whose h) k other)

built_others : (k : ℕ) (log : Log) (qs : List Request) (rs : List Reply) → stay (suc k) (built log qs rs) ≡ stay (suc k) log
built_others k log [] [] = refl
built_others k log (q ∷ qs) (r ∷ rs) = built_others k (Answered 0 q r ∷ log) qs rs ∙ stay_other (Answered 0 q r) (suc k) log (not_first k)
built_others k log [] (r ∷ rs) = refl
built_others k log (q ∷ qs) [] = refl

replies_to : (qs : List Request) (rs : List Reply) (from to : Store) → StoreRun from qs rs to → AreRepliesTo qs rs
replies_to [] [] from to run = tt
replies_to (q ∷ qs) (r ∷ rs) from to run = ((run.1.instance, run.1.sequence), replies_to qs rs run.0 to run.2)
replies_to [] (r ∷ rs) from to run = absurd run
replies_to (q ∷ qs) [] from to run = absurd run

module _ (before after : Moment) (past : Past) (s : SomeServed plain before past after) where
  abbrev piece : List ℕ
  piece = take s.written.0 (shown plain past.replies)

  abbrev began : Log
  began = Brought 0 past.bytes ∷ []

  abbrev log : Log
  log = Given 0 piece ∷ built began past.asked past.replies

  run : StoreRun before.store past.asked past.replies after.store
  run = s.answered.0

  asked_are : all_asked log ≡ past.asked
  asked_are = built_asked began past.asked past.replies before.store after.store run

  replies_are : all_replies log ≡ past.replies
  replies_are = built_replies began past.asked past.replies before.store after.store run

  abbrev stayed : Stay
  stayed = record { bytes = past.bytes; asked = past.asked; replies = past.replies; given = piece }

  own : stay 0 log ≡ stayed
  own = ap (λ (t : Stay). record { bytes = t.bytes; asked = t.asked; replies = t.replies; given = t.given ++ piece }) (built_stay began past.asked past.replies before.store after.store run)

  is_stay : IsStay stayed
  is_stay = record {
    stream = s.stream;
    answers = replies_to past.asked past.replies before.store after.store run;
    fits = s.answered.2;
    told = (drop s.written.0 (shown plain past.replies), sym (take-append-drop s.written.0 (shown plain past.replies)));
  }

  no_one : IsStay no_stay
  no_one = record { stream = ([], refl); answers = tt; fits = All-nil (FitsFrame messages.replies); told = ([], refl) }

  others : (k : ℕ) → stay (suc k) log ≡ no_stay
  others k = stay_other (Given 0 piece) (suc k) (built began past.asked past.replies) (not_first k) ∙ built_others k began past.asked past.replies
      ∙ stay_other (Brought 0 past.bytes) (suc k) [] (not_first k)

  stays : (k : ℕ) → IsStay (stay k log)
  stays zero = subst IsStay (sym own) is_stay
  stays (suc k) = subst IsStay (sym (others k)) no_one

  alone : (k : ℕ) → k ≢ 0 → stay k log ≡ no_stay
  alone zero other = absurd (other refl)
  alone (suc k) other = others k

  is_hosted : IsHosted before past after
  is_hosted = record {
    log = log;
    hosted = record {
      run = subst (λ qs. StoreRun before.store qs (all_replies log) after.store) (sym asked_are) (subst (λ rs. StoreRun before.store past.asked rs after.store) (sym replies_are) run);
      cause = subst (λ rs. HaveCause before.failures rs after.failures) (sym replies_are) s.answered.1;
      stays = stays;
    };
    bytes = ap (λ (t : Stay). t.bytes) own;
    asked = asked_are;
    replies = replies_are;
    alone = alone;
  }

pub serving_is_hosting : ServingIsHosting
serving_is_hosting before after past s = is_hosted before after past s
