-- What the words of a forget choose.
use Rattle.std.proofs.Common.{◌≡◌, ◌≢◌, ◌↔◌, Result, Ok, Err, IfOk, IsErr, ◌∷◌, [], ℕ, zero, suc, List, map, Option, Some, None, codes, refl, sym, subst, inl, inr, ◌∙◌}
use Rattle.clap.specs.Matches.{found_of, first_value}
use Rattle.clap.specs.declared.parser.matches.ArgMatches.{ArgMatches}
use Rattle.repo_name.specs.Naming.{hex_of}
use Rattle.repo_name.specs.declared.names.Name.{Name}
use Rattle.repo_prune.specs.declared.choices.Choice.{Choice}
use Rattle.repo_prune.specs.declared.keeping.Policy.{Policy}
use Rattle.repo_prog.specs.Commands.{HasPolicy, choice_for}
use Rattle.repo_prog.specs.Words.{Chooses, IsNumber, IsPolicyOf, words_of}

none_there : {X : Type 0} (o : Option X) → ¬ (o ≢ None) → o ≡ None
none_there None h = refl
none_there (Some x) h = absurd (h (λ p. absurd (cc)))

none_counted : (n : ℕ) → ¬ (n ≢ 0) → n ≡ 0
none_counted zero h = refl
none_counted (suc n) h = absurd (h (λ p. absurd (cc)))

-- what counts, a host and names choose is what the words choose that they were read from
pub chosen : (words : ArgMatches) (host : Option (List ℕ)) (policy : Policy) (names : List Name) (choice : Choice) → IsPolicyOf words policy → host ≡ first_value (found_of words) (codes "host")
    → words_of words (codes "NAME") ≡ map hex_of names → (names ≢ [] → ¬ HasPolicy host policy) → (names ≢ [] → choice ≡ Choice.Names names) → (names ≡ [] → choice ≡ choice_for host policy) → Chooses words choice
chosen words None policy [] choice counts is spelled alone some none = subst (Chooses words) (sym (none refl)) (spelled, counts, sym is)
chosen words (Some host) policy [] choice counts is spelled alone some none = subst (Chooses words) (sym (none refl)) (spelled, counts, sym is)
chosen words host policy (n ∷ ns) choice counts is spelled alone some none =
    let there : n ∷ ns ≢ [] = λ p. absurd (cc) in
    let no = alone there in
    subst (Chooses words) (sym (some there)) (
      spelled,
      there,
      sym is ∙ none_there host (λ h. no (inl h)),
      subst (IsNumber words (codes "keep-last")) (none_counted policy.last (λ h. no (inr (inl h)))) counts.0,
      subst (IsNumber words (codes "keep-daily")) (none_counted policy.daily (λ h. no (inr (inr h)))) counts.1,
    )

-- so it is where they aren't refused
pub chosen_by : {E : Type 0} (words : ArgMatches) (host : Option (List ℕ)) (policy : Policy) (names : List Name) (result : Result Choice E) → IsPolicyOf words policy → host ≡ first_value (found_of words) (codes "host")
    → words_of words (codes "NAME") ≡ map hex_of names → (IsErr result ↔ ((names ≢ []) × HasPolicy host policy)) → IfOk result (λ choice. names ≢ [] → choice ≡ Choice.Names names)
    → IfOk result (λ choice. names ≡ [] → choice ≡ choice_for host policy) → IfOk result (Chooses words)
chosen_by words host policy names (Ok choice) counts is spelled refused some none = chosen words host policy names choice counts is spelled (λ there has. let wrong = refused.1 (there, has) in absurd (cc)) some none
chosen_by words host policy names (Err error) counts is spelled refused some none = tt
