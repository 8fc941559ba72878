-- A file that is fed in two pieces.
use Rattle.std.proofs.Common.{arith, codes, ◌≡◌, ◌≢◌, ◌∷◌, [], ℕ, Contains, refl, get_or, sym, ap, ◌∙◌, inl, lit≤}
use Rattle.std.proofs.lemmas.Str.{IsUtf8-from_ascii}
use Rattle.std.proofs.lemmas.Str.Ascii.{IsAscii-cons, IsAscii-nil}
use Rattle.repo_tree.specs.Components.{IsComponent}
use Rattle.repo_tree.specs.Spelling.{greatest_depth}
use Rattle.repo_backup.specs.ItemLaws.{ExampleIsSpelled}
use Rattle.repo_backup.specs.Items.{MayOpen, at_root}

not_in : (n m : ℕ) → n ≢ m → ¬ Contains (n ∷ []) m
not_in n m other = λ c.
    let first : c.0 ≡ 0 = (let few = c.1 in omega (arith, few)) in
    other (ap (λ i. get_or (n ∷ []) i m) (sym first) ∙ c.2)

x_is : IsComponent (codes "x")
x_is = record {
  some = lit≤ tt;
  few = lit≤ tt;
  utf8 = IsUtf8-from_ascii (codes "x") (IsAscii-cons 120 [] (lit≤ tt) IsAscii-nil);
  no_slash = not_in 120 47 (λ e. absurd (cc));
  no_nul = not_in 120 0 (λ e. absurd (cc));
  no_dot = λ e. absurd (cc);
  no_dots = λ e. absurd (cc);
}

a_is : IsComponent (codes "a")
a_is = record {
  some = lit≤ tt;
  few = lit≤ tt;
  utf8 = IsUtf8-from_ascii (codes "a") (IsAscii-cons 97 [] (lit≤ tt) IsAscii-nil);
  no_slash = not_in 97 47 (λ e. absurd (cc));
  no_nul = not_in 97 0 (λ e. absurd (cc));
  no_dot = λ e. absurd (cc);
  no_dots = λ e. absurd (cc);
}

x_opens : MayOpen at_root (codes "x")
unfolding greatest_depth
x_opens = (x_is, (refl, tt), lit≤ tt)

pub example_is_spelled : ExampleIsSpelled
example_is_spelled = record {
  taken = (refl, tt, (refl, refl), (refl, tt, inl (λ none. absurd (cc)), (refl, tt, lit≤ tt, (refl, tt, lit≤ tt, (refl, tt, x_opens, tt)))));
  spelled = refl;
  below = (a_is, λ may. let less = may.1 in absurd (cc));
  again = (x_is, λ may. let less = may.1 in absurd (cc));
  unclosed = λ h. let none = h.0 in absurd (cc);
}
