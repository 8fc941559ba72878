-- What is remembered agrees with the store, over each call.
use Rattle.std.proofs.Common.{◌≡◌, ◌≢◌, ◌⊎◌, ◌∙◌, inl, inr, ℕ, Bool, true, false, not, List, Option, Some, None, is_some, Err, refl, sym, ap, subst}
use Rattle.std.proofs.lemmas.Option.{none-some}
use Rattle.repo_name.specs.declared.kinds.Kind.{Kind}
use Rattle.repo_name.specs.declared.names.Name.{Name}
use Rattle.repo_locks.specs.TokenMachine.{Tokens}
use Rattle.repo_store.specs.declared.known.Known.{Known}
use Rattle.repo_name.specs.NameMaps.{found}
use Rattle.repo_store.specs.Kept.{NameSet, Names, names_of, AreThere, IsLedgerOf, Agrees, nothing, Changes, WasNew, KeepsOthers}
use Rattle.repo_store.specs.declared.shelves.ShelfError.{ShelfError}
use Rattle.repo_store.specs.Laws.{Writes}
use Rattle.repo_store.specs.Stores.{Store, PutsObject, RemovesObject}

abbrev There : Type 0
There = Name → Option (List ℕ)

kind_cases : (a b : Kind) → (a ≡ b) ⊎ (a ≢ b)
kind_cases Kind.Pack Kind.Pack = inl refl
kind_cases Kind.Pack Kind.Index = inr (λ h. absurd (cc))
kind_cases Kind.Pack Kind.Snapshot = inr (λ h. absurd (cc))
kind_cases Kind.Index Kind.Pack = inr (λ h. absurd (cc))
kind_cases Kind.Index Kind.Index = inl refl
kind_cases Kind.Index Kind.Snapshot = inr (λ h. absurd (cc))
kind_cases Kind.Snapshot Kind.Pack = inr (λ h. absurd (cc))
kind_cases Kind.Snapshot Kind.Index = inr (λ h. absurd (cc))
kind_cases Kind.Snapshot Kind.Snapshot = inl refl

pub nothing_agrees : (store : Store) → Agrees nothing store
nothing_agrees store = record { ledger = tt; names = names }
  where
    names : (k : Kind) → AreThere (names_of nothing k) (store.objects k)
    names Kind.Pack = tt
    names Kind.Index = tt
    names Kind.Snapshot = tt

ledger_stays : (known next : Known) (old new : Store) → next.ledger ≡ known.ledger → new.tokens ≡ old.tokens → IsLedgerOf known.ledger old → IsLedgerOf next.ledger new
ledger_stays known next old new same tokens h = subst (λ l. IsLedgerOf l new) (sym same) (go known.ledger h)
  where
    go : (l : Option Tokens) → IsLedgerOf l old → IsLedgerOf l new
    go None h = tt
    go (Some l) h = h ∙ sym tokens

some_is : (o : Option (List ℕ)) (x : List ℕ) → o ≡ Some x → is_some o ≡ true
some_is o x h = ap is_some h

-- ---- one kind's names

-- there where a name is there, or isn't, from now on, and all else is as it was
one_changes : (known next : Names) (name : Name) (is : Bool) (old new : There) → AreThere known old → Changes known name is next → is_some (new name) ≡ is
    → ((n : Name) → (n ≡ name) ⊎ (is_some (new n) ≡ is_some (old n))) → AreThere next new
one_changes None next name is old new h c at others = subst (λ k. AreThere k new) (sym c) tt
one_changes (Some has) next name is old new h (now, be, here, rest) at others = subst (λ k. AreThere k new) (sym be) go
  where
    here_is : (n : Name) → n ≡ name → now n ≡ is_some (new n)
    here_is n e = ap now e ∙ here ∙ sym at ∙ ap (λ m. is_some (new m)) (sym e)

    there_is : (n : Name) → (n ≡ name) ⊎ (now n ≡ has n) → (n ≡ name) ⊎ (is_some (new n) ≡ is_some (old n)) → now n ≡ is_some (new n)
    there_is n (inl e) o = here_is n e
    there_is n (inr s) (inl e) = here_is n e
    there_is n (inr s) (inr t) = s ∙ h n ∙ sym t

    go : (n : Name) → now n ≡ is_some (new n)
    go n = there_is n (rest n) (others n)

-- a name that was new, and is taken back
one_back : (known mid next : Names) (name : Name) (old : There) → AreThere known old → Changes known name true mid → WasNew known name true → Changes mid name false next → AreThere next old
one_back None mid next name old h c new b = subst (λ k. AreThere k old) (sym (gone mid c b)) tt
  where
    gone : (m : Names) → m ≡ None → Changes m name false next → next ≡ None
    gone None e b = b
    gone (Some f) e b = absurd (none-some f (sym e))
one_back (Some has) mid next name old h (now, be, here, rest) new b = go mid be b
  where
    was : is_some (old name) ≡ false
    was = sym (h name) ∙ unset (has name) new
      where
        unset : (x : Bool) → true ≡ not x → x ≡ false
        unset true e = absurd (cc)
        unset false e = refl

    same : (n : Name) → (n ≡ name) ⊎ (is_some (old n) ≡ now n)
    same n = pick (rest n) where
      pick : (n ≡ name) ⊎ (now n ≡ has n) → (n ≡ name) ⊎ (is_some (old n) ≡ now n)
      pick (inl e) = inl e
      pick (inr s) = inr (sym (h n) ∙ sym s)

    go : (m : Names) → m ≡ Some now → Changes m name false next → AreThere next old
    go None e c = absurd (none-some now e)
    go (Some f) e (then, be2, here2, rest2) = subst (λ k. AreThere k old) (sym be2) all
      where
        f_is : (n : Name) → f n ≡ now n
        f_is n = ap (λ (g : Names). value g n) e where
          value : Names → Name → Bool
          value None n = false
          value (Some g) n = g n

        at : (n : Name) → n ≡ name → then n ≡ is_some (old n)
        at n e = ap then e ∙ here2 ∙ sym was ∙ ap (λ m. is_some (old m)) (sym e)

        each : (n : Name) → (n ≡ name) ⊎ (then n ≡ f n) → (n ≡ name) ⊎ (is_some (old n) ≡ now n) → then n ≡ is_some (old n)
        each n (inl e) o = at n e
        each n (inr s) (inl e) = at n e
        each n (inr s) (inr t) = s ∙ f_is n ∙ sym t

        all : (n : Name) → then n ≡ is_some (old n)
        all n = each n (rest2 n) (same n)

-- a name that was there already
one_same : (known next : Names) (name : Name) (old : There) → AreThere known old → Changes known name true next → WasNew known name false → AreThere next old
one_same None next name old h c new = subst (λ k. AreThere k old) (sym c) tt
one_same (Some has) next name old h c new = one_changes (Some has) next name true old old h c (sym (h name) ∙ set (has name) new) (λ n. inr refl)
  where
    set : (x : Bool) → false ≡ not x → x ≡ true
    set true e = refl
    set false e = absurd (cc)

-- ---- all kinds

other_kind : (known next : Known) (kind k : Kind) → k ≢ kind → KeepsOthers known kind next → names_of next k ≡ names_of known k
other_kind known next kind k differ keeps = go (keeps.others k) where
  go : (k ≡ kind) ⊎ (names_of next k ≡ names_of known k) → names_of next k ≡ names_of known k
  go (inl e) = absurd (differ e)
  go (inr s) = s

-- what is there of another kind, or of another name, is as it was
untouched : (known : Names) (old new : There) → AreThere known old → ((n : Name) → is_some (new n) ≡ is_some (old n)) → AreThere known new
untouched None old new h same = tt
untouched (Some has) old new h same = λ n. h n ∙ sym (same n)

module _ (known next : Known) (kind : Kind) (name : Name) (is : Bool) (old new : Store) (agrees : Agrees known old) (changes : Changes (names_of known kind) name is (names_of next kind))
    (keeps : KeepsOthers known kind next) (tokens : new.tokens ≡ old.tokens) (at : is_some (new.objects kind name) ≡ is)
    (others : (k : Kind) (n : Name) → ((k ≡ kind) × (n ≡ name)) ⊎ (is_some (new.objects k n) ≡ is_some (old.objects k n))) where
  of_kind : AreThere (names_of next kind) (new.objects kind)
  of_kind = one_changes (names_of known kind) (names_of next kind) name is (old.objects kind) (new.objects kind) (agrees.names kind) changes at (λ n. go n (others kind n))
    where
      go : (n : Name) → ((kind ≡ kind) × (n ≡ name)) ⊎ (is_some (new.objects kind n) ≡ is_some (old.objects kind n)) → (n ≡ name) ⊎ (is_some (new.objects kind n) ≡ is_some (old.objects kind n))
      go n (inl e) = inl e.1
      go n (inr s) = inr s

  each_kind : (k : Kind) → (k ≡ kind) ⊎ (k ≢ kind) → AreThere (names_of next k) (new.objects k)
  each_kind k (inl e) = subst (λ j. AreThere (names_of next j) (new.objects j)) (sym e) of_kind
  each_kind k (inr differ) =
      subst (λ x. AreThere x (new.objects k)) (sym (other_kind known next kind k differ keeps)) (untouched (names_of known k) (old.objects k) (new.objects k) (agrees.names k) (λ n. go n (others k n)))
    where
      go : (n : Name) → ((k ≡ kind) × (n ≡ name)) ⊎ (is_some (new.objects k n) ≡ is_some (old.objects k n)) → is_some (new.objects k n) ≡ is_some (old.objects k n)
      go n (inl e) = absurd (differ e.0)
      go n (inr s) = s

  changed_agrees : Agrees next new
  changed_agrees = record { ledger = ledger_stays known next old new keeps.ledger tokens agrees.ledger; names = λ k. each_kind k (kind_cases k kind) }

pub put_agrees : (known next : Known) (kind : Kind) (name : Name) (bytes : List ℕ) (old new : Store) → Agrees known old → Changes (names_of known kind) name true (names_of next kind)
    → KeepsOthers known kind next → PutsObject kind name bytes old new → Agrees next new
put_agrees known next kind name bytes old new agrees changes keeps puts =
    changed_agrees known next kind name true old new agrees changes keeps puts.2 (some_is (new.objects kind name) puts.0.here.0 puts.0.here.1) (λ k n. go k n (old.objects k n) refl (new.objects k n) refl)
  where
    go : (k : Kind) (n : Name) (a : Option (List ℕ)) → old.objects k n ≡ a → (b : Option (List ℕ)) → new.objects k n ≡ b → ((k ≡ kind) × (n ≡ name)) ⊎ (is_some (new.objects k n) ≡ is_some (old.objects k n))
    go k n (Some x) e b f = inr (some_is (new.objects k n) x (puts.0.kept k n x e) ∙ sym (some_is (old.objects k n) x e))
    go k n None e None f = inr (ap is_some f ∙ sym (ap is_some e))
    go k n None e (Some y) f = at (puts.0.only k n y f) where
      at : (old.objects k n ≡ Some y) ⊎ ((k ≡ kind) × (n ≡ name) × (y ≡ bytes)) → ((k ≡ kind) × (n ≡ name)) ⊎ (is_some (new.objects k n) ≡ is_some (old.objects k n))
      at (inl was) = absurd (none-some y (sym e ∙ was))
      at (inr p) = inl (p.0, p.1)

pub remove_agrees : (known next : Known) (kind : Kind) (name : Name) (old new : Store) → Agrees known old → Changes (names_of known kind) name false (names_of next kind)
    → KeepsOthers known kind next → RemovesObject kind name old new → Agrees next new
remove_agrees known next kind name old new agrees changes keeps removes =
    changed_agrees known next kind name false old new agrees changes keeps removes.2 (ap is_some removes.0.gone) (λ k n. go k n (old.objects k n) refl (new.objects k n) refl)
  where
    go : (k : Kind) (n : Name) (a : Option (List ℕ)) → old.objects k n ≡ a → (b : Option (List ℕ)) → new.objects k n ≡ b → ((k ≡ kind) × (n ≡ name)) ⊎ (is_some (new.objects k n) ≡ is_some (old.objects k n))
    go k n a e (Some y) f = inr (some_is (new.objects k n) y f ∙ sym (some_is (old.objects k n) y (removes.0.only k n y f)))
    go k n None e None f = inr (ap is_some f ∙ sym (ap is_some e))
    go k n (Some x) e None f = at (removes.0.kept k n x e) where
      at : (new.objects k n ≡ Some x) ⊎ ((k ≡ kind) × (n ≡ name)) → ((k ≡ kind) × (n ≡ name)) ⊎ (is_some (new.objects k n) ≡ is_some (old.objects k n))
      at (inl stays) = absurd (none-some x (sym f ∙ stays))
      at (inr p) = inl p

-- the store is as before, and so is what is known of it
pub back_agrees : (known mid next : Known) (kind : Kind) (name : Name) (added : Bool) (store : Store) → Agrees known store → Changes (names_of known kind) name true (names_of mid kind)
    → KeepsOthers known kind mid → WasNew (names_of known kind) name added
    → (added ≡ true → Changes (names_of mid kind) name false (names_of next kind) × KeepsOthers mid kind next) → (added ≡ false → next ≡ mid) → Agrees next store
back_agrees known mid next kind name true store agrees changes keeps new struck same =
    record { ledger = ledger_stays known next store store ((struck refl).1.ledger ∙ keeps.ledger) refl agrees.ledger; names = λ k. each k (kind_cases k kind) }
  where
    each : (k : Kind) → (k ≡ kind) ⊎ (k ≢ kind) → AreThere (names_of next k) (store.objects k)
    each k (inl e) = subst (λ j. AreThere (names_of next j) (store.objects j)) (sym e)
        (one_back (names_of known kind) (names_of mid kind) (names_of next kind) name (store.objects kind) (agrees.names kind) changes new (struck refl).0)
    each k (inr differ) = subst (λ x. AreThere x (store.objects k)) (sym (other_kind mid next kind k differ (struck refl).1 ∙ other_kind known mid kind k differ keeps)) (agrees.names k)
back_agrees known mid next kind name false store agrees changes keeps new struck same =
    subst (λ x. Agrees x store) (sym (same refl)) (record { ledger = ledger_stays known mid store store keeps.ledger refl agrees.ledger; names = λ k. each k (kind_cases k kind) })
  where
    each : (k : Kind) → (k ≡ kind) ⊎ (k ≢ kind) → AreThere (names_of mid k) (store.objects k)
    each k (inl e) = subst (λ j. AreThere (names_of mid j) (store.objects j)) (sym e)
        (one_same (names_of known kind) (names_of mid kind) name (store.objects kind) (agrees.names kind) changes new)
    each k (inr differ) = subst (λ x. AreThere x (store.objects k)) (sym (other_kind known mid kind k differ keeps)) (agrees.names k)

-- after a writing call that failed nothing is known, or what was known before, of a store that is as before
pub failed_agrees : (W : Store → Store → Type 0) (error : ShelfError) (before final : Known) (old new : Store) → (error ≡ ShelfError.Fault → final ≡ nothing) → (error ≡ ShelfError.Memory → final ≡ before)
    → Writes {T = Unit {0}} W old (Err error) new → Agrees before old → Agrees final new
failed_agrees W ShelfError.Fault before final old new fault memory w agrees = subst (λ x. Agrees x new) (sym (fault refl)) (nothing_agrees new)
failed_agrees W ShelfError.Memory before final old new fault memory w agrees = subst (λ x. Agrees x new) (sym (memory refl)) (subst (λ s. Agrees before s) (sym w) agrees)

-- ---- what is in a set that is known

is_there : (o : Option (List ℕ)) → is_some o ≡ true → (x : List ℕ) × (o ≡ Some x)
is_there None h = absurd (cc)
is_there (Some x) h = (x, refl)

is_unit : (o : Option (Unit {0})) → is_some o ≡ true → (y : Unit {0}) × (o ≡ Some y)
is_unit None h = absurd (cc)
is_unit (Some y) h = (y, refl)

module _ (names : NameSet) (there : Name → Option (List ℕ)) (same : (n : Name) → is_some (found names n) ≡ is_some (there n)) where
  pub known_there : (n : Name) (y : Unit {0}) → found names n ≡ Some y → (x : List ℕ) × (there n ≡ Some x)
  known_there n y h = is_there (there n) (sym (same n) ∙ ap is_some h)

  pub there_known : (n : Name) (x : List ℕ) → there n ≡ Some x → (y : Unit {0}) × (found names n ≡ Some y)
  there_known n x h = is_unit (found names n) (same n ∙ ap is_some h)
