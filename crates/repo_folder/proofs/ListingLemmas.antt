use Rattle.std.proofs.Common.{◌≡◌, ◌≢◌, ◌⊎◌, inl, inr, ◌<◌, ◌≤◌, ◌+◌, ℕ, Bool, true, false, cond, nat_lt, List, [], ◌∷◌, ◌++◌, length, take, get_or, Option, Some, None, is_some, Result, Err, IsErrOf, refl, sym, ap, subst, arith, ◌∙◌}
use Rattle.std.proofs.lemmas.Bool.{cases_Bool, true≢false, ltb-true, ltb-false}
use Rattle.std.specs.BTreeMap.{IsOrdered}
use Rattle.std.specs.Cmp.{nat_cmp_is}
use Rattle.std.specs.Cmp.Lexicographic.{slice_cmp}
use Rattle.std.specs.Ordering.{nat_cmp}
use Rattle.std.specs.declared.cmp.Ordering.TheVariants.{Less, Greater}
use Rattle.std.proofs.lemmas.List.{take_more}
use Rattle.hex.proofs.HexLemmas.{length-encode_with}
use Rattle.hex.specs.Hex.{lower_digits}
use Rattle.repo_name.specs.declared.kinds.Kind.{Kind}
use Rattle.repo_name.specs.declared.names.Name.{Name}
use Rattle.repo_name.specs.declared.names.NameError.{NameError}
use Rattle.repo_name.specs.NameMaps.{found, Inserted}
use Rattle.repo_name.specs.Naming.{hex_of, IsName, name_cmp, Before}
use Rattle.repo_store.specs.Kept.{NameSet, is_in}
use Rattle.repo_store.specs.Memory.{above, IsFirstPart}
use Rattle.repo_store.specs.Pages.{Above, IsPage}
use Rattle.repo_store.specs.Stores.{Objects}
use Rattle.repo_store.proofs.PageLemmas.{page_of}
use Rattle.repo_disk.specs.Disks.{State, Has}
use Rattle.repo_disk.specs.declared.rooms.Room.{Room}
use Rattle.repo_folder.specs.Folders.{IsListed, Stays}
use Rattle.repo_folder.specs.Ledgers.{first_of}
use Rattle.repo_folder.specs.Listings.{JoinsListed, JoinsRoom, ArePacks, least_first}
use Rattle.repo_folder.specs.Spelling.{room_of, is_name, object_in}
use Rattle.repo_folder.proofs.SpellingLemmas.{hex_one, name_tells, object_of, first_small}

-- ---- lists of texts

has_left : (xs ys : List (List ℕ)) (n : List ℕ) → Has xs n → Has (xs ++ ys) n
has_left [] ys n h = absurd h
has_left (x ∷ xs) ys n (inl e) = inl e
has_left (x ∷ xs) ys n (inr h) = inr (has_left xs ys n h)

has_right : (xs ys : List (List ℕ)) (n : List ℕ) → Has ys n → Has (xs ++ ys) n
has_right [] ys n h = h
has_right (x ∷ xs) ys n h = inr (has_right xs ys n h)

has_either : (xs ys : List (List ℕ)) (n : List ℕ) → Has (xs ++ ys) n → Has xs n ⊎ Has ys n
has_either [] ys n h = inr h
has_either (x ∷ xs) ys n (inl e) = inl (inl e)
has_either (x ∷ xs) ys n (inr h) = elim (has_either xs ys n h) [ inl k ↦ inl (inr k) | inr k ↦ inr k ]

-- ---- a name

-- a text that is read as no name is no name's
pub no_text : (result : Result Name NameError) (text : List ℕ) (e : NameError) → result ≡ Err e → (IsErrOf result NameError.Length → length text ≢ 64)
    → (IsErrOf result NameError.Digit → (n : Name) → IsName n → text ≢ hex_of n) → (n : Name) → IsName n → text ≢ hex_of n
no_text result text NameError.Length is long digit n name h =
    let short : length text ≢ 64 = long (subst (λ r. IsErrOf r NameError.Length) (sym is) refl) in
    let full : length (hex_of n) ≡ 64 = (let e = length-encode_with lower_digits n.0 in let m = name.0 in omega arith) in
    short (ap length h ∙ full)
no_text result text NameError.Digit is long digit n name h = digit (subst (λ r. IsErrOf r NameError.Digit) (sym is) refl) n name h

module _ (kind : Kind) (room : Room) (after : Option Name) (text : List ℕ) (names : NameSet) where
  pub joins_no_text : ((n : Name) → IsName n → text ≢ hex_of n) → JoinsListed kind room after (text ∷ []) names names
  joins_no_text none = record {
    stay = λ n h. h;
    join = λ n is at up h. elim h [ inl e ↦ absurd (none n is (sym e)) | inr k ↦ absurd k ];
    only = λ n h. inl h;
  }

  pub joins_elsewhere : (name : Name) → IsName name → text ≡ hex_of name → (room_of kind name ≡ room → ⊥) → JoinsListed kind room after (text ∷ []) names names
  joins_elsewhere name is_name spells other = record {
    stay = λ n h. h;
    join = λ n is at up h. elim h [
      | inl e ↦ absurd (other (ap (room_of kind) (hex_one name n is_name is (sym spells ∙ sym e)) ∙ at))
      | inr k ↦ absurd k
    ];
    only = λ n h. inl h;
  }

  pub joins_below : (name : Name) → IsName name → text ≡ hex_of name → (Above after name → ⊥) → JoinsListed kind room after (text ∷ []) names names
  joins_below name is_name spells below = record {
    stay = λ n h. h;
    join = λ n is at up h. elim h [
      | inl e ↦ absurd (below (subst (Above after) (sym (hex_one name n is_name is (sym spells ∙ sym e))) up))
      | inr k ↦ absurd k
    ];
    only = λ n h. inl h;
  }

  pub joins_name : (new : NameSet) (name : Name) → IsName name → text ≡ hex_of name → room_of kind name ≡ room → Inserted (found names) name tt (found new) → JoinsListed kind room after (text ∷ []) names new
  joins_name new name is_name spells here i = record { stay = λ n h. stay n h (i.others n); join = join; only = λ n h. only n h (i.others n) }
    where
      stay : (n : Name) → is_in names n ≡ true → (n ≡ name) ⊎ (found new n ≡ found names n) → is_in new n ≡ true
      stay n h (inl e) = ap is_some (ap (found new) e ∙ i.here)
      stay n h (inr s) = ap is_some s ∙ h

      join : (n : Name) → IsName n → room_of kind n ≡ room → Above after n → Has (text ∷ []) (hex_of n) → is_in new n ≡ true
      join n is at up (inl e) = ap is_some (ap (found new) (hex_one n name is is_name (e ∙ spells)) ∙ i.here)
      join n is at up (inr k) = absurd k

      only : (n : Name) → is_in new n ≡ true → (n ≡ name) ⊎ (found new n ≡ found names n) → (is_in names n ≡ true) ⊎ (IsName n × (room_of kind n ≡ room) × Has (text ∷ []) (hex_of n))
      only n h (inl e) = inr (subst IsName (sym e) is_name, ap (room_of kind) e ∙ here, inl (ap hex_of e ∙ sym spells))
      only n h (inr s) = inl (sym (ap is_some s) ∙ h)

-- ---- several

pub joins_none : (kind : Kind) (room : Room) (after : Option Name) (names : NameSet) → JoinsListed kind room after [] names names
joins_none kind room after names = record { stay = λ n h. h; join = λ n is at up h. absurd h; only = λ n h. inl h }

joins_then : (kind : Kind) (room : Room) (after : Option Name) (xs ys : List (List ℕ)) (old mid new : NameSet) → JoinsListed kind room after xs old mid → JoinsListed kind room after ys mid new → JoinsListed kind room after (xs ++ ys) old new
joins_then kind room after xs ys old mid new a b = record {
  stay = λ n h. b.stay n (a.stay n h);
  join = λ n is at up h. elim (has_either xs ys (hex_of n) h) [ inl k ↦ b.stay n (a.join n is at up k) | inr k ↦ b.join n is at up k ];
  only = λ n h. elim (b.only n h) [
    | inl k ↦ elim (a.only n k) [ inl o ↦ inl o | inr p ↦ inr (p.0, p.1, has_left xs ys (hex_of n) p.2) ]
    | inr p ↦ inr (p.0, p.1, has_right xs ys (hex_of n) p.2)
  ];
}

pub joins_more : (kind : Kind) (room : Room) (after : Option Name) (texts : List (List ℕ)) (i : ℕ) (d : List ℕ) (old mid new : NameSet) → i < length texts → JoinsListed kind room after (take i texts) old mid
    → JoinsListed kind room after (get_or texts i d ∷ []) mid new → JoinsListed kind room after (take (i + 1) texts) old new
joins_more kind room after texts i d old mid new less a b =
    subst (λ l. JoinsListed kind room after l old new) (sym (take_more texts i d less)) (joins_then kind room after (take i texts) (get_or texts i d ∷ []) old mid new a b)

-- what is listed is what is there
pub joins_room : (kind : Kind) (room : Room) (after : Option Name) (texts : List (List ℕ)) (files : List ℕ → Option (List ℕ)) (old new : NameSet) → IsListed files texts → JoinsListed kind room after texts old new
    → JoinsRoom kind room after files old new
joins_room kind room after texts files old new listed j = record {
  stay = j.stay;
  join = λ n is at up there. j.join n is at up ((listed (hex_of n)).1 there);
  only = λ n h. elim (j.only n h) [ inl o ↦ inl o | inr p ↦ inr (p.0, p.1, (listed (hex_of n)).0 p.2) ];
}

-- ---- pages

module _ (O : Objects) (kind : Kind) (after : Option Name) (limit : ℕ) (names : NameSet) (named : (n : Name) → is_in names n ≡ true → (x : List ℕ) × (O kind n ≡ Some x))
    (rest : (n : Name) (x : List ℕ) → O kind n ≡ Some x → Above after n → (is_in names n ≡ true) ⊎ ((m : Name) → is_in names m ≡ true → Before m n)) (ordered : IsOrdered name_cmp names) where
  abbrev within : Objects
  within k n = cond (is_in names n) (O k n) None

  within_is : (n : Name) (x : List ℕ) → within kind n ≡ Some x → (is_in names n ≡ true) × (O kind n ≡ Some x)
  within_is n x e = elim (cases_Bool (is_in names n)) [
    | inl there ↦ (there, rw there at e)
    | inr gone ↦ (let k : None ≡ Some x = rw gone at e in absurd (cc))
  ]

  is_within : (n : Name) (x : List ℕ) → is_in names n ≡ true → O kind n ≡ Some x → within kind n ≡ Some x
  is_within n x there e = rw there e

  there_in : (n : Name) (y : Unit {0}) → found names n ≡ Some y → (x : List ℕ) × (within kind n ≡ Some x)
  there_in n y e = let is : is_in names n ≡ true = ap is_some e in let x = named n is in (x.0, is_within n x.0 is x.1)

  in_there : (n : Name) (x : List ℕ) → within kind n ≡ Some x → (y : Unit {0}) × (found names n ≡ Some y)
  in_there n x e = go (found names n) refl (within_is n x e).0 where
    go : (o : Option (Unit {0})) → found names n ≡ o → is_some (found names n) ≡ true → (y : Unit {0}) × (found names n ≡ Some y)
    go None is h = absurd (true≢false (sym h ∙ ap is_some is))
    go (Some y) is h = (y, is)

  -- a page of a set is one of the objects, where each that isn't in it is beyond the set, and none is or more follow
  pub page_within : (page : List Name) (more : Bool) → (more ≡ true) ⊎ ((n : Name) (x : List ℕ) → O kind n ≡ Some x → Above after n → is_in names n ≡ true)
      → IsFirstPart (above after names) limit page more → IsPage O kind after limit page more
  page_within page more ends cut = record {
    ascends = p.ascends;
    few = p.few;
    there = λ n h. let x = p.there n h in (x.0, (within_is n x.0 x.1).1);
    least = λ n x e up. elim (cases_Bool (is_in names n)) [
      | inl there ↦ p.least n x (is_within n x there e) up
      | inr gone ↦ elim ends [
        | inl follow ↦ elim (rest n x e up) [
          | inl there ↦ absurd (true≢false (sym there ∙ gone))
          | inr beyond ↦ inr (follow, λ m has. let y = p.there m has in beyond m (within_is m y.0 y.1).0)
        ]
        | inr all ↦ absurd (true≢false (sym (all n x e up) ∙ gone))
      ]
    ];
    follow = λ h. let f = p.follow h in (f.0, (f.1.0, f.1.1, (within_is f.1.0 f.1.1 f.1.2).1, f.1.3));
  }
    where
      p : IsPage within kind after limit page more
      p = page_of within kind after limit names there_in in_there ordered page more cut

-- ---- first bytes

first_least : (xs ys : List ℕ) → slice_cmp nat_cmp xs ys ≡ Less → first_of xs ≤ first_of ys
first_least [] ys h = omega arith
first_least (x ∷ xs) [] h = absurd (let k : Greater ≡ Less = h in cc)
first_least (x ∷ xs) (y ∷ ys) h = elim (cases_Bool (nat_lt y x)) [
  | inl e ↦ absurd (let g : Greater ≡ nat_cmp x y = nat_cmp_is x y Greater (ltb-true y x e) in let k : Greater ≡ Less = rw (← g) at h in cc)
  | inr e ↦ (let f = ltb-false y x e in omega arith)
]

first_before : (xs ys : List ℕ) → first_of xs < first_of ys → slice_cmp nat_cmp xs ys ≡ Less
first_before xs [] h = absurd (omega arith)
first_before [] (y ∷ ys) h = refl
first_before (x ∷ xs) (y ∷ ys) h = let l : Less ≡ nat_cmp x y = nat_cmp_is x y Less h in rw (← l) refl

-- ---- the names of one folder

some_there : (o : Option (List ℕ)) → is_some o ≡ true → (x : List ℕ) × (o ≡ Some x)
some_there None h = absurd (true≢false (sym h))
some_there (Some x) h = (x, refl)

-- an object that is there has a name of 32 bytes
named_object : (files : Room → List ℕ → Option (List ℕ)) (kind : Kind) (n : Name) (x : List ℕ) → object_in files kind n ≡ Some x → IsName n × (is_some (files (room_of kind n) (hex_of n)) ≡ true)
named_object files kind n x e = elim (cases_Bool (is_name n)) [
  | inl named ↦ (let is = name_tells n named in (is, ap is_some (sym (object_of files kind n is) ∙ e)))
  | inr unnamed ↦ (let k : None ≡ Some x = rw unnamed at e in absurd (cc))
]

object_named : (files : Room → List ℕ → Option (List ℕ)) (kind : Kind) (n : Name) → IsName n → is_some (files (room_of kind n) (hex_of n)) ≡ true → (x : List ℕ) × (object_in files kind n ≡ Some x)
object_named files kind n is there = let x = some_there (files (room_of kind n) (hex_of n)) there in (x.0, object_of files kind n is ∙ x.1)

pub joins_same : (kind : Kind) (room : Room) (after : Option Name) (f g : List ℕ → Option (List ℕ)) (old new : NameSet) → ((n : List ℕ) → f n ≡ g n) → JoinsRoom kind room after f old new → JoinsRoom kind room after g old new
joins_same kind room after f g old new same j = record {
  stay = j.stay;
  join = λ n is at up there. j.join n is at up (ap is_some (same (hex_of n)) ∙ there);
  only = λ n h. elim (j.only n h) [ inl o ↦ inl o | inr p ↦ inr (p.0, p.1, sym (ap is_some (same (hex_of n))) ∙ p.2) ];
}

-- a page of the names of objects that all stand in one folder
pub page_of_room : (files : Room → List ℕ → Option (List ℕ)) (kind : Kind) (room : Room) (after : Option Name) (limit : ℕ) (none names : NameSet) (page : List Name) (more : Bool)
    → ((n : Name) → is_in none n ≡ false) → ((n : Name) → room_of kind n ≡ room) → IsOrdered name_cmp names → JoinsRoom kind room after (files room) none names
    → IsFirstPart (above after names) limit page more → IsPage (object_in files) kind after limit page more
page_of_room files kind room after limit none names page more empty all ordered j cut =
    page_within (object_in files) kind after limit names named (λ n x e up. inl (there n x e up)) ordered page more (inr there) cut
  where
    named : (n : Name) → is_in names n ≡ true → (x : List ℕ) × (object_in files kind n ≡ Some x)
    named n h = elim (j.only n h) [
      | inl o ↦ absurd (true≢false (sym o ∙ empty n))
      | inr p ↦ object_named files kind n p.0 (subst (λ r. is_some (files r (hex_of n)) ≡ true) (sym p.1) p.2)
    ]

    there : (n : Name) (x : List ℕ) → object_in files kind n ≡ Some x → Above after n → is_in names n ≡ true
    there n x e up = let p = named_object files kind n x e in j.join n p.0 (all n) up (subst (λ r. is_some (files r (hex_of n)) ≡ true) (all n) p.1)

-- ---- the names of packs

pub packs_none : (after : Option Name) (files : Room → List ℕ → Option (List ℕ)) (names : NameSet) → ((n : Name) → is_in names n ≡ false) → ArePacks after (least_first after) files names
packs_none after files names empty = record { join = λ n is from below up there. absurd (omega arith); only = λ n h. absurd (true≢false (sym h ∙ empty n)) }

packs_one : {a b : ℕ} → Room.Packs a ≡ Room.Packs b → a ≡ b
packs_one h = cc

pub packs_next : (after : Option Name) (first : ℕ) (files : Room → List ℕ → Option (List ℕ)) (old new : NameSet) → ArePacks after first files old → JoinsRoom Kind.Pack (Room.Packs first) after (files (Room.Packs first)) old new
    → ArePacks after (first + 1) files new
packs_next after first files old new p j = record { join = join; only = only }
  where
    join : (n : Name) → IsName n → least_first after ≤ first_of n.0 → first_of n.0 < first + 1 → Above after n → is_some (files (room_of Kind.Pack n) (hex_of n)) ≡ true → is_in new n ≡ true
    join n is from below up there = elim (cases_Bool (nat_lt (first_of n.0) first)) [
      | inl less ↦ j.stay n (p.join n is from (ltb-true (first_of n.0) first less) up there)
      | inr not_less ↦ (
          let more = ltb-false (first_of n.0) first not_less in
          let same : first_of n.0 ≡ first = omega arith in
          j.join n is (ap Room.Packs same) up (subst (λ f. is_some (files (Room.Packs f) (hex_of n)) ≡ true) same there))
    ]

    only : (n : Name) → is_in new n ≡ true → IsName n × (first_of n.0 < first + 1) × (is_some (files (room_of Kind.Pack n) (hex_of n)) ≡ true)
    only n h = elim (j.only n h) [
      | inl o ↦ (let q = p.only n o in let less = q.1 in (q.0, omega arith, q.2))
      | inr q ↦ (let same = packs_one q.1 in (q.0, omega arith, subst (λ r. is_some (files r (hex_of n)) ≡ true) (sym q.1) q.2))
    ]

-- one folder of packs more, of which what is kept is as in the first state
pub packs_step : (after : Option Name) (first : ℕ) (old mid : State) (names new : NameSet) (room : Room) → room ≡ Room.Packs first → first < 256 → Stays old mid → ArePacks after first old.fate names
    → JoinsRoom Kind.Pack room after (mid.fate room) names new → ArePacks after (first + 1) old.fate new
packs_step after first old mid names new room is small stays p j =
    let here = subst (λ r. JoinsRoom Kind.Pack r after (mid.fate r) names new) is j in
    packs_next after first old.fate names new p (joins_same Kind.Pack (Room.Packs first) after (mid.fate (Room.Packs first)) (old.fate (Room.Packs first)) names new (λ n. stays (Room.Packs first) n small) here)

-- a page of the names of packs, where more follow or all folders were looked at
pub page_of_packs : (files : Room → List ℕ → Option (List ℕ)) (after : Option Name) (limit high : ℕ) (names : NameSet) (page : List Name) (more : Bool) → IsOrdered name_cmp names
    → ArePacks after high files names → (more ≡ true) ⊎ (256 ≤ high) → IsFirstPart (above after names) limit page more → IsPage (object_in files) Kind.Pack after limit page more
page_of_packs files after limit high names page more ordered p ends cut =
    page_within (object_in files) Kind.Pack after limit names (λ n h. let q = p.only n h in object_named files Kind.Pack n q.0 q.2) rest ordered page more (final ends) cut
  where
    from : (a : Option Name) (n : Name) → Above a n → least_first a ≤ first_of n.0
    from None n up = omega arith
    from (Some a) n up = first_least a.0 n.0 up

    rest : (n : Name) (x : List ℕ) → object_in files Kind.Pack n ≡ Some x → Above after n → (is_in names n ≡ true) ⊎ ((m : Name) → is_in names m ≡ true → Before m n)
    rest n x e up =
        let q = named_object files Kind.Pack n x e in
        elim (cases_Bool (nat_lt (first_of n.0) high)) [
          | inl less ↦ inl (p.join n q.0 (from after n up) (ltb-true (first_of n.0) high less) up q.1)
          | inr not_less ↦ inr (λ m h. (
              let below = (p.only m h).1 in
              let least = ltb-false (first_of n.0) high not_less in
              first_before m.0 n.0 (omega arith)))
        ]

    final : (more ≡ true) ⊎ (256 ≤ high) → (more ≡ true) ⊎ ((n : Name) (x : List ℕ) → object_in files Kind.Pack n ≡ Some x → Above after n → is_in names n ≡ true)
    final (inl follow) = inl follow
    final (inr all) = inr (λ n x e up. (
        let q = named_object files Kind.Pack n x e in
        let small = first_small n.0 q.0.1 in
        p.join n q.0 (from after n up) (omega arith) up q.1))
