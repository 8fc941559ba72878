-- Where what comes from a source leads.
use Rattle.std.specs.Prelude.{◌*◌, ◌-◌, ◌^◌, ⊤}
use Rattle.std.proofs.Common.{arith, ◌≡◌, ◌≢◌, ◌≤◌, ◌+◌, ◌++◌, ◌∷◌, [], ℕ, true, false, List, length, take, drop, Option, Some, None, refl, sym, ap, subst, inl, inr, append-nil, append_assoc, length-append, ◌∙◌}
use Rattle.std.proofs.lemmas.List.{length-drop, take-append-drop}
use Rattle.repo_session.specs.Feeds.{Fed, fed_dir, fed_file, fed_bytes, fed_close, fed_end, fed_abandon}
use Rattle.repo_backup.specs.Items.{FileSoFar, MayGrow, MayTake, Place, at_root, with_more, closed, after, place_of}
use Rattle.repo_feeding.specs.FedRules.{IsAsTold, IsOnTheWay}
use Rattle.repo_feeding.specs.FedStates.{HasCome, WasRead}
use Rattle.repo_feeding.specs.Reasons.{IsNextItem, IsEndless}
use Rattle.repo_feeding.specs.Sources.{Told, EndsThere, IsSpent, whole_of, told_with, Rewinds, rest_then, ComesFirst, ComeFirst, IsUntouched, Comes, AreTakenFrom, IsAt, leads, count_of, count_in}
use Rattle.repo_feeding.specs.inner.Rooms.{Lessens, IsLessBy}

-- ---- bytes

more_joined : (file : Option FileSoFar) (a b : List ℕ) → with_more b (with_more a file) ≡ with_more (a ++ b) file
more_joined None a b = refl
more_joined (Some f) a b = ap (λ (bytes : List ℕ). Some (record { name = f.name; bytes = bytes })) (append_assoc f.bytes a b)

-- one piece after another leads where both do
pub bytes_joined : (p : Place) (a b : List ℕ) → after (after p (fed_bytes a)) (fed_bytes b) ≡ after p (fed_bytes (a ++ b))
bytes_joined p a b = ap (λ (file : Option FileSoFar). record { entries = p.entries; path = p.path; file = file; over = p.over }) (more_joined p.file a b)

none_more : (file : Option FileSoFar) → with_more [] file ≡ file
none_more None = refl
none_more (Some f) = ap (λ (bytes : List ℕ). Some (record { name = f.name; bytes = bytes })) (append-nil f.bytes)

-- no bytes lead nowhere else
pub nothing_more : (p : Place) → after p (fed_bytes []) ≡ p
nothing_more p = ap (λ (file : Option FileSoFar). record { entries = p.entries; path = p.path; file = file; over = p.over }) (none_more p.file)

-- ---- the end

closed_over : (file : Option FileSoFar) (p : Place) → (closed file p).over ≡ p.over
closed_over None p = refl
closed_over (Some f) p = refl

-- only the end ends them
pub only_end : (p : Place) (item : Fed) → p.over ≡ false → (after p item).over ≡ true → item ≡ fed_end
only_end p (fed_dir name) goes over = absurd (cc)
only_end p (fed_file name) goes over = absurd (cc)
only_end p (fed_bytes bytes) goes over = absurd (cc)
only_end p fed_close goes over = let same = closed_over p.file p in absurd (cc)
only_end p fed_end goes over = refl
only_end p fed_abandon goes over = absurd (cc)

over_on : (p : Place) (item : Fed) → p.over ≡ true → (after p item).over ≡ true
over_on p (fed_dir name) over = over
over_on p (fed_file name) over = over
over_on p (fed_bytes bytes) over = over
over_on p fed_close over = closed_over p.file p ∙ over
over_on p fed_end over = refl
over_on p fed_abandon over = over

-- what ended has ended
pub over_more : (more items : List Fed) → (place_of items).over ≡ true → (place_of (more ++ items)).over ≡ true
over_more [] items over = over
over_more (item ∷ more) items over = over_on (place_of (more ++ items)) item (over_more more items over)

-- what hasn't ended is as it was told
pub not_over : (whole : Option (List Fed)) (p : Place) → p.over ≡ false → IsAsTold whole p
not_over None p goes = tt
not_over (Some whole) p goes = λ over. absurd (cc)

-- ---- what comes first

-- it is no piece of bytes, which comes in parts
abbrev pub IsWhole : Fed → Type 0
IsWhole (fed_bytes bytes) = ⊥
IsWhole item = ⊤

first_whole : (item : Fed) (coming then : List Fed) → IsWhole item → ComesFirst item coming then → coming ≡ item ∷ then
first_whole (fed_dir name) coming then is first = first
first_whole (fed_file name) coming then is first = first
first_whole (fed_bytes bytes) coming then is first = absurd is
first_whole fed_close coming then is first = first
first_whole fed_end coming then is first = first
first_whole fed_abandon coming then is first = first

-- it comes first where it is
first_here : (item : Fed) (then : List Fed) → ComesFirst item (item ∷ then) then
first_here (fed_dir name) then = refl
first_here (fed_file name) then = refl
first_here (fed_bytes bytes) then = ([], then, ap (λ all. fed_bytes all ∷ then) (sym (append-nil bytes)), refl)
first_here fed_close then = refl
first_here fed_end then = refl
first_here fed_abandon then = refl

rest_leads : (p : Place) (part rest : List ℕ) (later : List Fed) → leads (after p (fed_bytes (part ++ rest))) later ≡ leads (after p (fed_bytes part)) (rest_then rest later)
rest_leads p part [] later = ap (λ bytes. leads (after p (fed_bytes bytes)) later) (append-nil part)
rest_leads p part (b ∷ rest) later = ap (λ q. leads q later) (sym (bytes_joined p part (b ∷ rest)))

-- all lead where the item and then the others do
first_leads : (p : Place) (item : Fed) (coming then : List Fed) → ComesFirst item coming then → leads p coming ≡ leads (after p item) then
first_leads p (fed_dir name) coming then first = ap (λ items. leads p items) first
first_leads p (fed_file name) coming then first = ap (λ items. leads p items) first
first_leads p (fed_bytes part) coming then (rest, later, is, left) = ap (λ items. leads p items) is ∙ rest_leads p part rest later ∙ ap (λ items. leads (after p (fed_bytes part)) items) (sym left)
first_leads p fed_close coming then first = ap (λ items. leads p items) first
first_leads p fed_end coming then first = ap (λ items. leads p items) first
first_leads p fed_abandon coming then first = ap (λ items. leads p items) first

come_leads : (p : Place) (items coming then : List Fed) → ComeFirst items coming then → leads p coming ≡ leads (leads p items) then
come_leads p [] coming then is = ap (λ items. leads p items) is
come_leads p (item ∷ items) coming then (mid, first, more) = first_leads p item coming mid first ∙ come_leads (after p item) items mid then more

rest_ends : (part rest : List ℕ) (later : List Fed) → EndsThere (fed_bytes (part ++ rest) ∷ later) → EndsThere (rest_then rest later)
rest_ends part [] later ends = ends
rest_ends part (b ∷ rest) later ends = ends

-- nothing is behind the end of the others either
first_ends : (item : Fed) (coming then : List Fed) → ComesFirst item coming then → EndsThere coming → EndsThere then
first_ends (fed_dir name) coming then first ends = subst EndsThere first ends
first_ends (fed_file name) coming then first ends = subst EndsThere first ends
first_ends (fed_bytes part) coming then (rest, later, is, left) ends = subst EndsThere (sym left) (rest_ends part rest later (subst EndsThere is ends))
first_ends fed_close coming then first ends = subst EndsThere first ends
first_ends fed_end coming then first ends = let none : then ≡ [] = subst EndsThere first ends in subst EndsThere (sym none) tt
first_ends fed_abandon coming then first ends = subst EndsThere first ends

come_ends : (items coming then : List Fed) → ComeFirst items coming then → EndsThere coming → EndsThere then
come_ends [] coming then is ends = subst EndsThere is ends
come_ends (item ∷ items) coming then (mid, first, more) ends = come_ends items mid then more (first_ends item coming mid first ends)

come_behind : (a b coming mid then : List Fed) → ComeFirst a coming mid → ComeFirst b mid then → ComeFirst (a ++ b) coming then
come_behind [] b coming mid then is more = subst (λ items. ComeFirst b items then) (sym is) more
come_behind (item ∷ a) b coming mid then (next, first, rest) more = (next, first, come_behind a b next mid then rest more)

-- ---- what came

leads_behind : (a b : List Fed) (p : Place) → leads p (a ++ b) ≡ leads (leads p a) b
leads_behind [] b p = refl
leads_behind (item ∷ a) b p = leads_behind a b (after p item)

taken_behind : (a b : List Fed) (p : Place) → AreTakenFrom p a → AreTakenFrom (leads p a) b → AreTakenFrom p (a ++ b)
taken_behind [] b p first then = then
taken_behind (item ∷ a) b p first then = (first.0, taken_behind a b (after p item) first.1 then)

-- with what comes, a place leads where all leads
at_leads : (whole : List Fed) (p : Place) (coming : List Fed) → IsAt whole p coming → leads p coming ≡ leads at_root whole
at_leads whole p coming (before, come, taken, at) = ap (λ q. leads q coming) (sym at) ∙ sym (come_leads at_root before whole coming come)

at_ends : (whole : List Fed) (p : Place) (coming : List Fed) → IsAt whole p coming → EndsThere whole → EndsThere coming
at_ends whole p coming (before, come, taken, at) ends = come_ends before whole coming come ends

-- before anything came
at_first : (whole : List Fed) → IsAt whole at_root whole
at_first whole = ([], refl, tt, refl)

-- one item on, which may be taken
at_on : (whole : List Fed) (p : Place) (item : Fed) (coming then : List Fed) → MayTake p item → ComesFirst item coming then → IsAt whole p coming → IsAt whole (after p item) then
at_on whole p item coming then may first (before, come, taken, at) = (
  before ++ item ∷ [],
  come_behind before (item ∷ []) whole coming then come (then, first, refl),
  taken_behind before (item ∷ []) at_root taken (subst (λ q. MayTake q item) (sym at) may, tt),
  leads_behind before (item ∷ []) at_root ∙ ap (λ q. after q item) at,
)

-- what came, except what waits, is on the way
pub on_the_way : (told : Option Told) (p : Place) (rest : List ℕ) → HasCome told p rest → IsOnTheWay (whole_of told) p
on_the_way None p rest h = tt
on_the_way (Some told) p rest (ends, (here, at, read)) = (here, at)

-- nothing waits here
abbrev pub IsClear : Option Told → Place → Type 0
IsClear None p = ⊤
IsClear (Some told) p = EndsThere told.whole × IsAt told.whole p told.coming

read_none : (bytes : List ℕ) (coming then : List Fed) → bytes ≡ [] → WasRead bytes coming then → coming ≡ then
read_none bytes coming then none read = subst (λ b. WasRead b coming then) none read

read_some : (bytes : List ℕ) (coming then : List Fed) → bytes ≢ [] → WasRead bytes coming then → ComesFirst (fed_bytes bytes) coming then
read_some [] coming then some read = absurd (some refl)
read_some (b ∷ bytes) coming then some read = read

some_read : (bytes : List ℕ) (coming then : List Fed) → bytes ≢ [] → ComesFirst (fed_bytes bytes) coming then → WasRead bytes coming then
some_read [] coming then some first = absurd (some refl)
some_read (b ∷ bytes) coming then some first = first

pub clear_of : (told : Option Told) (p : Place) (rest : List ℕ) → rest ≡ [] → HasCome told p rest → IsClear told p
clear_of None p rest none h = tt
clear_of (Some told) p rest none (ends, (here, at, read)) = (ends, subst (λ items. IsAt told.whole p items) (read_none rest here told.coming none read) at)

pub come_clear : (told : Option Told) (p : Place) → IsClear told p → HasCome told p []
come_clear None p h = tt
come_clear (Some told) p (ends, at) = (ends, (told.coming, at, refl))

-- what is left of some bytes that were read was read
read_rest : (left rest : List ℕ) (later : List Fed) → WasRead left (rest_then (left ++ rest) later) (rest_then rest later)
read_rest [] rest later = refl
read_rest (b ∷ left) rest later = (rest, later, refl, refl)

-- some bytes of those that wait are fed
pub come_part : (told : Option Told) (p : Place) (rest : List ℕ) (n : ℕ) → rest ≢ [] → MayTake p (fed_bytes (take n rest)) → HasCome told p rest → HasCome told (after p (fed_bytes (take n rest))) (drop n rest)
come_part None p rest n some may h = tt
come_part (Some told) p rest n some may (ends, (here, at, read)) =
    let first = read_some rest here told.coming some read in
    let more = first.0 in
    let later = first.1 in
    let left = rest_then (drop n rest ++ more) later in
    let whole : rest ++ more ≡ take n rest ++ (drop n rest ++ more) = ap (λ bytes. bytes ++ more) (sym (take-append-drop n rest)) ∙ append_assoc (take n rest) (drop n rest) more in
    let on = at_on told.whole p (fed_bytes (take n rest)) here left may (drop n rest ++ more, later, first.2 ∙ ap (λ bytes. fed_bytes bytes ∷ later) whole, refl) at in
    (ends, (left, on, subst (λ items. WasRead (drop n rest) left items) (sym first.3) (read_rest (drop n rest) more later)))

-- those that wait come next
pub next_part : (told : Option Told) (p : Place) (rest : List ℕ) → rest ≢ [] → HasCome told p rest → IsNextItem (whole_of told) p (fed_bytes rest)
next_part None p rest some h = tt
next_part (Some told) p rest some (ends, (here, at, read)) = (here, told.coming, at, read_some rest here told.coming some read)

-- ---- what comes

pub comes_whole : (old : Option Told) (came : Option Fed) (new : Option Told) → Comes old came new → whole_of new ≡ whole_of old
comes_whole None came new h = ap whole_of h
comes_whole (Some old) came new h = ap whole_of h.1 ∙ ap (λ (whole : List Fed). Some whole) h.2

-- if the items haven't ended, not all came
unspent : (told : Told) (p : Place) → p.over ≡ false → IsAt told.whole p told.coming → ¬ IsSpent told
unspent told p goes at (none, over) =
    let there : leads at_root told.whole ≡ p = sym (at_leads told.whole p told.coming at) ∙ ap (λ items. leads p items) none in
    let is : p.over ≡ true = ap (λ (q : Place). q.over) (sym there) ∙ over in
    absurd (cc)

-- what came then is the first of what was to come
record CameFirst (old : Told) (item : Fed) (new : Option Told) : Type 0 where
  now : Told
  is : new ≡ Some now
  whole : now.whole ≡ old.whole
  first : ComesFirst item old.coming now.coming

came_first : (old : Told) (item : Fed) (new : Option Told) (p : Place) → p.over ≡ false → Comes (Some old) (Some item) new → IsAt old.whole p old.coming → CameFirst old item new
came_first old item new p goes (now, is, whole, inl spent) at = absurd (unspent old p goes at spent)
came_first old item new p goes (now, is, whole, inr first) at = record { now = now; is = is; whole = whole; first = first }

-- an item that may be taken
pub comes_on : (old : Option Told) (item : Fed) (new : Option Told) (p : Place) → p.over ≡ false → MayTake p item → Comes old (Some item) new → IsClear old p → IsClear new (after p item)
comes_on None item new p goes may h here = subst (λ o. IsClear o (after p item)) (sym h) tt
comes_on (Some old) item new p goes may h (ends, here) =
    let c = came_first old item new p goes h here in
    let at : IsAt c.now.whole p old.coming = subst (λ items. IsAt items p old.coming) (sym c.whole) here in
    subst (λ o. IsClear o (after p item)) (sym c.is) (subst EndsThere (sym c.whole) ends, at_on c.now.whole p item old.coming c.now.coming may c.first at)

-- bytes that came wait
pub comes_waiting : (old : Option Told) (bytes : List ℕ) (new : Option Told) (p : Place) → p.over ≡ false → bytes ≢ [] → Comes old (Some (fed_bytes bytes)) new → IsClear old p → HasCome new p bytes
comes_waiting None bytes new p goes some h here = subst (λ o. HasCome o p bytes) (sym h) tt
comes_waiting (Some old) bytes new p goes some h (ends, here) =
    let c = came_first old (fed_bytes bytes) new p goes h here in
    let at : IsAt c.now.whole p old.coming = subst (λ items. IsAt items p old.coming) (sym c.whole) here in
    subst (λ o. HasCome o p bytes) (sym c.is) (subst EndsThere (sym c.whole) ends, (old.coming, at, some_read bytes old.coming c.now.coming some c.first))

-- what came comes next
pub comes_next : (old : Option Told) (item : Fed) (new : Option Told) (p : Place) → p.over ≡ false → Comes old (Some item) new → IsClear old p → IsNextItem (whole_of new) p item
comes_next None item new p goes h here = subst (λ o. IsNextItem (whole_of o) p item) (sym h) tt
comes_next (Some old) item new p goes h (ends, here) =
    let c = came_first old item new p goes h here in
    let at : IsAt c.now.whole p old.coming = subst (λ items. IsAt items p old.coming) (sym c.whole) here in
    subst (λ o. IsNextItem (whole_of o) p item) (sym c.is) (old.coming, c.now.coming, at, c.first)

-- if the items ended, the entries are those of the source
pub comes_told : (old : Option Told) (item : Fed) (new : Option Told) (p : Place) → p.over ≡ false → Comes old (Some item) new → IsClear old p → IsClear new (after p item) → IsAsTold (whole_of new) (after p item)
comes_told None item new p goes h was here = subst (λ o. IsAsTold (whole_of o) (after p item)) (sym h) tt
comes_told (Some old) item new p goes h (ends, was) here =
    let c = came_first old item new p goes h was in
    let clear : IsClear (Some c.now) (after p item) = subst (λ o. IsClear o (after p item)) c.is here in
    let leading : leads (after p item) c.now.coming ≡ leads at_root c.now.whole = at_leads c.now.whole (after p item) c.now.coming clear.1 in
    subst (λ o. IsAsTold (whole_of o) (after p item)) (sym c.is) (λ over. (
    let last : old.coming ≡ fed_end ∷ c.now.coming = subst (λ x. ComesFirst x old.coming c.now.coming) (only_end p item goes over) c.first in
    let none : c.now.coming ≡ [] = subst EndsThere last (at_ends old.whole p old.coming was ends) in
    ap (λ (q : Place). q.entries) (ap (λ items. leads (after p item) items) (sym none) ∙ leading)))

pub fresh_on : (told : Option Told) → IsUntouched told → IsClear told at_root
fresh_on None h = tt
fresh_on (Some told) h = (h.1, subst (λ items. IsAt told.whole at_root items) (sym h.0) (at_first told.whole))

-- an item that came, and comes once more, comes as before
pub told_again : (old : Option Told) (item : Fed) (new : Option Told) (p : Place) → p.over ≡ false → IsWhole item → Comes old (Some item) new → IsClear old p → told_with new (Some item) ≡ old
told_again None item new p goes is h here = ap (λ o. told_with o (Some item)) h
told_again (Some old) item new p goes one h (ends, here) =
    let c = came_first old item new p goes h here in
    let coming = first_whole item old.coming c.now.coming one c.first in
    ap (λ o. told_with o (Some item)) c.is ∙ (λ i. Some (record { whole = c.whole i; coming = sym coming i }))

-- and it comes then
pub comes_again : (told : Option Told) (item : Fed) → Comes (told_with told (Some item)) (Some item) told
comes_again None item = refl
comes_again (Some told) item = (told, refl, refl, inr (first_here item told.coming))

pub told_none : (told : Option Told) → told_with told None ≡ told
told_none None = refl
told_none (Some told) = refl

pub with_whole : (told : Option Told) (item : Option Fed) → whole_of (told_with told item) ≡ whole_of told
with_whole None item = refl
with_whole (Some told) None = refl
with_whole (Some told) (Some item) = refl

-- where all is to come once more
pub rewound : (old new : Option Told) → Rewinds old new → whole_of new ≡ whole_of old
rewound None new h = ap whole_of h
rewound (Some old) new h = ap whole_of h

pub rewound_held : (told : Option Told) (held : Option Fed) (new : Option Told) (p : Place) (rest : List ℕ) → Rewinds told new → HasCome (told_with told held) p rest → HasCome new at_root []
rewound_held None held new p rest h come = subst (λ o. HasCome o at_root []) (sym h) tt
rewound_held (Some told) None new p rest h (ends, come) = subst (λ o. HasCome o at_root []) (sym h) (ends, (told.whole, at_first told.whole, refl))
rewound_held (Some told) (Some item) new p rest h (ends, come) = subst (λ o. HasCome o at_root []) (sym h) (ends, (told.whole, at_first told.whole, refl))

pub no_bytes : (bytes : List ℕ) → length bytes ≡ 0 → bytes ≡ []
no_bytes [] none = refl
no_bytes (b ∷ bytes) none = absurd (cc)

-- bytes that aren't none are some
pub some_bytes : (bytes : List ℕ) → length bytes ≢ 0 → bytes ≢ []
some_bytes bytes some none = some (ap length none)

-- ---- how much is left

count_rest : (rest : List ℕ) (later : List Fed) → count_in (rest_then rest later) ≤ 1 + length rest + count_in later
count_rest [] later = omega (arith)
count_rest (b ∷ rest) later = omega (arith)

count_some : (part rest : List ℕ) (later : List Fed) → length part + count_in (rest_then rest later) ≤ count_in (fed_bytes (part ++ rest) ∷ later)
count_some part rest later = omega (arith, count_rest rest later, length-append part rest)

-- the bytes of an item
abbrev length_of : Fed → ℕ
length_of (fed_bytes bytes) = length bytes
length_of item = 0

-- the others are no more, and fewer by its bytes
first_count : (item : Fed) (coming then : List Fed) → ComesFirst item coming then → length_of item + count_in then ≤ count_in coming
first_count (fed_dir name) coming then first = omega (arith, ap count_in first)
first_count (fed_file name) coming then first = omega (arith, ap count_in first)
first_count (fed_bytes part) coming then (rest, later, is, left) = omega (arith, count_some part rest later, ap count_in is, ap count_in left)
first_count fed_close coming then first = omega (arith, ap count_in first)
first_count fed_end coming then first = omega (arith, ap count_in first)
first_count fed_abandon coming then first = omega (arith, ap count_in first)

come_count : (items coming then : List Fed) → ComeFirst items coming then → count_in then ≤ count_in coming
come_count [] coming then is = omega (arith, ap count_in is)
come_count (item ∷ items) coming then (mid, first, more) = omega (arith, first_count item coming mid first, come_count items mid then more)

read_count : (bytes : List ℕ) (coming then : List Fed) → WasRead bytes coming then → length bytes + count_in then ≤ count_in coming
read_count [] coming then is = omega (arith, ap count_in is)
read_count (b ∷ bytes) coming then first = first_count (fed_bytes (b ∷ bytes)) coming then first

pub count_one : (item : Fed) → 1 ≤ count_of item
count_one (fed_dir name) = omega (arith)
count_one (fed_file name) = omega (arith)
count_one (fed_bytes bytes) = omega (arith)
count_one fed_close = omega (arith)
count_one fed_end = omega (arith)
count_one fed_abandon = omega (arith)

some_length : (bytes : List ℕ) → bytes ≢ [] → 1 ≤ length bytes
some_length [] some = absurd (some refl)
some_length (b ∷ bytes) some = omega (arith)

-- at first
pub less_first : (told : Option Told) (p : Place) (rest : List ℕ) → HasCome told p rest → IsLessBy 0 told rest
less_first None p rest h = tt
less_first (Some told) p rest (ends, (here, at, read)) =
    let less = come_count at.0 told.whole here at.1 in
    omega (arith, less, read_count rest here told.coming read)

-- a round more
pub less_on : (n : ℕ) (old : Option Told) (waits : List ℕ) (new : Option Told) (rest : List ℕ) → Lessens old waits new rest → IsLessBy n old waits → IsLessBy (n + 1) new rest
less_on n None waits new rest h few = subst (λ o. IsLessBy (n + 1) o rest) (sym h) tt
less_on n (Some old) waits new rest (now, is, whole, less) few =
    subst (λ o. IsLessBy (n + 1) o rest) (sym is) (omega (arith, less, few, ap count_in whole))

-- after all rounds
pub less_endless : (n : ℕ) (told : Option Told) (rest : List ℕ) → 2 ^ 128 - 1 ≤ n → IsLessBy n told rest → IsEndless (whole_of told)
less_endless n None rest many h = tt
less_endless n (Some told) rest many h = omega (arith, many, h)

-- some bytes that wait are fed
pub less_part : (told : Option Told) (rest : List ℕ) (n : ℕ) → n ≤ length rest → 1 ≤ n → Lessens told rest told (drop n rest)
less_part None rest n few some = refl
less_part (Some told) rest n few some = (told, refl, refl, omega (arith, few, some, length-drop n rest))

-- an item came that is fed, and nothing waited
pub less_item : (old : Option Told) (waits : List ℕ) (item : Fed) (new : Option Told) (p : Place) → p.over ≡ false → IsWhole item → Comes old (Some item) new → IsClear old p → Lessens old waits new []
less_item None waits item new p goes one h here = h
less_item (Some old) waits item new p goes one h (ends, here) =
    let c = came_first old item new p goes h here in
    let all = ap count_in (first_whole item old.coming c.now.coming one c.first) in
    (c.now, c.is, c.whole, omega (arith, all, count_one item))

-- bytes came that wait
pub less_bytes : (old : Option Told) (waits : List ℕ) (bytes : List ℕ) (new : Option Told) (p : Place) → p.over ≡ false → bytes ≢ [] → Comes old (Some (fed_bytes bytes)) new → IsClear old p → Lessens old waits new bytes
less_bytes None waits bytes new p goes some h here = h
less_bytes (Some old) waits bytes new p goes some h (ends, here) =
    let c = came_first old (fed_bytes bytes) new p goes h here in
    (c.now, c.is, c.whole, omega (arith, some_length bytes some, first_count (fed_bytes bytes) old.coming c.now.coming c.first))
