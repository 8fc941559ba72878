-- The items that feed a folder spell its entries.
use Rattle.std.proofs.Common.{arith, ◌≡◌, ◌<◌, ◌≤◌, ◌+◌, ◌++◌, ◌∷◌, [], ℕ, false, List, length, Option, Some, None, refl, sym, ap, subst, inl, inr, ◌∙◌, append_assoc, append-nil, length-append, Contains}
use Rattle.std.proofs.lemmas.List.Elements.{All-contains, Contains-push}
use Rattle.repo_name.specs.Limits.{file_end}
use Rattle.repo_tree.specs.Components.{IsComponent}
use Rattle.repo_tree.specs.Spelling.{dir_entry, file_entry, greatest_depth}
use Rattle.repo_tree.specs.declared.entries.Entry.{Entry}
use Rattle.repo_backup.specs.Folders.{Folder, nothing, file_then, dir_then, joined, entries_of}
use Rattle.repo_backup.specs.Handed.{StandsAfter, MayFollow, FollowAll}
use Rattle.repo_session.specs.Feeds.{Fed, fed_dir, fed_file, fed_bytes, fed_close, fed_end}
use Rattle.repo_backup.specs.Items.{Feeding, FileSoFar, Place, after, place_of, MayTake, MayOpen, NobodyGaveUp, AreTaken}
use Rattle.repo_backup.specs.ItemLaws.{fed_pieces, FeedFolder, WholeIsSpelled}
use Rattle.repo_backup.proofs.PathOrder.{follow_split}
use Rattle.repo_backup.proofs.Lengthening.{outer_path}

-- the place of these entries, where this directory is open, and perhaps a file
abbrev pub here : List Entry → List (List ℕ) → Option FileSoFar → Place
here es path file = record { entries = es; path = path; file = file; over = false }

-- items that may be taken lead to this place
pub record Led (items : Feeding) (p : Place) : Type 0 where
  pub place : place_of items ≡ p
  pub taken : AreTaken items
  pub going : NobodyGaveUp items

-- one item more
pub led_on : (items : Feeding) (item : Fed) (p : Place) → p.over ≡ false → Led items p → MayTake p item → NobodyGaveUp (item ∷ items) → Led (item ∷ items) (after p item)
led_on items item p open_still led may goes = record {
  place = ap (λ q. after q item) led.place;
  taken = (ap (λ (q : Place). q.over) led.place ∙ open_still, led.going, subst (λ q. MayTake q item) (sym led.place) may, led.taken);
  going = goes;
}

led_at : (items : Feeding) (p q : Place) → p ≡ q → Led items p → Led items q
led_at items p q e led = record { place = led.place ∙ e; taken = led.taken; going = led.going }

-- the name of an entry that may follow may begin
may_open : (es : List Entry) (path : List (List ℕ)) (name : List ℕ) (e : Entry) → e.path ≡ path ++ name ∷ [] → MayFollow es e → MayOpen (here es path None) name
may_open es path name e at may = (
  All-contains IsComponent e.path name may.path.1 (subst (λ (p : List (List ℕ)). Contains p name) (sym at) (Contains-push path name)),
  (refl, subst (λ p. StandsAfter es p) at may.after),
  subst (λ (p : List (List ℕ)). length p ≤ greatest_depth) at may.depth,
)

-- the pieces of a file
pieces_led : (pieces : List (List ℕ)) (items : Feeding) (es : List Entry) (path : List (List ℕ)) (name bytes : List ℕ) → length bytes + length (joined pieces) < file_end
    → Led items (here es path (Some (record { name = name; bytes = bytes }))) → Led (fed_pieces pieces items) (here es path (Some (record { name = name; bytes = bytes ++ joined pieces })))
pieces_led [] items es path name bytes few led = led_at items _ _ (ap (λ b. here es path (Some (record { name = name; bytes = b }))) (sym (append-nil bytes))) led
pieces_led (piece ∷ pieces) items es path name bytes few led =
    let all = append_assoc bytes piece (joined pieces) in
    let sum = length-append piece (joined pieces) in
    let first = led_on items (fed_bytes piece) _ refl led (omega (arith, few, sum)) tt in
    led_at (fed_pieces pieces (fed_bytes piece ∷ items)) _ _ (ap (λ b. here es path (Some (record { name = name; bytes = b }))) all)
    (pieces_led pieces (fed_bytes piece ∷ items) es path name (bytes ++ piece) (omega (arith, few, sum, length-append bytes piece)) first)

some_file : (f : FileSoFar) → Some f ≡ None → ⊥
some_file f e = absurd (cc)

some_path : (path : List (List ℕ)) (name : List ℕ) → path ++ name ∷ [] ≡ [] → ⊥
some_path path name e = absurd (omega (arith, ap length e, length-append path (name ∷ [])))

pub folder_led : (folder : Folder) (old new : Feeding) (es : List Entry) (path : List (List ℕ)) → FollowAll es (entries_of path folder) → FeedFolder folder old new → Led old (here es path None)
    → Led new (here (es ++ entries_of path folder) path None)
folder_led nothing old new es path follow fed led = subst (λ items. Led items (here (es ++ []) path None)) (sym fed) (led_at old _ _ (ap (λ l. here l path None) (sym (append-nil es))) led)
folder_led (file_then name chunks rest) old new es path follow (pieces, same, more) led =
    let bytes = joined chunks in
    let e : Entry = file_entry (path ++ name ∷ []) bytes in
    let small : length (joined chunks) < file_end = follow.0.small in
    let begun = led_on old (fed_file name) _ refl led (may_open es path name e refl follow.0) tt in
    let filled = pieces_led pieces (fed_file name ∷ old) es path name [] (omega (arith, small, ap length same)) begun in
    let closed = led_on (fed_pieces pieces (fed_file name ∷ old)) fed_close _ refl filled (inl (λ none. some_file (record { name = name; bytes = joined pieces }) none)) tt in
    let at : after (here es path (Some (record { name = name; bytes = joined pieces }))) fed_close ≡ here (es ++ e ∷ []) path None = ap (λ b. here (es ++ file_entry (path ++ name ∷ []) b ∷ []) path None) same in
    let items = fed_close ∷ fed_pieces pieces (fed_file name ∷ old) in
    led_at new _ _ (ap (λ l. here l path None) (append_assoc es (e ∷ []) (entries_of path rest)))
    (folder_led rest items new (es ++ e ∷ []) path follow.1 more (led_at items _ _ at closed))
folder_led (dir_then name inside rest) old new es path follow (mid, within, more) led =
    let e : Entry = dir_entry (path ++ name ∷ []) in
    let deeper = path ++ name ∷ [] in
    let inner = entries_of deeper inside in
    let parts = follow_split (es ++ e ∷ []) inner (entries_of path rest) follow.1 in
    let begun = led_on old (fed_dir name) _ refl led (may_open es path name e refl follow.0) tt in
    let filled = folder_led inside (fed_dir name ∷ old) mid (es ++ e ∷ []) deeper parts.0 within begun in
    let closed = led_on mid fed_close _ refl filled (inr (λ none. some_path path name none)) tt in
    let at : after (here ((es ++ e ∷ []) ++ inner) deeper None) fed_close ≡ here ((es ++ e ∷ []) ++ inner) path None = ap (λ p. here ((es ++ e ∷ []) ++ inner) p None) (outer_path path name) in
    let whole : ((es ++ e ∷ []) ++ inner) ++ entries_of path rest ≡ es ++ (e ∷ inner ++ entries_of path rest) =
    append_assoc (es ++ e ∷ []) inner (entries_of path rest) ∙ append_assoc es (e ∷ []) (inner ++ entries_of path rest) in
    led_at new _ _ (ap (λ l. here l path None) whole)
    (folder_led rest (fed_close ∷ mid) new ((es ++ e ∷ []) ++ inner) path parts.1 more (led_at (fed_close ∷ mid) _ _ at closed))

pub whole_is_spelled : WholeIsSpelled
whole_is_spelled entries folder items handed holds fed =
    let led = folder_led folder [] items [] [] (subst (λ l. FollowAll [] l) (sym holds) handed) fed (record { place = refl; taken = tt; going = tt }) in
    let over = led_on items fed_end _ refl led (refl, refl) tt in
    (over.taken, ap (λ (p : Place). p.entries) over.place ∙ holds)
