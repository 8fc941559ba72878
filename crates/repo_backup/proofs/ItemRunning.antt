-- A backup that is fed goes on, step by step.
use Rattle.std.proofs.Common.{◌≡◌, ◌≢◌, ◌⊎◌, ◌≤◌, ◌<◌, ◌+◌, ◌++◌, ◌∷◌, ◌^◌, [], ℕ, Bor, List, length, take, drop, MatchOption, Option, Some, None, Result, Ok, Err, refl, sym, ap, subst, arith, inl, inr, length-append, append_assoc, get_or, suc, ◌∙◌}
use Rattle.std.proofs.Math.Seq.{take-add, take-length, take-suc, take-append_seam}
use Rattle.std.proofs.lemmas.List.{append-nil, length-map, take-append-drop}
use Rattle.repo_name.specs.declared.names.Instance.{Instance}
use Rattle.repo_wire.specs.declared.messages.Code.{Code}
use Rattle.repo_wire.specs.declared.messages.Request.{Request}
use Rattle.repo_wire.specs.declared.messages.Say.{Say}
use Rattle.repo_store.specs.Laws.{greatest_count}
use Rattle.repo_store.specs.Serving.{HaveCause}
use Rattle.repo_store.specs.Stores.{Store}
use Rattle.repo_store.proofs.ServiceLemmas.{causes_rise}
use Rattle.repo_session.specs.Alone.{RanBy, ToldNoFault}
use Rattle.repo_session.specs.Clients.{exchange}
use Rattle.repo_session.specs.Feeds.{Fed, fed_bytes}
use Rattle.repo_session.specs.Sessions.{next_in}
use Rattle.repo_session.specs.Talks.{Turn, Talk, Steps, MayBeAhead, taken_in, trace_of}
use Rattle.repo_session.specs.Traces.{Exchange, Trace, fed_in, feeding, with_fed}
use Rattle.repo_session.specs.declared.emissions.Emission.{Emission}
use Rattle.repo_session.specs.declared.outcomes.Outcome.{Outcome}
use Rattle.repo_session.specs.declared.stepping.StepError.{StepError}
use Rattle.repo_session.proofs.Concluding.{calm_by, calm_of}
use Rattle.repo_session.proofs.Growing.{Led, led}
use Rattle.repo_session.proofs.Joining.{each_on}
use Rattle.repo_session.proofs.Talking.{may_stay}
use Rattle.repo_backup.specs.Folders.{joined}
use Rattle.repo_backup.specs.ItemLaws.{fed_pieces}
use Rattle.repo_backup.specs.ItemRuns.{ArePartsFed, IsFed, IsBegun, AreFed, AreBegun, IsUnfed, AreMore, StepGives, OnceGives, ItemGives, ItemsGive, Extends, GoesOn, feeding_all, items_error}
use Rattle.repo_backup.specs.Items.{Feeding, ItemFault, IsCountOf, fed_of, fed_part, place_of}
use Rattle.repo_backup.specs.PieceBackups.{FitsPieces, IsHungry}
use Rattle.repo_backup.specs.PieceObedience.{pieces_obey}
use Rattle.repo_backup.specs.declared.item_steps.ItemsError.{ItemsError}
use Rattle.repo_backup.specs.declared.items.FeedError.{FeedError}
use Rattle.repo_backup.specs.declared.items.Item.{Item}
use Rattle.repo_session.specs.Catalogs.{AreIndexed}
use Rattle.repo_backup.proofs.FedOn.{fed_items, fed_length}
use Rattle.repo_backup.specs.declared.piece_backups.PieceBackup.{PieceBackup}
use Rattle.repo_backup.proofs.Lengthening.{joined_both}

-- ---- the store

-- the turns led on from there
goes_by : (start : Store) (es : Trace) (from : Store) (talk : Talk) (to : Store) → RanBy start es from → Led from talk to → RanBy start (trace_of talk ++ es) to
goes_by start es from [] to ran h = subst (λ s. RanBy start es s) (sym h) ran
goes_by start es from (turn ∷ talk) to ran h = (h.0, goes_by start es from talk h.0 ran h.1, h.2.step)

-- nothing was fed on the turns
talk_fed : (talk : Talk) (es : Trace) → fed_in (trace_of talk ++ es) ≡ fed_in es
talk_fed [] es = refl
talk_fed (turn ∷ talk) es = talk_fed talk es

-- there are as many exchanges more as there are turns
talk_more : (talk : Talk) (es : Trace) → length (trace_of talk ++ es) ≡ length talk + length es
talk_more talk es = omega (arith, length-append (trace_of talk) es, length-map talk (λ (t : Turn). exchange t.request t.reply t.emitted))

-- an item that is fed is no step
fed_ran : (start : Store) (item : Fed) (es : Trace) (to : Store) → RanBy start es to → RanBy start (feeding item es) to
fed_ran start item [] to h = h
fed_ran start item (e ∷ es) to h = h

fed_calm : (item : Fed) (es : Trace) → ToldNoFault es → ToldNoFault (feeding item es)
fed_calm item [] h = h
fed_calm item (e ∷ es) h = h

none_ahead : (mid : Store) (next : Option Request) (to : Store) → next ≡ None → MayBeAhead mid next to → to ≡ mid
none_ahead mid next to none h = subst (λ n. MayBeAhead mid n to) none h

-- ---- exchanges that go on from others

all_fed : (newer items : Feeding) (es : Trace) → feeding_all newer (feeding_all items es) ≡ feeding_all (newer ++ items) es
all_fed [] items es = refl
all_fed (item ∷ newer) items es = ap (feeding item) (all_fed newer items es)

-- what is fed after the newest of some exchanges leaves the older ones as they are
front_fed : (items : Feeding) (e : Exchange) (more : Trace) → (first : Exchange) × (feeding_all items (e ∷ more) ≡ first ∷ more)
front_fed [] e more = (e, refl)
front_fed (item ∷ items) e more =
    let h = front_fed items e more in
    (with_fed item h.0, ap (feeding item) h.1)

extends_front : (more : Trace) (items newer : Feeding) (es : Trace) → Extends es (feeding_all newer (more ++ feeding_all items es))
extends_front [] items newer es = ([], newer ++ items, all_fed newer items es)
extends_front (e ∷ more) items newer es =
    let h = front_fed newer e (more ++ feeding_all items es) in
    (h.0 ∷ more, items, h.1)

pub extends_on : (es mid now : Trace) → Extends es mid → Extends mid now → Extends es now
extends_on es mid now p q =
    let front = extends_front p.0 p.1 q.1 es in
    let on : now ≡ q.0 ++ (front.0 ++ feeding_all front.1 es) = q.2 ∙ ap (λ x. q.0 ++ feeding_all q.1 x) p.2 ∙ ap (λ x. q.0 ++ x) front.2 in
    (q.0 ++ front.0, front.1, on ∙ sym (append_assoc q.0 front.0 (feeding_all front.1 es)))

extends_fed : (item : Fed) (es : Trace) → Extends es (feeding item es)
extends_fed item es = ([], item ∷ [], refl)

-- ---- one after another

-- after the turns no fault was told, where the count stayed
turns_calm : (talk : Talk) (es : Trace) (failed count failing : ℕ) → HaveCause failed (taken_in talk) count → count ≤ failing → failing ≡ failed → failed < greatest_count → ToldNoFault es → ToldNoFault (trace_of talk ++ es)
turns_calm talk es failed count failing cause within same low calm =
    let rose = causes_rise failed count (taken_in talk) cause in
    let stayed : count ≡ failed = omega (arith, rose, within, same) in
    each_on (λ (e : Exchange). e.say ≢ Say.Refused Code.Fault) (trace_of talk) es (calm_by talk (calm_of failed talk low (subst (λ n. HaveCause failed (taken_in talk) n) stayed cause))) calm

-- what answering what is pending gives
pub steps_go : (instance : Instance) (old : PieceBackup) (result : Result ℕ StepError) (new : PieceBackup) (talk : Talk) (from : Store) (failed : ℕ) (to : Store) (failing : ℕ) (out kept : List Emission)
    → Steps instance FitsPieces (λ b. next_in b.session) old result new talk from failed to failing out kept → GoesOn (StepGives result) old from failed new to failing
steps_go instance old (Ok n) new talk from failed to failing out kept h start es fits ran = record {
  now = trace_of talk ++ es;
  fits = h.0.fits es fits;
  extends = (trace_of talk, [], refl);
  mid = to;
  ran = goes_by start es from talk to ran (led from talk to h.3.run);
  ahead = may_stay to (next_in new.session);
  gives = (talk_fed talk es, omega (arith, talk_more talk es, h.1));
  counted = causes_rise failed failing (taken_in talk) h.3.cause;
  calm = λ same low calm. turns_calm talk es failed failing failing h.3.cause (omega arith) same low calm;
}
steps_go instance old (Err StepError.Limit) new talk from failed to failing out kept h start es fits ran = record {
  now = trace_of talk ++ es;
  fits = h.0.fits es fits;
  extends = (trace_of talk, [], refl);
  mid = to;
  ran = goes_by start es from talk to ran (led from talk to h.3.run);
  ahead = may_stay to (next_in new.session);
  gives = (talk_fed talk es, omega (arith, talk_more talk es, h.1));
  counted = causes_rise failed failing (taken_in talk) h.3.cause;
  calm = λ same low calm. turns_calm talk es failed failing failing h.3.cause (omega arith) same low calm;
}
steps_go instance old (Err StepError.Memory) new talk from failed to failing out kept h start es fits ran =
    let mid = h.1.0 in
    let count = h.1.1 in
    let run = h.1.2 in
    let within = h.1.3 in
    let rose = causes_rise failed count (taken_in talk) run.cause in
    record {
      now = trace_of talk ++ es;
      fits = h.0.fits es fits;
      extends = (trace_of talk, [], refl);
      mid = mid;
      ran = goes_by start es from talk mid ran (led from talk mid run.run);
      ahead = h.1.4;
      gives = talk_fed talk es;
      counted = omega (arith, rose, within);
      calm = λ same low calm. turns_calm talk es failed count failing run.cause within same low calm;
    }

-- first an item is fed
pub goes_fed : (Gives : Trace → Trace → Type 0) (item : Fed) (old mid new : PieceBackup) (from : Store) (failed : ℕ) (to : Store) (failing : ℕ) → ((es : Trace) → FitsPieces old es → FitsPieces mid (feeding item es))
    → GoesOn Gives mid from failed new to failing → GoesOn (λ es now. Gives (feeding item es) now) old from failed new to failing
goes_fed Gives item old mid new from failed to failing fed next start es fits ran =
    let n = next start (feeding item es) (fed es fits) (fed_ran start item es from ran) in
    record {
      now = n.now;
      fits = n.fits;
      extends = extends_on es (feeding item es) n.now (extends_fed item es) n.extends;
      mid = n.mid;
      ran = n.ran;
      ahead = n.ahead;
      gives = n.gives;
      counted = n.counted;
      calm = λ same low calm. n.calm same low (fed_calm item es calm);
    }

-- nothing was fed, and nothing asked
pub goes_nowhere : (Gives : Trace → Trace → Type 0) (old new : PieceBackup) (from : Store) (failed : ℕ) → ((es : Trace) → FitsPieces old es → FitsPieces new es) → ((es : Trace) → FitsPieces old es → Gives es es)
    → GoesOn Gives old from failed new from failed
goes_nowhere Gives old new from failed stays gives start es fits ran = record {
  now = es;
  fits = stays es fits;
  extends = ([], [], refl);
  mid = from;
  ran = ran;
  ahead = may_stay from (next_in new.session);
  gives = gives es fits;
  counted = omega arith;
  calm = λ same low calm. calm;
}

-- the same, said otherwise
pub goes_as : (Gives Says : Trace → Trace → Type 0) (old new : PieceBackup) (from : Store) (failed : ℕ) (to : Store) (failing : ℕ) → ((es now : Trace) → FitsPieces old es → Gives es now → Says es now)
    → GoesOn Gives old from failed new to failing → GoesOn Says old from failed new to failing
goes_as Gives Says old new from failed to failing says goes start es fits ran =
    let n = goes start es fits ran in
    record { now = n.now; fits = n.fits; extends = n.extends; mid = n.mid; ran = n.ran; ahead = n.ahead; gives = says es n.now fits n.gives; counted = n.counted; calm = n.calm }

-- first one thing, and where nothing is pending then another
pub goes_then : (First Second Both : Trace → Trace → Type 0) (old mid new : PieceBackup) (from : Store) (failed : ℕ) (at : Store) (count : ℕ) (to : Store) (failing : ℕ)
    → ((es es' now : Trace) → First es es' → Second es' now → Both es now) → GoesOn First old from failed mid at count → next_in mid.session ≡ None → GoesOn Second mid at count new to failing
    → GoesOn Both old from failed new to failing
goes_then First Second Both old mid new from failed at count to failing both first none second start es fits ran =
    let p = first start es fits ran in
    let here : at ≡ p.mid = none_ahead p.mid (next_in mid.session) at none p.ahead in
    let q = second start p.now p.fits (subst (λ s. RanBy start p.now s) (sym here) p.ran) in
    let less = p.counted in
    let more = q.counted in
    record {
      now = q.now;
      fits = q.fits;
      extends = extends_on es p.now q.now p.extends q.extends;
      mid = q.mid;
      ran = q.ran;
      ahead = q.ahead;
      gives = both es p.now q.now p.gives q.gives;
      counted = omega (arith, less, more);
      calm = λ same low calm. (
          let stays : count ≡ failed = omega (arith, less, more, same) in
          let last : failing ≡ count = omega (arith, less, more, same) in
          q.calm last (subst (λ n. n < greatest_count) (sym stays) low) (p.calm stays low calm)
          );
    }

-- ---- parts of a piece

-- no part
pub parts_none : (bytes : List ℕ) (items : Feeding) → ArePartsFed 0 bytes items items
parts_none bytes items = ([], refl, refl)

pieces_on : (parts : List (List ℕ)) (part : List ℕ) (items : Feeding) → fed_pieces (parts ++ part ∷ []) items ≡ fed_bytes part ∷ fed_pieces parts items
pieces_on [] part items = refl
pieces_on (first ∷ parts) part items = pieces_on parts part (fed_bytes first ∷ items)

-- one part more
pub parts_more : (n m : ℕ) (bytes : List ℕ) (old mid new : Feeding) → ArePartsFed n bytes old mid → new ≡ fed_bytes (take m (drop n bytes)) ∷ mid → ArePartsFed (n + m) bytes old new
parts_more n m bytes old mid new h last =
    let part = take m (drop n bytes) in
    let all : joined (h.0 ++ part ∷ []) ≡ take (n + m) bytes = joined_both h.0 (part ∷ []) ∙ ap (λ x. joined h.0 ++ x) (append-nil part) ∙ ap (λ x. x ++ part) h.1 ∙ sym (take-add n m bytes) in
    (h.0 ++ part ∷ [], all, last ∙ ap (λ x. fed_bytes part ∷ x) h.2 ∙ sym (pieces_on h.0 part old))

-- ---- one item

no_trace : (es : Trace) → AreIndexed es → es ≢ []
no_trace [] h none = absurd (cc)
no_trace (e ∷ es) h none = absurd (cc)

-- where it wants input there was an exchange
pub hungry_some : (b : PieceBackup) (es : Trace) → FitsPieces b es → IsHungry b → es ≢ []
hungry_some b es fits hungry = no_trace es ((pieces_obey b es fits).settled hungry.0 hungry.1).indexes

-- what was answered on an item is told of it
pub once_ok : (place taken : ℕ) (item : Item) (n asked : ℕ) (es now : Trace) → es ≢ [] → StepGives (Ok asked) (feeding (fed_part n item) es) now → OnceGives place taken item (Ok (n, asked)) es now
once_ok place taken item n asked es now some h = (h.0 ∙ fed_items (fed_part n item) es some, omega (arith, h.1, fed_length (fed_part n item) es))

pub once_err : (place taken : ℕ) (item : Item) (n : ℕ) (e : StepError) (es now : Trace) → es ≢ [] → IsCountOf n item → StepGives (Err e) (feeding (fed_part n item) es) now → OnceGives place taken item (Err (items_error e)) es now
once_err place taken item n StepError.Limit es now some count h = ((n, count, h.0 ∙ fed_items (fed_part n item) es some), omega (arith, h.1, fed_length (fed_part n item) es))
once_err place taken item n StepError.Memory es now some count h = (n, count, h ∙ fed_items (fed_part n item) es some)

pub once_unfed : (place taken : ℕ) (item : Item) (e : FeedError) (es : Trace) → ItemFault (place_of (fed_in es)) (fed_of item) e → OnceGives place taken item (Err (ItemsError.Feed place taken e)) es es
once_unfed place taken item e es fault = (refl, refl, refl, fault)

-- ---- a piece

next_parts : (done n : ℕ) (piece rest : List ℕ) (old mid new : Feeding) → rest ≡ drop done piece → ArePartsFed done piece old mid → new ≡ fed_bytes (take n rest) ∷ mid → ArePartsFed (done + n) piece old new
next_parts done n piece rest old mid new same parts last = parts_more done n piece old mid new parts (last ∙ ap (λ x. fed_bytes (take n x) ∷ mid) same)

-- what was fed of a piece, and how many requests were answered
abbrev pub PartsGive : ℕ → ℕ → List ℕ → Trace → Trace → Type 0
PartsGive done asked piece es now = AreMore asked es now × ArePartsFed done piece (fed_in es) (fed_in now)

-- nothing was, so far
pub parts_begin : (piece : List ℕ) (es : Trace) → PartsGive 0 0 piece es es
parts_begin piece es = (omega arith, parts_none piece (fed_in es))

pub parts_ok : (place taken done n asked more sum : ℕ) (piece : List ℕ) (rest : Bor (List ℕ)) → rest.now ≡ drop done piece → sum ≡ asked + more → (es mid now : Trace)
    → PartsGive done asked piece es mid → OnceGives place taken (Item.Bytes rest) (Ok (n, more)) mid now → PartsGive (done + n) sum piece es now
parts_ok place taken done n asked more sum piece rest same all es mid now p h = (omega (arith, p.0, h.1, all), next_parts done n piece rest.now (fed_in es) (fed_in mid) (fed_in now) same p.1 h.0)

pub parts_first : (place taken n asked : ℕ) (piece : Bor (List ℕ)) (es now : Trace) → OnceGives place taken (Item.Bytes piece) (Ok (n, asked)) es now → PartsGive n asked piece.now es now
parts_first place taken n asked piece es now h =
    let zero : 0 + n ≡ n = omega arith in
    subst (λ k. PartsGive k asked piece.now es now) zero (parts_ok place taken 0 n 0 asked asked piece.now piece refl (omega arith) es es now (parts_begin piece.now es) h)

pub parts_err : (place done asked : ℕ) (piece rest : Bor (List ℕ)) → done ≤ length piece.now → rest.now ≡ drop done piece.now → (e : ItemsError) (ended : Option Outcome) (es mid now : Trace)
    → PartsGive done asked piece.now es mid → OnceGives place done (Item.Bytes rest) (Err e) mid now → ItemGives place (Item.Bytes piece) (Err e) ended es now
parts_err place done asked piece rest within same ItemsError.Limit ended es mid now p h =
    ((done + h.0.0, next_parts done h.0.0 piece.now rest.now (fed_in es) (fed_in mid) (fed_in now) same p.1 h.0.2), omega (arith, p.0, h.1))
parts_err place done asked piece rest within same ItemsError.Memory ended es mid now p h = (done + h.0, next_parts done h.0 piece.now rest.now (fed_in es) (fed_in mid) (fed_in now) same p.1 h.2)
parts_err place done asked piece rest within same (ItemsError.Feed at n e) ended es mid now p h =
    let left = drop done piece.now in
    let fault : ItemFault (place_of (fed_in mid)) (fed_bytes left) e = subst (λ x. ItemFault (place_of (fed_in mid)) (fed_bytes x) e) (take-length rest.now ∙ same) h.3 in
    let unfed : IsUnfed (Item.Bytes piece) done e (fed_in es) (fed_in mid) = (within, left, take-append-drop done piece.now, p.1, fault) in
    (h.0, subst (λ t. IsUnfed (Item.Bytes piece) n e (fed_in es) (fed_in t)) (sym h.2) (subst (λ k. IsUnfed (Item.Bytes piece) k e (fed_in es) (fed_in mid)) (sym h.1) unfed))

-- more requests were answered than may be
pub parts_many : (place done asked : ℕ) (piece : Bor (List ℕ)) (ended : Option Outcome) (es now : Trace) → 2 ^ 32 < asked → PartsGive done asked piece.now es now
    → ItemGives place (Item.Bytes piece) (Err ItemsError.Limit) ended es now
parts_many place done asked piece ended es now many p = ((done, p.1), omega (arith, p.0, many))

-- the backup has ended
pub parts_ended : (place done asked : ℕ) (piece : Bor (List ℕ)) (ended : Option Outcome) (es now : Trace) → ended ≢ None → PartsGive done asked piece.now es now
    → ItemGives place (Item.Bytes piece) (Ok asked) ended es now
parts_ended place done asked piece ended es now over p = (p.0, inr (over, (done, p.1)))

-- ---- an item that is no piece

abbrev pub IsNoPiece : Item → Type 0
IsNoPiece item = (piece : Bor (List ℕ)) → item ≢ Item.Bytes piece

whole_fed : (item : Item) → IsNoPiece item → (n : ℕ) (old new : Feeding) → new ≡ fed_part n item ∷ old → IsFed item old new
whole_fed (Item.Dir name) none n old new h = h
whole_fed (Item.File name) none n old new h = h
whole_fed (Item.Bytes piece) none n old new h = absurd (none piece refl)
whole_fed Item.Close none n old new h = h
whole_fed Item.End none n old new h = h
whole_fed Item.Abandon none n old new h = h

-- what was fed whole was begun
fed_begun : (item : Item) (old new : Feeding) → IsFed item old new → IsBegun item old new
fed_begun (Item.Dir name) old new h = h
fed_begun (Item.File name) old new h = h
fed_begun (Item.Bytes piece) old new h = (length piece.now, h)
fed_begun Item.Close old new h = h
fed_begun Item.End old new h = h
fed_begun Item.Abandon old new h = h

whole_unfed : (item : Item) → IsNoPiece item → (n : ℕ) (e : FeedError) (old new : Feeding) → n ≡ 0 → new ≡ old → ItemFault (place_of old) (fed_of item) e → IsUnfed item n e old new
whole_unfed (Item.Dir name) none n e old new zero same fault = (zero, same, fault)
whole_unfed (Item.File name) none n e old new zero same fault = (zero, same, fault)
whole_unfed (Item.Bytes piece) none n e old new zero same fault = absurd (none piece refl)
whole_unfed Item.Close none n e old new zero same fault = (zero, same, fault)
whole_unfed Item.End none n e old new zero same fault = (zero, same, fault)
whole_unfed Item.Abandon none n e old new zero same fault = (zero, same, fault)

pub whole_ok : (place : ℕ) (item : Item) (n asked : ℕ) (ended : Option Outcome) (es now : Trace) → IsNoPiece item → OnceGives place 0 item (Ok (n, asked)) es now → ItemGives place item (Ok asked) ended es now
whole_ok place item n asked ended es now none h = (h.1, inl (whole_fed item none n (fed_in es) (fed_in now) h.0))

pub whole_err : (place : ℕ) (item : Item) (e : ItemsError) (ended : Option Outcome) (es now : Trace) → IsNoPiece item → OnceGives place 0 item (Err e) es now → ItemGives place item (Err e) ended es now
whole_err place item ItemsError.Limit ended es now none h = (fed_begun item (fed_in es) (fed_in now) (whole_fed item none h.0.0 (fed_in es) (fed_in now) h.0.2), h.1)
whole_err place item ItemsError.Memory ended es now none h = fed_begun item (fed_in es) (fed_in now) (whole_fed item none h.0 (fed_in es) (fed_in now) h.2)
whole_err place item (ItemsError.Feed at n e) ended es now none h = (h.0, whole_unfed item none n e (fed_in es) (fed_in now) h.1 (ap fed_in h.2) h.3)

-- ---- all items

-- these items were fed, or the backup has ended, and was fed some of all
abbrev pub SoFar : List Item → List Item → ℕ → Option Outcome → Trace → Trace → Type 0
SoFar whole items asked ended es now = AreMore asked es now × (AreFed whole (fed_in es) (fed_in now) ⊎ ((ended ≢ None) × AreBegun items (fed_in es) (fed_in now)))

fed_more : (whole : List Item) (item : Item) (old mid new : Feeding) → AreFed whole old mid → IsFed item mid new → AreFed (whole ++ item ∷ []) old new
fed_more [] item old mid new h k = (new, subst (λ x. IsFed item x new) h k, refl)
fed_more (first ∷ whole) item old mid new h k = (h.0, h.1, fed_more whole item h.0 mid new h.2 k)

-- none so far
pub so_far_none : (items : List Item) (asked : ℕ) (ended : Option Outcome) (es now : Trace) → StepGives (Ok asked) es now → SoFar [] items asked ended es now
so_far_none items asked ended es now h = (h.1, inl h.0)

-- what failed before the first item is told of all: none was fed
pub so_far_failed : (items : List Item) (e : StepError) (ended : Option Outcome) (es now : Trace) → StepGives (Err e) es now → ItemsGive items (Err (items_error e)) ended es now
so_far_failed items StepError.Limit ended es now h = (record { whole = []; left = items; all = refl; mid = fed_in now; fed = h.0; next = inl refl }, h.1)
so_far_failed items StepError.Memory ended es now h = record { whole = []; left = items; all = refl; mid = fed_in now; fed = h; next = inl refl }

-- it ended before the next
pub so_far_ended : (whole left items : List Item) (asked : ℕ) (ended : Option Outcome) (es now : Trace) → items ≡ whole ++ left → ended ≢ None → SoFar whole items asked ended es now → ItemsGive items (Ok asked) ended es now
so_far_ended whole left items asked ended es now all over (more, inl h) =
    (more, inr (over, record { whole = whole; left = left; all = all; mid = fed_in now; fed = h; next = inl refl }))
so_far_ended whole left items asked ended es now all over (more, inr h) = (more, inr h)

-- none is left
pub so_far_all : (whole left items : List Item) (asked : ℕ) (ended : Option Outcome) (es now : Trace) → items ≡ whole ++ left → left ≡ [] → SoFar whole items asked ended es now → ItemsGive items (Ok asked) ended es now
so_far_all whole left items asked None es now all none (more, inl h) =
    let same : whole ≡ items = sym (append-nil whole) ∙ ap (λ x. whole ++ x) (sym none) ∙ sym all in
    (more, inl (refl, subst (λ x. AreFed x (fed_in es) (fed_in now)) same h))
so_far_all whole left items asked None es now all none (more, inr h) = absurd (h.0 refl)
so_far_all whole left items asked (Some outcome) es now all none h = so_far_ended whole left items asked (Some outcome) es now all (λ n. absurd (cc)) h

-- the item at a place stands behind those before it
pub items_left : (whole left items : List Item) (place : ℕ) (item : Item) → items ≡ whole ++ left → length whole ≡ place → place < length items → item ≡ get_or items place item → (more : List Item) × (items ≡ whole ++ item ∷ more)
items_left whole left items place item all here within is =
    let one : place + 1 ≡ suc place = omega arith in
    let next : take (place + 1) items ≡ take place items ++ item ∷ [] = ap (λ n. take n items) one ∙ take-suc items place item within ∙ ap (λ x. take place items ++ x ∷ []) (sym is) in
    let front : take place items ≡ whole = ap (λ x. take place x) all ∙ ap (λ n. take n (whole ++ left)) (sym here) ∙ take-append_seam whole left in
    let more = drop (place + 1) items in
    (more, sym (take-append-drop (place + 1) items) ∙ ap (λ x. x ++ more) (next ∙ ap (λ x. x ++ item ∷ []) front) ∙ append_assoc whole (item ∷ []) more)

pub none_read : {A : Type 0} (P : Type 0) (Q : A → Type 0) (o : Option A) → MatchOption o P Q → ((x : A) → o ≡ Some x → ⊥) → P
none_read P Q None h none = h
none_read P Q (Some x) h none = absurd (none x refl)

no_items : (items : List Item) → length items ≤ 0 → items ≡ []
no_items [] less = refl
no_items (item ∷ items) less = absurd (omega (arith, less))

pub none_left : (whole left items : List Item) (place : ℕ) → items ≡ whole ++ left → length whole ≡ place → length items ≤ place → left ≡ []
none_left whole left items place all here less =
    let sum : length items ≡ length whole + length left = ap length all ∙ length-append whole left in
    no_items left (omega (arith, less, sum, here))

pub items_next : (whole more items : List Item) (item : Item) → items ≡ whole ++ item ∷ more → items ≡ (whole ++ item ∷ []) ++ more
items_next whole more items item all = all ∙ sym (append_assoc whole (item ∷ []) more)

module _ (whole items more : List Item) (item : Item) (all : items ≡ whole ++ item ∷ more) (before : Option Outcome) (wants : before ≡ None) (asked : ℕ) where
  fed_before : (es mid : Trace) → SoFar whole items asked before es mid → AreFed whole (fed_in es) (fed_in mid)
  fed_before es mid (count, inl h) = h
  fed_before es mid (count, inr h) = absurd (h.0 wants)

  begun_next : (es mid now : Trace) → SoFar whole items asked before es mid → IsBegun item (fed_in mid) (fed_in now) → AreBegun items (fed_in es) (fed_in now)
  begun_next es mid now s h = record { whole = whole; left = item ∷ more; all = all; mid = fed_in mid; fed = fed_before es mid s; next = inr (item, more, refl, h) }

  pub so_far_err : (place : ℕ) (e : ItemsError) (ended : Option Outcome) (es mid now : Trace) → place ≡ length whole → SoFar whole items asked before es mid → ItemGives place item (Err e) ended mid now → ItemsGive items (Err e) ended es now
  so_far_err place ItemsError.Limit ended es mid now here s h = (begun_next es mid now s h.0, omega (arith, s.0, h.1))
  so_far_err place ItemsError.Memory ended es mid now here s h = begun_next es mid now s h
  so_far_err place (ItemsError.Feed at n e) ended es mid now here s h =
      record { whole = whole; item = item; left = more; all = all; place_is = sym here ∙ sym h.0; mid = fed_in mid; fed = fed_before es mid s; unfed = h.1 }

  pub so_far_next : (place n sum : ℕ) (ended : Option Outcome) (es mid now : Trace) → sum ≡ asked + n → SoFar whole items asked before es mid → ItemGives place item (Ok n) ended mid now
      → SoFar (whole ++ item ∷ []) items sum ended es now
  so_far_next place n sum ended es mid now total s (count, inl h) = (omega (arith, s.0, count, total), inl (fed_more whole item (fed_in es) (fed_in mid) (fed_in now) (fed_before es mid s) h))
  so_far_next place n sum ended es mid now total s (count, inr h) = (omega (arith, s.0, count, total), inr (h.0, begun_next es mid now s h.1))

  pub so_far_many : (place n : ℕ) (ended : Option Outcome) (es mid now : Trace) → 2 ^ 32 < asked + n → SoFar whole items asked before es mid → ItemGives place item (Ok n) ended mid now → ItemsGive items (Err ItemsError.Limit) ended es now
  so_far_many place n ended es mid now many s (count, inl h) = (begun_next es mid now s (fed_begun item (fed_in mid) (fed_in now) h), omega (arith, s.0, count, many))
  so_far_many place n ended es mid now many s (count, inr h) = (begun_next es mid now s h.1, omega (arith, s.0, count, many))
