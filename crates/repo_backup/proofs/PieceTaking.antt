-- What became of any item.
use Rattle.std.proofs.Common.{arith, ◌≡◌, ℕ, List, length, take, Result, Ok, Err, IfErr, sym, ap, subst, take_all}
use Rattle.std.specs.Result.{IsErrAnd}
use Rattle.repo_index.specs.declared.facts.Fact.{Fact}
use Rattle.repo_session.specs.Feeds.{Fed, fed_bytes}
use Rattle.repo_backup.specs.Items.{fed_part, size_of}
use Rattle.repo_backup.specs.Pieces.{TakesBytes, TakesItem, WorkTakes, Goes, EndsTooLarge, Refuses, sealing_at}
use Rattle.repo_backup.specs.declared.items.FeedError.{FeedError}
use Rattle.repo_backup.specs.declared.items.Item.{Item}
use Rattle.repo_backup.specs.declared.packing.Sealing.{Sealing}
use Rattle.repo_backup.specs.declared.piece_works.PieceWork.{PieceWork}
use Rattle.repo_backup.specs.declared.piece_works.Took.{Took}

-- an item that isn't a piece
pub item_taken : (known : List Fact) (item : Item) (sealing : Sealing) (fed : Fed) (old : PieceWork) (took : Took) (new : PieceWork) → ((n : ℕ) → fed_part n item ≡ fed) → size_of item ≡ 0 → sealing_at item ≡ sealing
    → TakesItem known sealing fed old took new → WorkTakes known item old took new
item_taken known item sealing fed old (Took.All n listed) new part size by h = (
  (omega (arith, size, h.0), (λ some. absurd (omega (arith, size, some)))),
  (λ less. absurd (omega (arith, size, less))),
  subst (λ s. Goes known s (fed_part n item) old new) (sym by) (subst (λ f. Goes known sealing f old new) (sym (part n)) h.1),
)
item_taken known item sealing fed old Took.TooLarge new part size by h = (size, subst (λ f. EndsTooLarge known f old) (sym (part 0)) h)

-- a piece
pub piece_taken : (known : List Fact) (item : Item) (piece : List ℕ) (old : PieceWork) (took : Took) (new : PieceWork) → ((n : ℕ) → fed_part n item ≡ fed_bytes (take n piece)) → size_of item ≡ length piece
    → sealing_at item ≡ Sealing.Due → TakesBytes known piece old took new → WorkTakes known item old took new
piece_taken known item piece old (Took.All n listed) new part size by h = (
  (omega (arith, size, h.0), (λ some. h.1 (omega (arith, size, some)))),
  (λ less none. absurd (omega (arith, size, less, h.2 none))),
  subst (λ s. Goes known s (fed_part n item) old new) (sym by) (subst (λ f. Goes known Sealing.Due f old new) (sym (part n)) h.4),
)
piece_taken known item piece old Took.TooLarge new part size by h = absurd h

pub if_err : {A E : Type 0} (P Q : E → Type 0) (r : Result A E) → ((e : E) → P e → Q e) → IfErr r P → IfErr r Q
if_err P Q (Ok x) f h = tt
if_err P Q (Err e) f h = f e h

-- want of memory is told, where there is no fault
pub memory_told : {A : Type 0} (r : Result A FeedError) (w : PieceWork) (item : Fed) → IsErrAnd r (λ e. e ≡ FeedError.Memory) → ((known : List Fact) → Refuses known item w FeedError.Memory)
    → IfErr r (λ e. (known : List Fact) → Refuses known item w e)
memory_told (Ok x) w item is h = tt
memory_told (Err e) w item is h = subst (λ x. (known : List Fact) → Refuses known item w x) (sym is) h

-- a whole piece
pub whole_piece : (piece : List ℕ) → fed_bytes (take (length piece) piece) ≡ fed_bytes piece
whole_piece piece = ap fed_bytes (take_all (length piece) piece (omega arith))
