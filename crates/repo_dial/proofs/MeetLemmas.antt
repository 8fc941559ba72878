-- What a store told to the ask for its config, where the job doesn't go on at it.
use Rattle.std.specs.Prelude.{⊤}
use Rattle.std.proofs.Common.{◌≡◌, ℕ, List, Option, Some, None, Result, Err, refl, subst}
use Rattle.repo_wire.specs.declared.messages.Say.{Say}
use Rattle.repo_dial.specs.Dialing.{MeetsSay, Recognizes}
use Rattle.repo_dial.specs.declared.again.TryError.{TryError}

-- the store told something
abbrev pub IsTold : TryError → Type 0
IsTold (TryError.Refused code) = ⊤
IsTold TryError.BadReply = ⊤
IsTold TryError.OtherStore = ⊤
IsTold TryError.NotReached = ⊥
IsTold (TryError.Drive error) = ⊥

told_kind : (error other : TryError) (is : Result (Unit {0}) TryError) → is ≡ Err error → is ≡ Err other → IsTold other → IsTold error
told_kind error other is one two told = let same : other ≡ error = cc in subst (λ e. IsTold e) same told

recognized_error : (known : Option (List ℕ)) (config : List ℕ) (error : TryError) (after : Option (List ℕ)) → Recognizes known config (Err error) after → IsTold error
recognized_error None config error after r = let q = r.0 in absurd (cc)
recognized_error (Some known) config error after r = told_kind error TryError.OtherStore (Err error) refl (r.3 (λ same. let q = r.2 same in absurd (cc))) tt

pub told_error : (known : Option (List ℕ)) (say : Say) (error : TryError) (after : Option (List ℕ)) → MeetsSay known say (Err error) after → IsTold error
told_error known (Say.Bytes config) error after m = recognized_error known config error after m
told_error known (Say.Refused code) error after m = told_kind error (TryError.Refused code) (Err error) refl m.0 tt
told_error known (Say.Token token) error after m = told_kind error TryError.BadReply (Err error) refl m.0 tt
told_error known Say.Done error after m = told_kind error TryError.BadReply (Err error) refl m.0 tt
told_error known (Say.Names more names) error after m = told_kind error TryError.BadReply (Err error) refl m.0 tt
told_error known (Say.LockList rows) error after m = told_kind error TryError.BadReply (Err error) refl m.0 tt
