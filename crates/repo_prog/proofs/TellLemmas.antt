-- What commands tell of their jobs.
use Rattle.std.proofs.Common.{◌≡◌, ◌≢◌, ◌⊎◌, List, Option, Result, Ok, Err, OnOk, OnErr, ℕ, inl, inr, ⊎_elim, refl, sym, subst}
use Rattle.repo_prog.specs.Shown.{Tells, TellsEither, unflawed}
use Rattle.repo_prog.specs.Tellings.{Shows}
use Rattle.repo_prog.specs.declared.status.Status.{Status}

-- what holds where it went well, or what holds where it didn't
pub either_way : {T E A B : Type 0} (r : Result T E) → OnOk r A → OnErr r B → A ⊎ B
either_way (Ok x) a b = inl a
either_way (Err error) a b = inr b

module _ {A : Type 0} (Came : A → Type 0) (lines : A → List ℕ) (before after : Option (List ℕ)) where
  -- the lines of what it came to were to be written
  pub shown : (status : Status) (a : A) → Came a → Shows (lines a) status before after → Tells Came lines status before after
  shown Status.Done a came h = (a, came, h)
  shown Status.Failed a came h = ⊎_elim inl (λ part. inr (a, came, part)) h
  shown Status.Flawed a came h = absurd h
  shown Status.Usage a came h = absurd h

  -- it failed, and nothing was written
  pub nothing_told : (status : Status) → status ≡ Status.Failed → after ≡ before → Tells Came lines status before after
  nothing_told status failed same = subst (λ s. Tells Came lines s before after) (sym failed) (inl same)

  -- what it came to is also another thing
  pub tells_as : (Also : A → Type 0) → ((a : A) → Came a → Also a) → (status : Status) → Tells Came lines status before after → Tells Also lines status before after
  tells_as Also also Status.Done h = (h.0, also h.0 h.1, h.2)
  tells_as Also also Status.Failed h = ⊎_elim inl (λ told. inr (told.0, also told.0 told.1, told.2)) h
  tells_as Also also Status.Flawed h = absurd h
  tells_as Also also Status.Usage h = absurd h

  -- a flaw aside, it is told so
  pub told_flawed : (status marked : Status) → (status ≡ Status.Done → marked ≡ Status.Flawed) → (status ≢ Status.Done → marked ≡ status) → Tells Came lines status before after → Tells Came lines (unflawed marked) before after
  told_flawed Status.Done marked done other h = subst (λ s. Tells Came lines (unflawed s) before after) (sym (done refl)) h
  told_flawed Status.Failed marked done other h = subst (λ s. Tells Came lines (unflawed s) before after) (sym (other (λ e. absurd (cc)))) h
  told_flawed Status.Flawed marked done other h = absurd h
  told_flawed Status.Usage marked done other h = absurd h

  -- where the job was done, flawed or not, it came to something
  pub came_done : (status : Status) → (status ≡ Status.Done) ⊎ (status ≡ Status.Flawed) → Tells Came lines (unflawed status) before after → (a : A) × Came a
  came_done Status.Done done h = (h.0, h.1)
  came_done Status.Flawed done h = (h.0, h.1)
  came_done Status.Failed (inl is) h = absurd (cc)
  came_done Status.Failed (inr is) h = absurd (cc)
  came_done Status.Usage done h = absurd h

  -- without a flaw it is the status
  pub told_plain : (status : Status) → Tells Came lines status before after → Tells Came lines (unflawed status) before after
  told_plain Status.Done h = h
  told_plain Status.Failed h = h
  told_plain Status.Flawed h = absurd h
  told_plain Status.Usage h = absurd h

module _ {A B : Type 0} (Well : A → Type 0) (lines : A → List ℕ) (Ill : B → Type 0) (flaws : B → List ℕ) (before after : Option (List ℕ)) where
  -- the lines of the first were to be written
  pub shown_well : (status : Status) (a : A) → Well a → Shows (lines a) status before after → TellsEither Well lines Ill flaws status before after
  shown_well Status.Done a well h = (a, well, h)
  shown_well Status.Failed a well h = ⊎_elim inl (λ part. inr (inl (a, well, part))) h
  shown_well Status.Flawed a well h = absurd h
  shown_well Status.Usage a well h = absurd h

  -- those of the second were, and where they are the status is flawed
  pub shown_ill : (status marked : Status) → (status ≡ Status.Done → marked ≡ Status.Flawed) → (status ≢ Status.Done → marked ≡ status) → (b : B) → Ill b → Shows (flaws b) status before after → TellsEither Well lines Ill flaws marked before after
  shown_ill Status.Done marked done other b ill h = subst (λ s. TellsEither Well lines Ill flaws s before after) (sym (done refl)) (b, ill, h)
  shown_ill Status.Failed marked done other b ill h = subst (λ s. TellsEither Well lines Ill flaws s before after) (sym (other (λ e. absurd (cc)))) (⊎_elim inl (λ part. inr (inr (b, ill, part))) h)
  shown_ill Status.Flawed marked done other b ill h = absurd h
  shown_ill Status.Usage marked done other b ill h = absurd h

  -- it failed, and nothing was written
  pub neither_told : (status : Status) → status ≡ Status.Failed → after ≡ before → TellsEither Well lines Ill flaws status before after
  neither_told status failed same = subst (λ s. TellsEither Well lines Ill flaws s before after) (sym failed) (inl same)

  -- what it came to is also another thing
  pub either_as : (AlsoWell : A → Type 0) (AlsoIll : B → Type 0) → ((a : A) → Well a → AlsoWell a) → ((b : B) → Ill b → AlsoIll b) → (status : Status)
      → TellsEither Well lines Ill flaws status before after → TellsEither AlsoWell lines AlsoIll flaws status before after
  either_as AlsoWell AlsoIll well ill Status.Done h = (h.0, well h.0 h.1, h.2)
  either_as AlsoWell AlsoIll well ill Status.Flawed h = (h.0, ill h.0 h.1, h.2)
  either_as AlsoWell AlsoIll well ill Status.Failed h =
      ⊎_elim inl (λ told. inr (⊎_elim (λ w. inl (w.0, well w.0 w.1, w.2)) (λ i. inr (i.0, ill i.0 i.1, i.2)) told)) h
  either_as AlsoWell AlsoIll well ill Status.Usage h = absurd h
