-- A script that comes in pieces, over a line, a piece and its end.
use Rattle.std.proofs.Common.{Result, Some, None, false, ◌≡◌, ◌+◌, ◌++◌, ◌∷◌, [], inl, inr, ℕ, List, Option, Ok, Err, refl, sym, ap, subst, ◌∙◌, append_assoc, append-nil, length-append, arith}
use Rattle.std.specs.Io.KnownBytes.{Appends, Consumes, Keeps}
use Rattle.std.proofs.KnownBytes.{Appends-nil, Appends-trans}
use Rattle.std.proofs.lemmas.Option.{same_Some}
use Rattle.repo_locks.specs.TokenMachine.{start as no_tickets}
use Rattle.repo_store.specs.Output.{AppendsPart}
use Rattle.repo_store.specs.Stores.{Store}
use Rattle.repo_tree.specs.ConfigText.{config_text}
use Rattle.repo_world.specs.World.{beginning}
use Rattle.repo_world.specs.Rules.{AllAreRuled}
use Rattle.repo_script.specs.Cuts.{cut, line_feed}
use Rattle.repo_script.proofs.CutLemmas.{goes_on}
use Rattle.repo_play.specs.Lines.{IsFreshScript, State, script_config}
use Rattle.repo_play.specs.inner.Players.{state_on}
use Rattle.repo_play.specs.Plays.{PlayedSome, PlayedAllRead, PlaysSome, Plays, IsNotUnderstood, LineSays, SayAll}
use Rattle.repo_play.specs.inner.Scripts.{HasRun, LineRuns, RanLines, ScriptStands, ScriptStops}
use Rattle.repo_play.specs.declared.faults.LoopError.{LoopError}
use Rattle.repo_play.specs.declared.faults.PlayError.{PlayError}
use Rattle.repo_play.specs.declared.grammars.Grammar.{Grammar}
use Rattle.repo_play.specs.declared.scripts.Script.{Script}
use Rattle.repo_play.proofs.Saying.{fresh_ruled, said_ruled, say_more}

module _ {C : Type 0} (input : List ℕ) (start : Option (List ℕ)) (script : Script C) (lines left : List (List ℕ)) (text : List ℕ) (contents : Option (List ℕ))
    (cuts : cut line_feed input ≡ lines ++ left) (ran : RanLines start script lines text contents) where
  -- what was played, where these lines are left
  pub played : PlayedSome script.grammar input start contents lines left (state_on script.stage)
  played = record { text = text; played = record { lines = cuts; begun = ran.begun; fresh = ran.fresh; say = ran.say }; wrote = ran.wrote }

  -- some lines
  pub plays_some : PlaysSome script.grammar input start contents
  plays_some = (lines, left, state_on script.stage, played)

-- a line isn't run
pub stopped : {C : Type 0} (input : List ℕ) (unread start : Option (List ℕ)) (script : Script C) (lines left : List (List ℕ)) (bytes text : List ℕ) (contents : Option (List ℕ)) (e : LoopError)
    → cut line_feed input ≡ lines ++ bytes ∷ left → RanLines start script lines text contents → ScriptStops script bytes e → Plays script.grammar input unread start (Err e) contents
stopped input unread start script lines left bytes text contents (LoopError.Play (PlayError.Line n)) cuts ran h =
    let some = played input start script lines (bytes ∷ left) text contents cuts ran in
    let at = subst (λ m. IsNotUnderstood script.grammar m bytes (state_on script.stage) × (n ≡ m + 1)) ran.number h in
    (lines, left, bytes, state_on script.stage, some, at.0, at.1)
stopped input unread start script lines left bytes text contents (LoopError.Play PlayError.Limit) cuts ran (inl far) =
    (lines, bytes ∷ left, state_on script.stage, played input start script lines (bytes ∷ left) text contents cuts ran, inl (bytes, left, far.0, refl, far.1, far.2))
stopped input unread start script lines left bytes text contents (LoopError.Play PlayError.Limit) cuts ran (inr many) =
    (lines, bytes ∷ left, state_on script.stage, played input start script lines (bytes ∷ left) text contents cuts ran, inr (inl (omega (arith, many, ran.number))))
stopped input unread start script lines left bytes text contents (LoopError.Play PlayError.Memory) cuts ran h = plays_some input start script lines (bytes ∷ left) text contents cuts ran
stopped input unread start script lines left bytes text contents (LoopError.Carry error) cuts ran h =
    (lines, left, bytes, state_on script.stage, h.0, played input start script lines (bytes ∷ left) text contents cuts ran, h.1, h.2)
stopped input unread start script lines left bytes text contents (LoopError.Play PlayError.Read) cuts ran h = absurd h
stopped input unread start script lines left bytes text contents (LoopError.Play PlayError.Write) cuts ran h = absurd h

module _ {C : Type 0} (start : Option (List ℕ)) (old new : Script C) (lines : List (List ℕ)) (bytes text more : List ℕ) (same : new.grammar ≡ old.grammar) where
  said : (contents : Option (List ℕ)) (ran : RanLines start old lines text contents) → LineSays old.grammar old.number bytes (state_on old.stage) more (state_on new.stage)
      → AllAreRuled (state_on new.stage).world → SayAll old.grammar 0 (lines ++ bytes ∷ []) ran.begun (text ++ more) (state_on new.stage)
  said contents ran says ruled =
      say_more old.grammar 0 lines bytes ran.begun (state_on old.stage) (state_on new.stage) text more ran.say
      (subst (λ n. LineSays old.grammar n bytes (state_on old.stage) more (state_on new.stage)) (omega (arith, ran.number)) says) ruled

  -- a line is run, and what it prints is written
  pub ran_line : (before after : Option (List ℕ)) → RanLines start old lines text before → LineSays old.grammar old.number bytes (state_on old.stage) more (state_on new.stage)
      → AllAreRuled (state_on new.stage).world → new.number ≡ old.number + 1 → Appends before after more → RanLines start new (lines ++ bytes ∷ []) (text ++ more) after
  ran_line before after ran says ruled number wrote = record {
    begun = ran.begun;
    fresh = ran.fresh;
    say = subst (λ grammar. SayAll grammar 0 (lines ++ bytes ∷ []) ran.begun (text ++ more) (state_on new.stage)) (sym same) (said before ran says ruled);
    number = omega (arith, number, ran.number, length-append lines (bytes ∷ []));
    wrote = Appends-trans start before after text more ran.wrote wrote;
  }

  -- a first part of it alone is written
  pub unwritten : (input : List ℕ) (unread : Option (List ℕ)) (left : List (List ℕ)) (before after : Option (List ℕ)) → cut line_feed input ≡ lines ++ bytes ∷ left → RanLines start old lines text before
      → LineSays old.grammar old.number bytes (state_on old.stage) more (state_on new.stage) → AppendsPart before after more → Plays new.grammar input unread start (Err (LoopError.Play PlayError.Write)) after
  unwritten input unread left before after cuts ran says part =
      let here = subst (λ n. LineSays old.grammar n bytes (state_on old.stage) more (state_on new.stage)) ran.number says in
      subst (λ grammar. Plays grammar input unread start (Err (LoopError.Play PlayError.Write)) after) (sym same) (
        lines,
        left,
        bytes,
        state_on old.stage,
        before,
        played input start old lines (bytes ∷ left) text before cuts ran,
        record { text = more; state = state_on new.stage; says = here; wrote = part },
      )

-- what is cut of the whole input, where no line has ended in what is left
pub cut_whole : (came ahead : List ℕ) (lines : List (List ℕ)) (rest : List ℕ) → cut line_feed came ≡ lines ++ cut line_feed rest → cut line_feed (came ++ ahead) ≡ lines ++ cut line_feed (rest ++ ahead)
cut_whole came ahead lines rest h = goes_on came lines rest ahead h

-- scripts that differ in their cutters alone
pub ran_same : {C : Type 0} (start : Option (List ℕ)) (old new : Script C) (lines : List (List ℕ)) (text : List ℕ) (contents : Option (List ℕ))
    → new.grammar ≡ old.grammar → new.stage ≡ old.stage → new.number ≡ old.number → RanLines start old lines text contents → RanLines start new lines text contents
ran_same start old new lines text contents grammar stage number ran = record {
  begun = ran.begun;
  fresh = ran.fresh;
  say = subst (λ g. SayAll g 0 lines ran.begun text (state_on new.stage)) (sym grammar) (subst (λ s. SayAll old.grammar 0 lines ran.begun text (state_on s)) (sym stage) ran.say);
  number = number ∙ ran.number;
  wrote = ran.wrote;
}

-- a piece comes
pub piece_fed : {C : Type 0} (input : List ℕ) (start : Option (List ℕ)) (old new : Script C) (piece ahead : List ℕ) (contents : Option (List ℕ))
    → new.cutter ≡ old.cutter ++ piece → new.grammar ≡ old.grammar → new.stage ≡ old.stage → new.number ≡ old.number
    → HasRun input start old (piece ++ ahead) contents → HasRun input start new ahead contents
piece_fed input start old new piece ahead contents cutter grammar stage number h = record {
  came = h.came ++ piece;
  whole = h.whole ∙ sym (append_assoc h.came piece ahead);
  lines = h.lines;
  text = h.text;
  cuts = cut_whole h.came piece h.lines old.cutter h.cuts ∙ ap (λ b. h.lines ++ cut line_feed b) (sym cutter);
  ran = ran_same start old new h.lines h.text contents grammar stage number h.ran;
}

module _ {C : Type 0} (input : List ℕ) (start : Option (List ℕ)) (script : Script C) (ahead : List ℕ) (contents : Option (List ℕ)) (h : HasRun input start script ahead contents) where
  whole_cut : cut line_feed input ≡ h.lines ++ cut line_feed (script.cutter ++ ahead)
  whole_cut = ap (cut line_feed) h.whole ∙ cut_whole h.came ahead h.lines script.cutter h.cuts

  -- some lines were played
  pub some_run : PlaysSome script.grammar input start contents
  some_run = plays_some input start script h.lines (cut line_feed (script.cutter ++ ahead)) h.text contents whole_cut h.ran

  -- where a line has ended, it is the next one
  pub next_cut : (line rest : List ℕ) → cut line_feed script.cutter ≡ line ∷ cut line_feed rest → cut line_feed input ≡ h.lines ++ line ∷ cut line_feed (rest ++ ahead)
  next_cut line rest e = whole_cut ∙ ap (λ p. h.lines ++ p) (goes_on script.cutter (line ∷ []) rest ahead e)

  -- it was run
  pub line_run : (line : List ℕ) (new : Script C) (text : List ℕ) (after : Option (List ℕ)) → cut line_feed script.cutter ≡ line ∷ cut line_feed new.cutter
      → RanLines start new (h.lines ++ line ∷ []) text after → HasRun input start new ahead after
  line_run line new text after e ran = record {
    came = h.came;
    whole = h.whole;
    lines = h.lines ++ line ∷ [];
    text = text;
    cuts = h.cuts ∙ ap (λ p. h.lines ++ p) e ∙ sym (append_assoc h.lines (line ∷ []) (cut line_feed new.cutter));
    ran = ran;
  }

-- ---- the end

module _ {C : Type 0} (input : List ℕ) (start : Option (List ℕ)) (script : Script C) (contents : Option (List ℕ)) (h : ScriptStands input start script [] contents) where
  -- the last line is what the cutter has
  pub last_cut : cut line_feed input ≡ h.0.lines ++ script.cutter ∷ []
  last_cut =
      whole_cut input start script [] contents h.0 ∙ ap (λ b. h.0.lines ++ cut line_feed b) (append-nil script.cutter) ∙ ap (λ p. h.0.lines ++ p) h.1

  -- there is none
  pub ended_empty : (unread : Option (List ℕ)) → script.cutter ≡ [] → Plays script.grammar input unread start (Ok (record {})) contents
  ended_empty unread empty =
      let s = state_on script.stage in
      let ran = h.0.ran in
      let lines = h.0.lines ++ [] ∷ [] in
      let text = h.0.text ++ [] in
      let all : cut line_feed input ≡ lines ++ [] = last_cut ∙ ap (λ b. h.0.lines ++ b ∷ []) empty ∙ sym (append-nil lines) in
      let ruled = said_ruled script.grammar 0 h.0.lines ran.begun h.0.text s (fresh_ruled false ran.begun ran.fresh) ran.say in
      let say = say_more script.grammar 0 h.0.lines [] ran.begun s s h.0.text [] ran.say (inl (refl, refl, refl)) ruled in
      let wrote = subst (λ t. Appends start contents t) (sym (append-nil h.0.text)) ran.wrote in
      (lines, s, record { text = text; played = record { lines = all; begun = ran.begun; fresh = ran.fresh; say = say }; wrote = wrote })

-- the last line was run
pub ended : {C : Type 0} (input : List ℕ) (unread start : Option (List ℕ)) (new : Script C) (lines : List (List ℕ)) (text : List ℕ) (after : Option (List ℕ))
    → cut line_feed input ≡ lines → RanLines start new lines text after → Plays new.grammar input unread start (Ok (record {})) after
ended input unread start new lines text after cuts ran = (lines, state_on new.stage, played input start new lines [] text after (cuts ∙ sym (append-nil lines)) ran)

-- however it came out
pub ends_so : {C : Type 0} (input : List ℕ) (unread start : Option (List ℕ)) (old new : Script C) (lines : List (List ℕ)) (result : Result (Unit {0}) LoopError) (after : Option (List ℕ)) → new.grammar ≡ old.grammar
    → cut line_feed input ≡ lines → LineRuns input start lines result new after → Plays old.grammar input unread start result after
ends_so input unread start old new lines (Ok done) after same cuts h = subst (λ g. Plays g input unread start (Ok done) after) same (ended input unread start new lines h.0 after cuts h.1)
ends_so input unread start old new lines (Err e) after same cuts h = subst (λ g. Plays g input unread start (Err e) after) same (h unread)

-- ---- the beginning

-- a store that was just made
abbrev fresh_store : Store
fresh_store = record { config = Some (config_text script_config); objects = λ k n. None; tokens = no_tickets; append_only = false }

abbrev fresh_state : State
fresh_state = record { world = beginning fresh_store; entries = [] }

is_fresh : IsFreshScript false fresh_state
is_fresh = record { store = fresh_store; empty = record { none = λ k n. refl; new = refl }; config = refl; mode = refl; world = refl; entries = refl }

-- no line was played
pub none_played : (grammar : Grammar) (input : List ℕ) (contents : Option (List ℕ)) → PlaysSome grammar input contents contents
none_played grammar input contents =
    ([], cut line_feed input, fresh_state, record { text = []; played = record { lines = refl; begun = fresh_state; fresh = is_fresh; say = (refl, refl) }; wrote = Appends-nil contents })

-- a script that was just made
pub begun_stands : {C : Type 0} (input : List ℕ) (contents : Option (List ℕ)) (script : Script C) → IsFreshScript false (state_on script.stage) → script.cutter ≡ [] → script.number ≡ 0
    → ScriptStands input contents script input contents
begun_stands input contents script fresh empty number = (
  record {
    came = [];
    whole = refl;
    lines = [];
    text = [];
    cuts = ap (cut line_feed) (sym empty);
    ran = record { begun = state_on script.stage; fresh = fresh; say = (refl, refl); number = number; wrote = Appends-nil contents };
  },
  subst (λ b. cut line_feed b ≡ b ∷ []) (sym empty) refl,
)

-- ---- what is read

-- nothing was: just the lines that had ended in what came were run
pub nothing_read : {C : Type 0} (input : List ℕ) (start : Option (List ℕ)) (script : Script C) (ahead : List ℕ) (unread contents : Option (List ℕ)) → ScriptStands input start script ahead contents
    → unread ≡ Some ahead → PlayedAllRead script.grammar input unread start contents
nothing_read input start script ahead unread contents (h, none) same = record {
  came = h.came;
  ahead = ahead;
  whole = h.whole;
  left = same;
  lines = h.lines;
  last = script.cutter;
  cuts = h.cuts ∙ ap (λ p. h.lines ++ p) none;
  rest = cut line_feed (script.cutter ++ ahead);
  state = state_on script.stage;
  played = played input start script h.lines (cut line_feed (script.cutter ++ ahead)) h.text contents (whole_cut input start script ahead contents h) h.ran;
}

-- what was there is there
pub kept_from : (old new : Option (List ℕ)) (ahead : List ℕ) → old ≡ Some ahead → Keeps old new → new ≡ Some ahead
kept_from None new ahead e h = absurd (cc)
kept_from (Some xs) None ahead e h = absurd h
kept_from (Some xs) (Some ys) ahead e h = ap Some h ∙ e

pub taken_from : (old new : Option (List ℕ)) (ahead bytes : List ℕ) → old ≡ Some ahead → Consumes old new bytes → (left : List ℕ) × (new ≡ Some left) × (ahead ≡ bytes ++ left)
taken_from None new ahead bytes e h = absurd (cc)
taken_from (Some xs) None ahead bytes e h = absurd h
taken_from (Some xs) (Some ys) ahead bytes e h = (ys, refl, sym (same_Some xs ahead e) ∙ h)
