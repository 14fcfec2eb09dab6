-- A conversation after one more byte, and at the end of its input.
use Rattle.std.proofs.Common.{◌≡◌, ℕ, ◌+◌, ◌==◌, List, [], ◌∷◌, ◌++◌, length, Bool, true, false, refl, sym, ap, subst}
use Rattle.std.proofs.Common.{◌∙◌, append_assoc, append-nil, inl, inr, arith}
use Rattle.std.specs.Prelude.{◌≢◌, ◌<◌}
use Rattle.std.specs.List.{slice_split}
use Rattle.cedar_store.specs.Command.{Command, IsLine}
use Rattle.cedar_store.specs.Output.{State, start, not_command, IsOutput}
use Rattle.cedar_store.specs.Sessions.{SessionView, IsInState, RunsLine}
use Rattle.cedar_repl.specs.Heard.{all_lines}
use Rattle.cedar_repl.specs.Conversation.{ContinuesAfterErrors, Answers, AnswersFrom, AnswersAll}
use Rattle.cedar_repl.specs.laws.Hearing.{IsRefused, IsAnswered, Has, Hears, Closes}
use Rattle.cedar_repl.specs.declared.conversation.Conversation.{Conversation}
use Rattle.cedar_repl.specs.declared.error_mode.ErrorMode.{ErrorMode}
use Rattle.cedar_repl.specs.declared.error_mode.ErrorMode.TheVariants.{Strict}
use Rattle.cedar_repl.proofs.Parting.{byte_heard, feed_heard, last_line, heard_parts, parts_go_on}
use Rattle.cedar_repl.proofs.Answering.{answers_more, ends_output}

-- Nothing was received.
pub begins : {S H : Type 0} (k : Conversation S H) → IsInState k.session start → k.part.items ≡ [] → k.ended ≡ 0
    → Has k [] []
unfolding AnswersFrom
begins k stands part count = record {
  heard = record { lines = []; part = [] };
  is_heard = record { whole = refl; each = tt; rest = tt };
  part = part;
  count = count;
  state = start;
  stands = stands;
  answers = (refl, refl);
}

-- ---- A line

-- A command.
pub taken_answers : (m : ErrorMode) (n : ℕ) (s : State) (line : List ℕ) (v : SessionView) (old new : List ℕ)
    → RunsLine true line s v old new → IsAnswered true m n s line v old new
taken_answers m n s line v old new h = (h.1, h.2, inl (h.0, h.3, h.4), h.5, h.6)

-- A line that is not a command.
pub refused_answers : (on : Bool) (m : ErrorMode) (n : ℕ) (s : State) (line : List ℕ) (v : SessionView)
    (old mid new : List ℕ) → RunsLine false line s v old mid → IsRefused on m n line mid new
    → IsAnswered on m n s line v old new
refused_answers true m n s line v old mid new h r = (
  s,
  r.1.0,
  inr (subst ContinuesAfterErrors (sym r.0) tt, h.0, refl, r.1.1),
  h.1,
  r.1.2 ∙ ap (λ z. z ++ r.1.0) h.2,
)
refused_answers false m n s line v old mid new h r = (r.0, h.0, r.1 ∙ ap (λ z. z ++ not_command n) h.2)

-- ---- A byte

-- A byte that is not a line feed.
pub byte_comes : {S H : Type 0} (old new : Conversation S H) (b : ℕ) (xs out : List ℕ) → b ≢ 10
    → new.session ≡ old.session → new.manner ≡ old.manner → new.ended ≡ old.ended
    → new.part.items ≡ old.part.items ++ b ∷ [] → Has old xs out → Has new (xs ++ b ∷ []) out
byte_comes old new b xs out n session manner count part h = record {
  heard = record { lines = h.heard.lines; part = h.heard.part ++ b ∷ [] };
  is_heard = byte_heard xs h.heard b n h.is_heard;
  part = part ∙ ap (λ p. p ++ b ∷ []) h.part;
  count = count ∙ h.count;
  state = h.state;
  stands = subst (λ v. IsInState v h.state) (sym session) h.stands;
  answers = subst (λ m. AnswersFrom m 1 start h.heard.lines h.state out) (sym manner) h.answers;
}

-- A line feed, after which the conversation continues.
line_comes : {S H : Type 0} (old new : Conversation S H) (xs out before after : List ℕ)
    → ((s : State) → IsInState old.session s
    → IsAnswered true old.manner new.ended s old.part.items new.session before after)
    → new.manner ≡ old.manner → new.ended ≡ old.ended + 1 → new.part.items ≡ [] → Has old xs (out ++ before)
    → Has new (xs ++ 10 ∷ []) (out ++ after)
line_comes old new xs out before after answered manner count part h =
    let a = answered h.state h.stands in
    let number : new.ended ≡ 1 + length h.heard.lines = omega (arith, count, h.count) in
    let said =
    answers_more old.manner 1 new.ended start h.state a.0 h.heard.lines h.heard.part
    (out ++ before) a.1 number h.answers
    (subst (λ l. Answers old.manner new.ended h.state l a.0 a.1) h.part a.2)
    in record {
      heard = record { lines = h.heard.lines ++ h.heard.part ∷ []; part = [] };
      is_heard = feed_heard xs h.heard h.is_heard;
      part = part;
      count = number ∙ grown h.heard.lines h.heard.part;
      state = a.0;
      stands = a.3;
      answers = subst (λ m. AnswersFrom m 1 start (h.heard.lines ++ h.heard.part ∷ []) a.0 (out ++ after)) (sym manner)
          (subst (AnswersFrom old.manner 1 start (h.heard.lines ++ h.heard.part ∷ []) a.0) (append_assoc out before a.1
          ∙ ap (λ z. out ++ z) (sym a.4)) said);
    }
  where
    grown : (ls : List (List ℕ)) (l : List ℕ) → 1 + length ls ≡ length (ls ++ l ∷ [])
    grown [] l = refl
    grown (k ∷ ls) l = omega (arith, grown ls l)

-- A line that ends the conversation, whatever input follows.
line_ends : {S H : Type 0} (k : Conversation S H) (v : SessionView) (n : ℕ) (xs input was out before after : List ℕ)
    (rest : List (List ℕ))
    → ((s : State) → IsInState k.session s → IsAnswered false k.manner n s k.part.items v before after) → n ≡ k.ended + 1
    → was ≡ out ++ before → (h : Has k xs was)
    → slice_split (λ b. b == 10) input ≡ h.heard.lines ++ h.heard.part ∷ rest
    → (k.manner ≡ Strict) × IsOutput input (record { bytes = out ++ after; status = 2 })
line_ends k v n xs input was out before after rest answered count same h parts =
    let a = answered h.state h.stands in
    let number : n ≡ 1 + length h.heard.lines = omega (arith, count, h.count) in (
      a.0,
      subst (λ o. IsOutput input (record { bytes = o; status = 2 })) (ap (λ z. z ++ not_command n) same
          ∙ append_assoc out before (not_command n) ∙ ap (λ z. out ++ z) (sym a.2))
          (ends_output input h.heard.lines rest h.heard.part was n h.state parts number
          (subst (λ m. AnswersFrom m 1 start h.heard.lines h.state was) a.0 h.answers)
          (subst (λ l. (c : Command) → IsLine c l → ⊥) h.part a.1)),
    )

-- A line feed.
pub feed_comes : {S H : Type 0} (on : Bool) (old new : Conversation S H) (b : ℕ) (before after : List ℕ) → b ≡ 10
    → ((s : State) → IsInState old.session s
    → IsAnswered on old.manner new.ended s old.part.items new.session before after)
    → new.manner ≡ old.manner → new.ended ≡ old.ended + 1 → new.part.items ≡ [] → Hears on old (b ∷ []) new before after
feed_comes true old new b before after is answered manner count part = (
  manner,
  λ xs out h. subst (λ c. Has new (xs ++ c ∷ []) (out ++ after)) (sym is)
      (line_comes old new xs out before after answered manner count part h),
)
feed_comes false old new b before after is answered manner count part =
    λ xs out rest h. line_ends old new.session new.ended xs ((xs ++ b ∷ []) ++ rest) (out ++ before) out before after
    (slice_split (λ c. c == 10) rest) answered count refl h
    (ap (λ c. slice_split (λ d. d == 10) ((xs ++ c ∷ []) ++ rest)) is ∙ parts_go_on xs h.heard rest h.is_heard)

-- ---- Steps in sequence

-- No byte.
pub hears_none : {S H : Type 0} (k : Conversation S H) (before : List ℕ) → Hears true k [] k before before
hears_none k before = (refl, λ xs out h. subst (λ ys. Has k ys (out ++ before)) (sym (append-nil xs)) h)

pub hears_then : {S H : Type 0} (old mid new : Conversation S H) (bs cs b m a : List ℕ) → Hears true old bs mid b m
    → Hears true mid cs new m a → Hears true old (bs ++ cs) new b a
hears_then old mid new bs cs b m a f g = (
  g.0 ∙ f.0,
  λ xs out h. subst (λ ys. Has new ys (out ++ a)) (append_assoc xs bs cs) (g.1 (xs ++ bs) out (f.1 xs out h)),
)

-- The conversation ends before all of the bytes are received.
pub ends_then : {S H : Type 0} (old mid new : Conversation S H) (bs cs ds b m a : List ℕ) → Hears true old bs mid b m
    → Hears false mid cs new m a → Hears false old ((bs ++ cs) ++ ds) new b a
ends_then old mid new bs cs ds b m a f g = λ xs out rest h. (
  sym f.0 ∙ (g (xs ++ bs) out (ds ++ rest) (f.1 xs out h)).0,
  subst (λ ys. IsOutput ys (record { bytes = out ++ a; status = 2 })) (joined xs rest)
      (g (xs ++ bs) out (ds ++ rest) (f.1 xs out h)).1,
) where
  joined : (xs rest : List ℕ) → ((xs ++ bs) ++ cs) ++ (ds ++ rest) ≡ (xs ++ ((bs ++ cs) ++ ds)) ++ rest
  joined xs rest =
      ap (λ z. z ++ (ds ++ rest)) (append_assoc xs bs cs) ∙ append_assoc xs (bs ++ cs) (ds ++ rest)
      ∙ ap (λ z. xs ++ z) (sym (append_assoc (bs ++ cs) ds rest))
      ∙ sym (append_assoc xs ((bs ++ cs) ++ ds) rest)

-- ---- The end of the input

-- A last line that is not empty.
last_comes : {S H : Type 0} (k : Conversation S H) (v : SessionView) (n : ℕ) (xs out after : List ℕ)
    → ((s : State) → IsInState k.session s → IsAnswered true k.manner n s k.part.items v [] after) → n ≡ k.ended + 1
    → 0 < length k.part.items
    → Has k xs out → AnswersAll k.manner xs (out ++ after)
last_comes k v n xs out after answered count some h =
    let a = answered h.state h.stands in
    let number : n ≡ 1 + length h.heard.lines = omega (arith, count, h.count) in (
      h.heard,
      h.is_heard,
      (
        a.0,
        subst (λ ls. AnswersFrom k.manner 1 start ls a.0 (out ++ after))
            (sym (last_line h.heard (subst (λ p. 0 < length p) h.part some)))
            (subst (λ o. AnswersFrom k.manner 1 start (h.heard.lines ++ h.heard.part ∷ []) a.0 (out ++ o)) (sym a.4)
            (answers_more k.manner 1 n start h.state a.0 h.heard.lines h.heard.part out a.1 number h.answers
            (subst (λ l. Answers k.manner n h.state l a.0 a.1) h.part a.2))),
      ),
    )

-- A last line.
pub last_closes : {S H : Type 0} (on : Bool) (k : Conversation S H) (v : SessionView) (n : ℕ) (after : List ℕ)
    → ((s : State) → IsInState k.session s → IsAnswered on k.manner n s k.part.items v [] after) → n ≡ k.ended + 1
    → 0 < length k.part.items → Closes on k after
last_closes true k v n after answered count some = λ xs out h. last_comes k v n xs out after answered count some h
last_closes false k v n after answered count some =
    λ xs out h. line_ends k v n xs xs out out [] after [] answered count (sym (append-nil out)) h
    (heard_parts xs h.heard h.is_heard)

pub none_there : (xs : List ℕ) → length xs ≡ 0 → xs ≡ []
none_there [] e = refl
none_there (x ∷ xs) e = absurd (omega (arith, e))

-- No last line.
pub none_comes : {S H : Type 0} (k : Conversation S H) (xs out after : List ℕ) → k.part.items ≡ [] → after ≡ []
    → Has k xs out → AnswersAll k.manner xs (out ++ after)
none_comes k xs out after none e h = (
  h.heard,
  h.is_heard,
  (
    h.state,
    subst (λ o. AnswersFrom k.manner 1 start (all_lines h.heard) h.state o)
        (sym (ap (λ z. out ++ z) e ∙ append-nil out))
        (subst (λ p. AnswersFrom k.manner 1 start (all_lines (record { lines = h.heard.lines; part = p })) h.state out)
        (sym none ∙ h.part) h.answers),
  ),
)
