-- The bytes that a conversation has received and their outputs, byte by byte.
use Rattle.std.specs.Prelude.{◌≡◌, ℕ, Bool, true, false, List, ◌++◌, length}
use Rattle.cedar_store.specs.Command.{Command, IsLine}
use Rattle.cedar_store.specs.Output.{State, start, not_command, IsOutput}
use Rattle.cedar_store.specs.Sessions.{SessionView, IsInState}
use Rattle.cedar_repl.specs.Heard.{Heard, IsHeard}
use Rattle.cedar_repl.specs.Conversation.{Answers, AnswersFrom, AnswersAll, Responds}
use Rattle.cedar_repl.specs.declared.conversation.Conversation.{Conversation}
use Rattle.cedar_repl.specs.declared.error_mode.ErrorMode.{ErrorMode}
use Rattle.cedar_repl.specs.declared.error_mode.ErrorMode.TheVariants.{Lenient, Strict}

-- An invalid line was processed. It has an output and the conversation continues, or it ends the conversation.
abbrev pub IsRefused : Bool → ErrorMode → ℕ → List ℕ → List ℕ → List ℕ → Type 0
IsRefused true m n line old new = (m ≡ Lenient) × ((out : List ℕ) × Responds n line out × (new ≡ old ++ out))
IsRefused false m n line old new = (m ≡ Strict) × (new ≡ old ++ not_command n)

-- A line was processed. The session is in the state after it, or the line ends the conversation.
abbrev pub IsAnswered : Bool → ErrorMode → ℕ → State → List ℕ → SessionView → List ℕ → List ℕ → Type 0
IsAnswered true m n s line v old new = (t : State) × (out : List ℕ) × Answers m n s line t out × IsInState v t
    × (new ≡ old ++ out)
IsAnswered false m n s line v old new = (m ≡ Strict) × ((c : Command) → IsLine c line → ⊥)
    × (new ≡ old ++ not_command n)

-- Holds if the conversation has received the bytes, and `out` has the outputs for all completed lines.
pub record Has {S H : Type 0} (k : Conversation S H) (bytes out : List ℕ) : Type 0 where
  pub heard : Heard
  pub is_heard : IsHeard bytes heard
  pub part : k.part.items ≡ heard.part
  pub count : k.ended ≡ length heard.lines
  pub state : State
  pub stands : IsInState k.session state
  pub answers : AnswersFrom k.manner 1 start heard.lines state out

-- Holds for the effect of receiving more bytes. If the conversation continues, `after` is `before` with the outputs for
-- the lines that they complete. If an invalid line ends it, the whole output is the output of a run, whatever input
-- follows.
abbrev pub Hears : {S H : Type 0} → Bool → Conversation S H → List ℕ → Conversation S H → List ℕ → List ℕ → Type 0
Hears true old bytes new before after = (new.manner ≡ old.manner)
    × ((xs : List ℕ) → (out : List ℕ) → Has old xs (out ++ before) → Has new (xs ++ bytes) (out ++ after))
Hears false old bytes new before after = (xs : List ℕ) → (out : List ℕ) → (rest : List ℕ) → Has old xs (out ++ before)
    → (old.manner ≡ Strict) × IsOutput ((xs ++ bytes) ++ rest) (record { bytes = out ++ after; status = 2 })

-- Holds for the effect of the end of the input. The incomplete last line, if there is one, was processed, or it is not
-- a command and ends the conversation.
abbrev pub Closes : {S H : Type 0} → Bool → Conversation S H → List ℕ → Type 0
Closes true k after = (xs : List ℕ) → (out : List ℕ) → Has k xs out → AnswersAll k.manner xs (out ++ after)
Closes false k after = (xs : List ℕ) → (out : List ℕ) → Has k xs out → (k.manner ≡ Strict)
    × IsOutput xs (record { bytes = out ++ after; status = 2 })
