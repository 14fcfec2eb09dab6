-- The outputs of a conversation, line by line.
use Rattle.std.specs.Prelude.{◌≡◌, ◌≢◌, ◌≤◌, ◌⊎◌, ℕ, ◌+◌, List, [], ◌∷◌, ◌++◌, Option, codes, length}
use Rattle.std.specs.Io.KnownBytes.{Appends, Consumes}
use Rattle.cedar_store.specs.Command.{Command, IsLine}
use Rattle.cedar_store.specs.Output.{State, RunsCommand, start, not_command}
use Rattle.cedar_repl.specs.Heard.{Heard, IsHeard, all_lines}
use Rattle.cedar_repl.specs.Help.{IsHelpOn, IsNoTopic, full_help}
use Rattle.cedar_repl.specs.declared.error_mode.ErrorMode.{ErrorMode}
use Rattle.cedar_repl.specs.declared.error_mode.ErrorMode.TheVariants.{Lenient, Strict}
use Rattle.cedar_repl.specs.declared.talking.TalkError.{TalkError}
use Rattle.cedar_repl.specs.declared.talking.TalkError.TheVariants.{Read, Write, Memory}

-- Holds if an invalid line does not end the conversation.
abbrev pub ContinuesAfterErrors : ErrorMode → Type 0
ContinuesAfterErrors Lenient = Unit {0}
ContinuesAfterErrors Strict = ⊥

-- The output for line n, which is not a command. For `help` it is the whole help text, for a help topic it is the text
-- of the topic, and otherwise it names the line.
abbrev pub Responds : ℕ → List ℕ → List ℕ → Type 0
Responds n line out =
    ((line ≡ codes "help") × (out ≡ full_help))
    ⊎ (IsHelpOn line out ⊎ ((line ≢ codes "help") × IsNoTopic line × (out ≡ not_command n)))

-- The output for line n in state s, and the state t afterwards. Either the line is a command, or the conversation
-- continues after an invalid line, and the state does not change.
abbrev pub Answers : ErrorMode → ℕ → State → List ℕ → State → List ℕ → Type 0
Answers m n s line t out =
    ((c : Command) × IsLine c line × RunsCommand s c t out)
    ⊎ (ContinuesAfterErrors m × ((c : Command) → IsLine c line → ⊥) × (t ≡ s) × Responds n line out)

-- The outputs for the lines from number n on, one after another, beginning in state s. The state afterwards is t.
unfoldable pub AnswersFrom : ErrorMode → ℕ → State → List (List ℕ) → State → List ℕ → Type 0
AnswersFrom m n s [] t out = (t ≡ s) × (out ≡ [])
AnswersFrom m n s (l ∷ ls) t out = (u : State) × (a : List ℕ) × (b : List ℕ) × Answers m n s l u a
    × AnswersFrom m (n + 1) u ls t b × (out ≡ a ++ b)

-- Holds if these are the outputs for the lines, numbered from 1, beginning in the initial state.
abbrev pub AreAnswers : ErrorMode → List (List ℕ) → List ℕ → Type 0
AreAnswers m lines out = (t : State) × AnswersFrom m 1 start lines t out

-- Holds if these are the outputs for all lines completed in the bytes.
abbrev pub AnswersEnded : ErrorMode → List ℕ → List ℕ → Type 0
AnswersEnded m bytes out = (h : Heard) × IsHeard bytes h × AreAnswers m h.lines out

-- Holds if these are the outputs for all lines of an input, including an incomplete last line.
abbrev pub AnswersAll : ErrorMode → List ℕ → List ℕ → Type 0
AnswersAll m input out = (h : Heard) × IsHeard input h × AreAnswers m (all_lines h) out

-- Holds if all lines completed in the bytes that were read have outputs, except in the last 4,096 bytes.
abbrev pub RespondsToReadLines : ErrorMode → Option (List ℕ) → Option (List ℕ) → Type 0
RespondsToReadLines m r r' = (bytes : List ℕ) × (more : List ℕ) × (out : List ℕ) × Consumes r r' (bytes ++ more)
    × (length more ≤ 4096) × AnswersEnded m bytes out

-- The output after an error. After a failed read it consists of the outputs for all lines completed before. After an
-- allocation failure it excludes the lines completed by the last read, of at most 4,096 bytes. After a failed write it
-- is unspecified.
abbrev pub Leaves : ErrorMode → TalkError → Option (List ℕ) → Option (List ℕ) → Option (List ℕ) → Option (List ℕ) → Type 0
Leaves m Read r r' w w' = (bytes : List ℕ) × (out : List ℕ) × Consumes r r' bytes × AnswersEnded m bytes out
    × Appends w w' out
Leaves m Memory r r' w w' = (bytes : List ℕ) × (more : List ℕ) × (out : List ℕ) × Consumes r r' (bytes ++ more)
    × (length more ≤ 4096) × AnswersEnded m bytes out × Appends w w' out
Leaves m Write r r' w w' = Unit {0}
