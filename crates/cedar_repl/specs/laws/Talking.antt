-- The result of a conversation over a reader and a writer.
use Rattle.std.specs.Prelude.{◌≡◌, ◌⊎◌, ℕ, List, Option, Result, Ok, Err, IfSome, true, false}
use Rattle.std.specs.Io.KnownBytes.{Appends, Consumes, IsAtEnd}
use Rattle.cedar_store.specs.Output.{IsOutput}
use Rattle.cedar_repl.specs.Conversation.{AnswersAll, Leaves, RespondsToReadLines}
use Rattle.cedar_repl.specs.laws.Hearing.{Closes}
use Rattle.cedar_repl.specs.declared.conversation.Conversation.{Conversation}
use Rattle.cedar_repl.specs.declared.error_mode.ErrorMode.{ErrorMode}
use Rattle.cedar_repl.specs.declared.error_mode.ErrorMode.TheVariants.{Strict}
use Rattle.cedar_repl.specs.declared.talking.TalkError.{TalkError}
use Rattle.cedar_repl.specs.declared.talking.TalkError.TheVariants.{Read, Write, Memory}

-- Holds for a read error.
abbrev pub IsReadFault : TalkError → Type 0
IsReadFault Read = Unit {0}
IsReadFault Write = ⊥
IsReadFault Memory = ⊥

-- Holds for a write error.
abbrev pub IsWriteFault : TalkError → Type 0
IsWriteFault Read = ⊥
IsWriteFault Write = Unit {0}
IsWriteFault Memory = ⊥

-- Holds for the effect of the last line: it was processed, and the status states whether it ended the conversation. If
-- an allocation failed, nothing was written.
abbrev pub Finishes : {S H : Type 0} → Result ℕ TalkError → Conversation S H → Option (List ℕ) → Option (List ℕ)
    → Type 0
Finishes (Ok status) k w w' = (after : List ℕ) × Appends w w' after
    × (((status ≡ 0) × Closes true k after) ⊎ ((status ≡ 2) × Closes false k after))
Finishes (Err Read) k w w' = ⊥
Finishes (Err Write) k w w' = Unit {0}
Finishes (Err Memory) k w w' = w' ≡ w

-- Holds for the result of a conversation. The input was read to its end, and all of its lines have outputs. Or, in
-- strict mode, the output is the output of a run, which ends at an invalid line, and at most 4,096 bytes after it were
-- read.
abbrev pub Converses : ErrorMode → Result ℕ TalkError → Option (List ℕ) → Option (List ℕ) → Option (List ℕ)
    → Option (List ℕ) → Type 0
Converses m (Ok status) r r' w w' = (bytes : List ℕ) × (out : List ℕ) × Consumes r r' bytes × Appends w w' out
    × (((status ≡ 0) × IsAtEnd r' × AnswersAll m bytes out)
    ⊎ ((status ≡ 2) × (m ≡ Strict) × IfSome r (λ input. IsOutput input (record { bytes = out; status = 2 }))
    × RespondsToReadLines m r r'))
Converses m (Err e) r r' w w' = Leaves m e r r' w w'
