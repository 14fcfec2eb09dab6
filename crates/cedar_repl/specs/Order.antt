-- The calls of a conversation on its reader and its writer, in order.
use Rattle.std.specs.Prelude.{◌≡◌, ◌⊎◌, ◌≤◌, ℕ, List, [], ◌∷◌, ◌++◌, length, Option, None, Some, Result, OnOk}
use Rattle.cedar_repl.specs.Conversation.{AnswersEnded}
use Rattle.cedar_repl.specs.declared.error_mode.ErrorMode.{ErrorMode}
use Rattle.cedar_repl.specs.declared.talking.TalkError.{TalkError}

-- A call: a read with the bytes that it returned, a write of some bytes, or a flush. A read returns no bytes at the end
-- of the input or if it fails.
pub data Call : Type 0 where
  Reads : List ℕ → Call
  Writes : List ℕ → Call
  Flushes : Call

-- Holds if the new calls were appended to the recorded calls, if calls are recorded.
abbrev pub RecordsCalls : Option (List Call) → Option (List Call) → List Call → Type 0
RecordsCalls None new cs = Unit {0}
RecordsCalls (Some xs) None cs = ⊥
RecordsCalls (Some xs) (Some ys) cs = ys ≡ xs ++ cs

-- The bytes that were received, the bytes that were written, and the part of them that was flushed.
pub record Passed : Type 0 where
  pub came : List ℕ
  pub written : List ℕ
  pub flushed : List ℕ

-- What was read, written and flushed before any call: nothing.
abbrev pub nothing : Passed
nothing = record { came = []; written = []; flushed = [] }

-- What was read, written and flushed after one more call.
abbrev pub passed_by : Passed → Call → Passed
passed_by p (Reads bytes) = record { came = p.came ++ bytes; written = p.written; flushed = p.flushed }
passed_by p (Writes bytes) = record { came = p.came; written = p.written ++ bytes; flushed = p.flushed }
passed_by p Flushes = record { came = p.came; written = p.written; flushed = p.written }

-- What was read, written and flushed after the calls, beginning with p.
unfoldable pub passed : Passed → List Call → Passed
passed p [] = p
passed p (c ∷ cs) = passed (passed_by p c) cs

-- Holds if the call is allowed in this state. A read is allowed if the flushed bytes are the outputs for all completed
-- lines, and nothing else was written. It returns at most 4,096 bytes. Writes and flushes are always allowed.
abbrev pub IsInTurn : ErrorMode → Passed → Call → Type 0
IsInTurn m p (Reads bytes) = AnswersEnded m p.came p.flushed × (p.written ≡ p.flushed) × (length bytes ≤ 4096)
IsInTurn m p (Writes bytes) = Unit {0}
IsInTurn m p Flushes = Unit {0}

-- Holds if each of the calls is allowed.
unfoldable pub AreInTurn : ErrorMode → Passed → List Call → Type 0
AreInTurn m p [] = Unit {0}
AreInTurn m p (c ∷ cs) = IsInTurn m p c × AreInTurn m (passed_by p c) cs

-- Holds if each read of a conversation was allowed and, if it ended without an error, everything written was flushed.
abbrev pub IsInOrder : ErrorMode → Result ℕ TalkError → Option (List Call) → Option (List Call) → Type 0
IsInOrder m result old new = (cs : List Call) × RecordsCalls old new cs × AreInTurn m nothing cs
    × OnOk result ((passed nothing cs).flushed ≡ (passed nothing cs).written)

-- Holds if the bytes were written and flushed.
abbrev pub Sends : Option (List Call) → Option (List Call) → List ℕ → Type 0
Sends old new bytes = RecordsCalls old new (Writes bytes ∷ Flushes ∷ [])

-- Holds if there was no call, or only a write.
abbrev pub SendsAtMost : Option (List Call) → Option (List Call) → Type 0
SendsAtMost old new = RecordsCalls old new [] ⊎ ((bytes : List ℕ) × RecordsCalls old new (Writes bytes ∷ []))
