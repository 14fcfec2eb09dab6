-- The effects of a run: the bytes it read and wrote, and its errors.
use Rattle.std.specs.Prelude.{◌≡◌, ℕ, List, Option, Result, IfErr, IfOk, IfSome, OnOk}
use Rattle.std.specs.Io.KnownBytes.{IsAtEnd, Appends}
use Rattle.cedar_store.specs.Faults.{Leaves}
use Rattle.cedar_store.specs.Output.{IsOutput, HasOneOutput}
use Rattle.cedar_store.specs.declared.program.RunError.{RunError}

-- Holds of a run with this result. `reader` and `writer` are the states before it, and `reader_new` and `writer_new`
-- the states after it. `remaining` gives the bytes that a reader has left, and `contents` the bytes that a writer has
-- received, if they are known.
--
-- - `written`: the written bytes and the returned status are the output of the read bytes.
-- - `one`: every input has exactly one output.
-- - `end`: after a success the input was read to its end.
-- - `err`: after a read error or an allocation failure nothing was written.
pub record IsRun {R W : Type 0} (remaining : R → Option (List ℕ)) (contents : W → Option (List ℕ))
    (result : Result ℕ RunError) (reader reader_new : R) (writer writer_new : W) : Type 0 where
  pub written : IfOk result (λ status. IfSome (remaining reader) (λ input. (bytes : List ℕ)
      × IsOutput input (record { bytes = bytes; status = status })
      × Appends (contents writer) (contents writer_new) bytes))
  pub one : HasOneOutput
  pub end : OnOk result (IsAtEnd (remaining reader_new))
  pub err : IfErr result (λ e. Leaves e (writer_new ≡ writer))
