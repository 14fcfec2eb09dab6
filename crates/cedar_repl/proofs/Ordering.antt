-- The calls of a conversation, one after another.
use Rattle.std.proofs.Common.{◌≡◌, ◌≤◌, ℕ, List, [], ◌∷◌, ◌++◌, length, Option, Some, None, Result, Ok, Err, OnOk, OnErr}
use Rattle.std.proofs.Common.{refl, sym, ap, subst, ◌∙◌, append_assoc, append-nil, inl, inr}
use Rattle.cedar_repl.specs.Conversation.{AnswersEnded}
use Rattle.cedar_repl.specs.Order.{Call, Reads, Writes, Flushes, RecordsCalls, Passed, nothing, passed_by, passed, AreInTurn}
use Rattle.cedar_repl.specs.Order.{IsInOrder, Sends, SendsAtMost}
use Rattle.cedar_repl.specs.declared.conversation.Conversation.{Conversation}
use Rattle.cedar_repl.specs.declared.error_mode.ErrorMode.{ErrorMode}
use Rattle.cedar_repl.specs.declared.talking.TalkError.{TalkError}
use Rattle.cedar_repl.proofs.Pieces.{SoFar, answered}

notes_then : (a b c : Option (List Call)) (xs ys : List Call) → RecordsCalls a b xs → RecordsCalls b c ys → RecordsCalls a c (xs ++ ys)
notes_then None b c xs ys f g = tt
notes_then (Some a) None c xs ys f g = absurd f
notes_then (Some a) (Some b) None xs ys f g = absurd g
notes_then (Some a) (Some b) (Some c) xs ys f g = g ∙ ap (λ z. z ++ ys) f ∙ append_assoc a xs ys

pub notes_none : (a : Option (List Call)) → RecordsCalls a a []
notes_none None = tt
notes_none (Some a) = sym (append-nil a)

passed_then : (p : Passed) (cs ds : List Call) → passed p (cs ++ ds) ≡ passed (passed p cs) ds
unfolding passed
passed_then p [] ds = refl
passed_then p (c ∷ cs) ds = passed_then (passed_by p c) cs ds

turns_then : (m : ErrorMode) (p : Passed) (cs ds : List Call) → AreInTurn m p cs → AreInTurn m (passed p cs) ds
    → AreInTurn m p (cs ++ ds)
unfolding passed AreInTurn
turns_then m p [] ds a b = b
turns_then m p (c ∷ cs) ds a b = (a.0, turns_then m (passed_by p c) cs ds a.1 b)

-- The state after these bytes were received, and these were written and flushed.
abbrev stand : List ℕ → List ℕ → Passed
stand bytes out = record { came = bytes; written = out; flushed = out }

-- The state after a list of allowed calls.
abbrev pub StandsBehind : ErrorMode → Option (List Call) → Option (List Call) → List ℕ → List ℕ → Type 0
StandsBehind m c c' bytes out = (cs : List Call) × RecordsCalls c c' cs × AreInTurn m nothing cs
    × (passed nothing cs ≡ stand bytes out)

pub nothing_called : (m : ErrorMode) (c : Option (List Call)) → StandsBehind m c c [] []
unfolding passed AreInTurn
nothing_called m c = ([], notes_none c, tt, refl)

-- Further calls.
go_on : (m : ErrorMode) (c c' c'' : Option (List Call)) (bytes out : List ℕ) (ds : List Call)
    → StandsBehind m c c' bytes out → AreInTurn m (stand bytes out) ds → RecordsCalls c' c'' ds
    → (cs : List Call) × RecordsCalls c c'' cs × AreInTurn m nothing cs × (passed nothing cs ≡ passed (stand bytes out) ds)
go_on m c c' c'' bytes out ds s turns notes = (
  s.0 ++ ds,
  notes_then c c' c'' s.0 ds s.1 notes,
  turns_then m nothing s.0 ds s.2 (subst (λ p. AreInTurn m p ds) (sym s.3) turns),
  passed_then nothing s.0 ds ∙ ap (λ p. passed p ds) s.3,
)

-- ---- A read, and the calls after it

-- An allowed read.
pub record IsRead (m : ErrorMode) (c c' c'' : Option (List Call)) (bytes out piece : List ℕ) : Type 0 where
  pub before : StandsBehind m c c' bytes out
  pub answered : AnswersEnded m bytes out
  pub bound : length piece ≤ 4096
  pub call : RecordsCalls c' c'' (Reads piece ∷ [])

-- The outputs for all received lines were written, so a read is allowed.
pub read_in_turn : {S H : Type 0} (m : ErrorMode) (c c' c'' : Option (List Call)) (r r' w w' : Option (List ℕ))
    (k : Conversation S H) (piece : List ℕ) → k.manner ≡ m → (s : SoFar r r' w w' k) → StandsBehind m c c' s.0 s.1
    → length piece ≤ 4096 → RecordsCalls c' c'' (Reads piece ∷ []) → IsRead m c c' c'' s.0 s.1 piece
read_in_turn m c c' c'' r r' w w' k piece is s behind bound call =
    record {
      before = behind;
      answered = subst (λ n. AnswersEnded n s.0 s.1) is (answered k s.0 s.1 s.3);
      bound = bound;
      call = call;
    }

then_called : (m : ErrorMode) (c c' c'' c''' : Option (List Call)) (bytes out piece : List ℕ) (ds : List Call)
    → IsRead m c c' c'' bytes out piece → AreInTurn m (passed_by (stand bytes out) (Reads piece)) ds → RecordsCalls c'' c''' ds
    → (cs : List Call) × RecordsCalls c c''' cs × AreInTurn m nothing cs
    × (passed nothing cs ≡ passed (passed_by (stand bytes out) (Reads piece)) ds)
unfolding passed AreInTurn
then_called m c c' c'' c''' bytes out piece ds r turns notes =
    go_on m c c' c''' bytes out (Reads piece ∷ ds) r.before ((r.answered, refl, r.bound), turns)
    (notes_then c' c'' c''' (Reads piece ∷ []) ds r.call notes)

-- The outputs were written after the read.
pub more_called : (m : ErrorMode) (c c' c'' c''' : Option (List Call)) (bytes out piece more : List ℕ)
    → IsRead m c c' c'' bytes out piece → Sends c'' c''' more
    → StandsBehind m c c''' (bytes ++ piece) (out ++ more)
unfolding passed AreInTurn
more_called m c c' c'' c''' bytes out piece more r sends =
    then_called m c c' c'' c''' bytes out piece (Writes more ∷ Flushes ∷ []) r (tt, (tt, tt)) sends

-- ---- The end

-- Everything was written and flushed.
pub all_sent : (m : ErrorMode) (x : ℕ) (c c' : Option (List Call)) (bytes out : List ℕ)
    → StandsBehind m c c' bytes out → IsInOrder m (Ok x) c c'
all_sent m x c c' bytes out s = (s.0, s.1, s.2, ap (λ p. p.flushed) s.3 ∙ ap (λ p. p.written) (sym s.3))

-- An error before a read.
pub fault_before : (m : ErrorMode) (e : TalkError) (c c' : Option (List Call)) (bytes out : List ℕ)
    → StandsBehind m c c' bytes out → IsInOrder m (Err e) c c'
fault_before m e c c' bytes out s = (s.0, s.1, s.2, tt)

-- An error after a read.
pub fault_behind : (m : ErrorMode) (e : TalkError) (c c' c'' : Option (List Call)) (bytes out piece : List ℕ)
    → IsRead m c c' c'' bytes out piece → IsInOrder m (Err e) c c''
unfolding passed AreInTurn
fault_behind m e c c' c'' bytes out piece r =
    let a = then_called m c c' c'' c'' bytes out piece [] r tt (notes_none c'') in (a.0, a.1, a.2, tt)

-- An error while the outputs were written.
pub fault_sending : (m : ErrorMode) (e : TalkError) (c c' c'' c''' : Option (List Call)) (bytes out piece : List ℕ)
    → IsRead m c c' c'' bytes out piece → SendsAtMost c'' c''' → IsInOrder m (Err e) c c'''
unfolding passed AreInTurn
fault_sending m e c c' c'' c''' bytes out piece r (inl none) =
    let a = then_called m c c' c'' c''' bytes out piece [] r tt none in (a.0, a.1, a.2, tt)
fault_sending m e c c' c'' c''' bytes out piece r (inr some) =
    let a = then_called m c c' c'' c''' bytes out piece (Writes some.0 ∷ []) r (tt, tt) some.1 in (a.0, a.1, a.2, tt)

-- The output for the last line was written, or that failed.
pub finishes : (m : ErrorMode) (result : Result ℕ TalkError) (c c' c'' c''' : Option (List Call))
    (bytes out piece : List ℕ) → IsRead m c c' c'' bytes out piece
    → OnOk result ((more : List ℕ) × Sends c'' c''' more) → OnErr result (SendsAtMost c'' c''')
    → IsInOrder m result c c'''
finishes m (Ok x) c c' c'' c''' bytes out piece r sends fails =
    all_sent m x c c''' (bytes ++ piece) (out ++ sends.0)
    (more_called m c c' c'' c''' bytes out piece sends.0 r sends.1)
finishes m (Err e) c c' c'' c''' bytes out piece r sends fails =
    fault_sending m e c c' c'' c''' bytes out piece r fails
