-- A conversation over a reader and a writer, after one more read and at its end.
use Rattle.std.proofs.Common.{◌≡◌, ◌≤◌, ℕ, List, [], ◌++◌, Option, Some, None, Result, Ok, Err, IfSome, IfOk}
use Rattle.std.proofs.Common.{IfErr, refl, sym, ap, subst, ◌∙◌, append_assoc, append-nil, inl, inr, true, false}
use Rattle.std.proofs.Common.{length, arith}
use Rattle.std.specs.Io.KnownBytes.{Appends, Consumes, IsAtEnd, Keeps}
use Rattle.cedar_store.specs.Output.{IsOutput}
use Rattle.cedar_repl.specs.Conversation.{AnswersEnded, AnswersAll, Leaves, RespondsToReadLines}
use Rattle.cedar_repl.specs.laws.Hearing.{Has, Hears}
use Rattle.cedar_repl.specs.laws.Talking.{Finishes, Converses, IsReadFault, IsWriteFault}
use Rattle.cedar_repl.specs.declared.conversation.Conversation.{Conversation}
use Rattle.cedar_repl.specs.declared.error_mode.ErrorMode.{ErrorMode}
use Rattle.cedar_repl.specs.declared.error_mode.ErrorMode.TheVariants.{Lenient, Strict}
use Rattle.cedar_repl.specs.declared.talking.TalkError.{TalkError}
use Rattle.cedar_repl.specs.declared.talking.TalkError.TheVariants.{Read, Write, Memory}
use Rattle.cedar_repl.proofs.Answering.{strict_output}

-- ---- The bytes that a reader returns and a writer receives, piece by piece

pub reads_then : (r s t : Option (List ℕ)) (xs ys : List ℕ) → Consumes r s xs → Consumes s t ys
    → Consumes r t (xs ++ ys)
reads_then None s t xs ys f g = tt
reads_then (Some a) None t xs ys f g = absurd f
reads_then (Some a) (Some b) None xs ys f g = absurd g
reads_then (Some a) (Some b) (Some c) xs ys f g = f ∙ ap (λ z. xs ++ z) g ∙ sym (append_assoc xs ys c)

pub reads_none : (r : Option (List ℕ)) → Consumes r r []
reads_none None = tt
reads_none (Some a) = refl

-- A failed read consumes nothing.
reads_kept : (r s t : Option (List ℕ)) (xs : List ℕ) → Consumes r s xs → Keeps s t → Consumes r t xs
reads_kept None s t xs f g = tt
reads_kept (Some a) None t xs f g = absurd f
reads_kept (Some a) (Some b) None xs f g = absurd g
reads_kept (Some a) (Some b) (Some c) xs f g = f ∙ ap (λ z. xs ++ z) (sym g)

pub writes_then : (r s t : Option (List ℕ)) (xs ys : List ℕ) → Appends r s xs → Appends s t ys → Appends r t (xs ++ ys)
writes_then None s t xs ys f g = tt
writes_then (Some a) None t xs ys f g = absurd f
writes_then (Some a) (Some b) None xs ys f g = absurd g
writes_then (Some a) (Some b) (Some c) xs ys f g = g ∙ ap (λ z. z ++ ys) f ∙ append_assoc a xs ys

pub writes_none : (r : Option (List ℕ)) → Appends r r []
writes_none None = tt
writes_none (Some a) = sym (append-nil a)

-- ---- The bytes read and written so far

abbrev pub SoFar : {S H : Type 0} → Option (List ℕ) → Option (List ℕ) → Option (List ℕ) → Option (List ℕ)
    → Conversation S H → Type 0
SoFar r r' w w' k = (bytes : List ℕ) × (out : List ℕ) × Consumes r r' bytes × Has k bytes out × Appends w w' out

unfoldable pub nothing_yet : {S H : Type 0} (r w : Option (List ℕ)) (k : Conversation S H) → Has k [] [] → SoFar r r w w k
nothing_yet r w k h = ([], [], reads_none r, h, writes_none w)

-- The outputs so far.
pub answered : {S H : Type 0} (k : Conversation S H) (bytes out : List ℕ) → Has k bytes out
    → AnswersEnded k.manner bytes out
answered k bytes out h = (h.heard, h.is_heard, (h.state, h.answers))

-- One more piece was read, and its outputs were written.
unfoldable pub one_more : {S H : Type 0} (r r' r'' w w' w'' : Option (List ℕ)) (k l : Conversation S H) (piece out : List ℕ)
    → SoFar r r' w w' k → Consumes r' r'' piece → Hears true k piece l [] out → Appends w' w'' out → SoFar r r'' w w'' l
one_more r r' r'' w w' w'' k l piece out s read hears sent = (
  s.0 ++ piece,
  s.1 ++ out,
  reads_then r r' r'' s.0 piece s.2 read,
  hears.1 s.0 s.1 (subst (Has k s.0) (sym (append-nil s.1)) s.3),
  writes_then w w' w'' s.1 out s.4 sent,
)

-- A read fails.
pub read_fails : {S H : Type 0} (m : ErrorMode) (e : TalkError) (r r' r'' w w' : Option (List ℕ)) (k : Conversation S H)
    → IsReadFault e → k.manner ≡ m
    → SoFar r r' w w' k → Keeps r' r'' → Leaves m e r r'' w w'
read_fails m Read r r' r'' w w' k f is s kept = (
  s.0,
  s.1,
  reads_kept r r' r'' s.0 s.2 kept,
  subst (λ n. AnswersEnded n s.0 s.1) is (answered k s.0 s.1 s.3),
  s.4,
)
read_fails m Write r r' r'' w w' k f is s kept = absurd f
read_fails m Memory r r' r'' w w' k f is s kept = absurd f

-- No further read is made.
pub reads_end : {S H : Type 0} (m : ErrorMode) (r r' w w' : Option (List ℕ)) (k : Conversation S H) → k.manner ≡ m
    → SoFar r r' w w' k → Leaves m Read r r' w w'
reads_end m r r' w w' k is s = (s.0, s.1, s.2, subst (λ n. AnswersEnded n s.0 s.1) is (answered k s.0 s.1 s.3), s.4)

-- An allocation for the last piece fails.
pub memory_fails : {S H : Type 0} (m : ErrorMode) (e : TalkError) (r r' r'' w w' : Option (List ℕ)) (k : Conversation S H)
    (piece : List ℕ) → e ≡ Memory → k.manner ≡ m
    → SoFar r r' w w' k → Consumes r' r'' piece → length piece ≤ 4096 → Leaves m e r r'' w w'
memory_fails m e r r' r'' w w' k piece f is s read most =
    subst (λ d. Leaves m d r r'' w w') (sym f) (
      s.0,
      piece,
      s.1,
      reads_then r r' r'' s.0 piece s.2 read,
      most,
      subst (λ n. AnswersEnded n s.0 s.1) is (answered k s.0 s.1 s.3),
      s.4,
    )

-- A write fails.
pub write_fails : (m : ErrorMode) (e : TalkError) (r r' w w' : Option (List ℕ)) → IsWriteFault e → Leaves m e r r' w w'
write_fails m Read r r' w w' f = absurd f
write_fails m Write r r' w w' f = tt
write_fails m Memory r r' w w' f = absurd f

-- At the end of the input an allocation fails before anything is written, or a write fails.
pub memory_finishes : {S H : Type 0} (e : TalkError) (k : Conversation S H) (w w' : Option (List ℕ)) → e ≡ Memory
    → w' ≡ w → Finishes (Err e) k w w'
memory_finishes e k w w' f same = subst (λ d. Finishes (Err d) k w w') (sym f) same

pub write_finishes : {S H : Type 0} (e : TalkError) (k : Conversation S H) (w w' : Option (List ℕ)) → IsWriteFault e
    → Finishes (Err e) k w w'
write_finishes Read k w w' f = absurd f
write_finishes Write k w w' f = tt
write_finishes Memory k w w' f = absurd f

-- A property of the read bytes with any continuation is a property of the whole input.
of_all : (Q : List ℕ → Type 0) (r r' : Option (List ℕ)) (bytes : List ℕ) → Consumes r r' bytes
    → ((rest : List ℕ) → Q (bytes ++ rest)) → IfSome r Q
of_all Q None r' bytes c q = tt
of_all Q (Some a) None bytes c q = absurd c
of_all Q (Some a) (Some b) bytes c q = subst Q (sym c) (q b)

-- At the end, a property of the read bytes is a property of the whole input.
pub of_whole : (Q : List ℕ → Type 0) (r r' : Option (List ℕ)) (bytes : List ℕ) → Consumes r r' bytes → IsAtEnd r'
    → Q bytes → IfSome r Q
of_whole Q None r' bytes c end q = tt
of_whole Q (Some a) None bytes c end q = absurd c
of_whole Q (Some a) (Some b) bytes c end q = subst Q (sym (c ∙ ap (λ z. bytes ++ z) end ∙ append-nil bytes)) q

-- A line ends the conversation.
pub line_stops : {S H : Type 0} (m : ErrorMode) (r r' r'' w w' w'' : Option (List ℕ)) (k l : Conversation S H)
    (piece out : List ℕ) → k.manner ≡ m
    → SoFar r r' w w' k → Consumes r' r'' piece → Hears false k piece l [] out → Appends w' w'' out
    → length piece ≤ 4096 → Converses m (Ok 2) r r'' w w''
line_stops m r r' r'' w w' w'' k l piece out e s read hears sent most = (
  s.0 ++ piece,
  s.1 ++ out,
  reads_then r r' r'' s.0 piece s.2 read,
  writes_then w w' w'' s.1 out s.4 sent,
  inr (
    refl,
    sym e ∙ (hears s.0 s.1 [] (subst (Has k s.0) (sym (append-nil s.1)) s.3)).0,
    of_all (λ input. IsOutput input (record { bytes = s.1 ++ out; status = 2 })) r r'' (s.0 ++ piece)
        (reads_then r r' r'' s.0 piece s.2 read)
        (λ rest. (hears s.0 s.1 rest (subst (Has k s.0) (sym (append-nil s.1)) s.3)).1),
    (
      s.0,
      piece,
      s.1,
      reads_then r r' r'' s.0 piece s.2 read,
      most,
      subst (λ n. AnswersEnded n s.0 s.1) e (answered k s.0 s.1 s.3),
    ),
  ),
)

-- The input ends.
pub input_ends : {S H : Type 0} (m : ErrorMode) (r r' r'' w w' w'' : Option (List ℕ)) (k : Conversation S H)
    (result : Result ℕ TalkError) → k.manner ≡ m
    → SoFar r r' w w' k → Consumes r' r'' [] → IsAtEnd r'' → Finishes result k w' w'' → Converses m result r r'' w w''
input_ends m r r' r'' w w' w'' k (Ok status) e s read end f =
    let all = subst (Consumes r r'') (append-nil s.0) (reads_then r r' r'' s.0 [] s.2 read) in (
      s.0,
      s.1 ++ f.0,
      all,
      writes_then w w' w'' s.1 f.0 s.4 f.1,
      elim f.2 [
        | inl a ↦ inl (a.0, end, subst (λ n. AnswersAll n s.0 (s.1 ++ f.0)) e (a.1 s.0 s.1 s.3))
        | inr a ↦ inr (
          a.0,
          sym e ∙ (a.1 s.0 s.1 s.3).0,
          of_whole (λ input. IsOutput input (record { bytes = s.1 ++ f.0; status = 2 })) r r'' s.0 all end
              (a.1 s.0 s.1 s.3).1,
          (
            s.0,
            [],
            s.1,
            reads_then r r' r'' s.0 [] s.2 read,
            omega arith,
            subst (λ n. AnswersEnded n s.0 s.1) e (answered k s.0 s.1 s.3),
          ),
        )
      ],
    )
input_ends m r r' r'' w w' w'' k (Err Read) e s read end f = absurd f
input_ends m r r' r'' w w' w'' k (Err Write) e s read end f = tt
input_ends m r r' r'' w w' w'' k (Err Memory) e s read end f =
    memory_fails m Memory r r' r'' w w'' k [] refl e (subst (λ v. SoFar r r' w v k) (sym f) s) read (omega arith)

-- ---- The clauses of `talk`

with_output : (q w w' : Option (List ℕ)) (out : List ℕ) (n : ℕ)
    → IfSome q (λ input. IsOutput input (record { bytes = out; status = 2 })) → n ≡ 2 → Appends w w' out
    → IfSome q (λ input. (bytes : List ℕ) × IsOutput input (record { bytes = bytes; status = n }) × Appends w w' bytes)
with_output None w w' out n o is sent = tt
with_output (Some input) w w' out n o is sent =
    (out, subst (λ k. IsOutput input (record { bytes = out; status = k })) (sym is) o, sent)

pub is_strict : (m : ErrorMode) (result : Result ℕ TalkError) (r r' w w' : Option (List ℕ)) → Converses m result r r' w w'
    → m ≡ Strict
    → IfOk result
    (λ status. IfSome r (λ input. (bytes : List ℕ) × IsOutput input (record { bytes = bytes; status = status })
    × Appends w w' bytes))
is_strict m (Ok status) r r' w w' c e = elim c.4 [
  | inl a ↦ of_whole (λ input. (bytes : List ℕ) × IsOutput input (record { bytes = bytes; status = status })
      × Appends w w' bytes) r r' c.0 c.2 a.1 (
        c.1,
        subst (λ n. IsOutput c.0 (record { bytes = c.1; status = n })) (sym a.0)
            (strict_output c.0 c.1 (subst (λ n. AnswersAll n c.0 c.1) e a.2)),
        c.3,
      )
  | inr a ↦ with_output r w w' c.1 status a.2 a.0 c.3
]
is_strict m (Err f) r r' w w' c e = tt

lenient_or_strict : Lenient ≡ Strict → ⊥
lenient_or_strict e = cc

pub is_lenient : (m : ErrorMode) (result : Result ℕ TalkError) (r r' w w' : Option (List ℕ)) → Converses m result r r' w w'
    → m ≡ Lenient
    → IfOk result (λ status. (status ≡ 0)
    × IfSome r (λ input. (bytes : List ℕ) × AnswersAll Lenient input bytes × Appends w w' bytes))
is_lenient m (Ok status) r r' w w' c e = elim c.4 [
  | inl a ↦ (
    a.0,
    of_whole (λ input. (bytes : List ℕ) × AnswersAll Lenient input bytes × Appends w w' bytes) r r' c.0 c.2 a.1
        (c.1, subst (λ n. AnswersAll n c.0 c.1) e a.2, c.3),
  )
  | inr a ↦ absurd (lenient_or_strict (sym e ∙ a.1))
]
is_lenient m (Err e) r r' w w' c is = tt

zero_or_two : (n : ℕ) → n ≡ 0 → n ≡ 2 → ⊥
zero_or_two n z t = let e : 0 ≡ 2 = sym z ∙ t in cc

pub is_at_end : (m : ErrorMode) (result : Result ℕ TalkError) (r r' w w' : Option (List ℕ)) → Converses m result r r' w w'
    → IfOk result (λ status. status ≡ 0 → IsAtEnd r')
is_at_end m (Ok status) r r' w w' c = elim c.4 [
  | inl a ↦ λ z. a.1
  | inr a ↦ λ z. absurd (zero_or_two status z a.0)
]
is_at_end m (Err e) r r' w w' c = tt

pub is_fault : (m : ErrorMode) (result : Result ℕ TalkError) (r r' w w' : Option (List ℕ)) → Converses m result r r' w w'
    → IfErr result (λ e. Leaves m e r r' w w')
is_fault m (Ok status) r r' w w' c = tt
is_fault m (Err e) r r' w w' c = c

pub is_near : (m : ErrorMode) (result : Result ℕ TalkError) (r r' w w' : Option (List ℕ)) → Converses m result r r' w w'
    → IfOk result (λ status. status ≡ 2 → RespondsToReadLines m r r')
is_near m (Ok status) r r' w w' c = elim c.4 [
  | inl a ↦ λ t. absurd (zero_or_two status a.0 t)
  | inr a ↦ λ t. a.3
]
is_near m (Err e) r r' w w' c = tt
