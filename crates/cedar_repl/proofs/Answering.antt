-- The outputs for lines, one after another, as the output of a run.
use Rattle.std.proofs.Common.{◌≡◌, ℕ, ◌+◌, ◌==◌, List, [], ◌∷◌, ◌++◌, length, refl, sym, ap, subst, ◌∙◌, append_assoc}
use Rattle.std.proofs.Common.{append-nil, inl, inr, arith}
use Rattle.std.specs.List.{slice_split}
use Rattle.cedar_store.specs.Command.{Command, Nothing, IsLine}
use Rattle.cedar_store.specs.Output.{State, Written, start, after, not_command, IsOutput, IsOutputFrom}
use Rattle.cedar_repl.specs.Heard.{all_lines}
use Rattle.cedar_repl.specs.Conversation.{Answers, AnswersFrom, AnswersAll}
use Rattle.cedar_repl.specs.declared.error_mode.ErrorMode.{ErrorMode}
use Rattle.cedar_repl.specs.declared.error_mode.ErrorMode.TheVariants.{Strict}
use Rattle.cedar_repl.proofs.Parting.{heard_parts}

-- One more line is processed at the end.
pub answers_more : (m : ErrorMode) (n k : ℕ) (s t u : State) (lines : List (List ℕ)) (line out said : List ℕ)
    → k ≡ n + length lines
    → AnswersFrom m n s lines t out → Answers m k t line u said → AnswersFrom m n s (lines ++ line ∷ []) u (out ++ said)
unfolding AnswersFrom
answers_more m n k s t u [] line out said e h a =
    let is : k ≡ n = omega (arith, e) in (
      u,
      said,
      [],
      subst (λ r. Answers m n r line u said) h.0 (subst (λ j. Answers m j t line u said) is a),
      (refl, refl),
      ap (λ z. z ++ said) h.1 ∙ sym (append-nil said),
    )
answers_more m n k s t u (l ∷ lines) line out said e h a = (
  h.0,
  h.1,
  h.2 ++ said,
  h.3,
  answers_more m (n + 1) k h.0 t u lines line h.2 said (omega (arith, e)) h.4 a,
  ap (λ z. z ++ said) h.5 ∙ append_assoc h.1 h.2 said,
)

after_after : (a b : List ℕ) (w : Written) → after a (after b w) ≡ after (a ++ b) w
after_after a b w = λ i. record { bytes = sym (append_assoc a b w.bytes) i; status = w.status }

-- A strict output is the beginning of the output of a run.
pub begins_output : (n k : ℕ) (s t : State) (lines rest : List (List ℕ)) (out : List ℕ) (w : Written)
    → k ≡ n + length lines
    → AnswersFrom Strict n s lines t out → IsOutputFrom k t rest w → IsOutputFrom n s (lines ++ rest) (after out w)
unfolding AnswersFrom IsOutputFrom
begins_output n k s t [] rest out w e h r =
    let is : k ≡ n = omega (arith, e) in
    subst (λ o. IsOutputFrom n s rest (after o w)) (sym h.1)
    (subst (λ u. IsOutputFrom n u rest w) h.0 (subst (λ j. IsOutputFrom j t rest w) is r))
begins_output n k s t (l ∷ lines) rest out w e h r = elim h.3 [
  | inl c ↦ inl (
    c.0,
    h.0,
    h.1,
    after h.2 w,
    c.1,
    c.2,
    begins_output (n + 1) k h.0 t lines rest h.2 w (omega (arith, e)) h.4 r,
    ap (λ o. after o w) h.5 ∙ sym (after_after h.1 h.2 w),
  )
  | inr c ↦ absurd c.0
]

-- An empty line at the end has no output.
nothing_more : (n : ℕ) (s : State) → IsOutputFrom n s ([] ∷ []) (record { bytes = []; status = 0 })
unfolding IsOutputFrom
nothing_more n s = inl (Nothing, s, [], record { bytes = []; status = 0 }, (refl, refl), (refl, refl), refl, refl)

no_more : (n : ℕ) (s : State) → IsOutputFrom n s [] (record { bytes = []; status = 0 })
unfolding IsOutputFrom
no_more n s = refl

all_is_output : (lines : List (List ℕ)) (part out : List ℕ) (t : State)
    → AnswersFrom Strict 1 start (all_lines (record { lines = lines; part = part })) t out
    → IsOutputFrom 1 start (lines ++ part ∷ []) (record { bytes = out; status = 0 })
all_is_output lines [] out t a =
    subst (λ o. IsOutputFrom 1 start (lines ++ [] ∷ []) (record { bytes = o; status = 0 })) (append-nil out)
    (begins_output 1 (1 + length lines) start t lines ([] ∷ []) out (record { bytes = []; status = 0 }) refl a
    (nothing_more (1 + length lines) t))
all_is_output lines (b ∷ bs) out t a =
    let all = lines ++ (b ∷ bs) ∷ [] in
    subst (λ ls. IsOutputFrom 1 start ls (record { bytes = out; status = 0 })) (append-nil all)
    (subst (λ o. IsOutputFrom 1 start (all ++ []) (record { bytes = o; status = 0 })) (append-nil out)
    (begins_output 1 (1 + length all) start t all [] out (record { bytes = []; status = 0 }) refl a
    (no_more (1 + length all) t)))

-- The outputs for all lines of an input are the output of a run.
pub strict_output : (input out : List ℕ) → AnswersAll Strict input out
    → IsOutput input (record { bytes = out; status = 0 })
strict_output input out a =
    subst (λ ls. IsOutputFrom 1 start ls (record { bytes = out; status = 0 })) (sym (heard_parts input a.0 a.1))
    (all_is_output a.0.lines a.0.part out a.2.0 a.2.1)

refused_last : (n : ℕ) (s : State) (line : List ℕ) (rest : List (List ℕ)) → ((c : Command) → IsLine c line → ⊥)
    → IsOutputFrom n s (line ∷ rest) (record { bytes = not_command n; status = 2 })
unfolding IsOutputFrom
refused_last n s line rest none = inr (none, refl)

-- An invalid line ends the output of a run.
pub ends_output : (input : List ℕ) (lines rest : List (List ℕ)) (line out : List ℕ) (n : ℕ) (t : State)
    → slice_split (λ b. b == 10) input ≡ lines ++ line ∷ rest
    → n ≡ 1 + length lines → AnswersFrom Strict 1 start lines t out → ((c : Command) → IsLine c line → ⊥)
    → IsOutput input (record { bytes = out ++ not_command n; status = 2 })
ends_output input lines rest line out n t parts e a none =
    subst (λ ls. IsOutputFrom 1 start ls (record { bytes = out ++ not_command n; status = 2 })) (sym parts)
    (begins_output 1 n start t lines (line ∷ rest) out (record { bytes = not_command n; status = 2 }) e a
    (refused_last n t line rest none))
