-- The output of lines, one after another.
use Rattle.std.specs.Prelude.{◌≡◌, ℕ, suc, ◌+◌, ◌<◌, ◌≤◌, List, [], ◌∷◌, ◌++◌, length, true, false, Option, None, Some}
use Rattle.std.specs.Prelude.{IfSome}
use Rattle.std.proofs.Common.{sym, subst, refl, ap, ◌∙◌, append_assoc, inl, inr, arith}
use mathlib.Core.List.{append-nil}
use Rattle.std.specs.Borrow.{Bor}
use Rattle.std.specs.Option.{option_copied}
use Rattle.cedar_store.specs.laws.FirstLine.{lines_left}
use Rattle.cedar_store.specs.Output.{State, Written, after, IsOutputFrom, not_command}
use Rattle.cedar_store.specs.Sessions.{SessionView, IsInState, RunsLine}

after_after : (a b : List ℕ) (w : Written) → after a (after b w) ≡ after (a ++ b) w
after_after a b w = λ i. record { bytes = sym (append_assoc a b w.bytes) i; status = w.status }

-- Whether the output of the remaining lines, appended to the bytes written so far, satisfies `Q`.
abbrev pub Continues : (Written → Type 0) → ℕ → State → List (List ℕ) → List ℕ → Type 0
Continues Q n s ls out = (w : Written) → IsOutputFrom n s ls w → Q (after out w)

-- The number of remaining bytes plus 1, or 0 if no line is left.
abbrev pub bytes_left : Option (List ℕ) → ℕ
bytes_left None = 0
bytes_left (Some xs) = suc (length xs)

pub bytes_behind : (o : Option (Bor (List ℕ))) (k : ℕ) → IfSome o (λ xs. length xs.now < k)
    → bytes_left (option_copied o) ≤ k
bytes_behind None k h = omega arith
bytes_behind (Some xs) k h = omega (arith, h)

pub none_left : (o : Option (Bor (List ℕ))) → ((xs : Bor (List ℕ)) → o ≡ Some xs → ⊥)
    → lines_left (option_copied o) ≡ []
none_left None h = refl
none_left (Some xs) h = absurd (h xs refl)

-- The step of a line that is a command.
pub line_taken : (Q : Written → Type 0) (n : ℕ) (s : State) (m : SessionView) (old new l : List ℕ)
    (ls : List (List ℕ)) → RunsLine true l s m old new → Continues Q n s (l ∷ ls) old
    → (t : State) × IsInState m t × Continues Q (n + 1) t ls new
unfolding IsOutputFrom
line_taken Q n s m old new l ls h k =
    let t = h.1 in
    let out = h.2 in (
      t,
      h.5,
      λ w r. subst Q (after_after old out w ∙ ap (λ o. after o w) (sym h.6))
          (k (after out w) (inl (h.0, t, out, w, h.3, h.4, r, refl))),
    )

-- The end of a run at a line that is not a command.
pub line_refused : (Q : Written → Type 0) (n : ℕ) (s : State) (m : SessionView) (old new l : List ℕ)
    (ls : List (List ℕ)) → RunsLine false l s m old new → Continues Q n s (l ∷ ls) old
    → Q (record { bytes = new ++ not_command n; status = 2 })
unfolding IsOutputFrom
line_refused Q n s m old new l ls h k =
    subst (λ o. Q (record { bytes = o ++ not_command n; status = 2 })) (sym h.2)
    (k (record { bytes = not_command n; status = 2 }) (inr (h.0, refl)))

-- The end of a run after the last line.
pub lines_end : (Q : Written → Type 0) (n : ℕ) (s : State) (old : List ℕ) → Continues Q n s [] old
    → Q (record { bytes = old; status = 0 })
unfolding IsOutputFrom
lines_end Q n s old k =
    subst (λ o. Q (record { bytes = o; status = 0 })) (append-nil old) (k (record { bytes = []; status = 0 }) refl)
