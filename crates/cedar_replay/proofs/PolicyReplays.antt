-- The steps of a list of calls, one call after another.
use Rattle.std.specs.Prelude.{◌≡◌, ◌≤◌, ◌+◌, ◌<◌, suc, ℕ, List, [], ◌∷◌, ◌++◌, length}
use Rattle.std.proofs.Common.{ap, sym, subst, refl, ◌∙◌, arith}
use mathlib.Core.List.{append-nil}
use Rattle.std.proofs.lemmas.List.{append_assoc}
use Rattle.cedar_policy_maps.specs.PolicySets.{SetParts}
use Rattle.cedar_replay.specs.Replays.{IsStep, AreSteps}
use Rattle.cedar_replay.specs.declared.call.Answer.{Answer}
use Rattle.cedar_replay.specs.declared.call.PolicyCall.{PolicyCall}

-- Whether the results so far, followed by any results of the remaining calls, are the results of all calls.
abbrev pub Continues : {S H : Type 0} → List (PolicyCall S H) → SetParts → List (PolicyCall S H) → List (Answer S H)
    → SetParts → Type 0
Continues {S} {H} all start left done now =
    (more : List (Answer S H)) (end : SetParts) → AreSteps left more now end → AreSteps all (done ++ more) start end

-- The step for one more call.
pub continues_more : {S H : Type 0} → (all left rest : List (PolicyCall S H)) (start now next : SetParts)
    (done new : List (Answer S H)) (c : PolicyCall S H) (a : Answer S H) → left ≡ c ∷ rest → new ≡ done ++ a ∷ []
    → IsStep c a now next → Continues all start left done now → Continues all start rest new next
continues_more all left rest start now next done new c a cut put step k more end h =
    subst (λ l. AreSteps all l start end) (sym (append_assoc done (a ∷ []) more) ∙ ap (λ l. l ++ more) (sym put))
    (k (a ∷ more) end (subst (λ l. AreSteps l (a ∷ more) now end) (sym cut) (next, step, h)))

-- The end, when no call is left.
pub continues_end : {S H : Type 0} → (all left : List (PolicyCall S H)) (start now : SetParts) (done : List (Answer S
    H)) → left ≡ [] → Continues all start left done now → AreSteps all done start now
continues_end all left start now done none k =
    subst (λ l. AreSteps all l start now) (append-nil done)
    (k [] now (subst (λ l. AreSteps l [] now now) (sym none) refl))

-- There are as many results as calls.
pub steps_count : {S H : Type 0} → (cs : List (PolicyCall S H)) (answers : List (Answer S H)) (old new : SetParts)
    → AreSteps cs answers old new → length answers ≡ length cs
steps_count [] [] old new h = refl
steps_count [] (a ∷ rest) old new h = absurd h
steps_count (c ∷ cs) [] old new h = absurd h
steps_count (c ∷ cs) (a ∷ rest) old new h = ap suc (steps_count cs rest h.0 new h.2)

-- Space for one more result.
pub room_more : {S H : Type 0} → (left rest : List (PolicyCall S H)) (c : PolicyCall S H) (len new capacity grown : ℕ)
    → left ≡ c ∷ rest → len + length left ≤ capacity → new ≡ len + 1 → capacity ≤ grown
    → new + length rest ≤ grown
room_more left rest c len new capacity grown cut room put more = let e = ap length cut in omega arith

pub room_now : {S H : Type 0} → (left rest : List (PolicyCall S H)) (c : PolicyCall S H) (len capacity : ℕ)
    → left ≡ c ∷ rest → len + length left ≤ capacity → len < capacity
room_now left rest c len capacity cut room = let e = ap length cut in omega arith

-- The state at the start.
pub continues_start : {S H : Type 0} → (all left : List (PolicyCall S H)) (start : SetParts) (done : List (Answer S H))
    → left ≡ all → done ≡ [] → Continues all start left done start
continues_start all left start done same none more end h =
    subst (λ l. AreSteps all l start end) (ap (λ l. l ++ more) (sym none))
    (subst (λ l. AreSteps l more start end) same h)

-- A list of length zero is empty.
pub none_left : {X : Type 0} (xs : List X) (len : ℕ) → len ≡ length xs → len ≡ 0 → xs ≡ []
none_left [] len same none = refl
none_left (x ∷ xs) len same none = absurd (omega arith)

pub room_start : {S H : Type 0} → (all left : List (PolicyCall S H)) (len count now capacity : ℕ) → left ≡ all
    → count ≡ length all → len ≡ count → now ≡ 0 → len ≤ capacity → now + length left ≤ capacity
room_start all left len count now capacity same count_is len_is none room = let e = ap length same in omega arith
