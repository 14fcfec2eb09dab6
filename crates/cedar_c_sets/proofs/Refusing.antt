-- An error of a step, as the caller receives it.
use Rattle.std.specs.Prelude.{◌≡◌, ◌⊎◌, ℕ, List, ◌∷◌, Bool, false, ◌++◌, IfOk, MatchResult, Option, Some, None, Result}
use Rattle.std.specs.Prelude.{Ok, Err}
use Rattle.std.proofs.Common.{ap, sym, subst, ◌∙◌, inl, inr, arith}
use Rattle.cedar_policy_maps.specs.PolicySets.{SetParts, Binding}
use Rattle.cedar_policy_merge.specs.Merge.{Merges, conflicts}
use Rattle.cedar_policy_set.specs.Refusals.{IsRefusal, set_error_of}
use Rattle.cedar_policy_set.specs.Steps.{Refusal, occupied, no_body, no_such_template, arity, not_an_action}
use Rattle.cedar_policy_set.specs.Steps.{id_conflict, no_link, not_a_link, no_template, with_links, not_a_template}
use Rattle.cedar_policy_set.specs.Steps.{no_static, not_static}
use Rattle.cedar_policy_set_errors.specs.declared.err.PolicySetError.{PolicySetError}
use Rattle.cedar_policy_set_errors.specs.declared.err.PolicySetError.TheVariants.{Occupied, Memory}
use Rattle.cedar_c_lists.specs.Reasons.{number_of, words_of}
use Rattle.cedar_c_lists.specs.declared.reason.Reason.{Reason}
use Rattle.cedar_c_lists.specs.declared.reason.Reason.TheVariants as reasons
use Rattle.cedar_c_sets.specs.Sets.{IsErrorTextBy, IsErrorTextFor, name_in_error, reason_of, after_removal}
use Rattle.cedar_c_sets.specs.declared.error_text.ErrorText.{ErrorText}

-- The error of a removal is the error of its step, or an allocation failure.
pub told_taking : {E : Type 0} (o : Option Refusal) (step : Result Binding Refusal) (b : SetParts) (i : List ℕ)
    (told : Result ErrorText E) (w : Reason) (before text : List ℕ) → IsRefusal o step
    → IfOk told (λ t. IsErrorTextFor o t.reason t.text.items)
    → MatchResult told (λ t. (w ≡ t.reason) × (text ≡ t.text.items)) (λ _. (w ≡ reasons.NoMemory) × (text ≡ before))
    → (w ≡ reasons.NoMemory) ⊎ ((x : Refusal) × (after_removal b i step ≡ Err x) × IsErrorTextBy x w text)
told_taking o step b i (Err e) w before text r t h = inl h.0
told_taking None step b i (Ok told) w before text r t h = absurd t
told_taking (Some x) step b i (Ok told) w before text r t h =
    inr (x, ap (after_removal b i) r, (h.0 ∙ t.0, λ n. h.1 ∙ t.1 n ∙ ap (λ v. words_of v ++ (32 ∷ name_in_error x)) (sym h.0)))

-- The error of an addition is the error of its step, or an allocation failure.
pub told_step : {B E : Type 0} (o : Option Refusal) (step : Result B Refusal) (told : Result ErrorText E) (w : Reason)
    (before text : List ℕ) → IsRefusal o step
    → IfOk told (λ t. IsErrorTextFor o t.reason t.text.items)
    → MatchResult told (λ t. (w ≡ t.reason) × (text ≡ t.text.items)) (λ _. (w ≡ reasons.NoMemory) × (text ≡ before))
    → (w ≡ reasons.NoMemory) ⊎ ((x : Refusal) × (step ≡ Err x) × IsErrorTextBy x w text)
told_step o step (Err e) w before text r t h = inl h.0
told_step None step (Ok told) w before text r t h = absurd t
told_step (Some x) step (Ok told) w before text r t h =
    inr (x, r, (h.0 ∙ t.0, λ n. h.1 ∙ t.1 n ∙ ap (λ v. words_of v ++ (32 ∷ name_in_error x)) (sym h.0)))

-- The error of a merge names the first conflicting id, or is an allocation failure.
merging_told : {A E : Type 0} (entries : A → List (List ℕ × List ℕ)) (e : PolicySetError) (copy now other : SetParts)
    (rename : Bool) (new : SetParts) (told : Result ErrorText E) (w : Reason) (before text : List ℕ) → copy ≡ now
    → Merges entries (Err e) copy other rename new
    → IfOk told (λ t. IsErrorTextFor (set_error_of e) t.reason t.text.items)
    → MatchResult told (λ t. (w ≡ t.reason) × (text ≡ t.text.items)) (λ _. (w ≡ reasons.NoMemory) × (text ≡ before))
    → (w ≡ reasons.NoMemory) ⊎ ((rename ≡ false)
    × ((id : List ℕ) × (rest : List (List ℕ)) × (conflicts now other ≡ id ∷ rest)
    × IsErrorTextBy (occupied id) w text))
merging_told entries e copy now other rename new (Err f) w before text is m t h = inl h.0
merging_told entries Memory copy now other rename new (Ok told) w before text is m t h = absurd t
merging_told entries (Occupied i) copy now other rename new (Ok told) w before text is m t h =
    inr (
      m.1,
      (
        i,
        m.2,
        ap (λ b. conflicts b other) (sym is) ∙ m.3,
        (h.0 ∙ t.0, λ n. h.1 ∙ t.1 n ∙ ap (λ v. words_of v ++ (32 ∷ name_in_error (occupied i))) (sym h.0)),
      ),
    )

pub told_merging : {A E : Type 0} (entries : A → List (List ℕ × List ℕ)) (r : Result A PolicySetError)
    (e : PolicySetError) (copy now other : SetParts) (rename : Bool) (new : SetParts) (told : Result ErrorText E) (w :
    Reason)
    (before text : List ℕ) → r ≡ Err e → copy ≡ now
    → Merges entries r copy other rename new
    → IfOk told (λ t. IsErrorTextFor (set_error_of e) t.reason t.text.items)
    → MatchResult told (λ t. (w ≡ t.reason) × (text ≡ t.text.items)) (λ _. (w ≡ reasons.NoMemory) × (text ≡ before))
    → (w ≡ reasons.NoMemory) ⊎ ((rename ≡ false)
    × ((id : List ℕ) × (rest : List (List ℕ)) × (conflicts now other ≡ id ∷ rest)
    × IsErrorTextBy (occupied id) w text))
told_merging entries r e copy now other rename new told w before text err is m t h =
    merging_told entries e copy now other rename new told w before text is
    (subst (λ x. Merges entries x copy other rename new) err m) t h

-- No error has the reason of an allocation failure.
no_memory_told : (x : Refusal) → reason_of x ≡ reasons.NoMemory → ⊥
no_memory_told (occupied i) m = absurd (omega (arith, ap number_of m))
no_memory_told (no_body i) m = absurd (omega (arith, ap number_of m))
no_memory_told (no_such_template i) m = absurd (omega (arith, ap number_of m))
no_memory_told (arity u x) m = absurd (omega (arith, ap number_of m))
no_memory_told (not_an_action u) m = absurd (omega (arith, ap number_of m))
no_memory_told (id_conflict i) m = absurd (omega (arith, ap number_of m))
no_memory_told (no_link i) m = absurd (omega (arith, ap number_of m))
no_memory_told (not_a_link i) m = absurd (omega (arith, ap number_of m))
no_memory_told (no_template i) m = absurd (omega (arith, ap number_of m))
no_memory_told (with_links i) m = absurd (omega (arith, ap number_of m))
no_memory_told (not_a_template i) m = absurd (omega (arith, ap number_of m))
no_memory_told (no_static i) m = absurd (omega (arith, ap number_of m))
no_memory_told (not_static i) m = absurd (omega (arith, ap number_of m))

-- The text of the last error does not change after an allocation failure.
pub kept_before : {E : Type 0} (o : Option Refusal) (told : Result ErrorText E) (w : Reason) (before text : List ℕ)
    → IfOk told (λ t. IsErrorTextFor o t.reason t.text.items)
    → MatchResult told (λ t. (w ≡ t.reason) × (text ≡ t.text.items)) (λ _. (w ≡ reasons.NoMemory) × (text ≡ before))
    → w ≡ reasons.NoMemory → text ≡ before
kept_before o (Err e) w before text t h m = h.1
kept_before None (Ok told) w before text t h m = absurd t
kept_before (Some x) (Ok told) w before text t h m = absurd (no_memory_told x (sym t.0 ∙ sym h.0 ∙ m))

-- A call that fails leaves the texts of the results unchanged, and the text of the last error after an allocation
-- failure.
pub texts_kept : {X Y E : Type 0} (o : Option Refusal) (told : Result ErrorText E) (w : Reason) (before text : List ℕ)
    → X → Y → IfOk told (λ t. IsErrorTextFor o t.reason t.text.items)
    → MatchResult told (λ t. (w ≡ t.reason) × (text ≡ t.text.items)) (λ _. (w ≡ reasons.NoMemory) × (text ≡ before))
    → X × Y × (w ≡ reasons.NoMemory → text ≡ before)
texts_kept o told w before text x y t h = (x, y, kept_before o told w before text t h)
