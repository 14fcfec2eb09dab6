-- No input has two outputs.
use Rattle.std.specs.Prelude.{◌≡◌, ℕ, ◌+◌, List, [], ◌∷◌, codes, Bool, true, false, Some, None}
use Rattle.std.proofs.Common.{ap, sym, refl, subst, ◌∙◌, inl, inr}
use Rattle.std.proofs.lemmas.Bool.{false≢true}
use Rattle.cedar_ids.specs.declared.entity.EntityUID.{EntityUID}
use Rattle.cedar_entity_lines.specs.EntityCommand.{EntityCommand, Ent, Build, Add, Upsert, Remove, Slice, Anc}
use Rattle.cedar_entity_lines.specs.EntityCommand.{AreFields, IsEntityCommand}
use Rattle.cedar_entity_lines.specs.laws.OneAnswer.{one_entity_gives}
use Rattle.cedar_entity_lines.specs.laws.ReadCommands.{one_entity_command}
use Rattle.cedar_policy_lines.specs.PolicyCommand.{PolicyCommand, IsPolicyCommand}
use Rattle.cedar_policy_lines.specs.laws.OneAnswer.{one_policy_gives}
use Rattle.cedar_policy_lines.specs.laws.PolicyReading.{policy_command}
use Rattle.cedar_policy_lines.specs.laws.ReadCommands.{command_is_read}
use Rattle.cedar_store.specs.Command.{Command, Nothing, Entity, Policy, IsCommand}
use Rattle.cedar_store.specs.Output.{State, Written, RunsCommand, IsOutput, IsOutputFrom, after}

-- ---- Fields are at most one command

-- Fields that begin with a word of no command on policy sets are not such a command.
none_behind : (w : List ℕ) (us : List EntityUID) (fs : List (List ℕ))
    → ((ts : List (List ℕ)) → policy_command (w ∷ ts) ≡ None) → AreFields w us fs → policy_command fs ≡ None
none_behind w us [] none h = absurd h
none_behind w us (f ∷ fs) none h = ap (λ v. policy_command (v ∷ fs)) h.0 ∙ none fs

none_read : (fs : List (List ℕ)) (c : PolicyCommand) → policy_command fs ≡ None → IsPolicyCommand c fs → ⊥
none_read fs c e h = let g : None ≡ Some c = sym e ∙ command_is_read c fs h in cc

-- The fields of a command on the store are not a command on policy sets.
no_policy : (c : EntityCommand) (fs : List (List ℕ)) → IsEntityCommand c fs → policy_command fs ≡ None
no_policy (Ent u ps) fs h = none_behind (codes "ent") (u ∷ ps) fs (λ ts. refl) h
no_policy Build fs h = none_behind (codes "build") [] fs (λ ts. refl) h
no_policy Add fs h = none_behind (codes "add") [] fs (λ ts. refl) h
no_policy Upsert fs h = none_behind (codes "upsert") [] fs (λ ts. refl) h
no_policy (Remove us) fs h = none_behind (codes "remove") us fs (λ ts. refl) h.0
no_policy (Slice us) fs h = none_behind (codes "slice") us fs (λ ts. refl) h.0
no_policy (Anc u) fs h = none_behind (codes "anc") (u ∷ []) fs (λ ts. refl) h

both : (c : EntityCommand) (d : PolicyCommand) (fs : List (List ℕ)) → IsEntityCommand c fs → IsPolicyCommand d fs → ⊥
both c d fs h k = none_read fs d (no_policy c fs h) k

-- Whether a field is empty. No command on the store has an empty word.
abbrev is_empty : List ℕ → Bool
is_empty [] = true
is_empty (x ∷ xs) = false

not_empty : (w : List ℕ) (us : List EntityUID) → is_empty w ≡ false → AreFields w us ([] ∷ []) → ⊥
not_empty w us e h = false≢true (sym e ∙ sym (ap is_empty h.0))

no_entity : (c : EntityCommand) → IsEntityCommand c ([] ∷ []) → ⊥
no_entity (Ent u ps) h = not_empty (codes "ent") (u ∷ ps) refl h
no_entity Build h = not_empty (codes "build") [] refl h
no_entity Add h = not_empty (codes "add") [] refl h
no_entity Upsert h = not_empty (codes "upsert") [] refl h
no_entity (Remove us) h = not_empty (codes "remove") us refl h.0
no_entity (Slice us) h = not_empty (codes "slice") us refl h.0
no_entity (Anc u) h = not_empty (codes "anc") (u ∷ []) refl h

nothing_or_entity : (c : EntityCommand) (fs : List (List ℕ)) → fs ≡ [] ∷ [] → IsEntityCommand c fs → ⊥
nothing_or_entity c fs e h = no_entity c (subst (IsEntityCommand c) e h)

nothing_or_policy : (c : PolicyCommand) (fs : List (List ℕ)) → fs ≡ [] ∷ [] → IsPolicyCommand c fs → ⊥
nothing_or_policy c fs e h = none_read ([] ∷ []) c refl (subst (IsPolicyCommand c) e h)

same_policy : (c d : PolicyCommand) (fs : List (List ℕ)) → IsPolicyCommand c fs → IsPolicyCommand d fs → c ≡ d
same_policy c d fs h k = one_some (sym (command_is_read c fs h) ∙ command_is_read d fs k)
  where
    one_some : {X : Type 0} {x y : X} → Some x ≡ Some y → x ≡ y
    one_some e = cc

-- Fields are at most one command.
one_command : (c d : Command) (fs : List (List ℕ)) → IsCommand c fs → IsCommand d fs → c ≡ d
one_command Nothing Nothing fs h k = refl
one_command Nothing (Entity d) fs h k = absurd (nothing_or_entity d fs h k)
one_command Nothing (Policy d) fs h k = absurd (nothing_or_policy d fs h k)
one_command (Entity c) Nothing fs h k = absurd (nothing_or_entity c fs k h)
one_command (Entity c) (Entity d) fs h k = ap Entity (one_entity_command c d fs h k)
one_command (Entity c) (Policy d) fs h k = absurd (both c d fs h k)
one_command (Policy c) Nothing fs h k = absurd (nothing_or_policy c fs k h)
one_command (Policy c) (Entity d) fs h k = absurd (both d c fs k h)
one_command (Policy c) (Policy d) fs h k = ap Policy (same_policy c d fs h k)

-- ---- A command has one result

-- Two states with the same store and the same policy sets are equal.
joined : (t t' : State) (out out' : List ℕ) → t.entities ≡ t'.entities → t.policy_sets ≡ t'.policy_sets → out ≡ out'
    → (t ≡ t') × (out ≡ out')
joined t t' out out' e b o = (λ i. record { entities = e i; policy_sets = b i }, o)

one_step : (s t t' : State) (c : Command) (out out' : List ℕ) → RunsCommand s c t out → RunsCommand s c t' out'
    → (t ≡ t') × (out ≡ out')
one_step s t t' Nothing out out' h k = (h.0 ∙ sym k.0, h.1 ∙ sym k.1)
one_step s t t' (Entity c) out out' h k =
    let same = one_entity_gives c s.entities t.entities t'.entities out out' h.0 k.0 in
    joined t t' out out' same.0 (h.1 ∙ sym k.1) same.1
one_step s t t' (Policy c) out out' h k =
    let same = one_policy_gives c s.policy_sets t.policy_sets t'.policy_sets out out' h.1 k.1 in
    joined t t' out out' (h.0 ∙ sym k.0) same.0 same.1

one_from : (ls : List (List ℕ)) (n : ℕ) (s : State) (v w : Written) → IsOutputFrom n s ls v → IsOutputFrom n s ls w
    → v ≡ w
unfolding IsOutputFrom
one_from [] n s v w h k = h ∙ sym k
one_from (l ∷ ls) n s v w (inl h) (inl k) =
    let c : h.0 ≡ k.0 = one_command h.0 k.0 _ h.4.1 k.4.1 in
    let step = one_step s h.1 k.1 k.0 h.2 k.2 (subst (λ d. RunsCommand s d h.1 h.2) c h.5) k.5 in
    let rest = one_from ls (n + 1) k.1 h.3 k.3 (subst (λ t. IsOutputFrom (n + 1) t ls h.3) step.0 h.6) k.6 in
    h.7 ∙ (λ i. after (step.1 i) (rest i)) ∙ sym k.7
one_from (l ∷ ls) n s v w (inl h) (inr k) = absurd (k.0 h.0 h.4)
one_from (l ∷ ls) n s v w (inr h) (inl k) = absurd (h.0 k.0 k.4)
one_from (l ∷ ls) n s v w (inr h) (inr k) = h.1 ∙ sym k.1

pub one_output : (input : List ℕ) (v w : Written) → IsOutput input v → IsOutput input w → v ≡ w
one_output input v w h k = one_from _ 1 _ v w h k
