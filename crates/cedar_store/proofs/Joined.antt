-- The effect on a session of the commands on its parts.
use Rattle.std.specs.Prelude.{◌≡◌, ◌==◌, ℕ, Bool, true, false, List, [], ◌∷◌, length, Result, Ok, Err, IfOk, OnErr}
use Rattle.std.specs.Prelude.{is_err, codes}
use mathlib.Core.List.{append-nil}
use Rattle.std.proofs.lemmas.Bool.{false≢true}
use Rattle.std.proofs.Common.{refl, sym, subst, ap, ◌∙◌, ne_eqb, arith}
use Rattle.std.specs.List.{list_all, slice_split, join_with_byte}
use Rattle.std.proofs.lemmas.List.Splits.{join_with_byte-slice_split}
use Rattle.cedar_lines.specs.Lines.{is_line_byte}
use Rattle.cedar_ids.specs.Texts.{same_text}
use Rattle.cedar_ids.specs.declared.entity.EntityUID.{EntityUID}
use Rattle.cedar_entity_lines.specs.EntityCommand.{EntityCommand, Ent, Build, Add, Upsert, Remove, Slice, Anc, AreFields}
use Rattle.cedar_entity_lines.specs.EntityCommand.{IsEntityCommand}
use Rattle.cedar_entity_lines.specs.Holding as held
use Rattle.cedar_policy_lines.specs.PolicyCommand.{PolicyCommand, IsPolicyCommand}
use Rattle.cedar_policy_lines.specs.PolicyOutput.{RunsPolicyCommand, PolicyWrites, RunsPolicyFields}
use Rattle.cedar_policy_lines.specs.TwoSets.{TwoSets}
use Rattle.cedar_store.specs.Command.{Command, Nothing, Entity, Policy, IsCommand}
use Rattle.cedar_store.specs.Output.{State}
use Rattle.cedar_store.specs.Sessions.{SessionView, IsInState, RunsLine}
use Rattle.cedar_store.specs.laws.Sessions.{SessionGives, TakesKind, begins_with_ent}

-- The session runs a command that its store runs.
pub entity_takes : (m n : SessionView) (s : State) (c : EntityCommand) (old new : List ℕ) → IsInState m s
    → n.policy_sets ≡ m.policy_sets → n.is_lost ≡ m.is_lost
    → held.EntityWrites c s.entities n.entities old new → SessionGives (Entity c) s n old new
entity_takes m n s c old new h sets lost k = (
  record { entities = k.0; policy_sets = s.policy_sets },
  k.1,
  (k.2, refl),
  record { entities = k.3; policy_sets = sets ∙ h.policy_sets; whole = lost ∙ h.whole },
  k.4,
)

-- The session runs a command that its policy sets run.
pub policy_takes : (m n : SessionView) (s : State) (c : PolicyCommand) (old new : List ℕ) → IsInState m s
    → n.entities ≡ m.entities → n.is_lost ≡ m.is_lost
    → PolicyWrites c m.policy_sets n.policy_sets old new → SessionGives (Policy c) s n old new
policy_takes m n s c old new h entities lost k = (
  record { entities = s.entities; policy_sets = n.policy_sets },
  k.0,
  (refl, subst (λ b. RunsPolicyCommand c b n.policy_sets k.0) h.policy_sets k.1),
  record {
    entities = subst (λ e. held.Holds e s.entities) (sym entities) h.entities;
    policy_sets = refl;
    whole = lost
        ∙ h.whole;
  },
  k.2,
)

-- The session runs the fields of a line as its policy sets do, or its state is the same.
pub policy_taken : (taken : Bool) (m : SessionView) (sets : TwoSets) (s : State) (fs : List (List ℕ)) (old new : List ℕ)
    → IsInState m s → RunsPolicyFields taken fs m.policy_sets sets old new → TakesKind Policy taken fs s (record {
      entities = m.entities;
      policy_sets = sets;
      is_lost = m.is_lost;
    }) old new
policy_taken true m sets s fs old new h k =
    let n : SessionView = record { entities = m.entities; policy_sets = sets; is_lost = m.is_lost } in
    (k.0, k.1, policy_takes m n s k.0 old new h refl refl k.2)
policy_taken false m sets s fs old new h k =
    (k.0, record { entities = h.entities; policy_sets = k.1 ∙ h.policy_sets; whole = h.whole }, k.2)

-- A session that is not lost is in a state if another session with the same store and sets is.
pub stands_too : (m n : SessionView) (s : State) → n.entities ≡ m.entities → n.policy_sets ≡ m.policy_sets
    → n.is_lost ≡ false → IsInState m s → IsInState n s
stands_too m n s entities sets lost h =
    record {
      entities = subst (λ e. held.Holds e s.entities) (sym entities) h.entities;
      policy_sets = sets ∙ h.policy_sets;
      whole = lost;
    }

-- Such a session runs a line correctly if the other session does.
pub takes_too : (known : Bool) (line : List ℕ) (s : State) (m n : SessionView) (old new : List ℕ)
    → n.entities ≡ m.entities → n.policy_sets ≡ m.policy_sets → n.is_lost ≡ false
    → RunsLine known line s m old new → RunsLine known line s n old new
takes_too true line s m n old new entities sets lost h =
    (h.0, h.1, h.2, h.3, h.4, stands_too m n h.1 entities sets lost h.5, h.6)
takes_too false line s m n old new entities sets lost h = (h.0, stands_too m n s entities sets lost h.1, h.2)

-- The same, if the session is lost exactly when the result is an error.
pub takes_kept : {E : Type 0} (r : Result Bool E) (P : State → Type 0) (line : List ℕ) (m n : SessionView)
    (old new : List ℕ) → n.entities ≡ m.entities → n.policy_sets ≡ m.policy_sets → n.is_lost ≡ is_err r
    → IfOk r (λ known. (s : State) → P s → RunsLine known line s m old new)
    → IfOk r (λ known. (s : State) → P s → RunsLine known line s n old new)
takes_kept (Ok known) P line m n old new entities policy_sets lost h =
    λ s p. takes_too known line s m n old new entities policy_sets lost (h s p)
takes_kept (Err e) P line m n old new entities policy_sets lost h = tt

pub lost_where_refused : {E : Type 0} (r : Result Bool E) (b : Bool) → b ≡ is_err r → OnErr r (b ≡ true)
lost_where_refused (Ok known) b e = tt
lost_where_refused (Err f) b e = e

-- A line is run if its fields are run as a command of some kind.
pub line_taken : {A : Type 0} (kind : A → Command) (line : List ℕ) (fs : List (List ℕ)) (s : State) (v : SessionView)
    (old new : List ℕ) → list_all is_line_byte line ≡ true → fs ≡ slice_split (λ b. b == 9) line
    → TakesKind kind true fs s v old new → RunsLine true line s v old new
line_taken kind line fs s v old new readable same h =
    let g = h.2 in
    (kind h.0, g.0, g.1, (readable, subst (λ x. IsCommand (kind h.0) x) same h.1), g.2, g.3, g.4)

-- If the fields are not a command of some kind, the line is not one either.
pub none_of_line : {A : Type 0} (kind : A → Command) (line : List ℕ) (fs : List (List ℕ))
    → fs ≡ slice_split (λ b. b == 9) line
    → ((a : A) → IsCommand (kind a) fs → ⊥) → (a : A) → IsCommand (kind a) (slice_split (λ b. b == 9) line) → ⊥
none_of_line kind line fs same none a k = none a (subst (λ x. IsCommand (kind a) x) (sym same) k)

-- Fields of a command with another word do not begin with `ent`.
other_word : (w : List ℕ) (us : List EntityUID) (fs : List (List ℕ)) → begins_with_ent fs ≡ true
    → same_text w (codes "ent") ≡ false → AreFields w us fs → ⊥
other_word w us [] b n h = h
other_word w us (f ∷ fs) b n h = false≢true (sym n ∙ sym (ap (λ v. same_text v (codes "ent")) h.0) ∙ b)

-- Fields that begin with `ent` and do not declare an entity are not a command on the store.
no_other : (fs : List (List ℕ)) → begins_with_ent fs ≡ true
    → ((u : EntityUID) (ps : List EntityUID) → IsEntityCommand (Ent u ps) fs → ⊥) → (c : EntityCommand)
    → IsEntityCommand c fs → ⊥
no_other fs b none (Ent u ps) h = none u ps h
no_other fs b none Build h = other_word (codes "build") [] fs b refl h
no_other fs b none Add h = other_word (codes "add") [] fs b refl h
no_other fs b none Upsert h = other_word (codes "upsert") [] fs b refl h
no_other fs b none (Remove us) h = other_word (codes "remove") us fs b refl h.0
no_other fs b none (Slice us) h = other_word (codes "slice") us fs b refl h.0
no_other fs b none (Anc u) h = other_word (codes "anc") (u ∷ []) fs b refl h

-- A line that begins with `ent` and does not declare an entity is not a command on the store.
pub none_of_ent : (line : List ℕ) (fs gs : List (List ℕ)) → fs ≡ slice_split (λ b. b == 9) line
    → gs ≡ slice_split (λ b. b == 9) line → begins_with_ent gs ≡ true
    → ((u : EntityUID) (ps : List EntityUID) → IsEntityCommand (Ent u ps) fs → ⊥) → (c : EntityCommand)
    → IsEntityCommand c (slice_split (λ b. b == 9) line) → ⊥
none_of_ent line fs gs f g b none =
    no_other (slice_split (λ b. b == 9) line) (ap begins_with_ent (sym g) ∙ b)
    (λ u ps k. none u ps (subst (λ x. IsEntityCommand (Ent u ps) x) (sym f) k))

-- Fields that are not a command of any of the three kinds are not a command.
pub none_found : (fs : List (List ℕ)) → (fs ≡ [] ∷ [] → ⊥) → ((c : EntityCommand) → IsEntityCommand c fs → ⊥)
    → ((c : PolicyCommand) → IsPolicyCommand c fs → ⊥) → (c : Command) → IsCommand c fs → ⊥
none_found fs nothing entity policy Nothing h = nothing h
none_found fs nothing entity policy (Entity c) h = entity c h
none_found fs nothing entity policy (Policy c) h = policy c h

-- Only an empty line has one empty field.
one_empty_field : (line : List ℕ) → slice_split (λ b. b == 9) line ≡ [] ∷ [] → line ≡ []
one_empty_field line e = sym (join_with_byte-slice_split 9 line) ∙ ap (join_with_byte 9) e

-- An empty line is run as the command that does nothing.
pub nothing_taken : (line : List ℕ) (s : State) (v : SessionView) (old : List ℕ) → (length line == 0) ≡ true
    → IsInState v s → RunsLine true line s v old old
nothing_taken [] s v old empty h = (Nothing, s, [], (refl, refl), (refl, refl), h, sym (append-nil old))
nothing_taken (b ∷ bs) s v old empty h =
    absurd (false≢true (sym (ne_eqb (length (b ∷ bs)) 0 (λ e. omega (arith, e))) ∙ empty))

-- A line that is not empty and is not a command on the store or the policy sets is not a command. It changes nothing.
pub line_left : (line : List ℕ) (s : State) (v : SessionView) (old new : List ℕ) → (line ≡ [] → ⊥)
    → ((c : EntityCommand) → IsEntityCommand c (slice_split (λ b. b == 9) line) → ⊥)
    → ((c : PolicyCommand) → IsPolicyCommand c (slice_split (λ b. b == 9) line) → ⊥)
    → IsInState v s → new ≡ old → RunsLine false line s v old new
line_left line s v old new full entity policy h kept = (
  λ c k. none_found (slice_split (λ b. b == 9) line) (λ e. full (one_empty_field line e)) entity policy c k.1,
  h,
  kept,
)
