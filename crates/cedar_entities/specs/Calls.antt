-- A sequence of calls on a store, and its effect on the input store.
use Rattle.std.specs.Prelude.{◌≡◌, ℕ, List, [], ◌∷◌, ◌++◌, length, true}
use Rattle.cedar_ids.specs.declared.entity.EntityUID.{EntityUID}
use Rattle.cedar_entity_maps.specs.EditErrors.{IsAddError, IsOverwriteError}
use Rattle.cedar_entity_maps.specs.InputStore.{InputStore, InputEntity, empty_input, added, overwritten, deleted, AllAgree, IsCyclic}
use Rattle.cedar_entity.specs.declared.err.EntitiesError.{EntitiesError}
use Rattle.cedar_entity.specs.declared.err.EntitiesError.TheVariants.{Memory}

-- A call: creating a store from a list, adding a list, overwriting with a list, removing uids, or making the store
-- partial.
pub data Call : Type 0 where
  From : List InputEntity → Call
  Add : List InputEntity → Call
  Upsert : List InputEntity → Call
  Remove : List EntityUID → Call
  Partial : Call

-- The input store after a call.
abbrev pub apply_call : InputStore → Call → InputStore
apply_call W (From L) = added empty_input L
apply_call W (Add L) = added W L
apply_call W (Upsert L) = overwritten W L
apply_call W (Remove U) = deleted W U
apply_call W Partial = record W { partial = true }

-- The input store after a sequence of calls.
abbrev pub apply_calls : InputStore → List Call → InputStore
apply_calls W [] = W
apply_calls W (c ∷ cs) = apply_calls (apply_call W c) cs

-- Holds if the call succeeds, unless an allocation fails. The added entities must agree with the existing ones, and
-- there must be no cycle afterwards. A removal creates no cycle, so it always succeeds, and so does making the store
-- partial.
abbrev pub Passes : InputStore → Call → Type 0
Passes W (From L) = AllAgree empty_input L × (IsCyclic (added empty_input L) → ⊥)
Passes W (Add L) = AllAgree W L × (IsCyclic (added W L) → ⊥)
Passes W (Upsert L) = IsCyclic (overwritten W L) → ⊥
Passes W (Remove U) = Unit {0}
Passes W Partial = Unit {0}

-- Holds if all calls of the sequence succeed one after another.
abbrev pub AllPass : InputStore → List Call → Type 0
AllPass W [] = Unit {0}
AllPass W (c ∷ cs) = Passes W c × AllPass (apply_call W c) cs

-- Holds if e is a possible error of the call. An allocation failure is possible in every call except making the store
-- partial. It is the only error of a removal.
abbrev pub IsErrorAs : InputStore → Call → EntitiesError → Type 0
IsErrorAs W (From L) e = IsAddError empty_input L e
IsErrorAs W (Add L) e = IsAddError W L e
IsErrorAs W (Upsert L) e = IsOverwriteError W L e
IsErrorAs W (Remove U) e = e ≡ Memory
IsErrorAs W Partial e = ⊥

-- Holds if the first n calls succeed, and e is a possible error of the next call, on the input store after the first n
-- calls.
pub record StopsAt (cs : List Call) (n : ℕ) (e : EntitiesError) : Type 0 where
  pub before : List Call
  pub at : Call
  pub after : List Call
  pub place : cs ≡ before ++ at ∷ after
  pub count : length before ≡ n
  pub passed : AllPass empty_input before
  pub refused : IsErrorAs (apply_calls empty_input before) at e
