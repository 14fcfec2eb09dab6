-- Laws for node types and callers: sets of keys, and maps whose nodes keep their keys.
use Rattle.std.specs.Prelude.{◌≡◌, Bool, true, List, [], ◌∷◌, ◌||◌, Option, Some, None}
use Rattle.std.specs.Cmp.{IsEquivalence}
use Rattle.std.specs.List.{list_any}
use Rattle.std.specs.HashMap.{HashMap, get}
use Rattle.std.specs.HashSet.{HashSet, contains}
use Rattle.std.specs.Option.{option_map, IfSome}
use Rattle.std.proofs.Common.{refl, subst}
use Rattle.cedar_graph.specs.Graph.{KeepsNodes, KeysMatch}

module _ {K : Type 0} {eq : K → K → Bool} (laws : IsEquivalence eq) (x y : K) (same : eq x y ≡ true) where
  any_is_both_or_none : (ks : List K) → list_any (eq x) ks ≡ list_any (eq y) ks
  any_is_both_or_none [] = refl
  any_is_both_or_none (k ∷ ks) = rw (laws.congr x y k same, any_is_both_or_none ks)

  -- A set contains both of two equal keys, or neither.
  pub contains_both_or_none : {S : Type 0} (s : HashSet K S) → contains eq s x ≡ contains eq s y
  contains_both_or_none s = any_is_both_or_none s.keys

  -- The union of two sets contains both of two equal keys, or neither.
  pub either_contains_both_or_none : {S : Type 0} (s t : HashSet K S)
      → (contains eq s x || contains eq t x) ≡ (contains eq s y || contains eq t y)
  either_contains_both_or_none s t = rw (contains_both_or_none s, contains_both_or_none t)

pub first_of_either : (x y : Bool) → x ≡ true → (x || y) ≡ true
first_of_either x y h = rw h

module _ {K V : Type 0} (key : V → K) (P : K → Type 0) where
  if_same_key : (m n : Option V) → option_map key n ≡ option_map key m → IfSome m (λ v. P (key v))
      → IfSome n (λ v. P (key v))
  if_same_key m None same h = tt
  if_same_key None (Some v) same h = cc
  if_same_key (Some u) (Some v) same h = let keys : key u ≡ key v = cc in subst P keys h

-- If the nodes keep their keys, each map key is still its node's key.
pub keys_match_kept : {K V R S : Type 0} (eq : K → K → Bool) (key : V → K) (rest : V → R) (old new : HashMap K V S)
    → KeepsNodes eq key rest old new → KeysMatch eq key old → KeysMatch eq key new
keys_match_kept eq key rest old new kept match q = if_same_key key (λ k. eq q k
    ≡ true) (get eq old q) (get eq new q) (kept.node_keys q) (match q)
