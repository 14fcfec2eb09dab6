-- Insertion of keys into a list of keys.
use Rattle.std.specs.List.{slice_get, list_any}
use Rattle.std.proofs.Common.{◌≡◌, Bool, true, false, if◌then◌else◌, ℕ, ◌≤◌, ◌+◌, ◌⊎◌, inl, inr, length, List, [], ◌∷◌}
use Rattle.std.proofs.Common.{◌++◌, Some, zero, suc, refl, sym, position, arith, length-append}
use Rattle.std.proofs.lemmas.Option.{slice_get-get_or}
use Rattle.std.proofs.lemmas.List.Quantifiers.{position-Some}
use Rattle.indexmap.specs.IndexSet.{IndexSet, IsUnique, insert_key}
use Rattle.cedar_graph.specs.laws.Arcs.{IsPrefix}
use Rattle.cedar_graph.specs.laws.Readings.{HasPut}
use Rattle.cedar_graph.proofs.Keyed.{prefix_refl}

-- An index into a list with one more element is an old index or the new one.
got_cases : {K : Type 0} (ks : List K) (k : K) (i : ℕ) (x : K) → slice_get (ks ++ k ∷ []) i ≡ Some x
    → (slice_get ks i ≡ Some x) ⊎ (x ≡ k)
got_cases [] k zero x h = let e : x ≡ k = cc in inr e
got_cases [] k (suc i) x h = cc
got_cases (y ∷ ks) k zero x h = inl h
got_cases (y ∷ ks) k (suc i) x h = got_cases ks k i x h

module _ {K : Type 0} (ks : List K) (k : K) where
  -- The list itself, or the list with the key appended.
  abbrev pub with_key : Bool → List K
  with_key b = if b then ks else ks ++ k ∷ []

  more_by : (b : Bool) → IsPrefix ks (with_key b)
  more_by true = prefix_refl ks
  more_by false = (k ∷ [], refl)

  one_by : (b : Bool) → length (with_key b) ≤ length ks + 1
  one_by true = omega arith
  one_by false = omega (arith, length-append ks (k ∷ []))

  fresh_by : (b : Bool) (i : ℕ) (x : K) → slice_get (with_key b) i ≡ Some x → (slice_get ks i ≡ Some x) ⊎ (x ≡ k)
  fresh_by true i x h = inl h
  fresh_by false i x h = got_cases ks k i x h

module _ {K : Type 0} (eq : K → K → Bool) (ks : List K) (k : K) where
  -- Inserting a key keeps the existing keys in place.
  pub put_more : IsPrefix ks (insert_key eq ks k)
  put_more = more_by ks k (list_any (eq k) ks)

  -- Inserting a key adds at most one key.
  pub put_one : length (insert_key eq ks k) ≤ length ks + 1
  put_one = one_by ks k (list_any (eq k) ks)

  -- The added key is the inserted one.
  pub put_fresh : (i : ℕ) (x : K) → slice_get (insert_key eq ks k) i ≡ Some x → (slice_get ks i ≡ Some x) ⊎ (x ≡ k)
  put_fresh = fresh_by ks k (list_any (eq k) ks)

-- The number of a key that is found is its position.
pub number_found : {K S : Type 0} (eq : K → K → Bool) (keys : IndexSet K S) (key : K) (i : ℕ) → IsUnique eq keys
    → Some i ≡ position (eq key) keys.keys → HasPut eq key keys keys i
number_found eq keys key i unique at =
    let p = position-Some (eq key) keys.keys i key (sym at) in
    record {
      unique = unique;
      found = rw (slice_get-get_or keys.keys i key p.0) p.1;
      one = omega arith;
      fresh = λ j k h. inl h;
      more = prefix_refl keys.keys;
    }
