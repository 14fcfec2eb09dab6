-- The renaming of a merge gives different ids to different ids, and does not rename ids that are bound equally.
use Rattle.std.specs.Prelude.{◌≡◌, ℕ, ◌+◌, ◌<◌, length, List, [], ◌∷◌, ◌++◌, Bool, true, false, not, ◌||◌, ◌&&◌, Option}
use Rattle.std.specs.Prelude.{Some, None, refl, if◌then◌else◌, IfSome}
use Rattle.std.proofs.Common.{◌≤◌, ◌⊎◌, inl, inr, sym, ap, ◌∙◌, cond, arith}
use Rattle.std.specs.List.{filter, list_any}
use Rattle.std.specs.Map.{lookup, keys_of, values_of}
use Rattle.std.specs.Option.{unwrap_or}
use Rattle.std.proofs.lemmas.Bool.{false≢true, or_parts}
use Rattle.std.proofs.lemmas.List.{length-map}
use Rattle.std.proofs.lemmas.List.Folds.{list_any-append}
use Rattle.indexmap.specs.IndexSet.{insert_all}
use Rattle.cedar_ids.specs.Texts.{same_text}
use Rattle.cedar_ids.specs.laws.TextLaws.{same_text_equiv, same_text_decides}
use Rattle.cedar_body.specs.Bodies.{BodyParts}
use Rattle.cedar_binding.specs.laws.Fits.{same_answer}
use Rattle.cedar_policy.specs.Policies.{policy_id}
use Rattle.cedar_policy_maps.specs.PolicySets.{SetParts, AreOnce, is_bound}
use Rattle.cedar_policy_merge.specs.Fresh.{numbered, is_bound_in_either, free_below, IsFree, AreFree}
use Rattle.cedar_policy_merge.specs.Merge.{has_body, has_policy, body_ids, policy_ids, is_same_at, conflicting}
use Rattle.cedar_policy_merge.specs.Merge.{conflicts, new_id, IsRenaming, AreBelow, bound_ids, ids_of}
use Rattle.cedar_policy_merge.specs.laws.FreshLaws.{either_among_ids, free_within}
use Rattle.cedar_policy_merge.specs.laws.MergeLaws.{Renames}
use Rattle.cedar_policy_merge.specs.laws.Numerals.{numbered_is}
use Rattle.cedar_policy_maps.specs.laws.OnceLaws.{any-map}

pub itself : (i : List ℕ) → same_text i i ≡ true
itself i = same_text_equiv.refl i

pub first_of : (a b : Bool) → a ≡ true → (a || b) ≡ true
first_of true b h = refl
first_of false b h = absurd (false≢true h)

pub second_of : (a b : Bool) → b ≡ true → (a || b) ≡ true
second_of true b h = refl
second_of false b h = h

pub either_of : (a b : Bool) → (a || b) ≡ true → (a ≡ true) ⊎ (b ≡ true)
either_of true b h = inl refl
either_of false b h = inr h

-- Whether an id is in a list.
abbrev pub is_in : List ℕ → List (List ℕ) → Bool
is_in i is = list_any (same_text i) is

in_first : (i : List ℕ) (xs ys : List (List ℕ)) → is_in i xs ≡ true → is_in i (xs ++ ys) ≡ true
in_first i xs ys h = list_any-append (same_text i) xs ys ∙ first_of (is_in i xs) (is_in i ys) h

in_second : (i : List ℕ) (xs ys : List (List ℕ)) → is_in i ys ≡ true → is_in i (xs ++ ys) ≡ true
in_second i xs ys h = list_any-append (same_text i) xs ys ∙ second_of (is_in i xs) (is_in i ys) h

pub in_step : (i x : List ℕ) (seen : List (List ℕ)) (v : Bool) → is_in i seen ≡ true
    → is_in i (if v then seen else seen ++ x ∷ []) ≡ true
in_step i x seen true h = h
in_step i x seen false h = in_first i seen (x ∷ []) h

pub still_there : (i : List ℕ) (seen xs : List (List ℕ)) → is_in i seen ≡ true → is_in i (insert_all same_text seen xs) ≡ true
still_there i seen [] h = h
still_there i seen (x ∷ xs) h = still_there i (if is_in x seen then seen else seen
    ++ x ∷ []) xs (in_step i x seen (is_in x seen) h)

in_new : (i x : List ℕ) (seen : List (List ℕ)) (v : Bool) → is_in x seen ≡ v → same_text i x ≡ true
    → is_in i (if v then seen else seen ++ x ∷ []) ≡ true
in_new i x seen true e s = ap (λ j. is_in j seen) ((same_text_decides i x).0 s) ∙ e
in_new i x seen false e s = in_second i seen (x ∷ []) (ap (λ v. v || false) s)

gathers_at : (i : List ℕ) (seen : List (List ℕ)) (x : List ℕ) (xs : List (List ℕ))
    → (is_in i xs ≡ true → is_in i (insert_all same_text (if is_in x seen then seen else seen ++ x ∷ []) xs) ≡ true) →
    (same_text i x ≡ true) ⊎ (is_in i xs ≡ true) → is_in i (insert_all same_text seen (x ∷ xs)) ≡ true
gathers_at i seen x xs l (inl s) = still_there i (if is_in x seen then seen else seen
    ++ x ∷ []) xs (in_new i x seen (is_in x seen) refl s)
gathers_at i seen x xs l (inr h) = l h

-- An id of an inserted list is in the result.
pub gathers : (i : List ℕ) (seen xs : List (List ℕ)) → is_in i xs ≡ true → is_in i (insert_all same_text seen xs) ≡ true
gathers i seen [] h = absurd (false≢true h)
gathers i seen (x ∷ xs) h =
    gathers_at i seen x xs (λ k. gathers i (if is_in x seen then seen else seen
    ++ x ∷ []) xs k) (either_of (same_text i x) (is_in i xs) h)

filtered_at : (p : List ℕ → Bool) (i x : List ℕ) (is rest : List (List ℕ)) (w : Bool) → p x ≡ w → p i ≡ true
    → (is_in i is ≡ true → is_in i rest ≡ true) → (same_text i x ≡ true) ⊎ (is_in i is ≡ true) →
    is_in i (cond w (x ∷ rest) rest) ≡ true
filtered_at p i x is rest true e k r (inl s) = first_of (same_text i x) (is_in i rest) s
filtered_at p i x is rest true e k r (inr h) = second_of (same_text i x) (is_in i rest) (r h)
filtered_at p i x is rest false e k r (inl s) = absurd (false≢true (sym e ∙ ap p (sym ((same_text_decides i x).0 s))
    ∙ k))
filtered_at p i x is rest false e k r (inr h) = r h

in_filter : (p : List ℕ → Bool) (i : List ℕ) (is : List (List ℕ)) → p i ≡ true → is_in i is ≡ true
    → is_in i (filter p is) ≡ true
in_filter p i [] k h = h
in_filter p i (x ∷ is) k h = filtered_at p i x is (filter p is) (p x) refl k (λ r. in_filter p i is k r)
    (either_of (same_text i x) (is_in i is) h)

both_true : (a b : Bool) → a ≡ true → b ≡ false → (a && not b) ≡ true
both_true true false p q = refl
both_true true true p q = absurd (false≢true (sym q))
both_true false b p q = absurd (false≢true p)

pub in_conflicting : (h o : SetParts) (stands : List ℕ → Bool) (is : List (List ℕ)) (i : List ℕ) → stands i ≡ true
    → is_same_at h o i ≡ false → is_in i is ≡ true → is_in i (conflicting h o stands is) ≡ true
in_conflicting h o stands is i s d h' = in_filter (λ j. stands j
    && not (is_same_at h o j)) i is (both_true (stands i) (is_same_at h o i) s d) h'

-- An id that both sets use and bind differently is in conflict.
conflicts_by : (h o : SetParts) (i : List ℕ) → is_same_at h o i ≡ false
    → (has_policy o i ≡ true) ⊎ (has_body o i ≡ true)
    → (has_policy h i ≡ true) ⊎ (has_body h i ≡ true) → is_in i (conflicts h o) ≡ true
conflicts_by h o i d (inr b) (inr t) =
    gathers i [] _ (in_first i _ _ (in_conflicting h o (has_body h) (body_ids o) i t d
    (any-map (λ (t : BodyParts). t.id) (same_text i) o.bodies ∙ b)))
conflicts_by h o i d (inl b) (inl t) =
    gathers i [] _ (in_second i (conflicting h o (has_body h) (body_ids o)) _
    (in_first i _ _ (in_conflicting h o (has_policy h) (policy_ids o) i t d (any-map policy_id (same_text i) o.policies
    ∙ b))))
conflicts_by h o i d (inr b) (inl t) =
    gathers i [] _ (in_second i (conflicting h o (has_body h) (body_ids o)) _
    (in_second i (conflicting h o (has_policy h) (policy_ids o)) _
    (in_first i _ _ (in_conflicting h o (has_policy h) (body_ids o) i t d
    (any-map (λ (t : BodyParts). t.id) (same_text i) o.bodies ∙ b)))))
conflicts_by h o i d (inl b) (inr t) =
    gathers i [] _ (in_second i (conflicting h o (has_body h) (body_ids o)) _
    (in_second i (conflicting h o (has_policy h) (policy_ids o)) _
    (in_second i (conflicting h o (has_policy h) (body_ids o)) _
    (in_conflicting h o (has_body h) (policy_ids o) i t d (any-map policy_id (same_text i) o.policies ∙ b)))))

pub conflict_found : (h o : SetParts) (i : List ℕ) → is_bound h i ≡ true → is_bound o i ≡ true
    → is_same_at h o i ≡ false → is_in i (conflicts h o) ≡ true
conflict_found h o i b c d = conflicts_by h o i d (either_of (has_policy o i) (has_body o i) c)
    (either_of (has_policy h i) (has_body h i) b)

-- ---- Lookups of new ids

none_at : (v : Bool) (j : List ℕ) (r : Option (List ℕ)) → cond v (Some j) r ≡ None → (v ≡ false) × (r ≡ None)
none_at true j r e = absurd (cc)
none_at false j r e = (refl, e)

not_a_key : (r : List (List ℕ × List ℕ)) (i : List ℕ) → lookup (same_text i) r ≡ None → is_in i (keys_of r) ≡ false
not_a_key [] i e = refl
not_a_key (x ∷ r) i e =
    let n = none_at (same_text i x.0) x.1 (lookup (same_text i) r) e in
    ap (λ v. v || is_in i (keys_of r)) n.0 ∙ not_a_key r i n.1

-- Whether an id is the free id at position `k` or a later one.
abbrev IsFreeFrom : (List ℕ → Bool) → ℕ → List ℕ → Type 0
IsFreeFrom bound k v = (n : ℕ) × (m : ℕ) × (v ≡ numbered n) × IsFree bound m n × (k ≤ m)

found_at : (bound : List ℕ → Bool) (k : ℕ) (w : Bool) (u v : List ℕ) (r : Option (List ℕ))
    → ((n : ℕ) × (u ≡ numbered n) × IsFree bound k n) → (r ≡ Some v → IsFreeFrom bound (k + 1) v)
    → cond w (Some u) r ≡ Some v → IsFreeFrom bound k v
found_at bound k true u v r f l e = let same : u ≡ v = cc in (f.0, k, sym same ∙ f.1, f.2, omega arith)
found_at bound k false u v r f l e = let g = l e in (g.0, g.1, g.2, g.3, omega (arith, g.4))

pub found_free : (bound : List ℕ → Bool) (k : ℕ) (r : List (List ℕ × List ℕ)) (i v : List ℕ)
    → AreFree bound k (values_of r) → lookup (same_text i) r ≡ Some v → IsFreeFrom bound k v
found_free bound k [] i v a e = absurd (cc)
found_free bound k (x ∷ r) i v a e = found_at bound k (same_text i x.0) x.1 v (lookup (same_text i) r) a.0
    (λ l. found_free bound (k + 1) r i v a.1 l) e

-- Free ids at different positions are different.
two_free : (bound : List ℕ → Bool) (k : ℕ) (u : List ℕ) → ((n : ℕ) × (u ≡ numbered n) × IsFree bound k n)
    → IsFreeFrom bound (k + 1) u → ⊥
two_free bound k u f g =
    let same : f.0 ≡ g.0 = numbered_is f.0 g.0 (sym f.1 ∙ g.2) in
    let e : k ≡ g.1 = sym f.2.1 ∙ ap (free_below bound) same ∙ g.3.1 in
    absurd (omega (arith, g.4))

apart_at : (bound : List ℕ → Bool) (k : ℕ) (x : List ℕ × List ℕ) (i j v : List ℕ) (r : List (List ℕ × List ℕ))
    → ((n : ℕ) × (x.1 ≡ numbered n) × IsFree bound k n) → AreFree bound (k + 1) (values_of r) →
    (lookup (same_text i) r ≡ Some v → lookup (same_text j) r ≡ Some v → i ≡ j) → (a b : Bool) → same_text i x.0 ≡ a
    → same_text j x.0 ≡ b →
    cond a (Some x.1) (lookup (same_text i) r) ≡ Some v → cond b (Some x.1) (lookup (same_text j) r) ≡ Some v → i ≡ j
apart_at bound k x i j v r f g l true true s t p q = (same_text_decides i x.0).0 s ∙ sym ((same_text_decides j x.0).0 t)
apart_at bound k x i j v r f g l true false s t p q = absurd
    (two_free bound k x.1 f (found_free bound (k + 1) r j x.1 g (q ∙ sym p)))
apart_at bound k x i j v r f g l false true s t p q = absurd
    (two_free bound k x.1 f (found_free bound (k + 1) r i x.1 g (p ∙ sym q)))
apart_at bound k x i j v r f g l false false s t p q = l p q

found_apart : (bound : List ℕ → Bool) (k : ℕ) (r : List (List ℕ × List ℕ)) (i j v : List ℕ)
    → AreFree bound k (values_of r) → lookup (same_text i) r ≡ Some v → lookup (same_text j) r ≡ Some v → i ≡ j
found_apart bound k [] i j v a p q = absurd (cc)
found_apart bound k (x ∷ r) i j v a p q =
    apart_at bound k x i j v r a.0 a.1 (λ y z. found_apart bound (k + 1) r i j v a.1 y z) (same_text i x.0)
    (same_text j x.0) refl refl p q

-- Neither set uses a new id.
pub not_bound_new : (h o : SetParts) (r : List (List ℕ × List ℕ)) (i v : List ℕ)
    → AreFree (is_bound_in_either h o) 0 (values_of r) → lookup (same_text i) r ≡ Some v → (is_bound h v ≡ false)
    × (is_bound o v ≡ false)
not_bound_new h o r i v a e =
    let f = found_free (is_bound_in_either h o) 0 r i v a e in
    let b : is_bound_in_either h o v ≡ false = ap (is_bound_in_either h o) f.2 ∙ f.3.0 in
    or_parts _ _ b

-- Whether this set uses none of the new ids.
abbrev pub AreFreeHere : SetParts → List (List ℕ × List ℕ) → Type 0
AreFreeHere here r = (i : List ℕ) → IfSome (lookup (same_text i) r) (λ v. is_bound here v ≡ false)

free_at : (h o : SetParts) (r : List (List ℕ × List ℕ)) (i : List ℕ) (a : Option (List ℕ))
    → AreFree (is_bound_in_either h o) 0 (values_of r) → lookup (same_text i) r ≡ a
    → IfSome a (λ v. is_bound h v ≡ false)
free_at h o r i None f e = tt
free_at h o r i (Some v) f e = (not_bound_new h o r i v f e).0

pub new_are_free : (h o : SetParts) (r : List (List ℕ × List ℕ)) → IsRenaming h o r → AreFreeHere h r
new_are_free h o r n i = free_at h o r i (lookup (same_text i) r) n.1 refl

-- ---- The conditions of `Renames`

apart_by : (h o : SetParts) (r : List (List ℕ × List ℕ)) (i j : List ℕ) (a b : Option (List ℕ)) → IsRenaming h o r
    → is_bound o i ≡ true → is_bound o j ≡ true → lookup (same_text i) r ≡ a → lookup (same_text j) r ≡ b →
    unwrap_or a i ≡ unwrap_or b j → i ≡ j
apart_by h o r i j None None n b c p q e = e
apart_by h o r i j (Some v) None n b c p q e = absurd (false≢true (sym (not_bound_new h o r i v n.1 p).1
    ∙ ap (is_bound o) e ∙ c))
apart_by h o r i j None (Some w) n b c p q e = absurd (false≢true (sym (not_bound_new h o r j w n.1 q).1
    ∙ ap (is_bound o) (sym e) ∙ b))
apart_by h o r i j (Some v) (Some w) n b c p q e = found_apart (is_bound_in_either h o) 0 r i j v n.1 p (q
    ∙ ap Some (sym e))

same_unless : (h o : SetParts) (i : List ℕ) (v : Bool) → is_same_at h o i ≡ v → (is_same_at h o i ≡ false → ⊥)
    → v ≡ true
same_unless h o i true e n = refl
same_unless h o i false e n = absurd (n e)

kept_unless : (h o : SetParts) (r : List (List ℕ × List ℕ)) (i : List ℕ) (a : Option (List ℕ)) → IsRenaming h o r
    → is_bound o i ≡ true → lookup (same_text i) r ≡ a → is_bound h (unwrap_or a i) ≡ true →
    (unwrap_or a i ≡ i) × (is_same_at h o i ≡ true)
kept_unless h o r i (Some v) n b e f = absurd (false≢true (sym (not_bound_new h o r i v n.1 e).0 ∙ f))
kept_unless h o r i None n b e f =
    let free : is_in i (conflicts h o) ≡ false = ap (is_in i) (sym n.0) ∙ not_a_key r i e in
    (refl, same_unless h o i (is_same_at h o i) refl (λ d. absurd (false≢true (sym free ∙ conflict_found h o i f b d))))

-- The renaming of a merge satisfies `Renames`.
pub renames : (h o : SetParts) (r : List (List ℕ × List ℕ)) → IsRenaming h o r → Renames h o (new_id r)
renames h o r n = record {
  apart = λ i j b c e. apart_by h o r i j (lookup (same_text i) r) (lookup (same_text j) r) n b c refl refl e;
  kept = λ i b f. kept_unless h o r i (lookup (same_text i) r) n b refl f;
}

-- ---- Properties of the new ids

neither_of : (a b : Bool) → a ≡ false → b ≡ false → (a || b) ≡ false
neither_of a b p q = cc

other_free : (bound : List ℕ → Bool) (k m n : ℕ) (i : List ℕ) → IsFree bound k n → k < m
    → ((n : ℕ) × (i ≡ numbered n) × IsFree bound m n) → (v : Bool) → same_text (numbered n) i ≡ v → v ≡ false
other_free bound k m n i f l g false e = refl
other_free bound k m n i f l g true e =
    let same : n ≡ g.0 = numbered_is n g.0 ((same_text_decides (numbered n) i).0 e ∙ g.1) in
    let e : k ≡ m = sym f.1 ∙ ap (free_below bound) same ∙ g.2.1 in
    absurd (omega arith)

from_append : (i x : List ℕ) (seen : List (List ℕ)) → (is_in i seen ≡ true) ⊎ (is_in i (x ∷ []) ≡ true)
    → (is_in i seen ≡ true) ⊎ (same_text i x ≡ true)
from_append i x seen (inl h) = inl h
from_append i x seen (inr h) = inr (only_one (same_text i x) h)
  where
    only_one : (v : Bool) → (v || false) ≡ true → v ≡ true
    only_one true h = refl
    only_one false h = h

from_step : (i x : List ℕ) (seen : List (List ℕ)) (v : Bool) → is_in i (if v then seen else seen ++ x ∷ []) ≡ true
    → (is_in i seen ≡ true) ⊎ (same_text i x ≡ true)
from_step i x seen true h = inl h
from_step i x seen false h = from_append i x seen (either_of (is_in i seen) (is_in i (x ∷ []))
    (sym (list_any-append (same_text i) seen (x ∷ [])) ∙ h))

from_more : (i x : List ℕ) (seen xs : List (List ℕ)) → (is_in i seen ≡ true) ⊎ (same_text i x ≡ true)
    → (is_in i seen || is_in i (x ∷ xs)) ≡ true
from_more i x seen xs (inl h) = first_of (is_in i seen) (is_in i (x ∷ xs)) h
from_more i x seen xs (inr h) = second_of (is_in i seen) (is_in i (x ∷ xs)) (first_of (same_text i x) (is_in i xs) h)

from_either : (i x : List ℕ) (seen xs : List (List ℕ))
    → (is_in i (if is_in x seen then seen else seen ++ x ∷ []) ≡ true) ⊎ (is_in i xs ≡ true)
    → (is_in i seen || is_in i (x ∷ xs)) ≡ true
from_either i x seen xs (inl h) = from_more i x seen xs (from_step i x seen (is_in x seen) h)
from_either i x seen xs (inr h) = second_of (is_in i seen) (is_in i (x ∷ xs)) (second_of (same_text i x) (is_in i xs) h)

pub free_apart : (bound : List ℕ → Bool) (k m n : ℕ) (is : List (List ℕ)) → IsFree bound k n → k < m
    → AreFree bound m is → is_in (numbered n) is ≡ false
free_apart bound k m n [] f l a = refl
free_apart bound k m n (i ∷ is) f l a =
    neither_of (same_text (numbered n) i) (is_in (numbered n) is)
    (other_free bound k m n i f l a.0 (same_text (numbered n) i) refl)
    (free_apart bound k (m + 1) n is f (omega arith) a.1)

-- No two of the free ids are equal.
pub once_free : (bound : List ℕ → Bool) (k : ℕ) (is : List (List ℕ)) → AreFree bound k is
    → AreOnce (λ (i : List ℕ). i) is
once_free bound k [] a = tt
once_free bound k (i ∷ is) a = (
  ap (λ j. is_in j is) a.0.1 ∙ free_apart bound k (k + 1) a.0.0 is a.0.2 (omega arith) a.1,
  once_free bound
      (k + 1) is a.1,
)

-- None of the free ids is in use.
pub none_bound_of : (bound : List ℕ → Bool) (k : ℕ) (is : List (List ℕ)) → AreFree bound k is
    → list_any bound is ≡ false
none_bound_of bound k [] a = refl
none_bound_of bound k (i ∷ is) a = neither_of (bound i) (list_any bound is) (ap bound a.0.1
    ∙ a.0.2.0) (none_bound_of bound (k + 1) is a.1)

from_gathered : (i : List ℕ) (seen xs : List (List ℕ)) → is_in i (insert_all same_text seen xs) ≡ true
    → (is_in i seen || is_in i xs) ≡ true
from_gathered i seen [] h = first_of (is_in i seen) false h
from_gathered i seen (x ∷ xs) h =
    from_either i x seen xs (either_of (is_in i (if is_in x seen then seen else seen
    ++ x ∷ [])) (is_in i xs) (from_gathered i (if is_in x seen then seen else seen ++ x ∷ []) xs h))

-- An id is in the result exactly if it is in the inserted list.
pub in_gathered : (i : List ℕ) (xs : List (List ℕ)) → is_in i (insert_all same_text [] xs) ≡ is_in i xs
in_gathered i xs = same_answer (is_in i (insert_all same_text [] xs)) (is_in i xs) (λ h. from_gathered i [] xs h)
    (λ h. gathers i [] xs h)

bound_in_ids : (h o : SetParts) (i : List ℕ) → is_bound_in_either h o i ≡ is_in i (bound_ids h o)
bound_in_ids h o i = either_among_ids h o i ∙ sym (in_gathered i (ids_of h ++ ids_of o))

-- The numbers of the free ids from position `k` on are below the count of used ids plus their own count.
below : (bound : List ℕ → Bool) (xs : List (List ℕ)) (k m : ℕ) (is : List (List ℕ))
    → ((i : List ℕ) → bound i ≡ is_in i xs) → k + length is ≤ m → AreFree bound k is → AreBelow (length xs + m) is
below bound xs k m [] q l a = tt
below bound xs k m (i ∷ is) q l a =
    let w = free_within bound xs a.0.0 q in
    ((a.0.0, a.0.1, omega (arith, w, a.0.2.1)), below bound xs (k + 1) m is q (omega arith) a.1)

pub numbers_below : (h o : SetParts) (es : List (List ℕ × List ℕ)) → AreFree (is_bound_in_either h o) 0 (values_of es)
    → AreBelow (length (bound_ids h o) + length es) (values_of es)
numbers_below h o es a = below (is_bound_in_either h o) (bound_ids h o) 0 (length es) (values_of es) (bound_in_ids h o)
    (omega (arith, length-map es (λ (e : List ℕ × List ℕ). e.1))) a
