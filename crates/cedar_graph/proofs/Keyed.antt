-- Numbers of keys and their arcs.
use Rattle.std.specs.Cmp.{IsEquivalence}
use Rattle.std.specs.List.{slice_get, list_any, IsDistinct}
use Rattle.std.specs.Set.{is_member}
use Rattle.std.specs.Option.{IsSomeAnd}
use Rattle.std.proofs.lemmas.Option.{slice_get_within, get_or_from_slice_get}
use Rattle.std.proofs.lemmas.Map.Keys.{apart_from_distinct}
use Rattle.std.proofs.lemmas.List.{get_or_append_left, get_or_default}
use Rattle.std.proofs.lemmas.Bool.{cases_lt, cases_eq}
use Rattle.std.proofs.Math.Seq.{get_or-append_seam, take-append_seam}
use Rattle.std.proofs.Common.{◌≡◌, Bool, true, false, ℕ, ◌<◌, ◌≤◌, ◌+◌, ◌||◌, ◌⊎◌, inl, inr, length, take, get_or, List}
use Rattle.std.proofs.Common.{[], ◌∷◌, ◌++◌, Option, Some, None, zero, suc, refl, subst, sym, ap, true≢false, ◌∙◌}
use Rattle.std.proofs.Common.{arith, append_assoc, length-append}
use Rattle.cedar_graph.specs.Graph.{Path, Reach, IsTrusted}
use Rattle.cedar_graph.specs.laws.Arcs.{IsPrefix, HasNumber, HasArcTo, AreArcsOf, AreArcsIn, AreSameEdges, ReachesKey}
use Rattle.cedar_graph.specs.laws.Arcs.{IsRowEdge, near_graph}
use Rattle.cedar_graph.proofs.Reaches.{or_cases, and_parts, and_from, both}
use Rattle.cedar_components.specs.Reach.{Walk, Leads, HasPath}

pub got_more : {K : Type 0} (ks xs : List K) (i : ℕ) (x : K) → slice_get ks i ≡ Some x → slice_get (ks ++ xs) i ≡ Some x
got_more [] xs i x h = cc
got_more (y ∷ ks) xs zero x h = h
got_more (y ∷ ks) xs (suc i) x h = got_more ks xs i x h

pub got_back : {K : Type 0} (ks xs : List K) (i : ℕ) (x : K) → i < length ks → slice_get (ks ++ xs) i ≡ Some x
    → slice_get ks i ≡ Some x
got_back [] xs i x h g = absurd (omega arith)
got_back (y ∷ ks) xs zero x h g = g
got_back (y ∷ ks) xs (suc i) x h g = got_back ks xs i x (omega arith) g

pub got_some : {K : Type 0} (ks : List K) (i : ℕ) → i < length ks → (k : K) × (slice_get ks i ≡ Some k)
got_some [] i h = absurd (omega arith)
got_some (y ∷ ks) zero h = (y, refl)
got_some (y ∷ ks) (suc i) h = got_some ks i (omega arith)

pub some_and : {K : Type 0} (o : Option K) (P : K → Type 0) → IsSomeAnd o P → (k : K) × (o ≡ Some k) × P k
some_and None P h = absurd h
some_and (Some k) P h = (k, refl, h)

module _ {K : Type 0} (ks ms : List K) (p : IsPrefix ks ms) where
  pub prefix_got : (i : ℕ) (x : K) → slice_get ks i ≡ Some x → slice_get ms i ≡ Some x
  prefix_got i x h = subst (λ m. slice_get m i ≡ Some x) (sym p.1) (got_more ks p.0 i x h)

  pub prefix_back : (i : ℕ) (x : K) → i < length ks → slice_get ms i ≡ Some x → slice_get ks i ≡ Some x
  prefix_back i x h g = got_back ks p.0 i x h (subst (λ m. slice_get m i ≡ Some x) p.1 g)

  pub prefix_length : length ks ≤ length ms
  prefix_length = omega (arith, ap length p.1, length-append ks p.0)

  pub prefix_number : (eq : K → K → Bool) (q : K) → HasNumber eq ks q → HasNumber eq ms q
  prefix_number eq q h = (h.0, h.1, prefix_got h.0 h.1 h.2, h.3)

append_none : {K : Type 0} (ks : List K) → ks ++ [] ≡ ks
append_none [] = refl
append_none (k ∷ ks) = ap (λ xs. k ∷ xs) (append_none ks)

pub prefix_refl : {K : Type 0} (ks : List K) → IsPrefix ks ks
prefix_refl ks = ([], sym (append_none ks))

pub prefix_trans : {K : Type 0} (ks ms ns : List K) → IsPrefix ks ms → IsPrefix ms ns → IsPrefix ks ns
prefix_trans ks ms ns p q = (p.0 ++ q.0, q.1 ∙ ap (λ m. m ++ q.0) p.1 ∙ append_assoc ks p.0 q.0)

or_none : (b : Bool) → (b || false) ≡ b
or_none true = refl
or_none false = refl

or_assoc : (a b c : Bool) → (a || (b || c)) ≡ ((a || b) || c)
or_assoc true b c = refl
or_assoc false b c = refl

pub any_push : {K : Type 0} (test : K → Bool) (xs : List K) (x : K)
    → list_any test (xs ++ x ∷ []) ≡ (list_any test xs || test x)
any_push test [] x = or_none (test x)
any_push test (y ∷ xs) x = ap (λ b. test y || b) (any_push test xs x) ∙ or_assoc (test y) (list_any test xs) (test x)

pub or_left : (a b : Bool) → a ≡ true → (a || b) ≡ true
or_left true b h = refl
or_left false b h = cc

pub or_right : (a b : Bool) → b ≡ true → (a || b) ≡ true
or_right true b h = refl
or_right false b h = h

module _ {K : Type 0} (eq : K → K → Bool) (G : K → K → Bool) (a : ℕ) (keys : List K) (from to : List ℕ) where
  -- No arc of a row is read yet.
  pub row_start : (P : K → Bool) → ((q : K) → P q ≡ false) → AreArcsOf eq G a keys from to
      → AreArcsIn eq G a keys from to P
  row_start P none s = record {
    same_len = s.same_len;
    ascending = s.ascending;
    from_in = λ k h. omega (arith, s.from_in k h);
    to_in = s.to_in;
    sound = s.sound;
    complete = λ i x q h g e. s.complete i x q h g e;
    here = λ q h. let f = none q in cc;
  }

  -- A row is complete.
  pub row_end : (P : K → Bool) → AreArcsIn eq G a keys from to P
      → ((x q : K) → slice_get keys a ≡ Some x → G x q ≡ true → P q ≡ true) → AreArcsOf eq G (a + 1) keys from to
  row_end P s all = record {
    same_len = s.same_len;
    ascending = s.ascending;
    from_in = s.from_in;
    to_in = s.to_in;
    sound = s.sound;
    complete = λ i x q h g e. elim (cases_lt i a) [
      | inl lt ↦ s.complete i x q lt g e
      | inr ge ↦ let same : i ≡ a = omega arith in
          subst (λ j. HasArcTo eq keys from to j q) (sym same)
          (s.here q (all x q (subst (λ j. slice_get keys j ≡ Some x) same g) e))
    ];
  }

module _ {K : Type 0} {eq : K → K → Bool} (laws : IsEquivalence eq) (G : K → K → Bool) (a : ℕ) (keys more : List K)
    (from to : List ℕ) (P Q : K → Bool) (s : AreArcsIn eq G a keys from to P) (p : IsPrefix keys more)
    (within : a < length keys)
    (b : ℕ) (key y : K) (got : slice_get more b ≡ Some y) (copy : eq key y ≡ true)
    (edge : (x : K) → slice_get keys a ≡ Some x → G x y ≡ true)
    (split : (q : K) → Q q ≡ true → (P q ≡ true) ⊎ (eq q key ≡ true)) where
  from_old : (k : ℕ) → k < length from → get_or (from ++ a ∷ []) k 0 ≡ get_or from k 0
  from_old k h = get_or_append_left from (a ∷ []) 0 k h

  to_old : (k : ℕ) → k < length from → get_or (to ++ b ∷ []) k 0 ≡ get_or to k 0
  to_old k h = get_or_append_left to (b ∷ []) 0 k (omega (arith, s.same_len))

  from_new : get_or (from ++ a ∷ []) (length from) 0 ≡ a
  from_new = get_or-append_seam from a [] 0

  to_new : get_or (to ++ b ∷ []) (length from) 0 ≡ b
  to_new = ap (λ k. get_or (to ++ b ∷ []) k 0) (sym s.same_len) ∙ get_or-append_seam to b [] 0

  len : length (from ++ a ∷ []) ≡ length from + 1
  len = length-append from (a ∷ [])

  older : (i : ℕ) (q : K) → HasArcTo eq keys from to i q → HasArcTo eq more (from ++ a ∷ []) (to ++ b ∷ []) i q
  older i q h = (
    h.0,
    h.1,
    omega (arith, h.2, len),
    from_old h.0 h.2 ∙ h.3,
    rw (to_old h.0 h.2) (prefix_got keys more p (get_or to h.0 0) h.1 h.4),
    h.5,
  )

  b_in : b < length more
  b_in = slice_get_within more b y got

  -- One more arc of the row is read.
  pub arc_added : AreArcsIn eq G a more (from ++ a ∷ []) (to ++ b ∷ []) Q
  arc_added = record {
    same_len = omega (arith, s.same_len, len, length-append to (b ∷ []));
    ascending = λ j k lt h. elim (cases_eq k (length from)) [
      | inl e ↦ let j_in : j < length from = omega arith in
          rw (e, from_new, from_old j j_in) (omega (arith, s.from_in j j_in))
      | inr ne ↦ let k_in : k < length from = omega (arith, len) in
          let j_in : j < length from = omega arith in
          rw (from_old k k_in, from_old j j_in) (s.ascending j k lt k_in)
    ];
    from_in = λ k h. elim (cases_eq k (length from)) [
      | inl e ↦ rw (e, from_new) (omega arith)
      | inr ne ↦ rw (from_old k (omega (arith, len))) (s.from_in k (omega (arith, len)))
    ];
    to_in = λ k h. elim (cases_eq k (length from)) [
      | inl e ↦ rw (e, to_new) b_in
      | inr ne ↦ rw (to_old k (omega (arith, len)))
          (omega (arith, s.to_in k (omega (arith, len)), prefix_length keys more p))
    ];
    sound = λ k x z h f t. elim (cases_eq k (length from)) [
      | inl e ↦ let f2 : slice_get more a ≡ Some x = rw (e, from_new) at f in
          let t2 : slice_get more b ≡ Some z = rw (e, to_new) at t in
          let same : y ≡ z = cc in
          subst (λ w. G x w ≡ true) same (edge x (prefix_back keys more p a x within f2))
      | inr ne ↦ let lt : k < length from = omega (arith, len) in
          s.sound k x z lt
          (prefix_back keys more p (get_or from k 0) x (omega (arith, s.from_in k lt)) (rw (from_old k lt) at f))
          (prefix_back keys more p (get_or to k 0) z (s.to_in k lt) (rw (to_old k lt) at t))
    ];
    complete = λ i x q h g e. older i q (s.complete i x q h (prefix_back keys more p i x (omega arith) g) e);
    here = λ q h. elim (split q h) [
      | inl m ↦ older a q (s.here q m)
      | inr e ↦ (length from, y, omega (arith, len), from_new, rw to_new got, laws.congr q key y e ∙ copy)
    ];
  }

-- A member of the list has a number.
pub got_of_member : {K : Type 0} (eq : K → K → Bool) (ks : List K) (q : K) → is_member eq ks q ≡ true
    → HasNumber eq ks q
got_of_member eq [] q h = cc
got_of_member eq (k ∷ ks) q h = elim (or_cases (eq q k) (is_member eq ks q) h) [
  | inl e ↦ (zero, k, refl, e)
  | inr m ↦ let r = got_of_member eq ks q m in (suc r.0, r.1, r.2, r.3)
]

-- The key of a number is a member of the list.
pub member_of_got : {K : Type 0} (eq : K → K → Bool) (ks : List K) (i : ℕ) (k q : K) → slice_get ks i ≡ Some k
    → eq q k ≡ true → is_member eq ks q ≡ true
member_of_got eq [] i k q h e = cc
member_of_got eq (x ∷ ks) zero k q h e = let same : x ≡ k = cc in
    or_left (eq q x) (is_member eq ks q) (ap (eq q) same ∙ e)
member_of_got eq (x ∷ ks) (suc i) k q h e = or_right (eq q x) (is_member eq ks q) (member_of_got eq ks i k q h e)

-- Equal keys are members of the same lists.
pub member_alike : {K : Type 0} {eq : K → K → Bool} (laws : IsEquivalence eq) (ks : List K) (x y : K) → eq x y ≡ true
    → is_member eq ks x ≡ is_member eq ks y
member_alike laws [] x y h = refl
member_alike laws (k ∷ ks) x y h = rw (laws.congr x y k h, member_alike laws ks x y h)

pub prefix_take : {K : Type 0} (ks ms : List K) → IsPrefix ks ms → take (length ks) ms ≡ ks
prefix_take ks ms p = ap (take (length ks)) p.1 ∙ take-append_seam ks p.0

-- If the keys are different, two numbers of equal keys are equal.
pub number_same : {K : Type 0} {eq : K → K → Bool} (laws : IsEquivalence eq) (keys : List K) → IsDistinct eq keys
    → (a i : ℕ) (x k : K) → slice_get keys a ≡ Some x → slice_get keys i ≡ Some k → eq x k ≡ true → a ≡ i
number_same {K} {eq} laws keys s a i x k h g e =
    let at_a : get_or keys a x ≡ x = get_or_from_slice_get keys a x x h in
    let at_i : get_or keys i x ≡ k = get_or_from_slice_get keys i k x g in
    let a_in = slice_get_within keys a x h in
    let i_in = slice_get_within keys i k g in
    elim (cases_lt a i) [
      | inl lt ↦
          absurd (true≢false (sym e ∙ sym (ap (λ v. eq v k) at_a) ∙ sym (ap (eq (get_or keys a x)) at_i)
          ∙ apart_from_distinct eq keys a i x s lt i_in))
      | inr ge ↦ elim (cases_eq a i) [
        | inl same ↦ same
        | inr ne ↦
            absurd (true≢false (sym (laws.symm k x ∙ e) ∙ sym (ap (λ v. eq v x) at_i)
            ∙ sym (ap (eq (get_or keys i x)) at_a) ∙ apart_from_distinct eq keys i a x s (omega arith) a_in))
      ]
    ]

module _ {K : Type 0} (eq : K → K → Bool) (G : K → K → Bool) (keys : List K) (E : ℕ → ℕ → Type 0)
    (s : AreSameEdges eq G keys E) where
  path_from_walk : (a b z : ℕ) (x y : K) (xs : List ℕ) → slice_get keys a ≡ Some x → slice_get keys b ≡ Some y → E a z
      → Walk E z xs b → Reach G x y
  path_from_walk a b z x y [] h k e w = ([], s.sound a z x y e h (ap (slice_get keys) w ∙ k))
  path_from_walk a b z x y (u ∷ xs) h k e w =
      let m = s.has_key a z e in
      let r = path_from_walk z b u m.0 y xs m.1 k w.0 w.1 in
      (m.0 ∷ r.0, (s.sound a z x m.0 e h m.1, r.1))

  pub reach_from_goes : (a b : ℕ) (x y : K) → slice_get keys a ≡ Some x → slice_get keys b ≡ Some y → HasPath E a b
      → Reach G x y
  unfolding Leads
  reach_from_goes a b x y h k g = path_from_walk a b g.0 x y g.2.0 h k g.1 g.2.1

  path_alike : (x y q : K) (xs : List K) → eq x y ≡ true → Path G x xs q → Path G y xs q
  path_alike x y q [] h p = sym (s.respects_eq x y q h) ∙ p
  path_alike x y q (u ∷ xs) h p = (sym (s.respects_eq x y u h) ∙ p.0, p.1)

  pub reach_alike : (x y q : K) → eq x y ≡ true → Reach G x q → Reach G y q
  reach_alike x y q h r = (r.0, path_alike x y q r.0 h r.1)

  pub goes_from_path : (a : ℕ) (x q : K) (xs : List K) → slice_get keys a ≡ Some x → Path G x xs q → (b : ℕ) × (y : K)
      × (z : ℕ) × (zs : List ℕ) × E a z × Walk E z zs b × (slice_get keys b ≡ Some y) × (eq q y ≡ true)
  goes_from_path a x q [] h p =
      let c = s.complete a x q h p in
      (c.0, c.1, c.0, [], c.2, refl, c.3, c.4)
  goes_from_path a x q (u ∷ xs) h p =
      let c = s.complete a x u h p.0 in
      let r = goes_from_path c.0 c.1 q xs c.3 (path_alike u c.1 q xs c.4 p.1) in
      (r.0, r.1, c.0, r.2 ∷ r.3, c.2, (r.4, r.5), r.6, r.7)

  path_to : ((x y z : K) → eq y z ≡ true → G x y ≡ G x z) → (x y z : K) (xs : List K) → eq y z ≡ true → Path G x xs z
      → Path G x xs y
  path_to to x y z [] h p = to x y z h ∙ p
  path_to to x y z (u ∷ xs) h p = (p.0, path_to to u y z xs h p.1)

  -- The key of a reached number is a reached key.
  pub row_sound : ((x y z : K) → eq y z ≡ true → G x y ≡ G x z) → (x : ℕ) (a b : K) → IsRowEdge eq keys E x a b
      → Reach G a b
  row_sound to x a b e =
      let p = reach_alike e.0 a e.3.1 e.2 (reach_from_goes x e.3.0 e.0 e.3.1 e.1 e.3.3 e.3.2) in
      (p.0, path_to to a b e.3.1 p.0 e.3.4 p.1)

  -- A reached key is the key of a reached number.
  pub row_complete : (x : ℕ) (k b : K) → slice_get keys x ≡ Some k → Reach G k b → ReachesKey eq keys E x b
  unfolding Leads
  row_complete x k b got p =
      let g = goes_from_path x k b p.0 got p.1 in
      (g.0, g.1, (g.2, g.4, (g.3, g.5)), g.6, g.7)

-- From a key to fix, the edges of the keys to fix and of their targets are sufficient, if the other nodes have an edge
-- to every key that they reach.
module _ {K : Type 0} (eq : K → K → Bool) (G : K → K → Bool) (ks : List K) where
  path_of_near : (x b : K) (xs : List K) → Path (near_graph eq G ks) x xs b → Path G x xs b
  path_of_near x b [] p = (and_parts (is_member eq ks x) (G x b) p).1
  path_of_near x b (u ∷ us) p = ((and_parts (is_member eq ks x) (G x u) p.0).1, path_of_near u b us p.1)

  pub reach_of_near : (x b : K) → Reach (near_graph eq G ks) x b → Reach G x b
  reach_of_near x b r = (r.0, path_of_near x b r.0 r.1)

  module _ (fix : K → Bool) (near : (x u : K) → fix x ≡ true → G x u ≡ true → is_member eq ks u ≡ true)
      (fixed : (x : K) → fix x ≡ true → is_member eq ks x ≡ true) (trusted : IsTrusted fix G) where
    near_path : (x b : K) (xs : List K) → fix x ≡ true → Path G x xs b → Reach (near_graph eq G ks) x b
    near_path x b [] f p = ([], and_from (is_member eq ks x) (G x b) (fixed x f) p)
    near_path x b (u ∷ us) f p =
        elim (both (fix u)) [
          | inl t ↦ let r = near_path u b us t p.1 in
              (u ∷ r.0, (and_from (is_member eq ks x) (G x u) (fixed x f) p.0, r.1))
          | inr n ↦ (
            u ∷ [],
            (
              and_from (is_member eq ks x) (G x u) (fixed x f) p.0,
              and_from (is_member eq ks u) (G u b) (near x u f p.0) (trusted u b n (us, p.1)),
            ),
          )
        ]

    pub near_reach : (x b : K) → fix x ≡ true → Reach G x b → Reach (near_graph eq G ks) x b
    near_reach x b f r = near_path x b r.0 f r.1

-- The bounds of the list of a component, as the code reads them.
module _ (component start : List ℕ) (x p i j : ℕ) (p_is : p ≡ get_or component x p) (x_in : x < length component)
    (i_is : i ≡ get_or start p i) (j_is : j ≡ get_or start (p + 1) j)
    (p_in : get_or component x 0 + 1 < length start) where
  place : p ≡ get_or component x 0
  place = p_is ∙ get_or_default component x p 0 x_in

  pub row_begins : i ≡ get_or start (get_or component x 0) 0
  row_begins = i_is ∙ ap (λ q. get_or start q i) place ∙ get_or_default start (get_or component x 0) i 0 (omega arith)

  pub row_ends : j ≡ get_or start (get_or component x 0 + 1) 0
  row_ends = j_is ∙ ap (λ q. get_or start (q + 1) j) place ∙ get_or_default start (get_or component x 0 + 1) j 0 p_in
