-- Paths after some links change.
use Rattle.std.proofs.Common.{◌≡◌, ◌∙◌, ℕ, Bool, false, ◌||◌, nat_eq, List, [], ◌∷◌, ◌++◌, refl, sym, ap, subst}
use Rattle.std.specs.Prelude.{if◌then◌else◌}
use Rattle.std.specs.List.{list_any}
use Rattle.std.proofs.lemmas.Bool.{or_parts, eqb-false, ne_eqb, eq-eqb, cond-true, cond-false}
use Rattle.cedar_linked_map.specs.Linked.{AreNeighbours, IsPath}

-- If no item of a list passes a test, no item of its parts passes.
pub any_parts : {X : Type 0} (t : X → Bool) (xs ys : List X) → list_any t (xs ++ ys) ≡ false
    → (list_any t xs ≡ false) × (list_any t ys ≡ false)
any_parts t [] ys h = (refl, h)
any_parts t (x ∷ xs) ys h =
    let b = or_parts (t x) (list_any t (xs ++ ys)) h in
    let rest = any_parts t xs ys b.1 in
    (ap (λ c. c || list_any t xs) b.0 ∙ rest.0, rest.1)

-- The converse.
pub any_joined : {X : Type 0} (t : X → Bool) (xs ys : List X) → list_any t xs ≡ false → list_any t ys ≡ false
    → list_any t (xs ++ ys) ≡ false
any_joined t [] ys h k = k
any_joined t (x ∷ xs) ys h k =
    let b = or_parts (t x) (list_any t xs) h in
    ap (λ c. c || list_any t (xs ++ ys)) b.0 ∙ any_joined t xs ys b.1 k

module _ (A B : ℕ → ℕ) where
  pub glued : (s : ℕ) (xs : List ℕ) (x : ℕ) (ys : List ℕ) (e : ℕ) → IsPath A B s xs x → IsPath A B x ys e
      → IsPath A B s (xs ++ x ∷ ys) e
  glued s [] x ys e p q = (p, q)
  glued s (y ∷ xs) x ys e p q = (p.0, glued y xs x ys e p.1 q)

  pub parted : (s : ℕ) (xs : List ℕ) (x : ℕ) (ys : List ℕ) (e : ℕ) → IsPath A B s (xs ++ x ∷ ys) e
      → IsPath A B s xs x × IsPath A B x ys e
  parted s [] x ys e p = p
  parted s (y ∷ xs) x ys e p = let r = parted y xs x ys e p.1 in ((p.0, r.0), r.1)

  -- The place before the end of a path links to the end, and the converse.
  pub before_back : (s : ℕ) (xs : List ℕ) (e : ℕ) → IsPath A B s xs e → A (B e) ≡ e
  before_back s [] e p = ap A p.1 ∙ p.0
  before_back s (x ∷ xs) e p = before_back x xs e p.1

  pub after_back : (s : ℕ) (xs : List ℕ) (e : ℕ) → IsPath A B s xs e → B (A s) ≡ s
  after_back s [] e p = ap B p.0 ∙ p.1
  after_back s (x ∷ xs) e p = ap B p.0.0 ∙ p.0.1

  -- The place before the end fails a test that the start and all places of the path fail.
  pub good_before : (bad : ℕ → Bool) (s : ℕ) (xs : List ℕ) (e : ℕ) → bad s ≡ false → list_any bad xs ≡ false
      → IsPath A B s xs e → bad (B e) ≡ false
  good_before bad s [] e bs bx p = ap bad p.1 ∙ bs
  good_before bad s (x ∷ xs) e bs bx p = let b = or_parts (bad x) (list_any bad xs) bx in good_before bad x xs e b.0
      b.1 p.1

  pub good_after : (bad : ℕ → Bool) (s : ℕ) (xs : List ℕ) (e : ℕ) → list_any bad xs ≡ false → bad e ≡ false
      → IsPath A B s xs e → bad (A s) ≡ false
  good_after bad s [] e bx be p = ap bad p.0 ∙ be
  good_after bad s (x ∷ xs) e bx be p = ap bad p.0.0 ∙ (or_parts (bad x) (list_any bad xs) bx).0

-- Changed links that keep all neighbours except at some places.
module _ (A B A' B' : ℕ → ℕ) (bad : ℕ → Bool) (keep : (u v : ℕ) → bad u ≡ false → bad v ≡ false
    → AreNeighbours A B u v → AreNeighbours A' B' u v) where
  pub kept : (s : ℕ) (xs : List ℕ) (e : ℕ) → bad s ≡ false → list_any bad xs ≡ false → bad e ≡ false
      → IsPath A B s xs e → IsPath A' B' s xs e
  kept s [] e bs bx be p = keep s e bs be p
  kept s (x ∷ xs) e bs bx be p =
      let b = or_parts (bad x) (list_any bad xs) bx in
      (keep s x bs b.0 p.0, kept x xs e b.0 b.1 be p.1)

  pub to_end : (i x : ℕ) → ((u : ℕ) → bad u ≡ false → AreNeighbours A B u i → AreNeighbours A' B' u x)
      → (s : ℕ) (xs : List ℕ) → bad s ≡ false → list_any bad xs ≡ false → IsPath A B s xs i → IsPath A' B' s xs x
  to_end i x last s [] bs bx p = last s bs p
  to_end i x last s (y ∷ xs) bs bx p =
      let b = or_parts (bad y) (list_any bad xs) bx in
      (keep s y bs b.0 p.0, to_end i x last y xs b.0 b.1 p.1)

  pub from_start : (i x : ℕ) → ((v : ℕ) → bad v ≡ false → AreNeighbours A B i v → AreNeighbours A' B' x v)
      → (ys : List ℕ) (e : ℕ) → list_any bad ys ≡ false → bad e ≡ false → IsPath A B i ys e → IsPath A' B' x ys e
  from_start i x first [] e by be p = first e be p
  from_start i x first (y ∷ ys) e by be p =
      let b = or_parts (bad y) (list_any bad ys) by in
      (first y b.0 p.0, kept y ys e b.0 b.1 be p.1)

append_none : (l : List ℕ) → l ++ [] ≡ l
append_none [] = refl
append_none (x ∷ l) = ap (λ r. x ∷ r) (append_none l)

-- Whether a place is one of two.
abbrev pub is_either : ℕ → ℕ → ℕ → Bool
is_either i m u = nat_eq i u || nat_eq m u

-- The two neighbours of `i` are linked to each other.
module _ (A B A' B' : ℕ → ℕ) (i : ℕ)
    (a : (u : ℕ) → A' u ≡ (if nat_eq u (B i) then A i else A u)) (b : (u : ℕ)
    → B' u ≡ (if nat_eq u (A i) then B i else B u)) where
  keep_unlinked : A (B i) ≡ i → B (A i) ≡ i → (u v : ℕ) → nat_eq i u ≡ false → nat_eq i v ≡ false
      → AreNeighbours A B u v → AreNeighbours A' B' u v
  keep_unlinked there back u v iu iv j = (
    a u ∙ cond-false (nat_eq u (B i)) _ _ (ne_eqb u (B i) (λ h. eqb-false i v iv (sym there ∙ ap A (sym h)
        ∙ j.0))) ∙ j.0,
    b v ∙ cond-false (nat_eq v (A i)) _ _ (ne_eqb v (A i) (λ h. eqb-false i u iu (sym back ∙ ap B (sym h)
        ∙ j.1))) ∙ j.1,
  )

  pub unlinked : (s : ℕ) (xs ys : List ℕ) (e : ℕ) → nat_eq i s ≡ false → list_any (nat_eq i) (xs ++ ys) ≡ false
      → nat_eq i e ≡ false → IsPath A B s (xs ++ i ∷ ys) e → IsPath A' B' s (xs ++ ys) e
  unlinked s xs ys e bs bx be p =
      let parts = parted A B s xs i ys e p in
      let none = any_parts (nat_eq i) xs ys bx in
      let there = before_back A B s xs i parts.0 in
      let back = after_back A B i ys e parts.1 in
      let keep = keep_unlinked there back in
      let front : IsPath A' B' s xs (A i) = to_end A B A' B' (nat_eq i) keep i (A i) (λ u bu j. (
        a u ∙ cond-true (nat_eq u (B i)) _ _ (eq-eqb u (B i) (sym j.1)),
        b (A i) ∙ cond-true (nat_eq (A i) (A i)) _ _ (eq-eqb (A i) (A i) refl) ∙ j.1,
      )) s xs bs none.0 parts.0 in
      rejoined keep ys e none.1 be front parts.1
    where
      rejoined : ((u v : ℕ) → nat_eq i u ≡ false → nat_eq i v ≡ false → AreNeighbours A B u v → AreNeighbours A' B' u v)
          → (zs : List ℕ) (e : ℕ) → list_any (nat_eq i) zs ≡ false → nat_eq i e ≡ false
          → IsPath A' B' s xs (A i) → IsPath A B i zs e → IsPath A' B' s (xs ++ zs) e
      rejoined keep [] e bz be front q = subst (λ l. IsPath A' B' s l e) (sym (append_none xs)) (subst (IsPath A' B'
          s xs) q.0 front)
      rejoined keep (z ∷ zs) e bz be front q =
          let b = or_parts (nat_eq i z) (list_any (nat_eq i) zs) bz in
          glued A' B' s xs z zs e (subst (IsPath A' B' s xs) q.0.0 front) (kept A B A' B' (nat_eq i) keep z zs e b.0
          b.1 be q.1)

-- The entry at `m` moves to `i`.
module _ (A B A2 B2 A3 B3 : ℕ → ℕ) (i m : ℕ)
    (a2 : (u : ℕ) → nat_eq i u ≡ false → nat_eq m u ≡ false → A2 u ≡ A u) (b2 : (u : ℕ) → nat_eq i u ≡ false
    → nat_eq m u ≡ false → B2 u ≡ B u)
    (ai : A2 i ≡ A m) (bi : B2 i ≡ B m)
    (a : (u : ℕ) → A3 u ≡ (if nat_eq u (B2 i) then i else A2 u)) (b : (u : ℕ)
    → B3 u ≡ (if nat_eq u (A2 i) then i else B2 u)) where
  keep_moved : A (B m) ≡ m → B (A m) ≡ m → (u v : ℕ) → is_either i m u ≡ false → (is_either i m) v ≡ false
      → AreNeighbours A B u v → AreNeighbours A3 B3 u v
  keep_moved there back u v bu bv j =
      let pu = or_parts (nat_eq i u) (nat_eq m u) bu in
      let pv = or_parts (nat_eq i v) (nat_eq m v) bv in (
        a u ∙ cond-false (nat_eq u (B2 i)) _ _ (ne_eqb u (B2 i) (λ h. eqb-false m v pv.1 (sym there
            ∙ ap A (sym (h ∙ bi)) ∙ j.0))) ∙ a2 u pu.0 pu.1 ∙ j.0,
        b v ∙ cond-false (nat_eq v (A2 i)) _ _ (ne_eqb v (A2 i) (λ h. eqb-false m u pu.1 (sym back ∙ ap B (sym (h
            ∙ ai)) ∙ j.1))) ∙ b2 v pv.0 pv.1 ∙ j.1,
      )

  pub moved : (s : ℕ) (xs ys : List ℕ) (e : ℕ) → (is_either i m) s ≡ false
      → list_any (is_either i m) (xs ++ ys) ≡ false → (is_either i m) e ≡ false → IsPath A B s (xs ++ m ∷ ys) e
      → IsPath A3 B3 s (xs ++ i ∷ ys) e
  moved s xs ys e bs bx be p =
      let parts = parted A B s xs m ys e p in
      let none = any_parts (is_either i m) xs ys bx in
      let there = before_back A B s xs m parts.0 in
      let back = after_back A B m ys e parts.1 in
      let keep = keep_moved there back in
      let apart_before = or_parts (nat_eq i (B m)) (nat_eq m (B m)) (good_before A B (is_either i m) s xs m bs none.0
      parts.0) in
      let apart_after = or_parts (nat_eq i (A m)) (nat_eq m (A m)) (good_after A B (is_either i m) m ys e none.1 be
      parts.1) in
      let front = to_end A B A3 B3 (is_either i m) keep m i (λ u bu j. (
        a u ∙ cond-true (nat_eq u (B2 i)) _ _ (eq-eqb u (B2 i) (sym (bi ∙ j.1))),
        b i ∙ cond-false (nat_eq i (A2 i)) _ _ (ap (nat_eq i) ai ∙ apart_after.0) ∙ bi ∙ j.1,
      )) s xs bs none.0 parts.0 in
      let rest = from_start A B A3 B3 (is_either i m) keep m i (λ v bv j. (
        a i ∙ cond-false (nat_eq i (B2 i)) _ _ (ap (nat_eq i) bi ∙ apart_before.0) ∙ ai ∙ j.0,
        b v ∙ cond-true (nat_eq v (A2 i)) _ _ (eq-eqb v (A2 i) (sym (ai ∙ j.0))),
      )) ys e none.1 be parts.1 in
      glued A3 B3 s xs i ys e front rest
