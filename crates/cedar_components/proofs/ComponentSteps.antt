-- The steps that build the components.
use Rattle.std.proofs.Common.{◌≡◌, ◌≢◌, ℕ, ◌+◌, ◌-◌, ◌<◌, ◌≤◌, ◌⊎◌, inl, inr}
use Rattle.std.proofs.Common.{List, [], ◌∷◌, ◌++◌}
use Rattle.std.proofs.Common.{length, get_or, set, refl, ap, subst, ◌∙◌, arith}
use Rattle.std.proofs.Common.{length-append, length-set, get_or-set_same, get_or-set_other}
use Rattle.std.proofs.lemmas.List.{get_or_append_left}
use Rattle.std.proofs.Math.Seq.{get_or-append_seam}
use Rattle.std.proofs.lemmas.Bool.{cases_lt, cases_eq}
use Rattle.std.specs.List.{sum_by}
use Rattle.std.proofs.lemmas.List.Sums.{sum_by-set}
use Rattle.std.proofs.lemmas.Bool.Decides.{nat_tests}
use Rattle.cedar_components.specs.Reach.{Walk, Leads}
use Rattle.cedar_components.specs.laws.Numbers.{IsIn, IsFrom}
use Rattle.cedar_components.specs.laws.Search.{IsFinishOrder}
use Rattle.cedar_components.specs.laws.Components.{AreComponentsFrom, AreComponents, is_zero}
use Rattle.cedar_components.proofs.Steps.{Leads-refl, Leads-edge, Leads-trans, push_cases}

pub from_push : (xs : List ℕ) (y i x : ℕ) → IsFrom xs i x → IsFrom (xs ++ y ∷ []) i x
from_push xs y i x p =
    (p.0, p.1, omega (arith, p.2, length-append xs (y ∷ [])), get_or_append_left xs (y ∷ []) 0 p.0 p.2 ∙ p.3)

pub from_push_last : (xs : List ℕ) (y i : ℕ) → i ≤ length xs → IsFrom (xs ++ y ∷ []) i y
from_push_last xs y i h = (length xs, h, omega (arith, length-append xs (y ∷ [])), get_or-append_seam xs y [] 0)

-- A number is added to the component that is being built.
module _ (E : ℕ → ℕ → Type 0) (n : ℕ) (out : List ℕ) (b : ℕ) (component queue : List ℕ) (i v : ℕ)
    (s : AreComponentsFrom E n out b component queue i) (within : v < n) (fresh : get_or component v 0 ≡ 0)
    (some : 0 < b) (in_order : b ≤ length out) (in_queue : i ≤ length queue) where
  here : get_or (set component v b) v 0 ≡ b
  here =
      let h : v < length component = omega (arith, s.component_len) in
      get_or-set_same component v b 0 h

  apart : (x : ℕ) → (x ≡ v) ⊎ ((x ≢ v) × (get_or (set component v b) x 0 ≡ get_or component x 0))
  apart x = elim (cases_eq x v) [ inl e ↦ inl e | inr ne ↦ inr (ne, get_or-set_other component v x b 0 ne) ]

  kept : (x : ℕ) → 0 < get_or component x 0 → get_or (set component v b) x 0 ≡ get_or component x 0
  kept x h =
      let other : x ≢ v = λ e.
      let k : get_or component x 0 ≡ get_or component v 0 = ap (λ y. get_or component y 0) e in
      absurd (omega arith) in
      get_or-set_other component v x b 0 other

  pub joined : Leads E v (get_or out (b - 1) 0)
      → ((p : ℕ) × (get_or out p 0 ≡ v) × (p < b)
      × ((z : ℕ) → p ≤ z → z < b → Leads E (get_or out (b - 1) 0) (get_or out z 0)))
      → AreComponentsFrom E n out b (set component v b) (queue ++ v ∷ []) i
  joined root spans = record {
    component_len = length-set component v b ∙ s.component_len;
    component_in = λ x h. elim (apart x) [ inl e ↦ rw (e, here) in_order | inr e ↦ rw e.1 (s.component_in x h) ];
    above = λ x h k. elim (apart x) [
      | inl e ↦ rw (e, here) (omega arith)
      | inr e ↦ rw e.1 (s.above x h (rw e.1 at k))
    ];
    queue_in = λ k h. elim (push_cases queue v k h) [
      | inl p ↦
          let f = s.queue_in k p.0 in
          rw p.1 (f.0, kept (get_or queue k 0) (omega (arith, f.1)) ∙ f.1)
      | inr p ↦ rw p.1 (within, here)
    ];
    to_root = λ x h k. elim (apart x) [
      | inl e ↦ rw (e, here) root
      | inr e ↦ rw e.1 (s.to_root x h (rw e.1 at k))
    ];
    spans = λ x h k. elim (apart x) [
      | inl e ↦ rw (e, here) spans
      | inr e ↦ rw e.1 (s.spans x h (rw e.1 at k))
    ];
    later = λ z h k. let f = s.later z h k in rw (kept (get_or out z 0) f) f;
    closed = λ x y h k l e. elim (apart x) [
      | inl m ↦ inr (rw m (from_push_last queue v i in_queue))
      | inr m ↦ elim (s.closed x y h k (rw m.1 at l) e) [
        | inl p ↦ inl (rw (kept y p.0, m.1) p)
        | inr p ↦ inr (from_push queue v i x p)
      ]
    ];
  }

-- The root is added to the next component.
pub rooted : (E : ℕ → ℕ → Type 0) (n : ℕ) (out : List ℕ) (b : ℕ) (component : List ℕ)
    → AreComponentsFrom E n out b component [] 0 → IsFinishOrder E n out → 0 < b → b ≤ length out
    → get_or component (get_or out (b - 1) 0) 0 ≡ 0
    → AreComponentsFrom E n out b (set component (get_or out (b - 1) 0) b) (get_or out (b - 1) 0 ∷ []) 0
rooted E n out b component s o some within fresh =
    let r = get_or out (b - 1) 0 in
    let r_in = o.inside (b - 1) (omega arith) in
    joined E n out b component [] 0 r s r_in fresh some within (omega arith) (Leads-refl E r)
    (b - 1, refl, omega arith, λ z h k. let e : z ≡ b - 1 = omega arith in rw e (Leads-refl E r))

module _ (E : ℕ → ℕ → Type 0) (n : ℕ) (out : List ℕ) (b : ℕ) (component queue : List ℕ) (i : ℕ)
    (s : AreComponentsFrom E n out b component queue i) where
  -- A number with an arc to a member of the component is added to it.
  pub joined_before : (v x : ℕ) → IsFinishOrder E n out → v < n → get_or component v 0 ≡ 0 → 0 < b
      → b ≤ length out → i ≤ length queue → x < n → get_or component x 0 ≡ b → E v x
      → AreComponentsFrom E n out b (set component v b) (queue ++ v ∷ []) i
  joined_before v x o within fresh some in_order in_queue inside is e =
      let pos : 0 < get_or component x 0 = omega arith in
      let r = get_or out (b - 1) 0 in
      let root : Leads E x r = rw is at (s.to_root x inside pos) in
      let p = o.all v within in
      let low : p.0 < b = elim (cases_lt p.0 b) [
        | inl h ↦ h
        | inr h ↦
            let f : 0 < get_or component (get_or out p.0 0) 0 = s.later p.0 h p.1 in
            let g : 0 < get_or component v 0 = rw p.2 at f in
            absurd (omega arith)
      ] in
      let t = rw is at (s.spans x inside pos) in
      let edge : E (get_or out p.0 0) (get_or out t.0 0) = rw (p.2, t.1) e in
      let spans : (z : ℕ) → p.0 ≤ z → z < b → Leads E r (get_or out z 0) = λ z h k. elim (cases_lt z t.0) [
        | inr above ↦ t.3 z above k
        | inl under ↦
            let to_x : Leads E r x = rw t.1 at (t.3 t.0 (omega arith) t.2) in
            let f = o.spans p.0 t.0 z (omega (arith, t.2)) edge h (omega arith) in
            let on : Leads E x (get_or out z 0) = rw t.1 at f in
            Leads-trans E r x (get_or out z 0) to_x on
      ] in
      joined E n out b component queue i v s within fresh some in_order in_queue
      (Leads-trans E v x r (Leads-edge E v x e) root) (p.0, p.2, low, spans)

  -- All numbers with an arc to the number at index `i` of the queue have a component.
  pub advanced : i < length queue → ((v : ℕ) → v < n → E v (get_or queue i 0) → 0 < get_or component v 0)
      → AreComponentsFrom E n out b component queue (i + 1)
  advanced within done = record {
    component_len = s.component_len;
    component_in = s.component_in;
    above = s.above;
    queue_in = s.queue_in;
    to_root = s.to_root;
    spans = s.spans;
    later = s.later;
    closed = λ x v h k l e. elim (s.closed x v h k l e) [
      | inl p ↦ inl p
      | inr p ↦ elim (cases_eq p.0 i) [
        | inl m ↦
            let at_x : get_or queue i 0 ≡ x = rw m at p.3 in
            let f = done v k (rw at_x e) in
            let g : get_or component x 0 ≡ b = rw at_x at (s.queue_in i within).1 in
            inl (f, omega (arith, s.above v k f))
        | inr m ↦ inr (p.0, omega (arith, p.1), p.2, p.3)
      ]
    ];
  }

  -- The component is complete, and the next one begins.
  pub lowered : length queue ≤ i → 0 < b → 0 < get_or component (get_or out (b - 1) 0) 0
      → AreComponentsFrom E n out (b - 1) component [] 0
  lowered whole some root = record {
    component_len = s.component_len;
    component_in = s.component_in;
    above = λ x h k. omega (arith, s.above x h k);
    queue_in = λ k h. absurd (omega arith);
    to_root = s.to_root;
    spans = s.spans;
    later = λ z h k. elim (cases_eq z (b - 1)) [ inl e ↦ rw e root | inr ne ↦ s.later z (omega arith) k ];
    closed = λ x v h k l e. elim (s.closed x v h k l e) [
      | inl p ↦ inl p
      | inr p ↦ absurd (omega (arith, p.1, p.2))
    ];
  }

-- All components are complete.
pub components_from_all : (E : ℕ → ℕ → Type 0) (n : ℕ) (out component : List ℕ)
    → AreComponentsFrom E n out 0 component [] 0 → IsFinishOrder E n out
    → AreComponents E n (length out) component
components_from_all E n out component s o =
    let some : (x : ℕ) → x < n → 0 < get_or component x 0 =
    λ x h. let p = o.all x h in rw p.2 at (s.later p.0 (omega arith) p.1) in
    record {
      component_len = s.component_len;
      component_in = λ x h. (some x h, s.component_in x h);
      mutual_ = λ x y h k e.
          let t = rw (← e) at (s.spans y k (some y k)) in
          let root = get_or out (get_or component x 0 - 1) 0 in
          Leads-trans E x root y (s.to_root x h (some x h)) (rw t.1 at (t.3 t.0 (omega arith) t.2));
      down = λ x y h k e. elim (s.closed y x k h (some y k) e) [
        | inl p ↦ p.1
        | inr p ↦ absurd (omega (arith, p.2))
      ];
    }

zero_at : (b : ℕ) → 0 < b → is_zero b ≡ 0
zero_at b h = grind (arith, nat_tests)

-- The number of zeros decreases by one.
pub zero_less : (xs : List ℕ) (v b : ℕ) → v < length xs → get_or xs v 0 ≡ 0 → 0 < b
    → sum_by is_zero (set xs v b) + 1 ≡ sum_by is_zero xs
zero_less xs v b h is some =
    let e = sum_by-set is_zero xs v b 0 h in
    let f : is_zero (get_or xs v 0) ≡ 1 = ap is_zero is in
    let g : is_zero b ≡ 0 = zero_at b some in
    omega arith

-- The targets of a component's edges, and what the lower ones reach, are all that the component reaches.
module _ (E : ℕ → ℕ → Type 0) (n count : ℕ) (component : List ℕ) (p : ℕ) (L : List ℕ)
    (s : AreComponents E n count component) (inside : (x y : ℕ) → x < n → E x y → y < n)
    (direct : (x w : ℕ) → x < n → get_or component x 0 ≡ p → E x w → IsIn L w)
    (lower : (x w y : ℕ) → x < n → get_or component x 0 ≡ p → E x w → get_or component w 0 < p
    → (ys : List ℕ) → Walk E w ys y → IsIn L y) where
  pub reached_by_component : (x z y : ℕ) → x < n → get_or component x 0 ≡ p → E x z → (ys : List ℕ)
      → Walk E z ys y → IsIn L y
  reached_by_component x z y h is e [] w = subst (IsIn L) w (direct x z h is e)
  reached_by_component x z y h is e (u ∷ ys) w =
      let z_in = inside x z h e in
      elim (cases_lt (get_or component z 0) p) [
        | inl under ↦ lower x z y h is e under (u ∷ ys) w
        | inr k ↦
            let same : get_or component z 0 ≡ p = let d = s.down x z h z_in e in omega arith in
            reached_by_component z u y z_in same w.0 ys w.1
      ]
