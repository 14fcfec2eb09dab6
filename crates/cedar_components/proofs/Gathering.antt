-- Invariants of the components as numbers are added.
use Rattle.std.proofs.Common.{◌≡◌, ℕ, ◌-◌, ◌<◌, ◌≤◌, inl, inr, [], ◌∷◌, arith, length}
use Rattle.std.proofs.Common.{length-append, get_or, get_or-set_same, get_or-set_other}
use Rattle.std.proofs.lemmas.Bool.{cases_eq}
use Rattle.cedar_components.specs.laws.Arcs.{IsArc}
use Rattle.cedar_components.specs.laws.Components.{IsGathered, IsGathering, Gathers, HasComponent, Joins}
use Rattle.cedar_components.specs.declared.components.Components.{Components}
use Rattle.cedar_components.specs.declared.components.Searched.{Searched}
use Rattle.cedar_components.proofs.ComponentSteps.{rooted, joined_before, zero_less}

module _ (g : Searched) (b v : ℕ) (s t : Components) (j : Joins v b s t) (within : v < length s.component.items)
    (some : 0 < b) where
  -- A number that is added to a component has a component.
  pub joins_has : HasComponent t v
  joins_has = rw (j.component, get_or-set_same s.component.items v b 0 within) some

  -- A number with an arc to a number of the queue is added to its component.
  pub joins : (i : ℕ) → IsGathering g b i s → get_or s.component.items v 0 ≡ 0 → i < length s.queue.items
      → IsArc g.arcs v (get_or s.queue.items i 0) → Gathers g b i s t
  joins i h fresh in_queue edge =
      let n = g.numbers in
      let order = g.order.now in
      let component = s.component.items in
      let queue = s.queue.items in
      let q = h.components.queue_in i in_queue in
      let v_in : v < n = omega (arith, h.components.component_len, within) in
      let in_order = h.in_order in
      let until : i ≤ length queue = omega (arith, in_queue) in
      let more = joined_before (IsArc g.arcs) n order b component queue i h.components v (get_or queue i 0)
      h.searched.order v_in fresh some in_order until q.0 q.1 edge in
      let fewer = zero_less component v b within fresh some in
      let longer = length-append queue (v ∷ []) in
      record {
        state = record {
          searched = h.searched;
          some = some;
          in_order = in_order;
          components = rw (j.component, j.queue) more;
        };
        less = rw (j.component, j.queue, longer) (omega (arith, fewer));
        longer = rw (j.queue, longer) (omega arith);
        stays = λ x k. elim (cases_eq x v) [
          | inl e ↦ rw e joins_has
          | inr ne ↦ rw (j.component, get_or-set_other component v x b 0 ne) k
        ];
      }

-- The root is the first member of its component.
pub root_joins : (g : Searched) (b : ℕ) (s t : Components) → IsGathered g b s → 0 < b
    → get_or s.component.items (get_or g.order.now (b - 1) 0) 0 ≡ 0 → Joins (get_or g.order.now (b - 1) 0) b s t
    → IsGathering g b 0 t
root_joins g b s t h some fresh j =
    record {
      searched = h.searched;
      some = some;
      in_order = h.in_order;
      components = rw (j.component, j.queue, h.empty)
          (rooted (IsArc g.arcs) g.numbers g.order.now b s.component.items h.components h.searched.order some h.in_order
          fresh);
    }
