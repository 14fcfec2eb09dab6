-- A part of a graph that has all edges from each key that passes, and whose edges lead to keys that pass.
use Rattle.std.specs.Prelude.{◌≡◌, ◌⊎◌, Bool, true, false, List, [], ◌∷◌}
use Rattle.std.proofs.Common.{sym, refl, ◌∙◌, inl, inr}
use Rattle.std.proofs.lemmas.Bool.{false≢true}
use Rattle.cedar_graph.specs.Graph.{Path, Reach, HasNoCycle}
use Rattle.cedar_graph.specs.laws.Reaches.{reach_edge, reach_over_reach}

pub passes_or_not : (b : Bool) → (b ≡ true) ⊎ (b ≡ false)
passes_or_not true = inl refl
passes_or_not false = inr refl

module _ {K : Type 0} (passes : K → Bool) (whole part : K → K → Bool)
    (keeps : (a b : K) → passes a ≡ true → whole a b ≡ true → (part a b ≡ true) × (passes b ≡ true)) where
  path_in : (a b : K) (xs : List K) → passes a ≡ true → Path whole a xs b → Path part a xs b × (passes b ≡ true)
  path_in a b [] h p = keeps a b h p
  path_in a b (x ∷ xs) h p = let k = keeps a x h p.0 in let r = path_in x b xs k.1 p.1 in ((k.0, r.0), r.1)

  -- A key reached from a key that passes is reached in the part.
  pub reach_in : (a b : K) → passes a ≡ true → Reach whole a b → Reach part a b
  reach_in a b h r = (r.0, (path_in a b r.0 h r.1).0)

  module _ (old : K → K → Bool) (outside : (a b : K) → passes a ≡ false → whole a b ≡ true → old a b ≡ true) where
    first_out : (a b : K) (xs : List K) → passes b ≡ false → Path whole a xs b → passes a ≡ false
    first_out a b xs h p = elim (passes_or_not (passes a)) [
      | inl t ↦ absurd (false≢true (sym h ∙ (path_in a b xs t p).1))
      | inr f ↦ f
    ]

    path_out : (a b : K) (xs : List K) → passes b ≡ false → Path whole a xs b → Path old a xs b
    path_out a b [] h p = outside a b (first_out a b [] h p) p
    path_out a b (x ∷ xs) h p = (outside a x (first_out a b (x ∷ xs) h p) p.0, path_out x b xs h p.1)

    -- If the other keys lie on no cycle, each cycle of the whole is a cycle of the part.
    pub cycle_in : HasNoCycle old → (v : K) → Reach whole v v → Reach part v v
    cycle_in none v r = elim (passes_or_not (passes v)) [
      | inl t ↦ reach_in v v t r
      | inr f ↦ absurd (none v (r.0, path_out v v r.0 f r.1))
    ]

-- A part that has the edges of the whole from each key that passes, and no other edges.
module _ {K : Type 0} (passes : K → Bool) (whole part : K → K → Bool)
    (same : (a b : K) → passes a ≡ true → part a b ≡ whole a b) (none : (a b : K) → passes a ≡ false → part a b ≡ false) where
  -- The edges of the part are edges of the whole.
  pub edge_out : (a b : K) → part a b ≡ true → whole a b ≡ true
  edge_out a b h = elim (passes_or_not (passes a)) [
    | inl t ↦ sym (same a b t) ∙ h
    | inr f ↦ absurd (false≢true (sym (none a b f) ∙ h))
  ]

  -- Everything reached in the part is reached in the whole.
  pub reach_out : (a b : K) → Reach part a b → Reach whole a b
  reach_out a b r = reach_over_reach whole part (λ x y h. reach_edge whole x y (edge_out x y h)) a b r
