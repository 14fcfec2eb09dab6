-- Pairs of a key and a value on top of a stack.
use Rattle.std.proofs.Common.{◌≡◌, ◌∙◌, ap, sym, refl, subst, ℕ, ◌+◌, ◌-◌, ◌<◌, suc, List, [], ◌∷◌, ◌++◌, arith}
use Rattle.std.proofs.Common.{map, Bool, true, append_assoc}
use Rattle.std.proofs.lemmas.List.{map-append}
use Rattle.cedar_terms.specs.LiteralTree.{string_literal}
use Rattle.cedar_terms.specs.ValueTree.{ValueTree, literal_value}
use Rattle.cedar_c_lists.specs.declared.reason.Reason.{Reason}
use Rattle.cedar_c_lists.specs.declared.reason.Reason.TheVariants.{BadArgument}
use Rattle.cedar_c_trees.specs.laws.Stacks.{is_text_value, IsNoTextOn, AreNoPairs, ArePairsOn}
use Rattle.cedar_c_trees.proofs.Raised.{cut_same}

-- The pair on top of others.
record HasPair (j : ℕ) (bs : List Bool) : Type 0 where
  less : List Bool
  last : Bool
  whole : bs ≡ less ++ true ∷ last ∷ []
  others : ArePairsOn j less

pair_on : (n k : ℕ) (bs : List Bool) → k < n → ArePairsOn (n - k) bs → HasPair (n - (k + 1)) bs
pair_on n k bs lt h =
    let e : n - k ≡ suc (n - (k + 1)) = omega arith in
    let r : ArePairsOn (suc (n - (k + 1))) bs = subst (λ (j : ℕ). ArePairsOn j bs) e h in
    record { less = r.0; last = r.1; whole = r.2; others = r.3 }

-- One more pair is popped.
pub pair_off : (n k : ℕ) (old less new : List ValueTree) (v : ValueTree) (s : List ℕ) → k < n → old ≡ less ++ v ∷ []
    → less ≡ new ++ literal_value (string_literal s) ∷ [] → ArePairsOn (n - k) (map is_text_value old)
    → ArePairsOn (n - (k + 1)) (map is_text_value new)
pair_off n k old less new v s lt e f h =
    let p : HasPair (n - (k + 1)) (map is_text_value old) = pair_on n k (map is_text_value old) lt h in
    let whole : map is_text_value old ≡ map is_text_value new ++ true ∷ is_text_value v ∷ [] =
    ap (map is_text_value) (e ∙ ap (λ (l : List ValueTree). l ++ v ∷ []) f
    ∙ append_assoc new (literal_value (string_literal s) ∷ []) (v ∷ []))
    ∙ map-append is_text_value new (literal_value (string_literal s) ∷ v ∷ []) in
    subst (ArePairsOn (n - (k + 1)))
    (cut_same p.less (true ∷ p.last ∷ []) (map is_text_value new) (true ∷ is_text_value v ∷ []) (sym p.whole ∙ whole) refl).0
    p.others

nothing_more : (less : List Bool) (b : Bool) → [] ≡ less ++ true ∷ b ∷ [] → ⊥
nothing_more [] b e = cc
nothing_more (x ∷ less) b e = cc

-- There is no value to pop.
pub no_value_left : (n k : ℕ) (first old : List ValueTree) (w : Reason) → k < n
    → (ArePairsOn n (map is_text_value first) → ArePairsOn (n - k) (map is_text_value old))
    → (w ≡ BadArgument) × (old ≡ []) → AreNoPairs n (map is_text_value first) w
no_value_left n k first old w lt f h =
    subst (AreNoPairs n (map is_text_value first)) (sym h.0)
    (λ p.
    let r : HasPair (n - (k + 1)) (map is_text_value old) = pair_on n k (map is_text_value old) lt (f p) in
    nothing_more r.less r.last (sym (ap (map is_text_value) h.1) ∙ r.whole))

-- There is no key to pop.
pub no_key_left : (n k : ℕ) (first old less : List ValueTree) (v : ValueTree) (w : Reason) → k < n
    → (ArePairsOn n (map is_text_value first) → ArePairsOn (n - k) (map is_text_value old)) → old ≡ less ++ v ∷ []
    → IsNoTextOn (map is_text_value less) w → AreNoPairs n (map is_text_value first) w
no_key_left n k first old less v BadArgument lt f e h =
    λ p.
    let r : HasPair (n - (k + 1)) (map is_text_value old) = pair_on n k (map is_text_value old) lt (f p) in
    h r.less
    (cut_same (map is_text_value less) (is_text_value v ∷ []) (r.less ++ true ∷ []) (r.last ∷ [])
    (sym (map-append is_text_value less (v ∷ [])) ∙ sym (ap (map is_text_value) e) ∙ r.whole
    ∙ sym (append_assoc r.less (true ∷ []) (r.last ∷ []))) refl).0
no_key_left n k first old less v w lt f e h = absurd h

never : (less : List Bool) → [] ≡ less ++ true ∷ [] → ⊥
never [] e = cc
never (x ∷ less) e = cc

-- There is nothing on top of an empty stack.
pub no_text_on_none : (old : List ValueTree) (w : Reason) → (w ≡ BadArgument) × (old ≡ [])
    → IsNoTextOn (map is_text_value old) w
no_text_on_none old w h =
    subst (IsNoTextOn (map is_text_value old)) (sym h.0)
    (λ less e. never less (sym (ap (map is_text_value) h.1) ∙ e))
