-- The reasons why nodes do not build a value on top of a stack.
use Rattle.std.proofs.Common.{◌≡◌, ◌∙◌, ap, sym, refl, subst, ℕ, ◌+◌, zero, suc, length, List, [], ◌∷◌, ◌++◌, arith}
use Rattle.std.proofs.Common.{Bool, true, append_assoc}
use Rattle.cedar_terms.specs.ValueTree.{ValueTree}
use Rattle.cedar_c_lists.specs.declared.reason.Reason.{Reason}
use Rattle.cedar_c_lists.specs.declared.reason.Reason.TheVariants.{NoMemory, BadArgument}
use Rattle.cedar_c_trees.specs.Items.{Item, bool_item, long_item, text_item, uid_item, set_item, record_item, call_item}
use Rattle.cedar_c_trees.specs.Items.{Combines}
use Rattle.cedar_c_trees.specs.laws.Levels.{arity}
use Rattle.cedar_c_trees.specs.Shapes.{Fits, is_text, keyed, IsAllowedInValue}
use Rattle.cedar_c_trees.specs.laws.Stacks.{is_text_value, IsUnmade, AreNoPairs}
use Rattle.cedar_c_trees.specs.laws.Stacks.{ArePairsOn}
use Rattle.cedar_c_trees.specs.declared.node.Node.{Node}
use Rattle.cedar_c_trees.proofs.Refusing.{IsLanguage}
use Rattle.cedar_c_trees.proofs.ValueBack.{combines_arity}

length_keyed : (bs : List Bool) → length (keyed bs) ≡ length bs + length bs
length_keyed [] = refl
length_keyed (b ∷ bs) = omega (arith, length_keyed bs)

pub value_arity : (i : Item) (under : List Bool) → IsAllowedInValue i under → length under ≡ arity i
value_arity (bool_item b) under h = ap length h
value_arity (long_item z) under h = ap length h
value_arity (text_item s) under h = ap length h
value_arity (uid_item u) under h = ap length h
value_arity (set_item k) under h = h
value_arity (record_item k) under h = omega (arith, ap length h.2, length_keyed h.0, h.1)
value_arity (call_item f k) under h = ap length h.1 ∙ sym h.0
value_arity i under h = absurd h

pub combines_marked : (i : Item) (vs : List ValueTree) (v : ValueTree) → Combines i vs v → is_text_value v ≡ is_text i
combines_marked (bool_item b) vs v h = ap is_text_value h.1
combines_marked (long_item n) vs v h = ap is_text_value h.1
combines_marked (text_item s) vs v h = ap is_text_value h.1
combines_marked (uid_item u) vs v h = ap is_text_value h.1
combines_marked (set_item n) vs v h = ap is_text_value h.1.is
combines_marked (record_item n) vs v h = ap is_text_value h.3.is
combines_marked (call_item f n) vs v h = ap is_text_value h.3
combines_marked i vs v h = absurd h

-- Values satisfy the conditions of `IsLanguage`.
pub values : IsLanguage Combines is_text_value IsAllowedInValue
values = record { made_arity = combines_arity; plan_arity = value_arity; marked = combines_marked }

-- The last of some elements.
record HasLast (bs : List Bool) (k : ℕ) : Type 0 where
  less : List Bool
  last : Bool
  whole : bs ≡ less ++ last ∷ []
  count : length less ≡ k

last_of : (bs : List Bool) (k : ℕ) → length bs ≡ suc k → HasLast bs k
last_of [] k e = absurd (omega (arith, e))
last_of (b ∷ []) k e = record { less = []; last = b; whole = refl; count = omega (arith, e) }
last_of (b ∷ c ∷ bs) zero e = absurd (omega (arith, e))
last_of (b ∷ c ∷ bs) (suc k) e =
    let r : HasLast (c ∷ bs) k = last_of (c ∷ bs) k (omega (arith, e)) in
    record {
      less = b ∷ r.less;
      last = r.last;
      whole = ap (λ (l : List Bool). b ∷ l) r.whole;
      count = ap suc r.count;
    }

keyed_last : (bs : List Bool) (b : Bool) → keyed (bs ++ b ∷ []) ≡ keyed bs ++ true ∷ b ∷ []
keyed_last [] b = refl
keyed_last (c ∷ bs) b = ap (λ (l : List Bool). true ∷ c ∷ l) (keyed_last bs b)

pairs_on : (k : ℕ) (front bs : List Bool) → length bs ≡ k → ArePairsOn k (front ++ keyed bs)
pairs_on zero front bs e = tt
pairs_on (suc k) front bs e =
    let r : HasLast bs k = last_of bs k e in (
      front ++ keyed r.less,
      r.last,
      ap (λ (l : List Bool). front ++ keyed l) r.whole ∙ ap (λ (l : List Bool). front ++ l) (keyed_last r.less r.last)
          ∙ sym (append_assoc front (keyed r.less) (true ∷ r.last ∷ [])),
      pairs_on k front r.less r.count,
    )

-- There are not that many pairs on top of the stack.
recorded_on : (text : List ℕ) (n : Node) (i : Item) (front under : List Bool) → n.kind ≡ 5 → Fits text n i
    → IsAllowedInValue i under → ArePairsOn n.len (front ++ under)
recorded_on text n (record_item k) front under e f s =
    subst (λ (l : List Bool). ArePairsOn n.len (front ++ l)) (sym s.2)
    (pairs_on n.len front s.0 (s.1 ∙ sym f.filled))
recorded_on text n (set_item k) front under e f s = absurd (omega (arith, e, f.kind))
recorded_on text n (call_item g k) front under e f s = absurd (omega (arith, e, f.kind))
recorded_on text n (bool_item b) front under e f s = absurd (omega (arith, e, f.kind))
recorded_on text n (long_item z) front under e f s = absurd (omega (arith, e, f.kind))
recorded_on text n (text_item t) front under e f s = absurd (omega (arith, e, f.kind))
recorded_on text n (uid_item u) front under e f s = absurd (omega (arith, e, f.kind))
recorded_on text n i front under e f s = absurd s

pub record_unmade : (text : List ℕ) (n : Node) (bs : List Bool) (w : Reason) → n.kind ≡ 5 → AreNoPairs n.len bs w
    → IsUnmade IsAllowedInValue text n bs w
record_unmade text n bs NoMemory k h = tt
record_unmade text n bs BadArgument k h =
    λ i front under f s e. h (subst (ArePairsOn n.len) (sym e) (recorded_on text n i front under k f s))
record_unmade text n bs w k h = absurd h
