-- A decoded value is ordered, and the types of decoded unknowns are names.
use Rattle.std.proofs.Common.{◌≡◌, ◌∙◌, ap, sym, refl, subst, ℕ, ◌<◌, zero, suc, length, List, [], ◌∷◌}
use Rattle.std.proofs.Common.{Option, Some, None, arith, Bool, true, false, cond}
use Rattle.std.proofs.Math.ListN.{get_or}
use Rattle.std.proofs.lemmas.Slice.Eq.{bytes_eq-Decides}
use Rattle.std.specs.Cmp.Lexicographic.{slice_cmp}
use Rattle.std.specs.List.{AllByRecursion}
use Rattle.std.specs.List.Sorted.{IsStrictlySortedBy}
use Rattle.std.specs.Option.{option_or, IfSome}
use Rattle.std.specs.Ordering.{nat_cmp}
use Rattle.std.specs.Prelude.{Contains}
use Rattle.std.specs.Str.{bytes_eq}
use Rattle.cedar_ids.specs.Name.{NameParts}
use Rattle.cedar_terms.specs.ExprTree.{ExprTree}
use Rattle.cedar_terms.specs.ExprTree.{expr_trees}
use Rattle.cedar_terms.specs.Fields.{field_at, field_keys, last_at, IsRecordOf, IsSetOf}
use Rattle.cedar_terms.specs.ValueTree.{ValueTree, value_trees}
use Rattle.cedar_terms.specs.ValueTree.{FieldTrees, no_fields, field_then, value_cmp}
use Rattle.cedar_c_trees.specs.Items.{Item, bool_item, long_item, text_item, uid_item, set_item, record_item, call_item}
use Rattle.cedar_c_trees.specs.Items.{var_item, slot_item, unknown_item, not_item, binary_item, is_item, Combines}
use Rattle.cedar_c_trees.specs.Items.{BuildsExpr, pairs_listed}
use Rattle.cedar_c_trees.specs.Items.{IsTypeOfOperand}
use Rattle.cedar_c_trees.specs.Ordered.{AreOrdered, HaveOrdered, IsOrdered, value_list}
use Rattle.cedar_c_trees.specs.Plans.{HasNames, HaveNames, IsTyped}
use Rattle.cedar_c_trees.specs.Reads.{IsReadAs}
use Rattle.cedar_c_trees.specs.declared.node.Node.{Node}
use Rattle.cedar_c_trees.proofs.Made.{made_has}
use Rattle.cedar_c_trees.proofs.ValueBack.{at_own, later, none_below}

-- A property of each value is a property of one of them.
all_has : (vs : List ValueTree) (k : ℕ) (d : ValueTree) → AllByRecursion IsOrdered vs → k < length vs
    → IsOrdered (get_or vs k d)
all_has [] k d a l = absurd (omega arith)
all_has (v ∷ vs) zero d a l = a.0
all_has (v ∷ vs) (suc k) d a l = all_has vs k d a.1 (omega arith)

one_of : (vs : List ValueTree) (w : ValueTree) → AllByRecursion IsOrdered vs → Contains vs w → IsOrdered w
one_of vs w a c = subst IsOrdered c.2 (all_has vs c.0 w a c.1)

elements_ordered : (vs : List ValueTree) → ((w : ValueTree) → Contains vs w → IsOrdered w) → AreOrdered (value_trees vs)
elements_ordered [] f = tt
elements_ordered (v ∷ vs) f =
    (f v (zero, omega arith, refl), elements_ordered vs (λ w c. f w (later v vs w c)))

listed : (vs : List ValueTree) → value_list (value_trees vs) ≡ vs
listed [] = refl
listed (v ∷ vs) = ap (λ l. v ∷ l) (listed vs)

set_ordered : (vs : List ValueTree) (v : ValueTree) → AllByRecursion IsOrdered vs → IsSetOf vs v → IsOrdered v
set_ordered vs v a s =
    subst IsOrdered (sym s.is) (
      subst (IsStrictlySortedBy value_cmp) (sym (listed s.elements)) s.ascending,
      elements_ordered s.elements (λ w c. one_of vs w a (s.only w c)),
    )

or_has : (o p : Option ValueTree) → IfSome o IsOrdered → IfSome p IsOrdered → IfSome (option_or o p) IsOrdered
or_has None p h g = g
or_has (Some v) p h g = h

if_has : (b : Bool) (v : ValueTree) → IsOrdered v → IfSome (cond b (Some v) None) IsOrdered
if_has true v h = h
if_has false v h = tt

last_has : (key : List ℕ) (ps : List (List ℕ × ValueTree)) → AllByRecursion IsOrdered (pairs_listed ps)
    → IfSome (last_at key ps) IsOrdered
last_has key [] a = tt
last_has key (p ∷ ps) a =
    or_has (last_at key ps) (cond (bytes_eq p.0 key) (Some p.1) None) (last_has key ps a.1.1)
    (if_has (bytes_eq p.0 key) p.1 a.1.0)

rest_has : (key k : List ℕ) (v : ValueTree) (fs : FieldTrees) (t : Bool) → bytes_eq k key ≡ t → field_at k fs ≡ None
    → IfSome (field_at key (field_then k v fs)) IsOrdered → IfSome (field_at key fs) IsOrdered
rest_has key k v fs true q a h =
    let e : field_at key fs ≡ None = ap (λ x. field_at x fs) (sym ((bytes_eq-Decides k key).0 q)) ∙ a in
    subst (λ (o : Option ValueTree). IfSome o IsOrdered) (sym e) tt
rest_has key k v fs false q a h =
    subst (λ (o : Option ValueTree). IfSome o IsOrdered) (ap (λ t. cond t (Some v) (field_at key fs)) q) h

fields_ordered : (fs : FieldTrees) → IsStrictlySortedBy (slice_cmp nat_cmp) (field_keys fs)
    → ((key : List ℕ) → IfSome (field_at key fs) IsOrdered) → HaveOrdered fs
unfolding IsStrictlySortedBy
fields_ordered no_fields s f = tt
fields_ordered (field_then k v fs) s f = (
  subst (λ (o : Option ValueTree). IfSome o IsOrdered) (at_own k v fs) (f k),
  fields_ordered fs s.1 (λ key. rest_has key k v fs (bytes_eq k key) refl (none_below k fs s.0) (f key)),
)

record_ordered : (ps : List (List ℕ × ValueTree)) (v : ValueTree) → AllByRecursion IsOrdered (pairs_listed ps)
    → IsRecordOf ps v → IsOrdered v
record_ordered ps v a r =
    subst IsOrdered (sym r.is) (
      r.ascending,
      fields_ordered r.fields r.ascending
          (λ key. subst (λ (o : Option ValueTree). IfSome o IsOrdered) (sym (r.last key)) (last_has key ps a)),
    )

-- A node builds an ordered value from ordered values.
combines_ordered : (i : Item) (vs : List ValueTree) (v : ValueTree) → AllByRecursion IsOrdered vs → Combines i vs v
    → IsOrdered v
combines_ordered (bool_item b) vs v a h = subst IsOrdered (sym h.1) tt
combines_ordered (long_item n) vs v a h = subst IsOrdered (sym h.1) tt
combines_ordered (text_item s) vs v a h = subst IsOrdered (sym h.1) tt
combines_ordered (uid_item u) vs v a h = subst IsOrdered (sym h.1) tt
combines_ordered (set_item n) vs v a h = set_ordered vs v a h.1
combines_ordered (record_item n) vs v a h = record_ordered h.0 v (subst (AllByRecursion IsOrdered) h.1 a) h.3
combines_ordered (call_item f n) vs v a h = subst IsOrdered (sym h.3) tt
combines_ordered (var_item x) vs v a h = absurd h
combines_ordered (slot_item s) vs v a h = absurd h
combines_ordered (unknown_item s n) vs v a h = absurd h
combines_ordered not_item vs v a h = absurd h
combines_ordered (binary_item o) vs v a h = absurd h
combines_ordered (is_item t) vs v a h = absurd h

exprs_named : (es : List ExprTree) → AllByRecursion HasNames es → HaveNames (expr_trees es)
exprs_named [] a = tt
exprs_named (e ∷ es) a = (a.0, exprs_named es a.1)

type_named : (t : Option NameParts) (n : ℕ) (es : List ExprTree) → IsTypeOfOperand t n es → IsTyped t
type_named None n es h = tt
type_named (Some t) n es h = h.3.0

-- A node builds an expression with named types from expressions with named types.
joins_named : (i : Item) (es : List ExprTree) (e : ExprTree) → AllByRecursion HasNames es → BuildsExpr i es e → HasNames e
joins_named (bool_item b) es e a h = subst HasNames (sym h.1) tt
joins_named (long_item n) es e a h = subst HasNames (sym h.1) tt
joins_named (text_item s) es e a h = subst HasNames (sym h.1) tt
joins_named (uid_item u) es e a h = subst HasNames (sym h.1) tt
joins_named (set_item n) es e a h = subst HasNames (sym h.1) (exprs_named es a)
joins_named (record_item n) es e a h = absurd h
joins_named (call_item f n) es e a h = subst HasNames (sym h.1) (exprs_named es a)
joins_named (var_item v) es e a h = subst HasNames (sym h.1) tt
joins_named (slot_item s) es e a h = subst HasNames (sym h.1) tt
joins_named (unknown_item s n) es e a h = subst HasNames (sym h.2) (type_named h.0 n es h.1)
joins_named not_item es e a h = subst HasNames (sym h.2) (subst (AllByRecursion HasNames) h.1 a).0
joins_named (binary_item o) es e a h =
    let b : AllByRecursion HasNames (h.0 ∷ h.1 ∷ []) = subst (AllByRecursion HasNames) h.2 a in
    subst HasNames (sym h.3) (b.0, b.1.0)
joins_named (is_item t) es e a h = subst HasNames (sym h.2) (subst (AllByRecursion HasNames) h.1 a).0

-- A decoded value is ordered.
pub read_ordered : (text : List ℕ) (ns : List Node) (v : ValueTree) → IsReadAs Combines text ns v → IsOrdered v
read_ordered text ns v r = made_has Combines IsOrdered combines_ordered r.tree v r.value

-- The types of decoded unknowns are names.
pub read_named : (text : List ℕ) (ns : List Node) (e : ExprTree) → IsReadAs BuildsExpr text ns e → HasNames e
read_named text ns e r = made_has BuildsExpr HasNames joins_named r.tree e r.value
