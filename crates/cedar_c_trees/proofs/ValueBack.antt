-- The nodes of a value are decoded as it, and as nothing else.
use Rattle.std.proofs.Common.{◌≤◌, ◌≡◌, ◌∙◌, ap, sym, refl, subst, ℕ, ◌+◌, ◌<◌, zero, suc, length, List, [], ◌∷◌}
use Rattle.std.proofs.Common.{Option, Some, None, arith, Bool, true, false, cond, ◌⊎◌, inl, inr}
use Rattle.std.proofs.lemmas.Cmp.{nat_list_cmp_total}
use Rattle.std.proofs.lemmas.Map.Lookups.{exact_bytes}
use Rattle.std.proofs.lemmas.Map.Text.{is_eq-slice_cmp}
use Rattle.std.proofs.lemmas.Slice.Eq.{bytes_eq-Decides}
use Rattle.std.specs.Cmp.Lexicographic.{slice_cmp, nat_list_eq_equiv}
use Rattle.std.specs.List.{AllByRecursion}
use Rattle.std.specs.List.Sorted.{IsStrictlySortedBy}
use Rattle.std.specs.Option.{option_or}
use Rattle.std.specs.Ordering.{is_eq, nat_cmp, ordering_reverse}
use Rattle.std.specs.Prelude.{Contains, slice_index_or}
use Rattle.std.specs.Str.{bytes_eq}
use Rattle.std.specs.declared.cmp.Ordering.{Ordering}
use Rattle.std.specs.declared.cmp.Ordering.TheVariants.{Less, Equal, Greater}
use Rattle.cedar_terms.specs.Fields.{field_at, field_keys, last_at, IsRecordOf, IsSetOf}
use Rattle.cedar_terms.specs.LiteralTree.{bool_literal, long_literal, string_literal, uid_literal}
use Rattle.cedar_terms.specs.ValueTree.{ValueTree, literal_value, set_value, record_value, extension_value, value_cmp}
use Rattle.cedar_terms.specs.ValueTree.{ValueTrees, no_values, value_then, FieldTrees, no_fields, field_then}
use Rattle.cedar_terms.specs.ValueTree.{value_trees}
use Rattle.cedar_terms.specs.laws.ValueLaws.{value_cmp_total}
use Rattle.cedar_c_trees.specs.Items.{Item, bool_item, long_item, text_item, uid_item, set_item, record_item, call_item}
use Rattle.cedar_c_trees.specs.Items.{var_item, slot_item, unknown_item, not_item, binary_item, is_item, Combines}
use Rattle.cedar_c_trees.specs.Items.{Tree, flat, IsBuiltFrom, AreBuiltFrom, pairs_listed}
use Rattle.cedar_c_trees.specs.Ordered.{AreOrdered, HaveOrdered, IsOnlyRead, IsOrdered, value_list}
use Rattle.cedar_c_trees.specs.Plans.{fields_count, fields_plan, value_items, value_plan, values_count, values_plan}
use Rattle.cedar_c_trees.specs.Reads.{AllDecode}
use Rattle.cedar_c_trees.specs.Writes.{AreAscii}
use Rattle.cedar_c_trees.specs.Items.{tree_levels}
use Rattle.cedar_c_trees.specs.Items.{level_limit}
use Rattle.cedar_c_trees.specs.declared.node.Node.{Node}
use Rattle.cedar_c_trees.proofs.Made.{one_made}
use Rattle.cedar_c_trees.proofs.SameItem.{same_items}
use Rattle.cedar_c_trees.proofs.Unique.{arity, full, one_tree_only}

length_pairs : (ps : List (List ℕ × ValueTree)) → length (pairs_listed ps) ≡ length ps + length ps
length_pairs [] = refl
length_pairs (p ∷ ps) = omega (arith, length_pairs ps)

-- A value is built from as many operands as its item has.
pub combines_arity : (i : Item) (vs : List ValueTree) (v : ValueTree) → Combines i vs v → length vs ≡ arity i
combines_arity (bool_item b) vs v h = ap length h.0
combines_arity (long_item n) vs v h = ap length h.0
combines_arity (text_item s) vs v h = ap length h.0
combines_arity (uid_item u) vs v h = ap length h.0
combines_arity (set_item n) vs v h = h.0
combines_arity (record_item n) vs v h =
    ap length h.1 ∙ length_pairs h.0 ∙ ap (λ k. k + length h.0) h.2 ∙ ap (λ k. n + k) h.2
combines_arity (call_item f n) vs v h = ap length h.2 ∙ sym h.1
combines_arity (var_item x) vs v h = absurd h
combines_arity (slot_item s) vs v h = absurd h
combines_arity (unknown_item s n) vs v h = absurd h
combines_arity not_item vs v h = absurd h
combines_arity (binary_item o) vs v h = absurd h
combines_arity (is_item t) vs v h = absurd h

none_in : (w : ValueTree) → Contains [] w → ⊥
none_in w c = omega (arith, c.1)

here : (v : ValueTree) (vs : List ValueTree) → Contains (v ∷ vs) v
here v vs = (zero, omega arith, refl)

pub later : (v : ValueTree) (vs : List ValueTree) (w : ValueTree) → Contains vs w → Contains (v ∷ vs) w
later v vs w c = (suc c.0, omega (arith, c.1), c.2)

split_at : (v : ValueTree) (vs : List ValueTree) (w : ValueTree) (k : ℕ) → k < length (v ∷ vs)
    → slice_index_or (v ∷ vs) k w ≡ w → (v ≡ w) ⊎ Contains vs w
split_at v vs w zero l e = inl e
split_at v vs w (suc k) l e = inr (k, omega arith, e)

split : (v : ValueTree) (vs : List ValueTree) (w : ValueTree) → Contains (v ∷ vs) w → (v ≡ w) ⊎ Contains vs w
split v vs w c = split_at v vs w c.0 c.1 c.2

below_at : (x : ValueTree) (vs : List ValueTree) (k : ℕ) (d : ValueTree)
    → AllByRecursion (λ y. value_cmp x y ≡ Less) vs → k < length vs → value_cmp x (slice_index_or vs k d) ≡ Less
below_at x [] k d a l = absurd (omega arith)
below_at x (v ∷ vs) zero d a l = a.0
below_at x (v ∷ vs) (suc k) d a l = below_at x vs k d a.1 (omega arith)

below_all : (x : ValueTree) (vs : List ValueTree) (w : ValueTree) → AllByRecursion (λ y. value_cmp x y ≡ Less) vs
    → Contains vs w → value_cmp x w ≡ Less
below_all x vs w a c = ap (value_cmp x) (sym c.2) ∙ below_at x vs c.0 w a c.1

not_both : (x y : ValueTree) → value_cmp x y ≡ Less → value_cmp y x ≡ Less → ⊥
not_both x y h g =
    let e : Less ≡ Greater = sym h ∙ value_cmp_total.antisymm x y ∙ ap ordering_reverse g in
    cc

not_itself : (x y : ValueTree) → x ≡ y → value_cmp x y ≡ Less → ⊥
not_itself x y e h = not_both x y h (ap (λ v. value_cmp v x) (sym e) ∙ ap (value_cmp x) e ∙ h)

same_head : (x y : ValueTree) (xs ys : List ValueTree) → AllByRecursion (λ v. value_cmp x v ≡ Less) xs
    → AllByRecursion (λ v. value_cmp y v ≡ Less) ys → (y ≡ x) ⊎ Contains ys x → (x ≡ y) ⊎ Contains xs y → x ≡ y
same_head x y xs ys a b (inl e) q = sym e
same_head x y xs ys a b (inr c) (inl e) = e
same_head x y xs ys a b (inr c) (inr d) = absurd (not_both x y (below_all x xs y a d) (below_all y ys x b c))

in_tail : (x y w : ValueTree) (xs ys : List ValueTree) → x ≡ y → AllByRecursion (λ v. value_cmp x v ≡ Less) xs
    → Contains xs w → (y ≡ w) ⊎ Contains ys w → Contains ys w
in_tail x y w xs ys e a c (inl f) = absurd (not_itself x w (e ∙ f) (below_all x xs w a c))
in_tail x y w xs ys e a c (inr d) = d

-- Ascending lists of the same values are equal.
same_ascending : (xs ys : List ValueTree) → IsStrictlySortedBy value_cmp xs → IsStrictlySortedBy value_cmp ys
    → ((w : ValueTree) → Contains xs w → Contains ys w) → ((w : ValueTree) → Contains ys w → Contains xs w) → xs ≡ ys
unfolding IsStrictlySortedBy
same_ascending [] [] s t f g = refl
same_ascending [] (y ∷ ys) s t f g = absurd (none_in y (g y (here y ys)))
same_ascending (x ∷ xs) [] s t f g = absurd (none_in x (f x (here x xs)))
same_ascending (x ∷ xs) (y ∷ ys) s t f g =
    let e : x ≡ y = same_head x y xs ys s.0 t.0 (split y ys x (f x (here x xs))) (split x xs y (g y (here y ys))) in
    let m : xs ≡ ys = same_ascending xs ys s.1 t.1
    (λ w c. in_tail x y w xs ys e s.0 c (split y ys w (f w (later x xs w c))))
    (λ w c. in_tail y x w ys xs (sym e) t.0 c (split x xs w (g w (later y ys w c)))) in
    λ i. e i ∷ m i

-- Values build one set.
same_set : (vs : List ValueTree) (v w : ValueTree) → IsSetOf vs v → IsSetOf vs w → v ≡ w
same_set vs v w h g =
    h.is
    ∙ ap (λ es. set_value (value_trees es))
    (same_ascending h.elements g.elements h.ascending g.ascending (λ x c. g.has x (h.only x c))
    (λ x c. h.has x (g.only x c)))
    ∙ sym g.is

unequal_keys : (k key : List ℕ) → slice_cmp nat_cmp key k ≡ Less → bytes_eq k key ≡ false
unequal_keys k key h = nat_list_eq_equiv.symm k key ∙ sym (is_eq-slice_cmp key k) ∙ ap is_eq h

-- There is nothing at a key that is less than all others.
pub none_below : (key : List ℕ) (fs : FieldTrees) → AllByRecursion (λ y. slice_cmp nat_cmp key y ≡ Less) (field_keys fs)
    → field_at key fs ≡ None
none_below key no_fields h = refl
none_below key (field_then k v fs) h =
    ap (λ b. cond b (Some v) (field_at key fs)) (unequal_keys k key h.0) ∙ none_below key fs h.1

all_below : (key k : List ℕ) (ks : List (List ℕ)) → slice_cmp nat_cmp key k ≡ Less
    → AllByRecursion (λ y. slice_cmp nat_cmp k y ≡ Less) ks → AllByRecursion (λ y. slice_cmp nat_cmp key y ≡ Less) ks
all_below key k [] h a = tt
all_below key k (y ∷ ks) h a = (nat_list_cmp_total.trans key k y h a.0, all_below key k ks h a.1)

pub at_own : (k : List ℕ) (v : ValueTree) (fs : FieldTrees) → field_at k (field_then k v fs) ≡ Some v
at_own k v fs = ap (λ b. cond b (Some v) (field_at k fs)) (nat_list_eq_equiv.refl k)

field_clash : (k l : List ℕ) (v w : ValueTree) (fs gs : FieldTrees) → slice_cmp nat_cmp k l ≡ Less
    → AllByRecursion (λ y. slice_cmp nat_cmp l y ≡ Less) (field_keys gs)
    → field_at k (field_then k v fs) ≡ field_at k (field_then l w gs) → ⊥
field_clash k l v w fs gs e b h =
    let n : Some v ≡ None = sym (at_own k v fs) ∙ h
    ∙ none_below k (field_then l w gs) (e, all_below k l (field_keys gs) e b) in
    cc

same_key : (k l : List ℕ) (v w : ValueTree) (fs gs : FieldTrees) (o : Ordering) → slice_cmp nat_cmp k l ≡ o
    → AllByRecursion (λ y. slice_cmp nat_cmp k y ≡ Less) (field_keys fs)
    → AllByRecursion (λ y. slice_cmp nat_cmp l y ≡ Less) (field_keys gs)
    → ((key : List ℕ) → field_at key (field_then k v fs) ≡ field_at key (field_then l w gs)) → k ≡ l
same_key k l v w fs gs Less e a b h = absurd (field_clash k l v w fs gs e b (h k))
same_key k l v w fs gs Equal e a b h = exact_bytes k l e
same_key k l v w fs gs Greater e a b h =
    absurd (field_clash l k w v gs fs (nat_list_cmp_total.antisymm l k ∙ ap ordering_reverse e) a (sym (h l)))

same_rest : (key k l : List ℕ) (v w : ValueTree) (fs gs : FieldTrees) (t : Bool) → bytes_eq k key ≡ t → k ≡ l
    → field_at k fs ≡ None → field_at l gs ≡ None
    → field_at key (field_then k v fs) ≡ field_at key (field_then l w gs) → field_at key fs ≡ field_at key gs
same_rest key k l v w fs gs true q e a b h =
    let r : k ≡ key = (bytes_eq-Decides k key).0 q in
    ap (λ x. field_at x fs) (sym r) ∙ a ∙ sym b ∙ ap (λ x. field_at x gs) (sym e ∙ r)
same_rest key k l v w fs gs false q e a b h =
    sym (ap (λ t. cond t (Some v) (field_at key fs)) q) ∙ h
    ∙ ap (λ t. cond t (Some w) (field_at key gs)) (ap (λ x. bytes_eq x key) (sym e) ∙ q)

-- Records with ascending keys and the same value at each key are equal.
same_fields : (fs gs : FieldTrees) → IsStrictlySortedBy (slice_cmp nat_cmp) (field_keys fs)
    → IsStrictlySortedBy (slice_cmp nat_cmp) (field_keys gs)
    → ((key : List ℕ) → field_at key fs ≡ field_at key gs) → fs ≡ gs
unfolding IsStrictlySortedBy
same_fields no_fields no_fields s t h = refl
same_fields no_fields (field_then l w gs) s t h =
    let n : None ≡ Some w = h l ∙ at_own l w gs in absurd (cc)
same_fields (field_then k v fs) no_fields s t h =
    let n : Some v ≡ None = sym (at_own k v fs) ∙ h k in absurd (cc)
same_fields (field_then k v fs) (field_then l w gs) s t h =
    let e : k ≡ l = same_key k l v w fs gs (slice_cmp nat_cmp k l) refl s.0 t.0 h in
    let q : Some v ≡ Some w = sym (at_own k v fs) ∙ h k ∙ ap (λ x. field_at x (field_then l w gs)) e ∙ at_own l w gs in
    let r : v ≡ w = cc in
    let m : fs ≡ gs = same_fields fs gs s.1 t.1
    (λ key. same_rest key k l v w fs gs (bytes_eq k key) refl e (none_below k fs s.0) (none_below l gs t.0) (h key)) in
    λ i. field_then (e i) (r i) (m i)

-- Pairs build one record.
same_record : (ps : List (List ℕ × ValueTree)) (v w : ValueTree) → IsRecordOf ps v → IsRecordOf ps w → v ≡ w
same_record ps v w h g =
    h.is
    ∙ ap record_value (same_fields h.fields g.fields h.ascending g.ascending (λ key. h.last key ∙ sym (g.last key)))
    ∙ sym g.is

same_text : (a b : List ℕ) (v w : ValueTree) (vs ws : List ValueTree)
    → literal_value (string_literal a) ∷ v ∷ vs ≡ literal_value (string_literal b) ∷ w ∷ ws → a ≡ b
same_text a b v w vs ws e = cc

same_second : (a b : List ℕ) (v w : ValueTree) (vs ws : List ValueTree)
    → literal_value (string_literal a) ∷ v ∷ vs ≡ literal_value (string_literal b) ∷ w ∷ ws → v ≡ w
same_second a b v w vs ws e = cc

same_others : (a b : List ℕ) (v w : ValueTree) (vs ws : List ValueTree)
    → literal_value (string_literal a) ∷ v ∷ vs ≡ literal_value (string_literal b) ∷ w ∷ ws → vs ≡ ws
same_others a b v w vs ws e = cc

same_pairs : (ps qs : List (List ℕ × ValueTree)) → pairs_listed ps ≡ pairs_listed qs → ps ≡ qs
same_pairs [] [] e = refl
same_pairs [] (q ∷ qs) e = absurd (cc)
same_pairs (p ∷ ps) [] e = absurd (cc)
same_pairs (p ∷ ps) (q ∷ qs) e =
    let a : p.0 ≡ q.0 = same_text p.0 q.0 p.1 q.1 (pairs_listed ps) (pairs_listed qs) e in
    let b : p.1 ≡ q.1 = same_second p.0 q.0 p.1 q.1 (pairs_listed ps) (pairs_listed qs) e in
    let m : ps ≡ qs = same_pairs ps qs (same_others p.0 q.0 p.1 q.1 (pairs_listed ps) (pairs_listed qs) e) in
    λ i. (a i, b i) ∷ m i

one_text : (a b : List ℕ) → literal_value (string_literal a) ∷ [] ≡ literal_value (string_literal b) ∷ [] → a ≡ b
one_text a b e = cc

-- A node builds one value from its operands.
combines_one : (i : Item) (vs : List ValueTree) (v w : ValueTree) → Combines i vs v → Combines i vs w → v ≡ w
combines_one (bool_item b) vs v w h g = h.1 ∙ sym g.1
combines_one (long_item n) vs v w h g = h.1 ∙ sym g.1
combines_one (text_item s) vs v w h g = h.1 ∙ sym g.1
combines_one (uid_item u) vs v w h g = h.1 ∙ sym g.1
combines_one (set_item n) vs v w h g = same_set vs v w h.1 g.1
combines_one (record_item n) vs v w h g =
    same_record h.0 v w h.3
    (subst (λ (ps : List (List ℕ × ValueTree)). IsRecordOf ps w) (same_pairs g.0 h.0 (sym g.1 ∙ h.1)) g.3)
combines_one (call_item f n) vs v w h g =
    h.3 ∙ ap (extension_value f) (one_text h.0 g.0 (sym h.2 ∙ g.2)) ∙ sym g.3
combines_one (var_item x) vs v w h g = absurd h
combines_one (slot_item s) vs v w h g = absurd h
combines_one (unknown_item s n) vs v w h g = absurd h
combines_one not_item vs v w h g = absurd h
combines_one (binary_item o) vs v w h g = absurd h
combines_one (is_item t) vs v w h g = absurd h

-- The pairs of a record.
abbrev pub field_list : FieldTrees → List (List ℕ × ValueTree)
field_list no_fields = []
field_list (field_then k v fs) = (k, v) ∷ field_list fs

or_none : (o : Option ValueTree) → o ≡ option_or o None
or_none None = refl
or_none (Some v) = refl

last_by : (key k : List ℕ) (v : ValueTree) (fs : FieldTrees) (last : Option ValueTree) (t : Bool) → bytes_eq k key ≡ t
    → field_at k fs ≡ None → field_at key fs ≡ last
    → field_at key (field_then k v fs) ≡ option_or last (cond (bytes_eq k key) (Some v) None)
last_by key k v fs last true q a h =
    let r : k ≡ key = (bytes_eq-Decides k key).0 q in
    ap (λ t. cond t (Some v) (field_at key fs)) q
    ∙ ap (λ o. option_or o (Some v)) (sym a ∙ ap (λ x. field_at x fs) r ∙ h)
    ∙ ap (λ t. option_or last (cond t (Some v) None)) (sym q)
last_by key k v fs last false q a h =
    ap (λ t. cond t (Some v) (field_at key fs)) q ∙ h ∙ or_none last
    ∙ ap (λ t. option_or last (cond t (Some v) None)) (sym q)

-- If keys ascend, each is the last of its pairs.
last_of_list : (key : List ℕ) (fs : FieldTrees) → IsStrictlySortedBy (slice_cmp nat_cmp) (field_keys fs)
    → field_at key fs ≡ last_at key (field_list fs)
unfolding IsStrictlySortedBy
last_of_list key no_fields s = refl
last_of_list key (field_then k v fs) s =
    last_by key k v fs (last_at key (field_list fs)) (bytes_eq k key) refl (none_below k fs s.0)
    (last_of_list key fs s.1)

listed : (vs : ValueTrees) → value_trees (value_list vs) ≡ vs
listed no_values = refl
listed (value_then v vs) = ap (value_then v) (listed vs)

length_listed : (vs : ValueTrees) → length (value_list vs) ≡ values_count vs
length_listed no_values = refl
length_listed (value_then v vs) = omega (arith, length_listed vs)

length_fields : (fs : FieldTrees) → length (field_list fs) ≡ fields_count fs
length_fields no_fields = refl
length_fields (field_then k v fs) = omega (arith, length_fields fs)

mutual
  -- A value is built from its tree.
  planned : (v : ValueTree) → IsOrdered v → IsBuiltFrom Combines (value_plan v) v
  planned (literal_value (bool_literal b)) h = ([], tt, (refl, refl))
  planned (literal_value (long_literal n)) h = ([], tt, (refl, refl))
  planned (literal_value (string_literal s)) h = ([], tt, (refl, refl))
  planned (literal_value (uid_literal u)) h = ([], tt, (refl, refl))
  planned (set_value vs) h = (
    value_list vs,
    all_planned vs h.1,
    (
      length_listed vs,
      record {
        elements = value_list vs;
        is = ap set_value (sym (listed vs));
        ascending = h.0;
        has = λ w c. c;
        only = λ w c. c;
      },
    ),
  )
  planned (record_value fs) h = (
    pairs_listed (field_list fs),
    fields_planned fs h.1,
    (
      field_list fs,
      refl,
      length_fields fs,
      record { fields = fs; is = refl; ascending = h.0; last = λ key. last_of_list key fs h.0 },
    ),
  )
  planned (extension_value f a) h =
      (literal_value (string_literal a) ∷ [], (([], tt, (refl, refl)), tt), (a, refl, refl, refl))

  all_planned : (vs : ValueTrees) → AreOrdered vs → AreBuiltFrom Combines (values_plan vs) (value_list vs)
  all_planned no_values h = tt
  all_planned (value_then v vs) h = (planned v h.0, all_planned vs h.1)

  fields_planned : (fs : FieldTrees) → HaveOrdered fs
      → AreBuiltFrom Combines (fields_plan fs) (pairs_listed (field_list fs))
  fields_planned no_fields h = tt
  fields_planned (field_then k v fs) h = (([], tt, (refl, refl)), (planned v h.0, fields_planned fs h.1))

one_read : (v : ValueTree) → IsOrdered v → (t : Tree) (w : ValueTree) → flat t ≡ value_items v → IsBuiltFrom Combines t w
    → w ≡ v
one_read v o t w f m =
    let s : t ≡ value_plan v = one_tree_only t (value_plan v) (full Combines combines_arity t w m)
    (full Combines combines_arity (value_plan v) v (planned v o)) f in
    one_made Combines combines_one (value_plan v) w v (subst (λ (u : Tree). IsBuiltFrom Combines u w) s m) (planned v o)

-- The nodes of an encoded value are decoded as that value and as nothing else.
pub value_back : (v : ValueTree) (text : List ℕ) (ns : List Node) → IsOrdered v → AreAscii (value_items v)
    → tree_levels (value_plan v) ≤ level_limit → AllDecode text ns (value_items v) → IsOnlyRead Combines text ns v
value_back v text ns o a l s = record {
  read = record { tree = value_plan v; says = s; levels = l; value = planned v o };
  only =
      λ w r. one_read v o r.tree w (sym (same_items text ns (value_items v) (flat r.tree) a s r.says)) r.value;
}
