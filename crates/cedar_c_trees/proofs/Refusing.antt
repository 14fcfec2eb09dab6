-- The reasons why nodes are not decoded, while the built values are on a stack.
use Rattle.std.proofs.Common.{◌≡◌, ◌∙◌, ap, sym, refl, subst, ℕ, ◌+◌, ◌<◌, ◌≤◌, suc, length, List, [], ◌∷◌, ◌++◌, arith}
use Rattle.std.proofs.Common.{drop, take, map, Bool, true, Result, Ok, Err, MatchResult, inl, inr}
use Rattle.std.proofs.Math.ListN.{get_or}
use Rattle.std.proofs.lemmas.List.{length-map, map-append, drop_more, drop_all}
use Rattle.std.proofs.lemmas.Option.{slice_get-get_or}
use Rattle.cedar_c_lists.specs.declared.reason.Reason.{Reason}
use Rattle.cedar_c_lists.specs.declared.reason.Reason.TheVariants.{NoMemory, BadArgument, NotAUid, NotUtf8, NotAName, TooDeep}
use Rattle.cedar_c_trees.specs.Items.{Item, bool_item, long_item, text_item, uid_item, set_item, record_item, call_item}
use Rattle.cedar_c_trees.specs.Items.{var_item, slot_item, unknown_item, not_item, binary_item, is_item}
use Rattle.cedar_c_trees.specs.Items.{Tree, node, Trees, no_trees, tree_then, flat}
use Rattle.cedar_c_trees.specs.laws.Levels.{arity, count, IsFull, AreFull, HaveFew, HaveMany}
use Rattle.cedar_c_trees.specs.Reads.{Decodes, AllDecode, IsReadAs}
use Rattle.cedar_c_trees.specs.Refusals.{IsRefused}
use Rattle.cedar_c_trees.specs.Shapes.{Fits, AllFit, kind_number, is_text, are_texts, IsPlan, ArePlans}
use Rattle.cedar_c_trees.specs.laws.Stacks.{IsNotOne, IsUnmade, Makes}
use Rattle.cedar_c_trees.specs.declared.node.Node.{Node}
use Rattle.cedar_c_trees.proofs.Leads.{shape, shapes, IsShaped, AreShaped, Leads, leads_from_nothing}
use Rattle.cedar_c_trees.proofs.Raised.{below_fits, cut_same}
use Rattle.cedar_c_trees.proofs.Stacks.{Stacked, none_stacked, next_node, one_left}
use Rattle.cedar_c_trees.proofs.Unique.{full}

-- A node that means an item has the shape of the item.
pub says_fits : (text : List ℕ) (n : Node) (i : Item) → Decodes text n i → Fits text n i
says_fits text n (bool_item b) h = record { kind = h.0; filled = h.1 }
says_fits text n (long_item z) h = record { kind = h.0; filled = h.1 }
says_fits text n (text_item s) h = record { kind = h.0; filled = h.1.0 }
says_fits text n (uid_item u) h = record { kind = h.0; filled = h.1.1.0 }
says_fits text n (set_item k) h = record { kind = h.0; filled = h.1 }
says_fits text n (record_item k) h = record { kind = h.0; filled = h.1 }
says_fits text n (call_item f k) h = record { kind = h.0; filled = (h.1, h.2.0) }
says_fits text n (var_item v) h = record { kind = h.0; filled = h.1 }
says_fits text n (slot_item s) h = record { kind = h.0; filled = h.1 }
says_fits text n (unknown_item s k) h = record { kind = h.0; filled = (h.1, h.2.0) }
says_fits text n not_item h = record { kind = h; filled = tt }
says_fits text n (binary_item o) h = record { kind = h; filled = tt }
says_fits text n (is_item t) h = record { kind = h.0; filled = h.1.0 }

pub all_fit : (text : List ℕ) (ns : List Node) (is : List Item) → AllDecode text ns is → AllFit text ns is
all_fit text [] [] h = tt
all_fit text [] (i ∷ is) h = absurd h
all_fit text (n ∷ ns) [] h = absurd h
all_fit text (n ∷ ns) (i ∷ is) h = (says_fits text n i h.0, all_fit text ns is h.1)

-- The abstract value of a node: whether it is a text.
abbrev pub mark : Item → List Bool → Bool
mark i under = is_text i

-- The common facts of values and of expressions. The rules C and S require as many operands as the item has, and q
-- states which values are texts.
pub record IsLanguage {V : Type 0} (C : Item → List V → V → Type 0) (q : V → Bool) (S : Item → List Bool → Type 0)
    : Type 0 where
  pub made_arity : (i : Item) (vs : List V) (v : V) → C i vs v → length vs ≡ arity i
  pub plan_arity : (i : Item) (under : List Bool) → S i under → length under ≡ arity i
  pub marked : (i : Item) (vs : List V) (v : V) → C i vs v → q v ≡ is_text i

texts_are : (ts : Trees) → shapes mark ts ≡ are_texts ts
texts_are no_trees = refl
texts_are (tree_then (node i us) ts) = ap (λ (l : List Bool). is_text i ∷ l) (texts_are ts)

mutual
  plan_shaped : (S : Item → List Bool → Type 0) (t : Tree) → IsPlan S t → IsShaped S mark t
  plan_shaped S (node i ts) h = (subst (S i) (sym (texts_are ts)) h.0, plans_shaped S ts h.1)

  plans_shaped : (S : Item → List Bool → Type 0) (ts : Trees) → ArePlans S ts → AreShaped S mark ts
  plans_shaped S no_trees h = tt
  plans_shaped S (tree_then t ts) h = (plan_shaped S t h.0, plans_shaped S ts h.1)

count_texts : (ts : Trees) → length (are_texts ts) ≡ count ts
count_texts no_trees = refl
count_texts (tree_then (node i us) ts) = ap suc (count_texts ts)

mutual
  plan_full : (S : Item → List Bool → Type 0) → ((i : Item) (under : List Bool) → S i under → length under ≡ arity i)
      → (t : Tree) → IsPlan S t → IsFull t
  plan_full S a (node i ts) h =
      (sym (count_texts ts) ∙ a i (are_texts ts) h.0, plans_full S a ts h.1)

  plans_full : (S : Item → List Bool → Type 0) → ((i : Item) (under : List Bool) → S i under → length under ≡ arity i)
      → (ts : Trees) → ArePlans S ts → AreFull ts
  plans_full S a no_trees h = tt
  plans_full S a (tree_then t ts) h = (plan_full S a t h.0, plans_full S a ts h.1)

-- Items of one kind are all texts or all not.
texts_by_kind : (i : Item) → is_text i ≡ true → kind_number i ≡ 2
texts_by_kind (text_item s) e = refl
texts_by_kind i e = cc

two_is_text : (i : Item) → kind_number i ≡ 2 → is_text i ≡ true
two_is_text (text_item s) e = refl
two_is_text i e = absurd (omega arith)

one_sort : (i j : Item) → kind_number i ≡ kind_number j → is_text i ≡ is_text j
one_sort (text_item s) j e = sym (two_is_text j (sym e))
one_sort i (text_item s) e = two_is_text i e
one_sort i j e = refl

-- The values built from the first k nodes, and the effect of the other nodes if the nodes have a valid shape.
pub record Reading {V : Type 0} (C : Item → List V → V → Type 0) (q : V → Bool) (S : Item → List Bool → Type 0)
    (text : List ℕ) (ns : List Node) (k : ℕ) (vs : List V) : Type 0 where
  pub stacked : Stacked C text (take k ns) vs
  pub leads : (t : Tree) → IsPlan S t → AllFit text ns (flat t)
      → Leads S mark text (shape mark t) (drop k ns) (map q vs)

pub empty_reading : {V : Type 0} (C : Item → List V → V → Type 0) (q : V → Bool) (S : Item → List Bool → Type 0)
    (text : List ℕ) (ns : List Node) → Reading C q S text ns 0 []
empty_reading C q S text ns = record {
  stacked = none_stacked C text;
  leads = λ t p a. leads_from_nothing S mark text t ns (plan_shaped S t p) a;
}

-- The effect of a decoded node.
step : {V : Type 0} (C : Item → List V → V → Type 0) (q : V → Bool) (S : Item → List Bool → Type 0)
    → IsLanguage C q S → (text : List ℕ) (x : Bool) (n : Node) (ns : List Node) (old new : List V) (v : V)
    → Leads S mark text x (n ∷ ns) (map q old) → Makes C text n old new v
    → Leads S mark text x ns (map q (new ++ v ∷ []))
step {V = V} C q S g text x n ns old new v l m =
    let f : Fits text n m.item = says_fits text n m.item m.says in
    let c : (l.1 ≡ map q new) × (l.2 ≡ map q m.below) =
    cut_same l.1 l.2 (map q new) (map q m.below)
    (sym l.5 ∙ ap (map q) m.stack ∙ map-append q new m.below)
    (g.plan_arity l.0 l.2 l.4 ∙ sym (below_fits text n l.0 l.3) ∙ below_fits text n m.item f
    ∙ sym (g.made_arity m.item m.below v m.combines) ∙ sym (length-map m.below q)) in
    let t : is_text l.0 ≡ q v =
    one_sort l.0 m.item (sym l.3.kind ∙ f.kind) ∙ sym (g.marked m.item m.below v m.combines) in
    subst (Leads S mark text x ns)
    (ap (λ (bs : List Bool). bs ++ is_text l.0 ∷ []) c.0 ∙ ap (λ (b : Bool). map q new ++ b ∷ []) t
    ∙ sym (map-append q new (v ∷ []))) l.6

pub next_read : {V : Type 0} (C : Item → List V → V → Type 0) (q : V → Bool) (S : Item → List Bool → Type 0)
    → IsLanguage C q S → (text : List ℕ) (ns : List Node) (k : ℕ) (d : Node) (old new : List V) (v : V) → k < length ns
    → Reading C q S text ns k old → Makes C text (get_or ns k d) old new v
    → Reading C q S text ns (k + 1) (new ++ v ∷ [])
next_read C q S g text ns k d old new v lt r m = record {
  stacked = next_node C text ns k d old new v lt r.stacked m;
  leads =
      λ t p a. step C q S g text (shape mark t) (get_or ns k d) (drop (k + 1) ns) old new v
      (subst (λ (ms : List Node). Leads S mark text (shape mark t) ms (map q old)) (drop_more ns k d lt) (r.leads t p a)) m;
}

-- If a node builds nothing, the nodes are not decoded.
pub unmade : {V : Type 0} (C : Item → List V → V → Type 0) (q : V → Bool) (S : Item → List Bool → Type 0)
    (text : List ℕ) (ns : List Node) (k : ℕ) (d : Node) (old : List V) (w : Reason) → k < length ns
    → Reading C q S text ns k old → IsUnmade S text (get_or ns k d) (map q old) w → IsRefused S text ns w
unmade C q S text ns k d old NoMemory lt r h = tt
unmade C q S text ns k d old BadArgument lt r h =
    λ t p a.
    let l : Leads S mark text (shape mark t) (get_or ns k d ∷ drop (k + 1) ns) (map q old) =
    subst (λ (ms : List Node). Leads S mark text (shape mark t) ms (map q old)) (drop_more ns k d lt) (r.leads t p a) in
    h l.0 l.1 l.2 l.3 l.4 l.5
unmade C q S text ns k d old NotAUid lt r h = (k, get_or ns k d, slice_get-get_or ns k d lt, h)
unmade C q S text ns k d old NotUtf8 lt r h = (k, get_or ns k d, slice_get-get_or ns k d lt, h)
unmade C q S text ns k d old NotAName lt r h =
    (k, get_or ns k d, slice_get-get_or ns k d lt, (elim h.0 [ inl a ↦ inl a | inr b ↦ inr (inl b) ], h.1))
unmade C q S text ns k d old w lt r h = absurd h

-- Nodes that are rejected because of their levels are not decoded.
pub too_deep : (S : Item → List Bool → Type 0) → ((i : Item) (under : List Bool) → S i under → length under ≡ arity i)
    → (text : List ℕ) (ns : List Node) (w : Reason) → HaveMany ns w → IsRefused S text ns w
too_deep S a text ns NoMemory h = tt
too_deep S a text ns BadArgument h = λ t p f. h text t (plan_full S a t p) f
too_deep S a text ns TooDeep h = λ p. h text p.tree (plan_full S a p.tree p.plan) p.fits p.levels
too_deep S a text ns w h = absurd h

one_mark : {V : Type 0} (q : V → Bool) (vs : List V) (b : Bool) → map q vs ≡ b ∷ [] → (v : V) × (vs ≡ v ∷ [])
one_mark q [] b e = cc
one_mark q (v ∷ []) b e = (v, refl)
one_mark q (v ∷ w ∷ vs) b e = cc

-- If there is not exactly one value left, the nodes are not decoded.
not_one : {V : Type 0} (C : Item → List V → V → Type 0) (q : V → Bool) (S : Item → List Bool → Type 0)
    (text : List ℕ) (ns : List Node) (k : ℕ) (vs : List V) (w : Reason) → length ns ≤ k
    → Reading C q S text ns k vs → IsNotOne vs w → IsRefused S text ns w
not_one {V = V} C q S text ns k vs BadArgument le r h =
    λ t p a.
    let l : map q vs ≡ shape mark t ∷ [] =
    subst (λ (ms : List Node). Leads S mark text (shape mark t) ms (map q vs)) (drop_all k ns le) (r.leads t p a) in
    let o : (v : V) × (vs ≡ v ∷ []) = one_mark q vs (shape mark t) l in
    h o.0 o.1
not_one C q S text ns k vs w le r h = absurd h

-- All nodes are read, and there is one value left or not.
pub all_done : {V : Type 0} (C : Item → List V → V → Type 0) (q : V → Bool) (S : Item → List Bool → Type 0)
    → IsLanguage C q S → (text : List ℕ) (ns : List Node) (k : ℕ) (r : Result V Reason) (vs : List V) → length ns ≤ k
    → Reading C q S text ns k vs → HaveFew ns → MatchResult r (λ v. vs ≡ v ∷ []) (IsNotOne vs)
    → MatchResult r (IsReadAs C text ns) (IsRefused S text ns)
all_done C q S g text ns k (Ok v) vs le r few h =
    one_left C text ns k vs v
    (λ t a m. few text t (full C g.made_arity t v m) (all_fit text ns (flat t) a)) le r.stacked h
all_done C q S g text ns k (Err w) vs le r few h = not_one C q S text ns k vs w le r h
