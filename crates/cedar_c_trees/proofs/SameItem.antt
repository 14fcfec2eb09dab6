-- A node over a text means only one item, except for a uid with a non-ASCII eid.
use Rattle.std.proofs.Common.{◌≡◌, ◌∙◌, ap, sym, refl, subst, ℕ, ℤ, pos, ◌+◌, ◌<◌, List, [], ◌∷◌, Bool, true, false}
use Rattle.std.proofs.Common.{cond, arith, Option, Some, None, ◌⊎◌, inl, inr}
use Rattle.std.specs.List.{AllByRecursion}
use Rattle.std.specs.Prelude.{◌==◌, IsTrue}
use Rattle.cedar_ids.specs.Escape.{is_ascii}
use Rattle.cedar_ids.specs.Name.{NameParts}
use Rattle.cedar_ids.specs.TextOf.{IsNameText}
use Rattle.cedar_ids.specs.Uid.{UidParts}
use Rattle.cedar_ids.specs.UidOf.{uid_parts}
use Rattle.cedar_ids.specs.laws.NameReading.{name_of}
use Rattle.cedar_ids.specs.laws.NameTextLaws.{name_of_text}
use Rattle.cedar_c_lists.specs.Answers.{part}
use Rattle.cedar_terms.specs.ExprTree.{Operator, and_operator, eq_operator, in_operator, operator_index}
use Rattle.cedar_terms.specs.SlotTree.{slot_index}
use Rattle.cedar_terms.specs.VarTree.{var_index}
use Rattle.cedar_terms.specs.declared.slot.SlotId.{SlotId}
use Rattle.cedar_terms.specs.declared.slot.SlotId.TheVariants as slots
use Rattle.cedar_terms.specs.declared.var.Var.{Var}
use Rattle.cedar_terms.specs.declared.var.Var.TheVariants as vars
use Rattle.cedar_c_trees.specs.Items.{Item, bool_item, long_item, text_item, uid_item, set_item, record_item, call_item}
use Rattle.cedar_c_trees.specs.Items.{var_item, slot_item, unknown_item, not_item, binary_item, is_item}
use Rattle.cedar_c_trees.specs.Reads.{AllDecode, Decodes, truth_number}
use Rattle.cedar_c_trees.specs.Writes.{AllEncode, AreAscii, IsAsciiItem, Encodes}
use Rattle.cedar_c_trees.specs.declared.node.Node.{Node}

-- The meaning of a number for Booleans, variables and slots.
truth_at : ℤ → Bool
truth_at (pos n) = n == 1
truth_at z = false

truth_back : (b : Bool) → truth_at (truth_number b) ≡ b
unfolding truth_at
truth_back true = refl
truth_back false = refl

var_at : ℤ → Var
var_at (pos n) = cond (n == 0) vars.Principal (cond (n == 1) vars.Action (cond (n == 2) vars.Resource vars.Context))
var_at z = vars.Principal

var_back : (v : Var) → var_at (pos (var_index v)) ≡ v
unfolding var_at
var_back vars.Principal = refl
var_back vars.Action = refl
var_back vars.Resource = refl
var_back vars.Context = refl

slot_at : ℤ → SlotId
slot_at (pos n) = cond (n == 0) slots.Principal (cond (n == 1) slots.Action slots.Resource)
slot_at z = slots.Principal

slot_back : (s : SlotId) → slot_at (pos (slot_index s)) ≡ s
unfolding slot_at
slot_back slots.Principal = refl
slot_back slots.Action = refl
slot_back slots.Resource = refl

-- An item with a name.
named : (NameParts → Item) → Option NameParts → Item
named f None = not_item
named f (Some n) = f n

named_back : (f : NameParts → Item) (n : NameParts) (text : List ℕ) → IsNameText n text → f n ≡ named f (name_of text)
unfolding named
named_back f n text h = ap (named f) (sym (name_of_text text n h))

-- The item of a node, from its kind, number, length and text, except for a uid.
said : ℕ → ℤ → ℕ → List ℕ → Item
said k z l s =
    cond (k == 0) (bool_item (truth_at z)) (
    cond (k == 1) (long_item z) (
    cond (k == 2) (text_item s) (
    cond (k == 4) (set_item l) (
    cond (k == 5) (record_item l) (
    cond (k == 6) (named (λ f. call_item f l) (name_of s)) (
    cond (k == 7) (var_item (var_at z)) (
    cond (k == 8) (slot_item (slot_at z)) (
    cond (k == 9) (unknown_item s l) (
    cond (k == 10) not_item (
    cond (k == 11) (binary_item and_operator) (
    cond (k == 12) (binary_item eq_operator) (
    cond (k == 13) (binary_item in_operator) (
    named is_item (name_of s))))))))))))))

operator_said : (k : ℕ) (z : ℤ) (l : ℕ) (s : List ℕ) (o : Operator) → k ≡ 11 + operator_index o
    → binary_item o ≡ said k z l s
unfolding said
operator_said k z l s and_operator h = subst (λ (x : ℕ). binary_item and_operator ≡ said x z l s) (sym h) refl
operator_said k z l s eq_operator h = subst (λ (x : ℕ). binary_item eq_operator ≡ said x z l s) (sym h) refl
operator_said k z l s in_operator h = subst (λ (x : ℕ). binary_item in_operator ≡ said x z l s) (sym h) refl

-- The item of a node of a given kind.
at_kind : (n : Node) (text : List ℕ) (k : ℕ) (i : Item) → n.kind ≡ k
    → i ≡ said k n.number n.len (part text n.at) → i ≡ said n.kind n.number n.len (part text n.at)
at_kind n text k i h e = subst (λ (x : ℕ). i ≡ said x n.number n.len (part text n.at)) (sym h) e

IsNoUidItem : Item → Type 0
IsNoUidItem (uid_item u) = ⊥
IsNoUidItem i = Unit {0}

-- Every item except a uid is determined by its node.
says_said : (text : List ℕ) (n : Node) (i : Item) → IsNoUidItem i → Decodes text n i
    → i ≡ said n.kind n.number n.len (part text n.at)
unfolding said IsNoUidItem
says_said text n (bool_item b) x h =
    at_kind n text 0 (bool_item b) h.0 (ap bool_item (sym (truth_back b) ∙ ap truth_at (sym h.1)))
says_said text n (long_item z) x h = at_kind n text 1 (long_item z) h.0 (ap long_item (sym h.1))
says_said text n (text_item s) x h = at_kind n text 2 (text_item s) h.0 (ap text_item h.1.2)
says_said text n (uid_item u) x h = absurd x
says_said text n (set_item k) x h = at_kind n text 4 (set_item k) h.0 (ap set_item (sym h.1))
says_said text n (record_item k) x h = at_kind n text 5 (record_item k) h.0 (ap record_item (sym h.1))
says_said text n (call_item f k) x h =
    at_kind n text 6 (call_item f k) h.0
    (ap (call_item f) (sym h.1) ∙ named_back (λ g. call_item g n.len) f (part text n.at) h.2.1)
says_said text n (var_item v) x h =
    at_kind n text 7 (var_item v) h.0 (ap var_item (sym (var_back v) ∙ ap var_at (sym h.1)))
says_said text n (slot_item s) x h =
    at_kind n text 8 (slot_item s) h.0 (ap slot_item (sym (slot_back s) ∙ ap slot_at (sym h.1)))
says_said text n (unknown_item s k) x h =
    at_kind n text 9 (unknown_item s k) h.0 (ap (unknown_item s) (sym h.1) ∙ ap (λ t. unknown_item t n.len) h.2.2)
says_said text n not_item x h = at_kind n text 10 not_item h refl
says_said text n (binary_item o) x h = operator_said n.kind n.number n.len (part text n.at) o h
says_said text n (is_item t) x h = at_kind n text 14 (is_item t) h.0 (named_back is_item t (part text n.at) h.1.1)

-- The node of a uid means no other item.
uid_kind : (text : List ℕ) (n : Node) (i : Item) → n.kind ≡ 3 → IsNoUidItem i → Decodes text n i → ⊥
unfolding IsNoUidItem
uid_kind text n (bool_item b) k x h = omega (arith, h.0)
uid_kind text n (long_item z) k x h = omega (arith, h.0)
uid_kind text n (text_item s) k x h = omega (arith, h.0)
uid_kind text n (uid_item u) k x h = x
uid_kind text n (set_item m) k x h = omega (arith, h.0)
uid_kind text n (record_item m) k x h = omega (arith, h.0)
uid_kind text n (call_item f m) k x h = omega (arith, h.0)
uid_kind text n (var_item v) k x h = omega (arith, h.0)
uid_kind text n (slot_item s) k x h = omega (arith, h.0)
uid_kind text n (unknown_item s m) k x h = omega (arith, h.0)
uid_kind text n not_item k x h = omega (arith, h)
uid_kind text n (binary_item o) k x h = omega (arith, h)
uid_kind text n (is_item t) k x h = omega (arith, h.0)

uid_says : (text : List ℕ) (n : Node) (u : UidParts) → Decodes text n (uid_item u) → n.kind ≡ 3
uid_says text n u h = h.0

same_uid : (text : List ℕ) (n : Node) (u w : UidParts) → IsTrue (is_ascii u.eid) → Decodes text n (uid_item u)
    → Decodes text n (uid_item w) → u ≡ w
same_uid text n u w a h g =
    let b : IsTrue (is_ascii (uid_parts h.1.0).eid) =
    subst (λ (p : UidParts). IsTrue (is_ascii p.eid)) (sym h.1.2) a in
    let e : g.1.0 ≡ h.1.0 = g.1.1.1.exact h.1.0 (h.1.1.1.printed b) in
    sym h.1.2 ∙ ap uid_parts (sym e) ∙ g.1.2

-- An item is a uid or not.
uid_or_not : (i : Item) → ((u : UidParts) × (i ≡ uid_item u)) ⊎ IsNoUidItem i
unfolding IsNoUidItem
uid_or_not (uid_item u) = inl (u, refl)
uid_or_not (bool_item b) = inr tt
uid_or_not (long_item z) = inr tt
uid_or_not (text_item s) = inr tt
uid_or_not (set_item n) = inr tt
uid_or_not (record_item n) = inr tt
uid_or_not (call_item f n) = inr tt
uid_or_not (var_item v) = inr tt
uid_or_not (slot_item s) = inr tt
uid_or_not (unknown_item s n) = inr tt
uid_or_not not_item = inr tt
uid_or_not (binary_item o) = inr tt
uid_or_not (is_item t) = inr tt

same_as_uid : (text : List ℕ) (n : Node) (u : UidParts) (j : Item) → IsTrue (is_ascii u.eid)
    → Decodes text n (uid_item u) → Decodes text n j → uid_item u ≡ j
same_as_uid text n u j a h g =
    elim (uid_or_not j) [
      | inl w ↦ ap uid_item (same_uid text n u w.0 a h (subst (Decodes text n) w.1 g)) ∙ sym w.1
      | inr y ↦ absurd (uid_kind text n j h.0 y g)
    ]

same_as_other : (text : List ℕ) (n : Node) (i j : Item) → IsNoUidItem i → Decodes text n i → Decodes text n j → i ≡ j
same_as_other text n i j x h g =
    elim (uid_or_not j) [
      | inl w ↦ absurd (uid_kind text n i (uid_says text n w.0 (subst (Decodes text n) w.1 g)) x h)
      | inr y ↦ says_said text n i x h ∙ sym (says_said text n j y g)
    ]

-- A node means only one item, unless it is a uid with a non-ASCII eid.
pub same_item : (text : List ℕ) (n : Node) (i j : Item) → IsAsciiItem i → Decodes text n i → Decodes text n j → i ≡ j
same_item text n i j a h g =
    elim (uid_or_not i) [
      | inl w ↦
          w.1 ∙ same_as_uid text n w.0 j (subst IsAsciiItem w.1 a) (subst (Decodes text n) w.1 h) g
      | inr x ↦ same_as_other text n i j x h g
    ]

-- Nodes mean only one list of items.
pub same_items : (text : List ℕ) (ns : List Node) (is js : List Item) → AreAscii is → AllDecode text ns is
    → AllDecode text ns js → is ≡ js
same_items text [] [] [] a h g = refl
same_items text [] [] (j ∷ js) a h g = absurd g
same_items text [] (i ∷ is) js a h g = absurd h
same_items text (n ∷ ns) [] js a h g = absurd h
same_items text (n ∷ ns) (i ∷ is) [] a h g = absurd g
same_items text (n ∷ ns) (i ∷ is) (j ∷ js) a h g =
    λ k. same_item text n i j a.0 h.0 g.0 k ∷ same_items text ns is js a.1 h.1 g.1 k

-- The meaning of an encoded node, if the eids of all uids are ASCII.
note_said : (text : List ℕ) (n : Node) (i : Item) → IsAsciiItem i → Encodes text n i → Decodes text n i
note_said text n (uid_item u) a h = h.2 a
note_said text n (bool_item b) a h = h
note_said text n (long_item z) a h = h
note_said text n (text_item s) a h = h
note_said text n (set_item k) a h = h
note_said text n (record_item k) a h = h
note_said text n (call_item f k) a h = h
note_said text n (var_item v) a h = h
note_said text n (slot_item s) a h = h
note_said text n (unknown_item s k) a h = h
note_said text n not_item a h = h
note_said text n (binary_item o) a h = h
note_said text n (is_item t) a h = h

pub notes_said : (text : List ℕ) (ns : List Node) (is : List Item) → AreAscii is → AllEncode text ns is
    → AllDecode text ns is
notes_said text [] [] a h = tt
notes_said text [] (i ∷ is) a h = absurd h
notes_said text (n ∷ ns) [] a h = absurd h
notes_said text (n ∷ ns) (i ∷ is) a h = (note_said text n i a.0 h.0.notes, notes_said text ns is a.1 h.1)

operator_below : (k : ℕ) (o : Operator) → k ≡ 11 + operator_index o → k < 15
operator_below k and_operator h = omega (arith, h)
operator_below k eq_operator h = omega (arith, h)
operator_below k in_operator h = omega (arith, h)

below_mark : (text : List ℕ) (n : Node) (i : Item) → Encodes text n i → n.kind < 15
below_mark text n (bool_item b) h = omega (arith, h.0)
below_mark text n (long_item z) h = omega (arith, h.0)
below_mark text n (text_item s) h = omega (arith, h.0)
below_mark text n (uid_item u) h = omega (arith, h.0)
below_mark text n (set_item k) h = omega (arith, h.0)
below_mark text n (record_item k) h = omega (arith, h.0)
below_mark text n (call_item f k) h = omega (arith, h.0)
below_mark text n (var_item v) h = omega (arith, h.0)
below_mark text n (slot_item s) h = omega (arith, h.0)
below_mark text n (unknown_item s k) h = omega (arith, h.0)
below_mark text n not_item h = omega (arith, h)
below_mark text n (binary_item o) h = operator_below n.kind o h
below_mark text n (is_item t) h = omega (arith, h.0)

-- The node of an item is never a mark.
pub all_below_mark : (text : List ℕ) (ns : List Node) (is : List Item) → AllEncode text ns is
    → AllByRecursion (λ n. n.kind < 15) ns
all_below_mark text [] is h = tt
all_below_mark text (n ∷ ns) [] h = absurd h
all_below_mark text (n ∷ ns) (i ∷ is) h = (below_mark text n i h.0.notes, all_below_mark text ns is h.1)
