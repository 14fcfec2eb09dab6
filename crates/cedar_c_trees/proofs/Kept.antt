-- Nodes mean the same over a longer text, and uids are parsed from their texts.
use Rattle.std.proofs.Common.{◌≡◌, ◌∙◌, ap, sym, refl, subst, ℕ, ◌-◌, take, drop, List, [], ◌∷◌, ◌++◌}
use Rattle.std.proofs.Common.{Bool, cond, Some, None, arith, length-append}
use Rattle.std.proofs.lemmas.List.{drop-append-le, length-drop, take-append-le}
use Rattle.std.specs.Prelude.{IsTrue}
use Rattle.std.specs.List.{AllZip}
use Rattle.std.specs.Option.{IfSome}
use Rattle.std.specs.Str.{IsUtf8}
use Rattle.cedar_ids.specs.Escape.{escaped, is_ascii}
use Rattle.cedar_ids.specs.Name.{NameParts}
use Rattle.cedar_ids.specs.Printed.{printed_name, printed_uid}
use Rattle.cedar_ids.specs.ReadsUid.{StartsWithName}
use Rattle.cedar_ids.specs.TextOf.{IsName, IsNameText, IsPrinted}
use Rattle.cedar_ids.specs.Uid.{UidParts}
use Rattle.cedar_ids.specs.UidOf.{uid_parts}
use Rattle.cedar_ids.specs.declared.entity.EntityUID.{EntityUID}
use Rattle.cedar_ids.specs.declared.entity.EntityUID.TheVariants as uids
use Rattle.cedar_ids.specs.laws.PrintedLaws.{halves-printed, printed_uid_injective}
use Rattle.cedar_ids.specs.laws.UidTexts.{starts_named}
use Rattle.cedar_c_lists.specs.Answers.{part}
use Rattle.cedar_c_lists.specs.Texts.{IsInside, IsReadAt, IsReadOf, IsTextOf}
use Rattle.cedar_c_lists.specs.declared.layout.Span.{Span}
use Rattle.cedar_c_trees.specs.Items.{Item, bool_item, long_item, text_item, uid_item, set_item, record_item, call_item}
use Rattle.cedar_c_trees.specs.Items.{var_item, slot_item, unknown_item, not_item, binary_item, is_item}
use Rattle.cedar_c_trees.specs.Reads.{IsNameAt, IsTextAt, Decodes}
use Rattle.cedar_c_trees.specs.Writes.{AllEncode, Encodes}
use Rattle.cedar_c_trees.specs.declared.node.Node.{Node}

-- A part of a text does not change when bytes are appended.
pub part_kept : (text more : List ℕ) (at : Span) → IsInside text at → part (text ++ more) at ≡ part text at
part_kept text more at h =
    ap (take (at.end - at.start)) (drop-append-le at.start text more (omega arith))
    ∙ take-append-le (at.end - at.start) (drop at.start text) more (omega (arith, length-drop at.start text))

inside_kept : (text more : List ℕ) (at : Span) → IsInside text at → IsInside (text ++ more) at
inside_kept text more at h = (h.0, omega (arith, length-append text more))

text_kept : (text more : List ℕ) (at : Span) (s : List ℕ) → IsTextAt text at s → IsTextAt (text ++ more) at s
text_kept text more at s h = (
  inside_kept text more at h.0,
  subst IsUtf8 (sym (part_kept text more at h.0)) h.1,
  h.2 ∙ sym (part_kept text more at h.0),
)

name_kept : (text more : List ℕ) (at : Span) (f : NameParts) → IsNameAt text at f → IsNameAt (text ++ more) at f
name_kept text more at f h =
    (inside_kept text more at h.0, subst (IsNameText f) (sym (part_kept text more at h.0)) h.1)

uid_kept : (text more : List ℕ) (at : Span) (e : EntityUID) → IsReadAt text e at → IsReadAt (text ++ more) e at
uid_kept text more at e h =
    (inside_kept text more at h.0, subst (IsReadOf e) (sym (part_kept text more at h.0)) h.1)

says_kept : (text more : List ℕ) (n : Node) (i : Item) → Decodes text n i → Decodes (text ++ more) n i
says_kept text more n (bool_item b) h = h
says_kept text more n (long_item z) h = h
says_kept text more n (text_item s) h = (h.0, text_kept text more n.at s h.1)
says_kept text more n (uid_item u) h = (h.0, (h.1.0, uid_kept text more n.at h.1.0 h.1.1, h.1.2))
says_kept text more n (set_item k) h = h
says_kept text more n (record_item k) h = h
says_kept text more n (call_item f k) h = (h.0, h.1, name_kept text more n.at f h.2)
says_kept text more n (var_item v) h = h
says_kept text more n (slot_item s) h = h
says_kept text more n (unknown_item s k) h = (h.0, h.1, text_kept text more n.at s h.2)
says_kept text more n not_item h = h
says_kept text more n (binary_item o) h = h
says_kept text more n (is_item t) h = (h.0, name_kept text more n.at t h.1)

notes_kept : (text more : List ℕ) (n : Node) (i : Item) → Encodes text n i → Encodes (text ++ more) n i
notes_kept text more n (uid_item u) h =
    (h.0, inside_kept text more n.at h.1, λ a. says_kept text more n (uid_item u) (h.2 a))
notes_kept text more n (bool_item b) h = says_kept text more n (bool_item b) h
notes_kept text more n (long_item z) h = says_kept text more n (long_item z) h
notes_kept text more n (text_item s) h = says_kept text more n (text_item s) h
notes_kept text more n (set_item k) h = says_kept text more n (set_item k) h
notes_kept text more n (record_item k) h = says_kept text more n (record_item k) h
notes_kept text more n (call_item f k) h = says_kept text more n (call_item f k) h
notes_kept text more n (var_item v) h = says_kept text more n (var_item v) h
notes_kept text more n (slot_item s) h = says_kept text more n (slot_item s) h
notes_kept text more n (unknown_item s k) h = says_kept text more n (unknown_item s k) h
notes_kept text more n not_item h = says_kept text more n not_item h
notes_kept text more n (binary_item o) h = says_kept text more n (binary_item o) h
notes_kept text more n (is_item t) h = says_kept text more n (is_item t) h

-- The encoded items of nodes do not change when bytes are appended.
pub all_kept : (text more : List ℕ) (ns : List Node) (is : List Item) → AllEncode text ns is
    → AllEncode (text ++ more) ns is
all_kept text more [] [] h = tt
all_kept text more [] (i ∷ is) h = absurd h
all_kept text more (n ∷ ns) [] h = absurd h
all_kept text more (n ∷ ns) (i ∷ is) h =
    (record { notes = notes_kept text more n i h.0.notes; blank = h.0.blank }, all_kept text more ns is h.1)

-- Two pairs of related lists, appended.
pub zip_append : {A B : Type 0} (R : A → B → Type 0) (xs : List A) (ys : List B) (xs' : List A) (ys' : List B)
    → AllZip R xs ys → AllZip R xs' ys' → AllZip R (xs ++ xs') (ys ++ ys')
zip_append R [] [] xs' ys' h g = g
zip_append R [] (y ∷ ys) xs' ys' h g = absurd h
zip_append R (x ∷ xs) [] xs' ys' h g = absurd h
zip_append R (x ∷ xs) (y ∷ ys) xs' ys' h g = (h.0, zip_append R xs ys xs' ys' h.1 g)

same_parts : (u v : EntityUID) → uid_parts u ≡ uid_parts v → u ≡ v
same_parts (uids.EntityUID x) (uids.EntityUID y) e = ap uids.EntityUID e

starts_printed : (u : UidParts) (text : List ℕ) → IsPrinted u text → StartsWithName u.name text
starts_printed u text p =
    subst (StartsWithName u.name) (sym p.2)
    (starts_named (printed_uid u) (printed_name u.name) (escaped u.eid) u.name (halves-printed u p.0) (p.0, refl))

-- The printed text of a uid is parsed as that uid.
pub read_of_printed : (u : EntityUID) (text : List ℕ) → IsPrinted (uid_parts u) text → IsReadOf u text
read_of_printed u text p = record {
  printed = λ a. p;
  exact = λ v q. same_parts u v (printed_uid_injective (uid_parts u) (uid_parts v) text p q);
  starts = starts_printed (uid_parts u) text p;
}

-- The text of a uid with an ASCII eid.
pub printed_text : (u : EntityUID) (text : List ℕ) → IsName (uid_parts u).name → IsTextOf u text
    → IsTrue (is_ascii (uid_parts u).eid) → IsPrinted (uid_parts u) text
printed_text u text n h a = (
  n,
  a,
  let P : Bool → Type 0 =
      λ b. IfSome (cond b (Some (printed_uid (uid_parts u))) None) (λ t. text ≡ t) in subst P a h,
)
