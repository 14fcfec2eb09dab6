-- A map with text keys, as a record.
use Rattle.std.proofs.Common.{◌≡◌, ℕ, length, List, [], ◌∷◌, Bool, true, false, cond, refl, sym, ap, ◌∙◌, Option, Some}
use Rattle.std.proofs.Common.{None, String, string_bytes}
use Rattle.std.specs.declared.alloc.Global.{Global}
use Rattle.std.specs.declared.cmp.Ordering.TheVariants.{Less}
use Rattle.std.specs.Option.{option_or}
use Rattle.std.specs.Str.{bytes_eq}
use Rattle.std.specs.String.{string_cmp}
use Rattle.std.specs.Ordering.{nat_cmp}
use Rattle.std.specs.List.{AllByRecursion}
use Rattle.std.specs.Map.{keys_of, lookup}
use Rattle.std.specs.BTreeMap.{is_at}
use Rattle.std.specs.Cmp.Lexicographic.{slice_cmp, nat_list_eq_equiv}
use Rattle.std.specs.List.Sorted.{IsStrictlySortedBy}
use Rattle.std.proofs.lemmas.Map.Text.{is_eq-slice_cmp, text_cmp}
use Rattle.cedar_terms.specs.ValueTree.{ValueTree, record_value}
use Rattle.cedar_terms.specs.Fields.{field_at, field_keys, last_at, IsRecordOf}
use Rattle.cedar_terms.specs.ValueViews.{field_trees, named_pairs}

Entry : Type 0
Entry = String Global × ValueTree

-- A lookup in the map gives the same value as a lookup in the record of its entries.
pub field_at-entries : (key : List ℕ) (es : List (String Global × ValueTree))
    → field_at key (field_trees es) ≡ lookup (is_at (text_cmp key)) es
field_at-entries key [] = refl
field_at-entries key (e ∷ es) =
    λ i. cond ((nat_list_eq_equiv.symm (string_bytes e.0) key ∙ sym (is_eq-slice_cmp key (string_bytes e.0))) i)
    (Some e.1) (field_at-entries key es i)

above : (k : String Global) (es : List (String Global × ValueTree))
    → AllByRecursion (λ y. string_cmp k y ≡ Less) (keys_of es)
    → AllByRecursion (λ y. slice_cmp nat_cmp (string_bytes k) y ≡ Less) (field_keys (field_trees es))
above k [] h = tt
above k (e ∷ es) h = (h.0, above k es h.1)

-- The keys of the record ascend by bytes if the keys of the map ascend.
pub ascending_entries : (es : List (String Global × ValueTree)) → IsStrictlySortedBy string_cmp (keys_of es)
    → IsStrictlySortedBy (slice_cmp nat_cmp) (field_keys (field_trees es))
unfolding IsStrictlySortedBy
ascending_entries [] h = tt
ascending_entries (e ∷ es) h = (above e.0 es h.0, ascending_entries es h.1)

pick : (o : Option ValueTree) (b : Bool) (v : ValueTree) (old : Option ValueTree)
    → option_or o (cond b (Some v) old) ≡ option_or (option_or o (cond b (Some v) None)) old
pick None true v old = refl
pick None false v old = refl
pick (Some x) b v old = refl

-- The step of the loop for one more pair.
pub one_pair : (key k : List ℕ) (v : ValueTree) (rest : List (List ℕ × ValueTree)) (old new all : Option ValueTree)
    → new ≡ cond (bytes_eq k key) (Some v) old → option_or (last_at key ((k, v) ∷ rest)) old ≡ all
    → option_or (last_at key rest) new ≡ all
one_pair key k v rest old new all e h = ap (option_or (last_at key rest)) e
    ∙ pick (last_at key rest) (bytes_eq k key) v old ∙ h

-- A map is the record of the pairs if it has, at each key, the value of the last pair with that key.
pub record_made : (pairs : List (List ℕ × ValueTree)) (es : List (String Global × ValueTree)) (v : ValueTree)
    → v ≡ record_value (field_trees es) → IsStrictlySortedBy string_cmp (keys_of es)
    → ((key : List ℕ) → lookup (is_at (text_cmp key)) es ≡ last_at key pairs) → IsRecordOf pairs v
record_made pairs es v e s h =
    record {
      fields = field_trees es;
      is = e;
      ascending = ascending_entries es s;
      last = λ key. field_at-entries key es
          ∙ h key;
    }

-- The end of the loop, when no pair is left.
pub no_more : (key : List ℕ) (rest : List (String Global × ValueTree)) → length rest ≡ 0 → (old all : Option ValueTree)
    → option_or (last_at key (named_pairs rest)) old ≡ all → old ≡ all
no_more key [] l old all h = h
no_more key (p ∷ ps) l old all h = absurd (cc)
