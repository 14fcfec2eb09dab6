-- Maps with text keys as fields.
use Rattle.std.proofs.Common.{◌≡◌, ℕ, length, List, [], ◌∷◌, Bool, true, false, cond, ◌&&◌, refl, sym, ap, ◌∙◌, Option}
use Rattle.std.proofs.Common.{Some, None, String, string_bytes, map}
use Rattle.std.specs.declared.alloc.Global.{Global}
use Rattle.std.specs.declared.cmp.Ordering.TheVariants.{Less}
use Rattle.std.specs.Option.{option_or}
use Rattle.std.specs.Str.{bytes_eq}
use Rattle.std.specs.String.{string_cmp}
use Rattle.std.specs.Ordering.{nat_cmp}
use Rattle.std.specs.List.{AllByRecursion, AllZip}
use Rattle.std.specs.Map.{keys_of, lookup}
use Rattle.std.specs.BTreeMap.{is_at}
use Rattle.std.specs.Cmp.Lexicographic.{slice_cmp, nat_list_eq_equiv}
use Rattle.std.specs.List.Sorted.{IsStrictlySortedBy}
use Rattle.std.proofs.lemmas.Map.Text.{is_eq-slice_cmp, text_cmp}
use Rattle.std.proofs.lemmas.Slice.Eq.{slice_eq-Decides}
use Rattle.std.specs.Bool.{Decides}
use lib.Pointwise.{pointwise}
use Rattle.cedar_terms.specs.declared.partial_value.PartialValue.{PartialValue}
use Rattle.cedar_entity.specs.laws.Fields.{field_eq, field_decides}
use Rattle.cedar_entity.specs.Fields.{Fields, field_at, field_keys, last_at, AreFieldsOf, fields_of}

abbrev pub Entry : Type 0
Entry = String Global × PartialValue

-- A lookup by bytes reads the fields of the entries.
pub field_at-entries : (key : List ℕ) (es : List Entry) → field_at key (fields_of es) ≡ lookup (is_at (text_cmp key)) es
field_at-entries key [] = refl
field_at-entries key (e ∷ es) =
    λ i. cond ((nat_list_eq_equiv.symm (string_bytes e.0) key ∙ sym (is_eq-slice_cmp key (string_bytes e.0))) i)
    (Some e.1) (field_at-entries key es i)

above : (k : String Global) (es : List Entry) → AllByRecursion (λ y. string_cmp k y ≡ Less) (keys_of es)
    → AllByRecursion (λ y. slice_cmp nat_cmp (string_bytes k) y ≡ Less) (field_keys (fields_of es))
above k [] h = tt
above k (e ∷ es) h = (h.0, above k es h.1)

-- Keys in ascending order of texts are in ascending order of bytes.
pub ascending_entries : (es : List Entry) → IsStrictlySortedBy string_cmp (keys_of es)
    → IsStrictlySortedBy (slice_cmp nat_cmp) (field_keys (fields_of es))
unfolding IsStrictlySortedBy
ascending_entries [] h = tt
ascending_entries (e ∷ es) h = (above e.0 es h.0, ascending_entries es h.1)

pick : (o : Option PartialValue) (b : Bool) (v : PartialValue) (old : Option PartialValue)
    → option_or o (cond b (Some v) old) ≡ option_or (option_or o (cond b (Some v) None)) old
pick None true v old = refl
pick None false v old = refl
pick (Some x) b v old = refl

-- One more pair is inserted.
pub one_pair : (key k : List ℕ) (v : PartialValue) (rest : Fields) (old new all : Option PartialValue)
    → new ≡ cond (bytes_eq k key) (Some v) old → option_or (last_at key ((k, v) ∷ rest)) old ≡ all
    → option_or (last_at key rest) new ≡ all
one_pair key k v rest old new all e h = ap (option_or (last_at key rest)) e
    ∙ pick (last_at key rest) (bytes_eq k key) v old ∙ h

-- A map that has at each key the value of the last pair with the key has the fields of the pairs.
pub fields_made : (pairs : Fields) (es : List Entry) → IsStrictlySortedBy string_cmp (keys_of es)
    → ((key : List ℕ) → lookup (is_at (text_cmp key)) es ≡ last_at key pairs) → AreFieldsOf pairs (fields_of es)
fields_made pairs es s h = record { ascending = ascending_entries es s; last = λ key. field_at-entries key es ∙ h key }

-- There are no more pairs.
pub no_more : (key : List ℕ) (rest : List Entry) → length rest ≡ 0 → (old all : Option PartialValue)
    → option_or (last_at key (fields_of rest)) old ≡ all → old ≡ all
no_more key [] l old all h = h
no_more key (p ∷ ps) l old all h = absurd (cc)

-- Copies of entries have the same fields.
pub copied_fields : (R : PartialValue → PartialValue → Type 0) → ((x y : PartialValue) → R x y → y ≡ x)
    → (es fs : List Entry) → AllZip (λ (p : Entry) (q : Entry). (string_bytes q.0 ≡ string_bytes p.0) × R p.1 q.1) es fs
    → fields_of fs ≡ fields_of es
copied_fields R same [] [] h = refl
copied_fields R same [] (f ∷ fs) h = absurd h
copied_fields R same (e ∷ es) [] h = absurd h
copied_fields R same (e ∷ es) (f ∷ fs) h = λ i. (h.0.0 i, same e.1 f.1 h.0.1 i) ∷ copied_fields R same es fs h.1 i

-- The keys of entries are the keys of their fields.
pub keys_listed : (es : List Entry) → map string_bytes (keys_of es) ≡ field_keys (fields_of es)
keys_listed [] = refl
keys_listed (e ∷ es) = ap (λ ks. string_bytes e.0 ∷ ks) (keys_listed es)

pairs_eq : (es fs : List Entry)
    → pointwise (λ (p : Entry) (q : Entry). field_eq (string_bytes p.0, p.1) (string_bytes q.0, q.1)) es fs
    ≡ pointwise field_eq (fields_of es) (fields_of fs)
pairs_eq [] [] = refl
pairs_eq [] (f ∷ fs) = refl
pairs_eq (e ∷ es) [] = refl
pairs_eq (e ∷ es) (f ∷ fs) = ap (λ b. field_eq (string_bytes e.0, e.1) (string_bytes f.0, f.1) && b) (pairs_eq es fs)

-- Two maps with text keys are equal if and only if their fields are.
pub same_fields_decides : (es fs : List Entry)
    → Decides (pointwise (λ (p : Entry) (q : Entry). field_eq (string_bytes p.0, p.1) (string_bytes q.0, q.1)) es fs)
    (fields_of es ≡ fields_of fs)
same_fields_decides es fs = slice_eq-Decides field_decides (fields_of es) (fields_of fs) _ (pairs_eq es fs)
