-- The text of a uid is skipped as a whole.
use Rattle.std.proofs.Common.{◌≡◌, ℕ, List, [], ◌∷◌, ◌++◌, Bool, true, false, ◌&&◌, refl, sym, ap, ◌∙◌}
use Rattle.std.proofs.Common.{append_assoc, inl, inr, Option, Some, None, not, cond, codes}
use Rattle.std.specs.Prelude.{◌==◌}
use Rattle.std.proofs.lemmas.Bool.Decides.{eqb_tells}
use Rattle.std.specs.Cmp.{first_so, second_so}
use Rattle.std.specs.List.{flat_map, list_all}
use Rattle.std.specs.Fmt.{digits}
use Rattle.cedar_ids.specs.Escape.{escape, escaped, is_ascii, is_ascii_byte}
use Rattle.cedar_ids.specs.Name.{NameParts}
use Rattle.cedar_ids.specs.Printed.{before_mark, printed_name}
use Rattle.cedar_ids.specs.Reading.{is_id, is_id_part, is_id_start, is_identifier, is_reserved}
use Rattle.cedar_ids.specs.TextOf.{IsName}
use Rattle.cedar_ids.specs.UidOf.{uid_parts}
use Rattle.cedar_ids.specs.declared.entity.EntityUID.{EntityUID}
use Rattle.cedar_ids.specs.laws.EscapeLaws.{all_below, below_at}
use Rattle.cedar_c_lists.specs.Texts.{spaced}
use Rattle.cedar_c_errors.specs.Named.{IsWritten}
use Rattle.cedar_c_errors.specs.laws.Scans.{after, after_quote, after_uid}
use borrow.Author.Tests.{ltb-true}

-- Whether a backslash precedes the rest of the text, or `None` if a quote ends among the bytes.
leads : Bool → List ℕ → Option Bool
leads e [] = Some e
leads e (c ∷ cs) = cond (not e && (c == 34)) None (leads (not e && (c == 92)) cs)

or_false : Option Bool → Bool
or_false None = false
or_false (Some b) = b

cond_some : (b : Bool) (o : Option Bool) (d : Bool) → cond b None o ≡ Some d → (b ≡ false) × (o ≡ Some d)
cond_some true o d h = absurd (cc)
cond_some false o d h = (refl, h)

passed : (e : Bool) (xs r : List ℕ) (d : Bool) → leads e xs ≡ Some d → after e (xs ++ r) ≡ after d r
unfolding leads after or_false
passed e [] r d h = ap (λ o. after (or_false o) r) h
passed e (c ∷ cs) r d h =
    let p = cond_some (not e && (c == 34)) _ d h in
    ap (λ b. cond b (cs ++ r) (after (not e && (c == 92)) (cs ++ r))) p.0
    ∙ passed (not e && (c == 92)) cs r d p.1

leads_append : (e : Bool) (xs ys : List ℕ) (d : Bool) → leads e xs ≡ Some d → leads e (xs ++ ys) ≡ leads d ys
unfolding leads or_false
leads_append e [] ys d h = ap (λ o. leads (or_false o) ys) h
leads_append e (c ∷ cs) ys d h =
    let p = cond_some (not e && (c == 34)) _ d h in
    ap (λ b. cond b None (leads (not e && (c == 92)) (cs ++ ys))) p.0
    ∙ leads_append (not e && (c == 92)) cs ys d p.1

-- Whether a byte is neither a quote nor a backslash.
is_plain : ℕ → Bool
is_plain c = not (c == 34) && not (c == 92)

not_true : (b : Bool) → not b ≡ true → b ≡ false
not_true true h = absurd (cc)
not_true false h = refl

plain_leads : (xs : List ℕ) → list_all is_plain xs ≡ true → leads false xs ≡ Some false
unfolding leads is_plain
plain_leads [] h = refl
plain_leads (c ∷ cs) h =
    let p = first_so (is_plain c) (list_all is_plain cs) h in
    let q : (c == 34) ≡ false = not_true (c == 34) (first_so (not (c == 34)) (not (c == 92)) p) in
    let s : (c == 92) ≡ false = not_true (c == 92) (second_so (not (c == 34)) (not (c == 92)) p) in
    rw (q, s) (plain_leads cs (second_so (is_plain c) (list_all is_plain cs) h))

-- A byte of an identifier is neither a quote nor a backslash.
id_is_plain : (c : ℕ) → is_id_part c ≡ true → is_plain c ≡ true
unfolding is_plain
id_is_plain c h =
    elim (eqb_tells c 34) as (λ _. is_plain c ≡ true) [
      | inl q ↦ let no : is_id_part 34 ≡ true = sym (ap is_id_part q.1) ∙ h in absurd (cc)
      | inr q ↦ elim (eqb_tells c 92) as (λ _. is_plain c ≡ true) [
        | inl s ↦ let no : is_id_part 92 ≡ true = sym (ap is_id_part s.1) ∙ h in absurd (cc)
        | inr s ↦ rw (q.0, s.0) refl
      ]
    ]

ids_are_plain : (bs : List ℕ) → list_all is_id_part bs ≡ true → list_all is_plain bs ≡ true
ids_are_plain [] h = refl
ids_are_plain (c ∷ cs) h =
    rw (id_is_plain c (first_so (is_id_part c) (list_all is_id_part cs) h))
    (ids_are_plain cs (second_so (is_id_part c) (list_all is_id_part cs) h))

-- The bytes of a name are neither.
plain_append : (xs ys : List ℕ) → list_all is_plain xs ≡ true → list_all is_plain ys ≡ true
    → list_all is_plain (xs ++ ys) ≡ true
plain_append [] ys h g = g
plain_append (c ∷ cs) ys h g =
    rw (first_so (is_plain c) (list_all is_plain cs) h)
    (plain_append cs ys (second_so (is_plain c) (list_all is_plain cs) h) g)

start_is_part : (c : ℕ) → is_id_start c ≡ true → is_id_part c ≡ true
start_is_part c h = rw h refl

identifier_is_plain : (t : List ℕ) → is_identifier t ≡ true → list_all is_plain t ≡ true
identifier_is_plain [] h = absurd (cc)
identifier_is_plain (c ∷ cs) h =
    rw (id_is_plain c (start_is_part c (first_so (is_id_start c) (list_all is_id_part cs) h)))
    (ids_are_plain cs (second_so (is_id_start c) (list_all is_id_part cs) h))

component_is_plain : (t : List ℕ) → is_id t ≡ true → list_all is_plain t ≡ true
unfolding is_id
component_is_plain t h = identifier_is_plain t (first_so (is_identifier t) (not (is_reserved t)) h)

path_is_plain : (p : List (List ℕ)) → list_all is_id p ≡ true → list_all is_plain (flat_map before_mark p) ≡ true
unfolding is_plain
path_is_plain [] h = refl
path_is_plain (t ∷ ts) h =
    plain_append (t ++ codes "::") (flat_map before_mark ts)
    (plain_append t (codes "::") (component_is_plain t (first_so (is_id t) (list_all is_id ts) h)) refl)
    (path_is_plain ts (second_so (is_id t) (list_all is_id ts) h))

name_leads : (n : NameParts) → IsName n → leads false (printed_name n) ≡ Some false
name_leads n h = plain_leads (printed_name n)
    (plain_append (flat_map before_mark n.path) n.basename (path_is_plain n.path h.0) (component_is_plain n.basename h.1))

-- A check of each ASCII character: its escape does not end a text, and no backslash is left after it.
is_told_false : Option Bool → Bool
is_told_false None = false
is_told_false (Some b) = not b

stays_within : ℕ → Bool
stays_within c = is_told_false (leads false (escape c))

ascii_stays_within : all_below stays_within 128 ≡ true
unfolding all_below stays_within is_told_false leads digits
ascii_stays_within = refl

told_false : (o : Option Bool) → is_told_false o ≡ true → o ≡ Some false
unfolding is_told_false
told_false None h = absurd (cc)
told_false (Some true) h = absurd (cc)
told_false (Some false) h = refl

escape_leads : (c : ℕ) → is_ascii_byte c ≡ true → leads false (escape c) ≡ Some false
unfolding stays_within
escape_leads c h = told_false _ (below_at stays_within 128 c ascii_stays_within (ltb-true c 128 h))

escaped_leads : (e : List ℕ) → is_ascii e ≡ true → leads false (escaped e) ≡ Some false
unfolding leads
escaped_leads [] h = refl
escaped_leads (c ∷ cs) h =
    leads_append false (escape c) (escaped cs) false (escape_leads c (first_so (is_ascii_byte c) (is_ascii cs) h))
    ∙ escaped_leads cs (second_so (is_ascii_byte c) (is_ascii cs) h)

-- A blank and the text of a uid are skipped.
pub uid_passed : (u : EntityUID) (r : List ℕ) → IsWritten u → after_uid (spaced u ++ r) ≡ r
unfolding after
uid_passed u r w =
    let e = (uid_parts u).eid in
    let n = (uid_parts u).name in
    let quoted : List ℕ = escaped e ++ codes "\"" in
    let first : after_quote (spaced u ++ r) ≡ quoted ++ r =
    ap (after false) (append_assoc (printed_name n) (codes "::\"" ++ quoted) r)
    ∙ passed false (printed_name n) (codes "::\"" ++ quoted ++ r) false (name_leads n w.0) in
    ap after_quote first
    ∙ ap after_quote (append_assoc (escaped e) (codes "\"") r)
    ∙ passed false (escaped e) (codes "\"" ++ r) false (escaped_leads e w.1)
