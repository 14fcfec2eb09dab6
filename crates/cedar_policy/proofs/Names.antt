-- The uid that is parsed from a text, among the uids with an ASCII eid.
use Rattle.std.proofs.Common.{◌≡◌, ℕ, List, Bool, true, false, ◌&&◌, refl, sym, ap, subst, ◌∙◌}
use Rattle.std.proofs.lemmas.Bool.{false≢true}
use Rattle.std.specs.List.{list_all}
use Rattle.cedar_ids.specs.Escape.{is_ascii}
use Rattle.cedar_ids.specs.Printed.{printed_uid}
use Rattle.cedar_ids.specs.Reading.{is_id}
use Rattle.cedar_ids.specs.TextOf.{IsPrinted}
use Rattle.cedar_ids.specs.Texts.{same_text}
use Rattle.cedar_ids.specs.laws.TextLaws.{same_text_decides}
use Rattle.cedar_ids.specs.Uid.{UidParts}
use Rattle.cedar_ids.specs.UidOf.{uid_parts, same_uid}
use Rattle.cedar_ids.specs.laws.UidOfLaws.{same_uid_decides}
use Rattle.cedar_ids.specs.declared.entity.EntityUID.{EntityUID}
use Rattle.cedar_binding.specs.laws.Fits.{same_answer}
use Rattle.cedar_policy.specs.Unknowns.{is_name}
use Rattle.cedar_policy.specs.laws.UnknownSteps.{is_printed_uid}

both_true : (p q : Bool) → p ≡ true → q ≡ true → (p && q) ≡ true
both_true p q a b = λ i. a i && b i

each_true : (p q : Bool) → (p && q) ≡ true → (p ≡ true) × (q ≡ true)
each_true true true h = (refl, refl)
each_true true false h = absurd (cc)
each_true false q h = absurd (cc)

-- `is_printed_uid` is true if `IsPrinted` holds.
is_printed_true : (u : UidParts) (text : List ℕ) → IsPrinted u text → is_printed_uid u text ≡ true
is_printed_true u text h =
    both_true _ _ (both_true _ _ (both_true _ _ h.0.0 h.0.1) h.1) ((same_text_decides text (printed_uid u)).1 h.2)

printed_where_true : (u : UidParts) (text : List ℕ) → is_printed_uid u text ≡ true → IsPrinted u text
printed_where_true u text h =
    let outer = each_true _ (same_text text (printed_uid u)) h in
    let inner = each_true (is_name u.name) (is_ascii u.eid) outer.0 in (
      each_true (list_all is_id u.name.path) (is_id u.name.basename) inner.0,
      inner.1,
      (same_text_decides text (printed_uid u)).0 outer.1,
    )

-- A parsed uid with an ASCII eid is the only uid with that text.
pub reads_only : (v : EntityUID) (text : List ℕ) → (is_ascii (uid_parts v).eid ≡ true → IsPrinted (uid_parts v) text)
    → ((u : EntityUID) → IsPrinted (uid_parts u) text → v ≡ u)
    → (u : EntityUID) → is_ascii (uid_parts u).eid ≡ true → same_uid v u ≡ is_printed_uid (uid_parts u) text
reads_only v text printed exact u ascii =
    same_answer (same_uid v u) (is_printed_uid (uid_parts u) text)
    (λ e.
    let same = (same_uid_decides v u).0 e in
    is_printed_true (uid_parts u) text (subst
    (λ w. IsPrinted (uid_parts w) text) same (printed (ap (λ w. is_ascii (uid_parts w).eid) same ∙ ascii))))
    (λ e. (same_uid_decides v u).1 (exact u (printed_where_true (uid_parts u) text e)))

-- A text from which no uid is parsed is not the printed form of a uid with an ASCII eid.
pub reads_none : (text : List ℕ) → ((u : EntityUID) → IsPrinted (uid_parts u) text → ⊥) → (u : EntityUID)
    → is_ascii (uid_parts u).eid ≡ true → false ≡ is_printed_uid (uid_parts u) text
reads_none text none u ascii =
    same_answer false (is_printed_uid (uid_parts u) text) (λ e. absurd (false≢true e))
    (λ e. absurd (none u (printed_where_true (uid_parts u) text e)))
