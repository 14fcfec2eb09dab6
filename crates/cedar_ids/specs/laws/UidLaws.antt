-- Laws of the equality, order and hash of a uid's parts.
use Rattle.std.specs.Prelude.{◌≡◌, true}
use Rattle.std.proofs.Common.{sym, ap, ◌∙◌}
use Rattle.std.specs.Bool.{Decides}
use Rattle.std.specs.Ordering.{nat_cmp, eq_by_cmp, as_partial_cmp}
use Rattle.std.specs.Cmp.{IsEquivalence, IsTotalOrder, IsPartialOrder, and_equiv, on_equiv, on_total, then_total, po}
use Rattle.std.specs.Cmp.{first_so, second_so}
use Rattle.std.specs.Cmp.Lexicographic.{bytes_decides, slice_cmp, on_texts, on_texts_equal, texts_ties}
use Rattle.cedar_ids.specs.Name.{name_eq, name_cmp}
use Rattle.cedar_ids.specs.laws.NameLaws.{name_eq_equiv, name_cmp_total, name_ties, name_eq-Decides, both, is_eq-then}
use Rattle.cedar_ids.specs.Uid.{UidParts, name_part, eid_part, uid_eq, uid_cmp, uid_hash_input}

pub uid_eq_equiv : IsEquivalence uid_eq
uid_eq_equiv = and_equiv (on_equiv name_part name_eq_equiv) (on_texts_equal eid_part)

pub uid_cmp_total : IsTotalOrder uid_cmp
uid_cmp_total = then_total (on_total name_part name_cmp_total) (on_texts eid_part)

pub uid_ties : (x y : UidParts) → uid_eq x y ≡ eq_by_cmp uid_cmp x y
uid_ties x y = both _ _ _ _ (name_ties x.name y.name) (texts_ties x.eid y.eid)
    ∙ sym (is_eq-then (name_cmp x.name y.name) (slice_cmp nat_cmp x.eid y.eid))

pub uid_po : IsPartialOrder uid_eq (as_partial_cmp uid_cmp)
uid_po = po uid_cmp_total uid_ties

-- `uid_eq` decides whether two uids have identical parts.
pub uid_eq-Decides : (x y : UidParts) → Decides (uid_eq x y) (x ≡ y)
uid_eq-Decides x y = (
  λ e.
      let n : x.name ≡ y.name = (name_eq-Decides x.name y.name).0 (first_so _ _ e) in
      let d : x.eid ≡ y.eid = (bytes_decides x.eid y.eid).0 (second_so (name_eq x.name y.name) _ e) in
      λ i. record { name = n i; eid = d i },
  λ e. sym (ap (uid_eq x) e) ∙ uid_eq_equiv.refl x,
)

pub uid_hash_respects : (x y : UidParts) → uid_eq x y ≡ true → uid_hash_input x ≡ uid_hash_input y
uid_hash_respects x y e = ap uid_hash_input ((uid_eq-Decides x y).0 e)
