-- Laws of the equality and hash of unknowns.
use Rattle.std.specs.Prelude.{◌≡◌, true, Option, Some, None, nat_eq, refl}
use Rattle.std.proofs.Common.{ap, sym, ◌∙◌}
use Rattle.std.specs.Bool.{Decides}
use Rattle.std.specs.Option.{option_eq}
use Rattle.std.specs.Cmp.{IsEquivalence, and_equiv, on_equiv, first_so, second_so}
use Rattle.std.specs.Cmp.Lexicographic.{pointwise, bytes_decides, on_texts_equal, options_equiv}
use Rattle.cedar_ids.specs.Name.{NameParts, name_eq}
use Rattle.cedar_ids.specs.laws.NameLaws.{name_eq_equiv, name_eq-Decides}
use Rattle.cedar_terms.specs.UnknownParts.{UnknownParts, same_unknown, unknown_annotation, unknown_hash, unknown_name}

-- `==` is an equivalence.
pub same_unknown_equiv : IsEquivalence same_unknown
same_unknown_equiv = and_equiv (on_texts_equal unknown_name) (on_equiv unknown_annotation (options_equiv name_eq_equiv))

same_annotation : (x y : Option NameParts) → option_eq name_eq x y ≡ true → x ≡ y
same_annotation None None e = refl
same_annotation None (Some m) e = absurd (cc)
same_annotation (Some n) None e = absurd (cc)
same_annotation (Some n) (Some m) e = ap Some ((name_eq-Decides n m).0 e)

-- `==` decides whether two unknowns are identical.
pub same_unknown_decides : (x y : UnknownParts) → Decides (same_unknown x y) (x ≡ y)
same_unknown_decides x y = (
  λ e.
      let n : x.name ≡ y.name = (bytes_decides x.name y.name).0 (first_so _ _ e) in
      let a : x.annotation ≡ y.annotation = same_annotation x.annotation y.annotation
      (second_so (pointwise nat_eq x.name y.name) _ e) in
      λ i. record { name = n i; annotation = a i },
  λ e. sym (ap (same_unknown x) e) ∙ same_unknown_equiv.refl x,
)

-- Equal unknowns have equal hashes.
pub unknown_hash_respects : (x y : UnknownParts) → same_unknown x y ≡ true → unknown_hash x ≡ unknown_hash y
unknown_hash_respects x y e = ap unknown_hash ((same_unknown_decides x y).0 e)
