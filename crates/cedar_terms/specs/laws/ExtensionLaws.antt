-- Laws of the equality and hash of extension values.
use Rattle.std.specs.Prelude.{◌≡◌, true}
use Rattle.std.proofs.Common.{ap, sym, ◌∙◌}
use Rattle.std.specs.Bool.{Decides}
use Rattle.std.specs.Cmp.{IsEquivalence, and_equiv, on_equiv, first_so, second_so}
use Rattle.std.specs.Cmp.Lexicographic.{bytes_decides, on_texts_equal}
use Rattle.cedar_ids.specs.Name.{name_eq}
use Rattle.cedar_ids.specs.laws.NameLaws.{name_eq_equiv, name_eq-Decides}
use Rattle.cedar_terms.specs.ExtensionParts.{ExtensionParts, arg_part, extension_parts_hash, func_part, same_extension}

-- `==` is an equivalence.
pub same_extension_equiv : IsEquivalence same_extension
same_extension_equiv = and_equiv (on_equiv func_part name_eq_equiv) (on_texts_equal arg_part)

-- `==` decides whether two extension values are identical.
pub same_extension_decides : (x y : ExtensionParts) → Decides (same_extension x y) (x ≡ y)
same_extension_decides x y = (
  λ e.
      let f : x.func ≡ y.func = (name_eq-Decides x.func y.func).0 (first_so _ _ e) in
      let a : x.arg ≡ y.arg = (bytes_decides x.arg y.arg).0 (second_so (name_eq x.func y.func) _ e) in
      λ i. record { func = f i; arg = a i },
  λ e. sym (ap (same_extension x) e) ∙ same_extension_equiv.refl x,
)

-- Equal extension values have equal hashes.
pub extension_hash_respects : (x y : ExtensionParts) → same_extension x y ≡ true
    → extension_parts_hash x ≡ extension_parts_hash y
extension_hash_respects x y e = ap extension_parts_hash ((same_extension_decides x y).0 e)
