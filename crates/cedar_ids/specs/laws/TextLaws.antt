-- Laws of the equality and order of texts.
use Rattle.std.specs.Prelude.{◌≡◌, ℕ, List}
use Rattle.std.specs.Bool.{Decides}
use Rattle.std.specs.Cmp.{IsEquivalence, IsTotalOrder}
use Rattle.std.specs.Cmp.Lexicographic.{bytes_decides, nat_list_eq_equiv, nat_list_cmp_total}
use Rattle.cedar_ids.specs.Texts.{same_text, text_order}

-- `==` is an equivalence.
pub same_text_equiv : IsEquivalence same_text
same_text_equiv = nat_list_eq_equiv

-- `==` decides whether two texts are identical.
pub same_text_decides : (x y : List ℕ) → Decides (same_text x y) (x ≡ y)
same_text_decides x y = bytes_decides x y

-- The order is total.
pub text_order_total : IsTotalOrder text_order
text_order_total = nat_list_cmp_total
