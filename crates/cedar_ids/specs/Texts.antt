-- Equality and order of texts that are compared by bytes: ids, keys and policy ids.
use Rattle.std.specs.Prelude.{ℕ, List, Bool, nat_eq}
use Rattle.std.specs.declared.cmp.Ordering.{Ordering}
use Rattle.std.specs.Ordering.{nat_cmp}
use Rattle.std.specs.Cmp.Lexicographic.{pointwise, slice_cmp}

-- The result of `==`: whether the bytes are equal.
abbrev pub same_text : List ℕ → List ℕ → Bool
same_text = pointwise nat_eq

-- The result of `cmp`: the first pair of different bytes decides.
abbrev pub text_order : List ℕ → List ℕ → Ordering
text_order = slice_cmp nat_cmp
