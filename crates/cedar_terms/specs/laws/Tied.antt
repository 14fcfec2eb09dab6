-- Numbers that compare as `Equal`, and pairs that do so under two orders, are equal.
use Rattle.std.specs.Prelude.{◌≡◌, ℕ, refl}
use Rattle.std.proofs.Common.{◌∙◌}
use Rattle.std.specs.declared.cmp.Ordering.{Ordering}
use Rattle.std.specs.declared.cmp.Ordering.TheVariants.{Less, Equal, Greater}
use Rattle.std.specs.Ordering.{nat_cmp, ordering_then}
use Rattle.cedar_terms.specs.Keys.{nat_key}
use Rattle.cedar_terms.specs.laws.KeyLaws.{key_cmp-Equal, nat_key-inj, nat_key-cmp}

pub kinds_tied : (m n : ℕ) → nat_cmp m n ≡ Equal → m ≡ n
kinds_tied m n e = nat_key-inj m n (key_cmp-Equal (nat_key m) (nat_key n) (nat_key-cmp m n ∙ e))

pub then_tied : (a b : Ordering) → ordering_then a b ≡ Equal → (a ≡ Equal) × (b ≡ Equal)
then_tied Less b e = absurd (cc)
then_tied Equal b e = (refl, e)
then_tied Greater b e = absurd (cc)
