use Rattle.std.specs.Prelude.{None, Some, Option}
use Rattle.std.proofs.Common.{◌≡◌, ◌∙◌, ap, sym, is_some, refl}
use Rattle.std.specs.Option.{option_copied, option_map, unwrap_or}
use Rattle.cedar_policy_maps.specs.PolicySets.{is_policy_at}
use Rattle.cedar_policy_merge.specs.Merge.{has_policy}
use Rattle.cedar_policy_merge.specs.laws.LookedAtLaws.{found_any}
use Rattle.cedar_policy_merge.proofs.merge.policy_in_target.Goals as goal

some_mapped : {V W : Type 0} (f : V → W) (o : Option V) → is_some o ≡ is_some (option_map f o)
some_mapped f None = refl
some_mapped f (Some v) = refl

pub returns-in-None : goal.returns-in-None
returns-in-None g c =
    let i = c.args.id.now in
    let own : unwrap_or (option_copied c.args.new) i ≡ i = ap (λ o. unwrap_or (option_copied o) i) c.in-None.is in
    some_mapped (λ p. p.1.now) c.policy_near.result ∙ ap is_some c.policy_near.ensures
    ∙ sym (found_any (is_policy_at i) c.args.here.now.policies) ∙ ap (has_policy c.args.here.now) (sym own)
