use Rattle.std.proofs.Common.{◌∙◌, ap}
use Rattle.cedar_terms.specs.ValueTree.{set_value, value_trees}
use Rattle.cedar_terms.proofs.Sets.{set_made}
use Rattle.cedar_terms.proofs.value.Value.set.Goals as goal

pub returns : goal.returns
returns c =
    set_made c.args.values.items c.sort.new.self.items c.without_repeats.result.items c.new-2.result
    c.sort.ensures.permutation c.in_ok-sort.ensures.sorted c.without_repeats.ensures
    (c.new-2.ensures ∙ ap (λ v. set_value (value_trees v.items)) c.in_ok-elements.ensures.ok)
