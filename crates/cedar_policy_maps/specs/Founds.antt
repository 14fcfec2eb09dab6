-- The result of a lookup, as a binding.
use Rattle.cedar_policy_maps.specs.PolicySets.{Binding, Template, policy_binding}
use Rattle.cedar_policy_maps.specs.declared.policy_or_template.PolicyOrTemplate.{PolicyOrTemplate}
use Rattle.cedar_policy_maps.specs.declared.policy_or_template.PolicyOrTemplate.TheVariants as founds

-- The binding that a lookup found: a static policy, a link or a template.
abbrev pub found_binding : PolicyOrTemplate → Binding
found_binding (founds.Policy p) = policy_binding p.now
found_binding (founds.Template t) = Template t.now.value
