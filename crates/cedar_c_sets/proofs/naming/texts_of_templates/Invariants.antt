use Rattle.std.proofs.Common.{◌≡◌, ◌++◌, map, drop}
use Rattle.cedar_c_sets.specs.Naming.{body_id}
use Rattle.cedar_c_sets.proofs.naming.texts_of_templates.Given as goal

abbrev pub invariant-loop-template : goal.invariant-loop-template
invariant-loop-template l =
    l.answer ++ map (λ t. body_id t.now) (drop l.template-index l.templates)
    ≡ map (λ t. body_id t.now) l.templates
