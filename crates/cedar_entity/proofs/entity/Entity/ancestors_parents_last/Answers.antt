use Rattle.std.proofs.Common.{◌≡◌, ◌||◌, Bool, true, false, refl, ap, ◌∙◌, List}
use Rattle.std.specs.FinSet as set
use Rattle.std.specs.Set.{is_member}
use Rattle.cedar_ids.specs.UidOf.{same_uid}
use Rattle.cedar_ids.specs.declared.entity.EntityUID.{EntityUID}
use Rattle.cedar_entity.specs.View.{EntityView, has_ancestor}
use Rattle.cedar_entity.proofs.UidSteps.{both_listed}
use Rattle.cedar_entity.proofs.entity.Entity.ancestors_parents_last.Goals as goal

turned : (a b : Bool) → (a || b) ≡ (b || a)
turned true true = refl
turned true false = refl
turned false true = refl
turned false false = refl

pub returns : goal.returns
returns c q =
    ap (λ (us : List EntityUID). is_member same_uid us q) c.of.ensures
    ∙ both_listed c.pointers.result.now c.pointers-2.result.now c.self.inside.indirect_ancestors c.self.inside.parents
    c.pointers.ensures.all c.pointers-2.ensures.all q
    ∙ turned (set.contains c.self.inside.indirect_ancestors q) (set.contains c.self.inside.parents q)
    ∙ ap (λ (e : EntityView). has_ancestor e q) c.self.view_is
