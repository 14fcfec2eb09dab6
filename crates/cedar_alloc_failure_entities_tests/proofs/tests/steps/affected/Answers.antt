use Rattle.std.specs.Prelude.{IsTrue}
use Rattle.std.proofs.Common.{sym, subst, refl, false}
use Rattle.std.proofs.lemmas.Bool.{both_ways}
use Rattle.cedar_entity_maps.specs.laws.EntityMap.{held_map}
use Rattle.cedar_entity_maps.specs.laws.Indexes.{IsIndexOf}
use Rattle.cedar_alloc_failure_entities_tests.proofs.tests.steps.affected.Goals as goal

-- An index without information is right.
pub returns : goal.returns
returns c =
    c.affected_by.ensures.ok (held_map c.args.map.now)
    (subst (λ x. IsIndexOf x (held_map c.args.map.now)) (sym c.unlisted-index.ensures)
    (record { plain = λ t. absurd (both_ways false refl t); children = tt }))
    (λ q. refl)
