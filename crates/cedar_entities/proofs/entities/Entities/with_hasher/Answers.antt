use Rattle.std.proofs.Common.{rules, sym, subst, false}
use Rattle.cedar_entity_maps.specs.Plain.{EntityMap, IsPlainStore}
use Rattle.cedar_entity_maps.specs.InputStore.{empty_input}
use Rattle.cedar_entity_maps.specs.laws.EntityMap.{held_map}
use Rattle.cedar_entity_maps.specs.laws.Indexes.{IsIndexOf}
use Rattle.cedar_entities.proofs.Indexes.{plain_held}
use Rattle.cedar_entities.proofs.StoreMaps.{seen_empty}
use Rattle.cedar_entities.proofs.PlainStores.{plain_empty}
use Rattle.cedar_entities.proofs.entities.Entities.with_hasher.Goals as goal

pub returns-clause-value : goal.returns-clause-value
returns-clause-value g c =
    λ i. record {
      entities = seen_empty c.with_hasher.result c.with_hasher.ensures.empty i;
      partial = false;
      known_plain = (c.unlisted.ensures i).plain;
    }

pub returns-clause-plain : goal.returns-clause-plain
returns-clause-plain g c =
    subst (λ (h : EntityMap). IsPlainStore empty_input (record { entities = h; partial = false; known_plain = c.unlisted.result.plain }))
    (sym (seen_empty c.with_hasher.result c.with_hasher.ensures.empty)) (plain_empty c.unlisted.result.plain)

pub invariant_of-result : goal.invariant_of-result
invariant_of-result g c = (
  search rules,
  subst (λ x. IsIndexOf x (held_map c.with_hasher.result)) (sym c.unlisted.ensures)
      (record {
        plain = λ _. plain_held empty_input (record { entities = held_map c.with_hasher.result; partial = false; known_plain = c.unlisted.result.plain })
            (returns-clause-plain g c);
        children = tt;
      }),
)
