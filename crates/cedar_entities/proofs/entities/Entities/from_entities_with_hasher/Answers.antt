use Rattle.std.proofs.Common.{false, true, map, ap, subst, sym}
use Rattle.cedar_entity.specs.declared.err.EntitiesError.TheVariants.{Memory}
use Rattle.cedar_entities.specs.Changes.{AddsPlain}
use Rattle.cedar_entity_maps.specs.Plain.{HaveNoIndirect, StoreView, input_of, no_entities}
use Rattle.cedar_entity_maps.specs.InputStore.{empty_input}
use Rattle.cedar_entities.proofs.Changing.{adds_nothing, adds_plain, adds_same, none_came}
use Rattle.cedar_entities.proofs.PlainStores.{plain_empty}
use Rattle.cedar_entities.proofs.entities.Entities.from_entities_with_hasher.Goals as goal

pub returns-in_err-list-clause-adds : goal.returns-in_err-list-clause-adds
returns-in_err-list-clause-adds g c =
    adds_nothing c.args.tc_computation no_entities c.args.list.items (λ s. s.entities) _ c.from_residual.ensures.1

pub returns-in_err-list-clause-plain : goal.returns-in_err-list-clause-plain
returns-in_err-list-clause-plain g c =
    adds_plain c.args.tc_computation (record { entities = no_entities; partial = false; known_plain = true }) c.args.list.items _
    (none_came _ _ Memory c.from_residual.ensures.1) (returns-in_err-list-clause-adds g c) empty_input (plain_empty true)

pub returns-clause-adds : goal.returns-clause-adds
returns-clause-adds g c =
    adds_same c.args.tc_computation c.with_hasher.result.entities no_entities
    (map (λ r. r.value) c.in_ok-list.list.items) c.args.list.items c.add_entities.result (λ s. s.entities)
    (ap (λ (v : StoreView). v.entities) c.with_hasher.ensures.value) c.in_ok-list.ensures c.add_entities.ensures.adds

pub returns-clause-plain : goal.returns-clause-plain
returns-clause-plain g c bare =
    subst (λ l. AddsPlain c.args.tc_computation empty_input (map input_of l) c.add_entities.result) c.in_ok-list.ensures
    (c.add_entities.ensures.plain empty_input c.with_hasher.ensures.plain
    (subst HaveNoIndirect (sym c.in_ok-list.ensures) bare))
