use Rattle.std.proofs.Common.{ap, subst, sym, Ok, ◌∙◌}
use Rattle.cedar_entities.specs.Changes.{RemovesEntities}
use Rattle.cedar_entity_maps.specs.Edits.{removed_all}
use Rattle.cedar_entity_maps.specs.Modes.{with_repair, rules_of}
use Rattle.cedar_entity_maps.specs.Plain.{StoreView}
use Rattle.cedar_entity_maps.specs.Affected.{removed_from}
use Rattle.cedar_entity_maps.specs.laws.EntityMap.{held_map}
use Rattle.cedar_entities.proofs.Changing.{edit_made, edit_told, none_came, removes_plain}
use Rattle.cedar_entities.proofs.Indexes.{children_seen, plain_out}
use Rattle.cedar_entities.proofs.PlainEdits.{edit_untouched}
use Rattle.cedar_entities.proofs.Removing.{out_edit}
use Rattle.cedar_entities.proofs.entities.Entities.remove_entities.Goals as goal

pub returns-in_err-remove_and_finalize-clause-removes : goal.returns-in_err-remove_and_finalize-clause-removes
returns-in_err-remove_and_finalize-clause-removes g c =
    let D = held_map c.self.inside.entities in
    let U = c.args.list.items in
    subst (λ E. RemovesEntities c.args.tc_computation E U c.from_residual.result)
    (ap (λ (s : StoreView). s.entities) c.self.view_is)
    (edit_told (with_repair (rules_of c.args.tc_computation)) (removed_from D U) D (removed_all D U)
    (held_map c.remove_and_finalize.new.entities) _ c.in_err-remove_and_finalize.field-0.0 c.from_residual.ensures.1
    c.in_err-remove_and_finalize.ensures.ends)

pub returns-in_err-remove_and_finalize-clause-plain : goal.returns-in_err-remove_and_finalize-clause-plain
returns-in_err-remove_and_finalize-clause-plain g c =
    removes_plain c.args.tc_computation c.args.self c.args.list.items _
    (none_came _ _ c.in_err-remove_and_finalize.field-0.0 c.from_residual.ensures.1)
    (returns-in_err-remove_and_finalize-clause-removes g c)

pub returns-clause-removes : goal.returns-clause-removes
returns-clause-removes g c =
    let D = held_map c.self.inside.entities in
    let U = c.args.list.items in
    let s : StoreView = record {
      entities = held_map c.remove_and_finalize.new.entities;
      partial = c.self.inside.partial;
      known_plain = c.remove_and_finalize.new.index.plain;
    } in
    subst (λ E. RemovesEntities c.args.tc_computation E U (Ok s)) (ap (λ (t : StoreView). t.entities) c.self.view_is)
    (edit_made (with_repair (rules_of c.args.tc_computation)) (removed_from D U) D (removed_all D U) s _
    (edit_untouched (out_edit D U))
    c.in_ok-remove_and_finalize.ensures.ends)

pub returns-clause-plain : goal.returns-clause-plain
returns-clause-plain g c =
    removes_plain c.args.tc_computation c.args.self c.args.list.items _
    (ap (λ (s : StoreView). s.partial) c.self.view_is) (returns-clause-removes g c)

pub invariant_of-result : goal.invariant_of-result
invariant_of-result g c =
    let n = c.remove_and_finalize.new.entities in (
      c.in_ok-remove_and_finalize.ensures.keys,
      record {
        plain = λ t. plain_out (held_map c.self.inside.entities)
            (c.self.invariant.1.plain (sym c.remove_and_finalize.ensures.plain ∙ t)) c.args.list.items
            (rules_of c.args.tc_computation) (held_map n) c.in_ok-remove_and_finalize.ensures.ends.ok;
        children = children_seen n c.remove_and_finalize.new.index.children c.in_ok-remove_and_finalize.ensures.children;
      },
    )
