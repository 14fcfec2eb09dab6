use Rattle.std.proofs.Common.{ap, subst, sym, map, ◌∙◌}
use Rattle.cedar_entity.specs.declared.err.EntitiesError.TheVariants.{Memory}
use Rattle.cedar_entity_maps.specs.Modes.{rules_of}
use Rattle.cedar_entity_maps.specs.Plain.{HaveNoIndirect, StoreView}
use Rattle.cedar_entity_maps.specs.laws.EntityMap.{held_map}
use Rattle.cedar_entities.proofs.Changing.{adds_kept, adds_nothing, adds_plain, adds_same, adds_told, none_came}
use Rattle.cedar_entities.proofs.Indexes.{children_seen, plain_in}
use Rattle.cedar_entities.proofs.entities.Entities.add_entities.Goals as goal

pub returns-in_err-incoming-clause-adds : goal.returns-in_err-incoming-clause-adds
returns-in_err-incoming-clause-adds g c =
    adds_nothing c.args.tc_computation c.args.self.entities (map (λ r. r.value) c.args.list.items) (λ s. s.entities) _
    c.from_residual.ensures.1

pub returns-in_err-incoming-clause-plain : goal.returns-in_err-incoming-clause-plain
returns-in_err-incoming-clause-plain g c =
    adds_plain c.args.tc_computation c.args.self (map (λ r. r.value) c.args.list.items) _
    (none_came _ _ Memory c.from_residual.ensures.1) (returns-in_err-incoming-clause-adds g c)

pub returns-in_err-add_all-clause-adds : goal.returns-in_err-add_all-clause-adds
returns-in_err-add_all-clause-adds g c =
    let mode = c.args.tc_computation in
    let m = c.self.inside.entities in
    let D = c.args.self.entities in
    let L = map (λ r. r.value) c.args.list.items in
    adds_same mode (held_map m) D c.in_ok-incoming.incoming.items L _ (λ s. s.entities)
    (ap (λ (s : StoreView). s.entities) c.self.view_is) c.in_ok-incoming.ensures
    (adds_told mode (held_map m) c.in_ok-incoming.incoming.items c.in_err-add_all.field-0.0
    (λ _. held_map c.add_all.new.entities) _ (λ s. s.entities) c.from_residual-in_err-add_all.ensures.1
    c.in_err-add_all.ensures.adds)

pub returns-in_err-add_all-clause-plain : goal.returns-in_err-add_all-clause-plain
returns-in_err-add_all-clause-plain g c =
    adds_plain c.args.tc_computation c.args.self (map (λ r. r.value) c.args.list.items) _
    (none_came _ _ c.in_err-add_all.field-0.0 c.from_residual-in_err-add_all.ensures.1)
    (returns-in_err-add_all-clause-adds g c)

pub returns-clause-adds : goal.returns-clause-adds
returns-clause-adds g c =
    let mode = c.args.tc_computation in
    let N = c.add_all.new.entities in
    let s : StoreView = record { entities = held_map N; partial = c.self.inside.partial; known_plain = c.plain_if.result.plain } in
    adds_kept mode c.args.self.entities (map (λ r. r.value) c.args.list.items) _ s
    (adds_same mode (held_map c.self.inside.entities) c.args.self.entities c.in_ok-incoming.incoming.items
    (map (λ r. r.value) c.args.list.items) _ (λ _. held_map N)
    (ap (λ (t : StoreView). t.entities) c.self.view_is) c.in_ok-incoming.ensures c.in_ok-add_all.ensures.adds)

pub returns-clause-plain : goal.returns-clause-plain
returns-clause-plain g c =
    adds_plain c.args.tc_computation c.args.self (map (λ r. r.value) c.args.list.items) _
    (ap (λ (s : StoreView). s.partial) c.self.view_is) (returns-clause-adds g c)

pub invariant_of-result : goal.invariant_of-result
invariant_of-result g c =
    let m = c.self.inside.entities in
    let n = c.add_all.new.entities in (
      c.in_ok-add_all.ensures.keys,
      record {
        plain = λ t.
            let p = c.plain_if.ensures.plain t in
            let stays = c.stays_plain-stays.ensures p.1 in
            plain_in (held_map m) (c.self.invariant.1.plain (sym c.add_all.ensures.plain ∙ p.0))
            c.in_ok-incoming.incoming.items (subst HaveNoIndirect c.deref.ensures.value stays.1)
            (rules_of c.args.tc_computation) stays.0 (held_map n) c.in_ok-add_all.ensures.adds.ok;
        children =
            c.plain_if.ensures.children _
            (children_seen n c.add_all.new.index.children c.in_ok-add_all.ensures.children);
      },
    )
