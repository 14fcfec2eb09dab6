use Rattle.std.proofs.Common.{ap, subst, sym, map, ◌∙◌}
use Rattle.cedar_entity.specs.declared.err.EntitiesError.TheVariants.{Memory}
use Rattle.cedar_entity_maps.specs.Edits.{overwrite, uids_of}
use Rattle.cedar_entity_maps.specs.Modes.{rules_of}
use Rattle.cedar_entity_maps.specs.Plain.{HaveNoIndirect, StoreView}
use Rattle.cedar_entity_maps.specs.laws.EntityMap.{held_map}
use Rattle.cedar_entities.proofs.Changing.{edit_made, edit_nothing, edit_told, none_came, strips_plain, upserts_plain}
use Rattle.cedar_entities.proofs.Changing.{upserts_same}
use Rattle.cedar_entities.proofs.Indexes.{children_seen, plain_over}
use Rattle.cedar_entities.proofs.Overwriting.{over_edit}
use Rattle.cedar_entities.proofs.PlainEdits.{edit_untouched}
use Rattle.cedar_entities.proofs.entities.Entities.upsert_entities.Goals as goal

pub returns-in_err-incoming-clause-upserts : goal.returns-in_err-incoming-clause-upserts
returns-in_err-incoming-clause-upserts g c =
    edit_nothing (rules_of c.args.tc_computation) (uids_of (map (λ r. r.value) c.args.list.items)) c.args.self.entities
    (overwrite c.args.self.entities (map (λ r. r.value) c.args.list.items)) _ c.from_residual.ensures.1

pub returns-in_err-incoming-clause-plain : goal.returns-in_err-incoming-clause-plain
returns-in_err-incoming-clause-plain g c =
    upserts_plain c.args.tc_computation c.args.self (map (λ r. r.value) c.args.list.items) _
    (none_came _ _ Memory c.from_residual.ensures.1) (returns-in_err-incoming-clause-upserts g c)

pub returns-in_err-overwrite_and_finalize-clause-upserts : goal.returns-in_err-overwrite_and_finalize-clause-upserts
returns-in_err-overwrite_and_finalize-clause-upserts g c =
    let D = held_map c.self.inside.entities in
    let L = c.in_ok-incoming.incoming.items in
    upserts_same c.args.tc_computation D c.args.self.entities L (map (λ r. r.value) c.args.list.items) _
    (ap (λ (s : StoreView). s.entities) c.self.view_is) c.in_ok-incoming.ensures
    (edit_told (rules_of c.args.tc_computation) (uids_of L) D (overwrite D L) (held_map c.overwrite_and_finalize.new.entities) _
    c.in_err-overwrite_and_finalize.field-0.0 c.from_residual-in_err-overwrite_and_finalize.ensures.1 c.in_err-overwrite_and_finalize.ensures.ends)

pub returns-in_err-overwrite_and_finalize-clause-strips : goal.returns-in_err-overwrite_and_finalize-clause-strips
returns-in_err-overwrite_and_finalize-clause-strips g c =
    strips_plain c.args.tc_computation c.args.self (map (λ r. r.value) c.args.list.items) _
    (returns-in_err-overwrite_and_finalize-clause-upserts g c)

pub returns-in_err-overwrite_and_finalize-clause-plain : goal.returns-in_err-overwrite_and_finalize-clause-plain
returns-in_err-overwrite_and_finalize-clause-plain g c =
    upserts_plain c.args.tc_computation c.args.self (map (λ r. r.value) c.args.list.items) _
    (none_came _ _ c.in_err-overwrite_and_finalize.field-0.0 c.from_residual-in_err-overwrite_and_finalize.ensures.1)
    (returns-in_err-overwrite_and_finalize-clause-upserts g c)

pub returns-clause-upserts : goal.returns-clause-upserts
returns-clause-upserts g c =
    let D = held_map c.self.inside.entities in
    let L = c.in_ok-incoming.incoming.items in
    let N = held_map c.overwrite_and_finalize.new.entities in
    let s : StoreView = record { entities = N; partial = c.self.inside.partial; known_plain = c.plain_if.result.plain } in
    upserts_same c.args.tc_computation D c.args.self.entities L (map (λ r. r.value) c.args.list.items) _
    (ap (λ (t : StoreView). t.entities) c.self.view_is) c.in_ok-incoming.ensures
    (edit_made (rules_of c.args.tc_computation) (uids_of L) D (overwrite D L) s _ (edit_untouched (over_edit D L))
    c.in_ok-overwrite_and_finalize.ensures.ends)

pub returns-clause-strips : goal.returns-clause-strips
returns-clause-strips g c =
    strips_plain c.args.tc_computation c.args.self (map (λ r. r.value) c.args.list.items) _ (returns-clause-upserts g c)

pub returns-clause-plain : goal.returns-clause-plain
returns-clause-plain g c =
    upserts_plain c.args.tc_computation c.args.self (map (λ r. r.value) c.args.list.items) _
    (ap (λ (s : StoreView). s.partial) c.self.view_is) (returns-clause-upserts g c)

pub invariant_of-result : goal.invariant_of-result
invariant_of-result g c =
    let n = c.overwrite_and_finalize.new.entities in (
      c.in_ok-overwrite_and_finalize.ensures.keys,
      record {
        plain = λ t.
            let p = c.plain_if.ensures.plain t in
            let stays = c.stays_plain-stays.ensures p.1 in
            plain_over (held_map c.self.inside.entities)
            (c.self.invariant.1.plain (sym c.overwrite_and_finalize.ensures.plain ∙ p.0)) c.in_ok-incoming.incoming.items
            (subst HaveNoIndirect c.deref.ensures.value stays.1) (rules_of c.args.tc_computation) stays.0 (held_map n)
            c.in_ok-overwrite_and_finalize.ensures.ends.ok;
        children = c.plain_if.ensures.children _
            (children_seen n c.overwrite_and_finalize.new.index.children c.in_ok-overwrite_and_finalize.ensures.children);
      },
    )
