use Rattle.std.proofs.Common.{rules, ◌≡◌, ap, refl, sym, subst, ◌∙◌, true}
use Rattle.std.specs.Option.{option_map, IfSome}
use Rattle.cedar_ids.specs.UidOf.{same_uid}
use Rattle.cedar_entities.proofs.Versions.{insert_key_copy}
use Rattle.std.specs.HashMap.Entry.{entry_value}
use Rattle.std.proofs.lemmas.Bool.{false≢true}
use Rattle.cedar_entity_maps.specs.laws.EntityMap.{entity_at, shared}
use Rattle.cedar_entity.specs.View.{EntityView, IsDeepEqual}
use Rattle.cedar_entities.proofs.entities.insert_if_new.Goals as goal

pub returns-else-deep_eq-clause-differs : goal.returns-else-deep_eq-clause-differs
returns-else-deep_eq-clause-differs g c =
    let uid_is : c.incoming.inside.uid ≡ c.args.incoming.uid = c.incoming.invariant
    ∙ ap (λ (e : EntityView). e.uid) c.incoming.view_is in
    let present = c.get.result.now in
    let entity : c.deref-in-Occupied.result.now ≡ c.args.incoming = c.deref-in-Occupied.ensures ∙ c.incoming.view_is in (
      c.incoming.view_is,
      shared present,
      ap (entity_at c.args.entities.now) (sym uid_is)
          ∙ ap (option_map shared) (sym c.in_ok-place.ensures.value ∙ ap entry_value c.in-Occupied.is ∙ c.get.ensures),
      λ d. false≢true (sym c.if-deep_eq.false ∙ c.deep_eq.ensures.equal.1
          (subst (λ (v : EntityView). IsDeepEqual v c.deref-in-Occupied.result.now) (sym c.deref.ensures)
          (subst (IsDeepEqual (shared present)) (sym entity) d))),
    )

pub returns-in-Vacant-clause-keys : goal.returns-in-Vacant-clause-keys
returns-in-Vacant-clause-keys g c q =
    subst (λ o. IfSome o (λ w. same_uid q (shared w).uid ≡ true)) (sym (search rules))
    (insert_key_copy c.args.entities.now c.incoming.inside.uid (record { 0 = c.incoming.inside.entity }) q
    (same_uid c.incoming.inside.uid q) refl c.incoming.invariant c.requires)
