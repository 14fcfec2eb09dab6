use Rattle.std.proofs.Common.{sym, subst}
use Rattle.cedar_entity_maps.specs.Plain.{IsPlainStore, StoreView}
use Rattle.cedar_entity_maps.specs.laws.PlainAncestors.{plain_as}
use Rattle.cedar_deep_copy_stores.proofs.Stored.{as_known, as_partial}
use Rattle.cedar_deep_copy_stores.proofs.store.deep_copy_entities.Goals as goal

pub known_plain_with-requires : goal.known_plain_with-requires
known_plain_with-requires g c = λ W p. (
  W,
  subst (IsPlainStore W) (sym (as_partial c.args.store.now c.in_ok-copied.copied c.partial_as-copy.result
      c.in_ok-copied.ensures.entities c.partial_as-copy.ensures))
      (plain_as W c.args.store.now c.in_ok-copied.copied.known_plain p),
)

pub returns-clause-value : goal.returns-clause-value
returns-clause-value g c =
    as_known c.args.store.now c.in_ok-copied.copied c.partial_as-copy.result c.known_plain_with.result
    c.in_ok-copied.ensures.entities c.partial_as-copy.ensures c.known_plain_with.ensures

pub returns-clause-plain : goal.returns-clause-plain
returns-clause-plain g c = λ W p.
    subst (λ (s : StoreView). IsPlainStore W s) (sym (returns-clause-value g c)) p
