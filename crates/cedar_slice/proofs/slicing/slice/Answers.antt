use Rattle.std.specs.Prelude.{◌≡◌, true}
use Rattle.std.proofs.Common.{sym, subst, ◌∙◌}
use Rattle.std.specs.FinMap as finmap
use Rattle.cedar_entity_maps.specs.Plain.{StoreView}
use Rattle.cedar_slice.specs.Slices.{IsPlainSlice}
use Rattle.cedar_slice.proofs.PlainSlices.{known_as}
use Rattle.cedar_slice.proofs.slicing.slice.Goals as goal

pub known_plain_with-requires : goal.known_plain_with-requires
known_plain_with-requires g c = λ W p. let s = c.in_ok-part.ensures.plain W p in (s.input_store, s.is_plain)

pub returns-clause-entities : goal.returns-clause-entities
returns-clause-entities g c =
    c.known_plain_with.ensures
    ∙ (λ i. record {
      entities = c.in_ok-part.ensures.entities.0 i;
      partial = c.in_ok-part.ensures.entities.1 i;
      known_plain = c.args.store.now.known_plain;
    })

pub returns-clause-asked : goal.returns-clause-asked
returns-clause-asked g c = λ q m.
    subst (λ (s : StoreView). finmap.get s.entities q ≡ finmap.get c.args.store.now.entities q)
    (sym c.known_plain_with.ensures) (c.in_ok-part.ensures.asked q m)

pub returns-clause-plain : goal.returns-clause-plain
returns-clause-plain g c = λ W p.
    subst (IsPlainSlice W c.args.uids.now) (sym c.known_plain_with.ensures)
    (known_as W c.args.uids.now c.in_ok-part.part c.args.store.now.known_plain (c.in_ok-part.ensures.plain W p))

pub returns-clause-least : goal.returns-clause-least
returns-clause-least g c = λ W p V has q k.
    c.in_ok-part.ensures.least W p V has q
    (subst (λ (s : StoreView). finmap.contains_key s.entities q ≡ true) c.known_plain_with.ensures k)
