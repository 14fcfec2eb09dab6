use Rattle.std.proofs.Common.{IfOk, refl, subst, sym}
use Rattle.std.specs.FinMap as finmap
use Rattle.std.specs.Option.{IfSome}
use Rattle.cedar_entity_maps.specs.laws.EntityMap.{held_map}
use Rattle.cedar_entity_maps.specs.laws.Indexes.{HasChildren, parentage}
use Rattle.cedar_entity_maps.specs.laws.Seen.{stored}
use Rattle.cedar_entity_maps.proofs.Indexes.{if_ok}
use Rattle.cedar_entity_maps.proofs.index.list_if_it_pays.Goals as goal

pub returns-clause-index : goal.returns-clause-index
returns-clause-index g c =
    let m = c.args.entities.now in
    record {
      plain = c.requires.plain;
      children = subst (λ o. IfSome o (HasChildren (parentage (finmap.get (held_map m))))) (sym c.ok.ensures.value)
          (if_ok (HasChildren (parentage (finmap.get (held_map m)))) c.children_of.result
          (subst (λ f. IfOk c.children_of.result (HasChildren (parentage f)))
          (stored m (held_map m) refl) c.children_of.ensures));
    }
