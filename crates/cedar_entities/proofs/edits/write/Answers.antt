use Rattle.std.proofs.Common.{ap, refl, sym, ◌∙◌, ◌&&◌, cond, None}
use Rattle.std.proofs.lemmas.Result.{on_ok_weaker}
use Rattle.std.specs.FinSet as set
use Rattle.std.specs.Option.{option_or}
use Rattle.cedar_uid_sets.specs.UidSets.{UidValues}
use Rattle.cedar_uid_sets.specs.laws.Sets.{contains_listed}
use Rattle.cedar_entity_maps.specs.laws.Edits.{last_entity, stripped}
use Rattle.cedar_entity_maps.specs.laws.EntityMap.{entity_at}
use Rattle.cedar_entity_maps.specs.laws.StaleUids.{loses, loses_uid}
use Rattle.cedar_entity_maps.specs.laws.Keyed.{changed_match}
use Rattle.cedar_entities.proofs.edits.write.Goals as goal

pub remove_each-requires : goal.remove_each-requires
remove_each-requires g c = changed_match c.args.entities.now c.strip_each.new.entities
    (λ q. stripped (λ p. loses c.args.stale.items q && set.contains c.args.removed p) (loses_uid c.args.stale.items q))
    (λ q e. refl) c.in_ok-strip_each.ensures.ok c.requires

pub returns-clause-ok : goal.returns-clause-ok
returns-clause-ok g c = on_ok_weaker c.overwrite_all.result
    (λ is q. is q ∙ ap (option_or (last_entity c.args.incoming.items q)) (c.remove_each.ensures.left q
    ∙ ap (λ d. cond d None (entity_at c.strip_each.new.entities q)) (sym (contains_listed c.into_pointers.result.items q)
    ∙ ap (λ (s : UidValues). set.contains s q) c.into_pointers.ensures.all)
    ∙ ap (cond (set.contains c.args.removed q) None) (c.in_ok-strip_each.ensures.ok q))) c.overwrite_all.ensures.ok
