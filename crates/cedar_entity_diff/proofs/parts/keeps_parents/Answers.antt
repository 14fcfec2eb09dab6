use Rattle.std.proofs.Common.{ap, sym, ◌∙◌}
use Rattle.std.specs.FinMap as finmap
use Rattle.cedar_uid_sets.specs.laws.Sets.{same_uids_decides}
use Rattle.cedar_entity_diff.proofs.parts.keeps_parents.Goals as goal

pub returns-in-Some : goal.returns-in-Some
returns-in-Some g c t = record {
  stored = c.in-Some.stored.now;
  found = ap (finmap.get c.args.store.now.entities) (sym c.uid.ensures) ∙ sym c.in-Some.ensures.value;
  parents =
      (same_uids_decides c.args.entity.now.parents c.in-Some.stored.now.parents).0 (sym c.has_same_parents.ensures ∙ t);
}
