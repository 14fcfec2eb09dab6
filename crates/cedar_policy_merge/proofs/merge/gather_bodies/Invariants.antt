use Rattle.std.proofs.Common.{◌≡◌, ◌++◌, List}
use Rattle.indexmap.specs.IndexSet.{insert_all}
use Rattle.cedar_ids.specs.Texts.{same_text}
use Rattle.cedar_body.specs.Bodies.{BodyParts}
use Rattle.cedar_policy_merge.specs.laws.GatherLaws.{Bodies, Links, conflicting_bodies}
use Rattle.cedar_policy_merge.proofs.merge.gather_bodies.Given as goal

abbrev pub invariant-loop-template : goal.invariant-loop-template
invariant-loop-template g l = record {
  done : List BodyParts;
  is_part : done ++ l.template-iterator ≡ l.other.bodies;
  ids : l.ids.keys ≡ insert_all same_text l.initial.ids.keys (conflicting_bodies Bodies l.here l.other done);
  links : l.links.items ≡ l.initial.links.items ++ conflicting_bodies Links l.here l.other done;
}
