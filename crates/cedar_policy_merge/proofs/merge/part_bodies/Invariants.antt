use Rattle.std.proofs.Common.{◌≡◌, ◌++◌, List}
use Rattle.cedar_body.specs.Bodies.{BodyParts}
use Rattle.cedar_policy_merge.specs.Merge.{merged_bodies, new_id}
use Rattle.cedar_policy_maps.specs.Views.{bodies_of}
use Rattle.cedar_policy_merge.specs.laws.MergeInserts.{standing_bodies}
use Rattle.cedar_policy_merge.proofs.merge.part_bodies.Given as goal

abbrev pub invariant-loop-template : goal.invariant-loop-template
invariant-loop-template g l = record {
  done : List BodyParts;
  is_part : done ++ l.template-iterator ≡ l.fn.theirs;
  stand : bodies_of l.parted.stand.items ≡ bodies_of l.initial.parted.stand.items
      ++ standing_bodies l.here (new_id l.renaming.entries) done;
  join : bodies_of l.parted.join.items ≡ bodies_of l.initial.parted.join.items
      ++ merged_bodies l.here (new_id l.renaming.entries) done;
}
