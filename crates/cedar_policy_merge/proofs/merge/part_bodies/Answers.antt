use Rattle.std.proofs.Common.{◌++◌, ◌∷◌, [], sym, ap, ◌∙◌}
use Rattle.std.proofs.lemmas.List.{append_assoc}
use Rattle.cedar_policy_merge.specs.Merge.{new_id}
use Rattle.cedar_policy_maps.specs.Views.{bodies_of}
use Rattle.cedar_policy_merge.specs.laws.MergeSteps.{joined_body_step}
use Rattle.cedar_policy_merge.specs.laws.MergeInserts.{standing_body_step}
use Rattle.cedar_policy_merge.proofs.merge.part_bodies.Goals as goal

pub loop-template-preserved : goal.loop-template-preserved
loop-template-preserved g c =
    let t = c.in-Some.template.now.value in
    let before = c.loop-template.invariant in
    record {
      done = before.done ++ t ∷ [];
      is_part = append_assoc before.done (t ∷ []) c.next.new.self
          ∙ ap (λ ts. before.done ++ ts) (sym c.in-Some.ensures.steps) ∙ before.is_part;
      stand =
          standing_body_step c.args.here.now (new_id c.args.renaming.now.entries) before.done t
          (bodies_of c.args.parted.now.stand.items) (bodies_of c.loop-template.parted.stand.items)
          (bodies_of c.part_body.new.parted.stand.items) before.stand c.in_ok-part_body.ensures.stand;
      join =
          joined_body_step c.args.here.now (new_id c.args.renaming.now.entries) before.done t
          (bodies_of c.args.parted.now.join.items) (bodies_of c.loop-template.parted.join.items)
          (bodies_of c.part_body.new.parted.join.items) before.join c.in_ok-part_body.ensures.join;
    }
