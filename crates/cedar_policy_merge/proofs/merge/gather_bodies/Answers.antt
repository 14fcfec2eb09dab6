use Rattle.std.proofs.Common.{◌≡◌, ◌++◌, ◌∷◌, [], Some, sym, ap, ◌∙◌, subst}
use Rattle.std.specs.List.{find}
use Rattle.std.proofs.lemmas.List.{append_assoc}
use Rattle.indexmap.specs.IndexSet.{insert_all}
use Rattle.cedar_ids.specs.Texts.{same_text}
use Rattle.cedar_body.specs.Bodies.{BodyParts}
use Rattle.cedar_policy_maps.specs.PolicySets.{is_body_at}
use Rattle.cedar_policy_merge.specs.laws.GatherLaws.{Bodies, Links, conflicting_bodies}
use Rattle.cedar_policy_merge.specs.laws.GatherSteps.{gathered_body_step, listed_body_step, body_within}
use Rattle.cedar_policy_merge.proofs.merge.gather_bodies.Goals as goal

pub gather_body-requires : goal.gather_body-requires
gather_body-requires g c =
    let before = c.loop-template.invariant in
    subst (λ (b : BodyParts). find (is_body_at b.id) c.args.other.now.bodies ≡ Some b) (sym c.deref.ensures)
    (body_within c.args.other.now before.done c.in-Some.template.now.value c.next.new.self
    (ap (λ ts. before.done ++ ts) (sym c.in-Some.ensures.steps) ∙ before.is_part)
    c.is_empty-policy_set.ensures.policy_set.bodies_once)

pub loop-template-preserved : goal.loop-template-preserved
loop-template-preserved g c =
    let h = c.args.here.now in
    let o = c.args.other.now in
    let t = c.in-Some.template.now.value in
    let before = c.loop-template.invariant in
    record {
      done = before.done ++ t ∷ [];
      is_part = append_assoc before.done (t ∷ []) c.next.new.self
          ∙ ap (λ ts. before.done ++ ts) (sym c.in-Some.ensures.steps) ∙ before.is_part;
      ids =
          gathered_body_step Bodies h o before.done t c.args.ids.now.keys c.loop-template.ids.keys
          c.gather_body.new.ids.keys before.ids
          (c.in_ok-gather_body.ensures.ids
          ∙ ap (λ (b : BodyParts). insert_all same_text c.loop-template.ids.keys (conflicting_bodies Bodies h o (b ∷ [])))
          c.deref.ensures);
      links =
          listed_body_step Links h o before.done t c.args.links.now.items c.loop-template.links.items
          c.gather_body.new.links.items before.links
          (c.in_ok-gather_body.ensures.links
          ∙ ap (λ (b : BodyParts). c.loop-template.links.items ++ conflicting_bodies Links h o (b ∷ []))
          c.deref.ensures);
    }
