use Rattle.std.proofs.Common.{◌≡◌, ◌∙◌, Bool, true, false, not, ap, sym, refl}
use Rattle.std.proofs.lemmas.Bool.{false≢true}
use Rattle.cedar_ids.specs.Texts.{same_text}
use Rattle.cedar_policy_merge.specs.laws.RenamingLaws.{is_in}
use Rattle.cedar_policy_merge.specs.laws.TemplatesAlike.{bodies_same}
use Rattle.cedar_policy_merge.proofs.merge.is_same_template.Goals as goal

told : (v : Bool) → not v ≡ false → v ≡ true
told true e = refl
told false e = absurd (false≢true (sym e))

pub returns : goal.returns
returns g c =
    let t = c.args.stands.now in
    let u = c.args.template.now in
    let one : same_text t.id u.id ≡ true =
    told (same_text t.id u.id) (sym (c.ne.ensures
    ∙ (λ j. not (same_text (c.id.ensures j) (c.id-2.ensures j)))) ∙ c.if-ne.false) in
    let new : is_in u.id c.args.ids.now.keys ≡ false =
    sym (c.is_listed_id.ensures ∙ ap (λ i. is_in i c.args.ids.now.keys) c.id-3.ensures) ∙ c.if-is_listed_id.false in
    bodies_same t u c.args.ids.now.keys c.requires one new
