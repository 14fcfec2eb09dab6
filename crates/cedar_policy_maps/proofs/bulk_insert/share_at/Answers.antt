use Rattle.std.proofs.Common.{◌∙◌, IsSome, ap, refl, subst, sym}
use Rattle.std.specs.Option.{option_copied_mut}
use Rattle.cedar_ids.specs.Texts.{same_text}
use Rattle.cedar_policy_maps.proofs.Entries.{same_written}
use Rattle.cedar_policy_maps.proofs.bulk_insert.share_at.Goals as goal

pub returns-in-Some : goal.returns-in-Some
returns-in-Some g c =
    let w = c.share_template.new.policy in
    let at = c.get_at_mut.follows.holds w (subst IsSome (sym c.in-Some.is) refl) in
    at.2.0
    ∙ same_written (same_text at.0) c.args.links.now.entries c.in-Some.policy.now w
    (at.1 ∙ ap option_copied_mut c.in-Some.is) c.share_template.ensures
