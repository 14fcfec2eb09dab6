use Rattle.std.proofs.Common.{◌∙◌, sym}
use Rattle.cedar_ids.specs.Texts.{same_text}
use Rattle.cedar_policy_maps.proofs.Entries.{same_written}
use Rattle.cedar_policy_maps.proofs.bulk_insert.replace_equal_policy.Goals as goal

pub returns-in-Some : goal.returns-in-Some
returns-in-Some g c =
    let w = c.replace_policy.new.stands in
    (c.get_mut.follows.holds w).0
    ∙ same_written (same_text c.id.result.now) c.args.links.now.entries c.in-Some.stands.now w
    (sym c.in-Some.ensures.value) c.replace_policy.ensures
