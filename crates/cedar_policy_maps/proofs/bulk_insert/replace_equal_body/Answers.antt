use Rattle.std.proofs.Common.{◌∙◌, sym, ap}
use Rattle.cedar_ids.specs.Texts.{same_text}
use Rattle.cedar_policy_maps.specs.Maps.{shared_of}
use Rattle.cedar_policy_maps.proofs.Entries.{alike_written}
use Rattle.cedar_policy_maps.proofs.bulk_insert.replace_equal_body.Goals as goal

pub returns-in-Some : goal.returns-in-Some
returns-in-Some g c =
    let w = c.replace_body.new.stands in
    ap shared_of (c.get_mut.follows.holds w).0
    ∙ alike_written (λ t. t.value) (same_text c.id.result.now) c.args.templates.now.entries c.in-Some.stands.now w
    (sym c.in-Some.ensures.value) c.replace_body.ensures
