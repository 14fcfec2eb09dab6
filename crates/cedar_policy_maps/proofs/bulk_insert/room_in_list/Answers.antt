use Rattle.std.proofs.Common.{◌∙◌, sym, ap}
use Rattle.cedar_ids.specs.Texts.{same_text}
use Rattle.cedar_policy_maps.specs.Maps.{lists_of}
use Rattle.cedar_policy_maps.proofs.Entries.{rewritten}
use Rattle.cedar_policy_maps.proofs.bulk_insert.room_in_list.Goals as goal

pub returns-in-Some-clause-lists : goal.returns-in-Some-clause-lists
returns-in-Some-clause-lists g c =
    let w = c.room_in_set.new.ids in
    ap lists_of (c.get_mut.follows.holds w).0
    ∙ rewritten (same_text c.args.body.now) c.args.map.now.entries c.in-Some.ids.now w
    (sym c.in-Some.ensures.value) c.room_in_set.ensures.keys
