use Rattle.cedar_policy_maps.proofs.Entries.{lists_copied}
use Rattle.cedar_policy_maps.proofs.maps.copy_of_ids.Goals as goal

pub returns : goal.returns
returns g c = lists_copied c.args.map.now.entries c.in_ok-copies.copies.entries c.in_ok-copies.ensures.cases
