use Rattle.cedar_policy_maps.proofs.Entries.{shared_copied}
use Rattle.cedar_policy_maps.proofs.maps.copy_of_bodies.Goals as goal

pub returns : goal.returns
returns g c = shared_copied c.args.templates.now.entries c.in_ok-copies.copies.entries c.in_ok-copies.ensures.cases
