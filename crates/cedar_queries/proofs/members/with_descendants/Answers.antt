use Rattle.cedar_queries.proofs.Descending.{below_one, only_member}
use Rattle.cedar_queries.proofs.members.with_descendants.Goals as goal

pub returns : goal.returns
returns g c =
    below_one c.args.store.now.entities c.args.children.now c.args.uid.now c.in_ok-copy_of.field-0
    c.insert.new.self.keys c.requires
    (λ q. only_member c.with_hasher-from.result c.insert.new.self c.in_ok-copy_of.field-0 q
    c.with_hasher-from.ensures.empty (c.in_ok-insert.ensures.updates.0 q))
    c.in_ok-copy_of.ensures c.below.result c.below.ensures
