use Rattle.std.proofs.Common.{subst, sym}
use Rattle.cedar_ids.specs.Views.{type_name}
use Rattle.cedar_queries.specs.Queries.{AreDescendantsOfType}
use Rattle.cedar_queries.proofs.Descending.{of_type}
use Rattle.cedar_queries.proofs.members.descendants_of_type.Goals as goal

pub returns : goal.returns
returns g c =
    subst (AreDescendantsOfType c.args.store.now.entities c.args.uid.now (type_name c.args.ty.now))
    (sym c.retain_type.ensures)
    (of_type c.args.store.now.entities c.args.uid.now (type_name c.args.ty.now) c.in_ok-uids.uids.items
    c.in_ok-uids.ensures)
