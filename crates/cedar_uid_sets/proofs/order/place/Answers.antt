use Rattle.std.proofs.Common.{rules}
use Rattle.std.proofs.lemmas.Fn.{always_returns_same}
use Rattle.cedar_ids.specs.UidOf.{uid_order}
use Rattle.cedar_uid_sets.proofs.Search.{searched}
use Rattle.cedar_uid_sets.proofs.order.place.Goals as goal

-- The closure compares a shared uid with the uid to look up.
pub returns : goal.returns
returns c =
    let by_uid = c.binary_search_by.ensures.position
    (λ y. uid_order y c.args.uid.now) (always_returns_same _ _ _ (λ a r f k. (search rules, search rules))) in
    searched c.args.uids.now c.args.uid.now c.requires c.binary_search_by.result c.binary_search_by.ensures.bound by_uid
