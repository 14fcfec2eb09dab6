use Rattle.std.proofs.Common.{map}
use Rattle.std.specs.Set.{is_member}
use Rattle.cedar_ids.specs.UidOf.{same_uid}
use Rattle.cedar_c_stores.specs.QueryCaches.{AreNumbersOf, KeepsNumbers}
use Rattle.cedar_c_stores.proofs.query_cache.row_of.Given as goal

abbrev pub invariant-loop-uid : goal.invariant-loop-uid
invariant-loop-uid g l = KeepsNumbers l.initial.numbers l.numbers
    × AreNumbersOf l.numbers (is_member same_uid (map (λ x. x.now) l.yielded)) l.row.items
