use Rattle.std.specs.HashMap.{get}
use Rattle.cedar_ids.specs.UidOf.{same_uid}
use Rattle.cedar_queries.specs.laws.Searches.{search_graph}
use Rattle.cedar_queries.proofs.FoundPaths.{found_back, path_found, path_none}
use Rattle.cedar_queries.proofs.paths.path.Goals as goal

pub walk_back-requires : goal.walk_back-requires
walk_back-requires g c =
    found_back (search_graph c.args.store.now.entities c.is_known_plain-plain.result c.args.to.now) c.in_ok-first.first
    c.args.to.now (get same_uid c.search.new.reached) c.in_ok-between.field-0 c.in-Some.between c.in_ok-between.ensures
    c.in-Some.is

pub returns-in-Some : goal.returns-in-Some
returns-in-Some g c =
    path_found c.args.store.now.entities c.is_known_plain-plain.result c.is_known_plain-plain.ensures.plain
    c.args.from.now c.in_ok-first.first c.args.to.now c.in_ok-first.ensures (get same_uid c.search.new.reached)
    c.in_ok-between.field-0 c.in_ok-between.ensures c.in-Some.between c.in_ok-walk_back-in-Some.field-0.items
    c.in-Some.is c.in_ok-walk_back-in-Some.ensures

pub returns : goal.returns
returns g c =
    path_none c.args.store.now.entities c.is_known_plain-plain.result c.is_known_plain-plain.ensures.plain
    c.args.from.now c.in_ok-first.first c.args.to.now c.in_ok-first.ensures (get same_uid c.search.new.reached)
    c.in_ok-between.field-0 c.in_ok-between.ensures c.in-None.is
