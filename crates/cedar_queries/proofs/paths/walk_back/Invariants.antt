use Rattle.std.proofs.Common.{◌≡◌, ◌-◌, ◌++◌, suc}
use Rattle.std.specs.Prelude.{reverse}
use Rattle.std.specs.HashMap.{get}
use Rattle.cedar_ids.specs.UidOf.{same_uid}
use Rattle.cedar_queries.specs.laws.Searches.{LeadsBack, trace}
use Rattle.cedar_queries.proofs.paths.walk_back.Given as goal

abbrev pub invariant-loop-step : goal.invariant-loop-step
invariant-loop-step g l = record {
  back : LeadsBack (get same_uid l.reached) (l.between - l._step) l.at;
  passed : trace (get same_uid l.reached) (suc l.between) l.to
      ≡ trace (get same_uid l.reached) (l.between - l._step) l.at ++ reverse l.uids.items;
}
