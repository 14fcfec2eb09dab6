use Rattle.std.specs.Prelude.{◌++◌}
use Rattle.std.specs.Map.{keys_of}
use Rattle.cedar_policy_maps.proofs.Entries.{once_distinct}
use Rattle.cedar_policy_maps.proofs.bulk_insert.push_all.Goals as goal

pub extend_new-requires-clause-new : goal.extend_new-requires-clause-new
extend_new-requires-clause-new g c =
    once_distinct (keys_of (c.args.map.now.entries ++ c.args.entries.entries)) c.requires.new
