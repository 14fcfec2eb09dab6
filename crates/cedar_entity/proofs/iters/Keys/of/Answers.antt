use Rattle.std.proofs.Common.{ap, ◌∙◌, map, string_bytes}
use Rattle.cedar_entity.proofs.FieldLists.{ascending_entries, keys_listed}
use Rattle.cedar_entity.proofs.iters.Keys.of.Goals as goal

pub returns-clause-keys : goal.returns-clause-keys
returns-clause-keys c = ap (map string_bytes) c.keys.ensures.rest ∙ keys_listed c.args.fields.now.entries

pub returns-clause-ascending : goal.returns-clause-ascending
returns-clause-ascending c = ascending_entries c.args.fields.now.entries c.keys.ensures.ordered
