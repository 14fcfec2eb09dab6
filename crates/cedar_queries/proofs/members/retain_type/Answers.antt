use Rattle.std.proofs.Common.{rules}
use Rattle.std.proofs.lemmas.Fn.{filter_same}
use Rattle.cedar_ids.specs.Views.{type_name}
use Rattle.cedar_queries.specs.laws.Searches.{has_type}
use Rattle.cedar_queries.proofs.members.retain_type.Goals as goal

pub returns : goal.returns
returns c = filter_same _ (has_type (type_name c.args.ty.now)) _ (λ x b f' k. search rules) _ _ c.retain.ensures.filtered
