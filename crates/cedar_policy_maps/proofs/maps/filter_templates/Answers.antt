use Rattle.std.proofs.Common.{rules, not, is_some}
use Rattle.std.proofs.lemmas.Map.Made.{filter_same_pairs}
use Rattle.cedar_ids.specs.Texts.{same_text}
use Rattle.indexmap.specs.IndexMap.{get}
use Rattle.cedar_policy_maps.proofs.maps.filter_templates.Goals as goal

pub returns : goal.returns
returns g c =
    filter_same_pairs _ (λ e. not (is_some (get same_text c.args.links.now e.0))) _
    (λ k v b w f' call. search rules) _ _ c.retain.ensures.filtered
