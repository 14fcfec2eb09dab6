use Rattle.std.proofs.Common.{◌∙◌}
use Rattle.cedar_ids.specs.Texts.{same_text}
use Rattle.indexmap.proofs.CallerLemmas.{insert_entry-new}
use Rattle.cedar_policy_maps.proofs.maps.insert_new.Goals as goal

pub returns : goal.returns
returns g c =
    c.in_ok-insert.ensures.entries
    ∙ insert_entry-new same_text c.args.map.now c.args.key c.args.value c.requires
