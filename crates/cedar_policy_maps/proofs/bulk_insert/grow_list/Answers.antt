use Rattle.std.proofs.Common.{◌∙◌, sym, ap}
use Rattle.cedar_ids.specs.Texts.{same_text}
use Rattle.indexmap.specs.IndexSet.{insert_all}
use Rattle.cedar_policy_maps.specs.Maps.{lists_of}
use Rattle.cedar_policy_maps.proofs.Entries.{unwritten, written}
use Rattle.cedar_policy_maps.proofs.bulk_insert.grow_list.Goals as goal

pub returns-in-None-clause-lists : goal.returns-in-None-clause-lists
returns-in-None-clause-lists g c =
    ap (λ m. lists_of m.entries) c.get_mut.follows.holds-at-none
    ∙ unwritten (same_text c.args.body.now)
    (λ ks. insert_all same_text ks c.args.more.keys) c.args.map.now.entries (sym c.in-None.ensures.value)

pub returns-in-Some-clause-lists : goal.returns-in-Some-clause-lists
returns-in-Some-clause-lists g c =
    let w = c.append_ids.new.ids in
    ap lists_of (c.get_mut.follows.holds w).0
    ∙ written (same_text c.args.body.now) (λ ks. insert_all same_text ks c.args.more.keys) c.args.map.now.entries
    c.in-Some.ids.now w (sym c.in-Some.ensures.value) c.append_ids.ensures
