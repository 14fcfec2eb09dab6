use Rattle.std.specs.Prelude.{◌++◌, ◌∷◌, []}
use Rattle.std.proofs.Common.{◌∙◌, sym, ap}
use Rattle.indexmap.specs.IndexMap.{get}
use Rattle.std.proofs.lemmas.Result.{on_ok_weaker}
use Rattle.cedar_ids.specs.Texts.{same_text}
use Rattle.indexmap.specs.IndexSet.{insert_key}
use Rattle.cedar_policy_maps.specs.Maps.{lists_of}
use Rattle.cedar_policy_maps.proofs.Entries.{written, gathered_in, gathered_new}
use Rattle.cedar_policy_maps.proofs.maps.gather_id.Goals as goal

pub push_list-requires : goal.push_list-requires
push_list-requires g c = ap (λ m. get same_text m c.args.body.now) c.get_mut.follows.holds-at-none
    ∙ sym c.in-None.ensures.value

pub returns-in-None : goal.returns-in-None
returns-in-None g c =
    on_ok_weaker c.push_list.result
    (λ k. k ∙ ap (λ m. lists_of m.entries ++ (c.args.body.now, c.args.id.now ∷ []) ∷ [])
    c.get_mut.follows.holds-at-none
    ∙ gathered_new c.args.body.now c.args.id.now c.args.map.now.entries (sym c.in-None.ensures.value))
    c.push_list.ensures

pub returns-in-Some : goal.returns-in-Some
returns-in-Some g c =
    let w = c.insert_id_copy.new.ids in
    on_ok_weaker c.insert_id_copy.result
    (λ k. ap lists_of (c.get_mut.follows.holds w).0
    ∙ written (same_text c.args.body.now) (λ ks. insert_key same_text ks c.args.id.now) c.args.map.now.entries
    c.in-Some.ids.now w (sym c.in-Some.ensures.value) k
    ∙ gathered_in c.args.body.now c.args.id.now c.args.map.now.entries c.in-Some.ids.now
    (sym c.in-Some.ensures.value))
    c.insert_id_copy.ensures
