use Rattle.std.proofs.Common.{◌∙◌, sym, ap}
use Rattle.cedar_ids.specs.Texts.{same_text}
use Rattle.indexmap.specs.IndexSet.{insert_key}
use Rattle.cedar_policy_maps.specs.Maps.{lists_of}
use Rattle.std.proofs.lemmas.Result.{on_ok_weaker, on_err_weaker}
use Rattle.cedar_policy_maps.proofs.Entries.{unwritten, written, rewritten, not_in}
use Rattle.cedar_policy_maps.proofs.maps.list_link.Goals as goal

pub returns-in-None-clause-ok : goal.returns-in-None-clause-ok
returns-in-None-clause-ok g c =
    ap (λ m. lists_of m.entries) c.get_mut.follows.holds-at-none
    ∙ unwritten (same_text c.args.body.now)
    (λ ks. insert_key same_text ks c.args.id) c.args.map.now.entries (sym c.in-None.ensures.value)

pub returns-in-Some-clause-ok : goal.returns-in-Some-clause-ok
returns-in-Some-clause-ok g c =
    let w = c.push_new_id.new.ids in
    on_ok_weaker c.push_new_id.result
    (λ k. ap lists_of (c.get_mut.follows.holds w).0
    ∙ written (same_text c.args.body.now) (λ ks. insert_key same_text ks c.args.id) c.args.map.now.entries
    c.in-Some.ids.now w (sym c.in-Some.ensures.value) k)
    c.push_new_id.ensures.ok

pub returns-in-Some-clause-err : goal.returns-in-Some-clause-err
returns-in-Some-clause-err g c =
    let w = c.push_new_id.new.ids in
    on_err_weaker c.push_new_id.result
    (λ k. ap lists_of (c.get_mut.follows.holds w).0
    ∙ rewritten (same_text c.args.body.now) c.args.map.now.entries c.in-Some.ids.now w (sym c.in-Some.ensures.value) k)
    c.push_new_id.ensures.err

pub push_new_id-requires : goal.push_new_id-requires
push_new_id-requires g c = not_in _ c.in-Some.ids.now c.args.id c.in-Some.ensures.value c.requires
