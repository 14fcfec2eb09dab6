use Rattle.std.specs.Prelude.{None, Some}
use Rattle.std.proofs.Common.{◌∙◌, sym, ap}
use Rattle.std.proofs.lemmas.Result.{on_ok_weaker}
use Rattle.cedar_ids.specs.Texts.{same_text}
use Rattle.indexmap.specs.IndexSet.{insert_key}
use Rattle.cedar_policy_maps.specs.Maps.{lists_of}
use Rattle.cedar_policy_maps.specs.laws.GatherLaws.{gathered_unless}
use Rattle.cedar_policy_maps.proofs.Entries.{unwritten, written, has_list}
use Rattle.cedar_policy_maps.proofs.maps.list_in_either.Goals as goal

pub returns-in-None-clause-listed : goal.returns-in-None-clause-listed
returns-in-None-clause-listed g c =
    on_ok_weaker c.gather_id.result
    (λ k. ap (λ m. lists_of m.entries) c.get_mut.follows.holds-at-none
    ∙ unwritten (same_text c.args.body.now)
    (λ ks. insert_key same_text ks c.args.id.now) c.args.listed.now.entries (sym c.in-None.ensures.value))
    c.gather_id.ensures

pub returns-in-None-clause-grown : goal.returns-in-None-clause-grown
returns-in-None-clause-grown g c =
    on_ok_weaker c.gather_id.result
    (λ k. k ∙ ap (λ v. gathered_unless v c.args.body.now c.args.id.now (lists_of c.args.grown.now.entries))
    (sym (has_list (same_text c.args.body.now) c.args.listed.now.entries None (sym c.in-None.ensures.value))))
    c.gather_id.ensures

pub returns-in-Some-clause-listed : goal.returns-in-Some-clause-listed
returns-in-Some-clause-listed g c =
    let w = c.insert_id_copy.new.ids in
    on_ok_weaker c.insert_id_copy.result
    (λ k. ap lists_of (c.get_mut.follows.holds w).0
    ∙ written (same_text c.args.body.now) (λ ks. insert_key same_text ks c.args.id.now) c.args.listed.now.entries
    c.in-Some.there.now w (sym c.in-Some.ensures.value) k)
    c.insert_id_copy.ensures

pub returns-in-Some-clause-grown : goal.returns-in-Some-clause-grown
returns-in-Some-clause-grown g c =
    on_ok_weaker c.insert_id_copy.result
    (λ k. ap (λ v. gathered_unless v c.args.body.now c.args.id.now (lists_of c.args.grown.now.entries))
    (sym (has_list (same_text c.args.body.now) c.args.listed.now.entries (Some c.in-Some.there.now)
    (sym c.in-Some.ensures.value))))
    c.insert_id_copy.ensures
