use Rattle.std.specs.Prelude.{◌∷◌, [], refl}
use Rattle.std.proofs.lemmas.Result.{on_ok_weaker}
use Rattle.cedar_policy_maps.proofs.Entries.{read_last}
use Rattle.cedar_policy_maps.proofs.maps.push_list.Goals as goal

pub returns : goal.returns
returns g c =
    let es = c.args.map.now.entries in
    on_ok_weaker c.insert_new.result
    (λ k. read_last (λ s. s.keys) es es c.insert_new.new.map.entries c.in_ok-clone.field-0 c.args.body.now
    c.in_ok-ids.ids (c.args.id.now ∷ []) refl k c.in_ok-clone.ensures.cases c.in_ok-ids.ensures)
    c.insert_new.ensures
