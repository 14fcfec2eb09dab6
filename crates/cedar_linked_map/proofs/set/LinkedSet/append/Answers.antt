use Rattle.std.proofs.Common.{◌∙◌, ap}
use Rattle.std.specs.Map.{keys_of}
use Rattle.indexmap.specs.IndexSet.{insert_all}
use Rattle.indexmap.proofs.MapLemmas.{OnOk-map}
use Rattle.indexmap.proofs.SetLemmas.{keys_insert_all}
use Rattle.cedar_linked_map.proofs.set.LinkedSet.append.Goals as goal

pub returns-clause-keys : goal.returns-clause-keys
returns-clause-keys g c =
    let eq = g.T.PartialEq.eq in
    let seen = ap (λ s. s.keys) c.self.view_is in
    let others = ap (λ s. s.keys) c.other.view_is in
    OnOk-map c.append.result _ _
    (λ h. ap keys_of h ∙ keys_insert_all eq c.self.inside.map.entries c.other.inside.map.entries
    ∙ (λ j. insert_all eq (seen j) (others j)))
    c.append.ensures.entries
