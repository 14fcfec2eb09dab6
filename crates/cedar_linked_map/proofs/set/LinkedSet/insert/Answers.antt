use Rattle.std.proofs.Common.{◌∙◌, ap, is_some, not}
use Rattle.std.specs.List.{list_any}
use Rattle.std.specs.Map.{keys_of}
use Rattle.indexmap.specs.IndexSet.{insert_key}
use Rattle.indexmap.proofs.SetLemmas.{keys_insert_entry}
use Rattle.cedar_linked_map.proofs.Sets.{from_not, is_some_any}
use Rattle.cedar_linked_map.proofs.set.LinkedSet.insert.Goals as goal
use Rattle.cedar_linked_map.proofs.set.LinkedSet.insert.Goals.{in-Err, in-Ok}

pub returns-clause-keys : goal.returns-clause-keys
returns-clause-keys g c =
    let eq = g.T.PartialEq.eq in
    let k = c.args.value in
    elim c.match-insert.branch [
      | in-Err w ↦ rw w.result-is tt
      | in-Ok w ↦ rw w.result-is (ap keys_of w.in-Ok.ensures.entries
          ∙ keys_insert_entry eq c.self.inside.map.entries k tt
          ∙ ap (λ s. insert_key eq s.keys k) c.self.view_is)
    ]

pub returns-clause-added : goal.returns-clause-added
returns-clause-added g c =
    let eq = g.T.PartialEq.eq in
    let k = c.args.value in
    elim c.match-insert.branch [
      | in-Err w ↦ rw w.result-is tt
      | in-Ok w ↦ rw w.result-is (from_not w.is_none.result (is_some w.in-Ok.old) w.is_none.ensures
          ∙ ap (λ o. not (is_some o)) w.in-Ok.ensures.old ∙ ap not (is_some_any (eq k) c.self.inside.map.entries)
          ∙ ap (λ s. not (list_any (eq k) s.keys)) c.self.view_is)
    ]
