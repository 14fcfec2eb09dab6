use Rattle.std.proofs.Common.{◌∙◌, ap}
use Rattle.std.specs.List.{list_any}
use Rattle.cedar_linked_map.proofs.Seen.{none_from}
use Rattle.cedar_linked_map.proofs.Sets.{is_some_any}
use Rattle.cedar_linked_map.proofs.set.LinkedSet.push.Goals as goal

pub push-requires-clause-absent : goal.push-requires-clause-absent
push-requires-clause-absent g c =
    let eq = g.T.PartialEq.eq in
    let k = c.args.value in
    none_from _ (is_some_any (eq k) c.self.inside.map.entries ∙ ap (λ s. list_any (eq k) s.keys) c.self.view_is
    ∙ c.requires.absent)
