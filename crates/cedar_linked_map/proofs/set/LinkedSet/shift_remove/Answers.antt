use Rattle.std.proofs.Common.{◌∙◌, ap, is_some}
use Rattle.std.specs.List.{list_any}
use Rattle.std.specs.Map.{keys_of}
use Rattle.indexmap.specs.IndexSet.{remove_key}
use Rattle.indexmap.proofs.CallerLemmas.{keys-shift_remove_entry}
use Rattle.cedar_linked_map.proofs.Sets.{is_some_any}
use Rattle.cedar_linked_map.proofs.set.LinkedSet.shift_remove.Goals as goal

pub returns-clause-removed : goal.returns-clause-removed
returns-clause-removed g c =
    let t = g.Q.Equivalent.equivalent c.args.value in
    c.is_some.ensures ∙ ap is_some c.shift_remove.ensures.value ∙ is_some_any t c.self.inside.map.entries
    ∙ ap (λ s. list_any t s.keys) c.self.view_is

pub returns-clause-keys : goal.returns-clause-keys
returns-clause-keys g c =
    let t = g.Q.Equivalent.equivalent c.args.value in
    ap keys_of c.shift_remove.ensures.entries ∙ keys-shift_remove_entry t c.self.inside.map.entries
    ∙ ap (λ s. remove_key t s.keys) c.self.view_is
