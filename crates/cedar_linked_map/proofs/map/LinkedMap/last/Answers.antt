use Rattle.std.proofs.Common.{◌∙◌, ◌-◌, ◌<◌, ◌^◌, sym, ap, subst, slice_get}
use Rattle.std.specs.Option.{option_map}
use Rattle.indexmap.specs.IndexMap.{index_map_len}
use Rattle.cedar_linked_map.proofs.Ends.{last_entry}
use Rattle.cedar_linked_map.proofs.Taken.{cell_at}
use Rattle.cedar_linked_map.proofs.map.LinkedMap.last.Goals as goal

pub returns-in-None : goal.returns-in-None
returns-in-None g c =
    let chain = c.self.inside.chain in
    record {
      entry = ap (option_map (λ e. (e.0, e.1.value))) c.in-None.ensures.entry
          ∙ sym (cell_at chain.nodes.entries chain.last)
          ∙ sym (last_entry chain.nodes.entries chain.first chain.last (subst (λ n. n < 2 ^ 63) c.len-len.ensures.len
          c.len-len.ensures.small) c.self.invariant)
          ∙ ap (λ m. slice_get m.entries (index_map_len m - 1)) c.self.view_is;
    }

pub returns-in-Some : goal.returns-in-Some
returns-in-Some g c =
    let chain = c.self.inside.chain in
    record {
      entry = ap (option_map (λ e. (e.0, e.1.value))) c.in-Some.ensures.entry
          ∙ sym (cell_at chain.nodes.entries chain.last)
          ∙ sym (last_entry chain.nodes.entries chain.first chain.last (subst (λ n. n < 2 ^ 63) c.len-len.ensures.len
          c.len-len.ensures.small) c.self.invariant)
          ∙ ap (λ m. slice_get m.entries (index_map_len m - 1)) c.self.view_is;
    }
