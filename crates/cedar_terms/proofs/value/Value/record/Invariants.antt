use Rattle.std.proofs.Common.{◌≡◌, ℕ, List}
use Rattle.std.specs.Option.{option_or}
use Rattle.std.specs.String.{string_cmp}
use Rattle.std.specs.BTreeMap.{get_by_text, IsOrdered}
use Rattle.std.specs.Vec.Iter.{into_iter_items}
use Rattle.cedar_terms.specs.Fields.{last_at}
use Rattle.cedar_terms.specs.ValueViews.{named_pairs}
use Rattle.cedar_terms.proofs.value.Value.record.Given as goal

abbrev pub invariant-loop-key : goal.invariant-loop-key
invariant-loop-key l =
    IsOrdered string_cmp l.fields ×
    ((key : List ℕ) → option_or (last_at key (named_pairs (into_iter_items l.key-iterator))) (get_by_text l.fields key)
    ≡ last_at key (named_pairs l.fn.pairs.items))
