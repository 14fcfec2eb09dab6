use Rattle.std.proofs.Common.{◌≡◌}
use Rattle.indexmap.specs.IndexSet.{insert_all}
use Rattle.cedar_ids.specs.Texts.{same_text}
use Rattle.cedar_policy_merge.proofs.merge.gather_listed.Given as goal

abbrev pub invariant-loop-id : goal.invariant-loop-id
invariant-loop-id g l = insert_all same_text l.ids.keys l.id-iterator.rest.items ≡ insert_all same_text l.initial.ids.keys l.fn.listed.items
