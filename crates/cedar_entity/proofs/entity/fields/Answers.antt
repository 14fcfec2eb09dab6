use Rattle.std.proofs.Common.{arith, List, ◌∙◌, ap, sym, string_bytes}
use Rattle.std.specs.Option.{option_or}
use Rattle.std.specs.BTreeMap.{get_by_text}
use Rattle.std.specs.Vec.Iter.{into_iter_items}
use Rattle.std.proofs.lemmas.Map.Text.{btree_map_updates_text}
use Rattle.cedar_entity.specs.Fields.{last_at, fields_of}
use Rattle.cedar_entity.proofs.FieldLists.{Entry, one_pair, fields_made, no_more}
use Rattle.cedar_entity.proofs.entity.fields.Goals as goal

pub loop-key-preserved : goal.loop-key-preserved
loop-key-preserved c = (
  c.insert.ensures.ordered,
  λ key.
      one_pair key (string_bytes c.in-Some.key) c.in-Some.value (fields_of (into_iter_items c.next.new.self))
      (get_by_text c.loop-key.fields key) (get_by_text c.insert.new.self key)
      (last_at key (fields_of c.args.pairs.items))
      (btree_map_updates_text (string_bytes c.in-Some.key) c.loop-key.fields c.insert.new.self _
      c.in_ok-insert.ensures.updates key)
      (ap (λ (xs : List Entry). option_or (last_at key (fields_of xs)) (get_by_text c.loop-key.fields key))
      (sym c.in-Some.ensures.steps.0) ∙ c.loop-key.invariant.1 key),
)

pub returns : goal.returns
returns c =
    fields_made (fields_of c.args.pairs.items) c.loop-key.fields.entries
    c.loop-key.invariant.0
    (λ key. no_more key (into_iter_items c.loop-key.key-iterator) (omega (arith, c.in-None.ensures.steps.0))
    (get_by_text c.loop-key.fields key) (last_at key (fields_of c.args.pairs.items)) (c.loop-key.invariant.1 key))
