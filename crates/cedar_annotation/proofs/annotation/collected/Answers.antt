use Rattle.std.proofs.Common.{arith, ◌∙◌, ap, sym}
use Rattle.std.specs.Option.{option_or}
use Rattle.std.specs.BTreeMap.{get}
use Rattle.std.specs.Vec.Iter.{into_iter_items}
use Rattle.cedar_ids.specs.Texts.{text_order}
use Rattle.cedar_annotation.specs.Annotations.{AnnotationsView, last_value_at}
use Rattle.cedar_annotation.proofs.Pairs.{one_pair, annotations_made, no_more}
use Rattle.cedar_annotation.proofs.annotation.collected.Goals as goal

pub loop-key-preserved : goal.loop-key-preserved
loop-key-preserved c = (
  c.insert.ensures.ordered,
  λ key.
      one_pair key c.in-Some.key c.in-Some.annotation (into_iter_items c.next.new.self)
      (get text_order c.loop-key.all key) (get text_order c.insert.new.self key)
      (last_value_at key c.args.pairs.items)
      (c.in_ok-insert.ensures.updates.0 key)
      (ap (λ (xs : AnnotationsView). option_or (last_value_at key xs) (get text_order c.loop-key.all key))
      (sym c.in-Some.ensures.steps.0) ∙ c.loop-key.invariant.1 key),
)

pub returns : goal.returns
returns c =
    annotations_made c.args.pairs.items c.loop-key.all.entries
    c.loop-key.invariant.0
    (λ key. no_more key (into_iter_items c.loop-key.key-iterator) (omega (arith, c.in-None.ensures.steps.0))
    (get text_order c.loop-key.all key) (last_value_at key c.args.pairs.items) (c.loop-key.invariant.1 key))
