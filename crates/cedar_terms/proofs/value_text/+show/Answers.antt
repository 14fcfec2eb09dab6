use Rattle.std.proofs.Common.{true, rules, ◌≡◌, refl, sym, arith, ap, drop, take, ◌+◌, ◌∙◌, ◌++◌, ◌∷◌, [], append_assoc}
use Rattle.std.proofs.Common.{string_bytes}
use Rattle.cedar_terms.specs.ValueTree.{value_trees, values_size, fields_size}
use Rattle.cedar_terms.specs.ValueTexts.{value_text, values_text, fields_text, is_ascii_value, are_ascii_values}
use Rattle.cedar_terms.specs.ValueTexts.{are_ascii_fields}
use Rattle.cedar_terms.specs.ValueViews.{field_trees}
use Rattle.cedar_terms.proofs.TextsJoined.{field, is_ascii_field, Entry, values-push, fields-push, joined_step, left_at}
use Rattle.cedar_terms.proofs.TextsJoined.{done_at, field_written}
use Rattle.cedar_terms.proofs.value_text.+show.Goals as goal

pub write_elements-loop-element-preserved : goal.write_elements-loop-element-preserved
write_elements-loop-element-preserved g t c =
    let xs = c.deref-element-items.result.now in
    let i = c.loop-element.element-index in
    let x = c.element-item.result in
    let left = left_at xs i x c.loop-element-test.true c.element-item.is in
    let step =
    joined_step g.W.Write.write_str_gives (λ vs. values_text (value_trees vs)) value_text values-push
    (λ vs. are_ascii_values (value_trees vs)) is_ascii_value (λ y ys. refl)
    (take i xs) (take (i + 1) xs) (drop i xs)
    (drop (i + 1) xs) x c.loop-element.before.now c.args.f.now c.loop-element.f c.write_str.new.self c.show.new.f
    left (done_at xs i x c.loop-element-test.true c.element-item.is) c.loop-element.invariant.1
    c.loop-element.invariant.2 c.loop-element.invariant.3
    (λ p. c.in_ok-write_str.ensures.writes p (refl {a = true})) (λ a p. c.in_ok-show.ensures a p (refl {a = true})) in
    (omega (arith, ap (λ vs. values_size (value_trees vs)) left, c.loop-element.invariant.0), step.0, step.1, step.2)

pub write_fields-loop-key-init : goal.write_fields-loop-key-init
write_fields-loop-key-init g t c = ([], search rules, search rules, search rules, search rules, search rules)

pub write_fields-loop-key-preserved : goal.write_fields-loop-key-preserved
write_fields-loop-key-preserved g t c =
    let done = c.loop-key.invariant.0 in
    let e : Entry = (c.in-Some.key.now, c.in-Some.value.now) in
    let left : c.loop-key.key-iterator ≡ e ∷ c.next.new.self = c.in-Some.ensures.steps in
    let step =
    joined_step g.W.Write.write_str_gives (λ fs. fields_text (field_trees fs)) field fields-push
    (λ fs. are_ascii_fields (field_trees fs)) is_ascii_field (λ y ys. refl)
    done (done ++ e ∷ []) c.loop-key.key-iterator c.next.new.self e c.loop-key.before.now c.args.f.now c.loop-key.f
    c.write_str.new.self c.show.new.f
    left refl c.loop-key.invariant.3 c.loop-key.invariant.4 c.loop-key.invariant.5
    (λ p. c.in_ok-write_str.ensures.writes p (refl {a = true}))
    (field_written g.W.Write.write_str_gives (string_bytes e.0) e.1 c.write_str.new.self c.write_key.new.f c.show.new.f
    (λ a p. (rw c.as_str.ensures.value at c.in_ok-write_key.ensures) a p refl)
    (λ a p. c.in_ok-show.ensures a p (refl {a = true}))) in (
      done ++ e ∷ [],
      c.loop-key.invariant.1 ∙ ap (λ fs. done ++ fs) left ∙ sym (append_assoc done (e ∷ []) c.next.new.self),
      omega (arith, ap (λ fs. fields_size (field_trees fs)) left, c.loop-key.invariant.2),
      step.0,
      step.1,
      step.2,
    )
