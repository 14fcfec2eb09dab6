use Rattle.std.proofs.Common.{arith}
use Rattle.std.proofs.lemmas.Grind.{common_steps}
use Rattle.std.proofs.lemmas.Result.{err_from_is_err_and}
use Rattle.cedar_c_trees.proofs.Pairs.{no_value_left, no_key_left, pair_off}
use Rattle.cedar_c_trees.proofs.value_stack.popped_pairs.Goals as goal

pub returns-in_err-value : goal.returns-in_err-value
returns-in_err-value c =
    let p = err_from_is_err_and c.from_residual.result c.from_residual.ensures.1 in
    rw (p.1, p.2)
    (no_value_left c.args.count c.loop-step._step c.args.stack.now.items c.loop-step.stack.items _ (omega arith)
    c.loop-step.invariant.others c.in_err-value.ensures)

pub returns-in_err-key : goal.returns-in_err-key
returns-in_err-key c =
    let p = err_from_is_err_and c.from_residual-in_err-key.result c.from_residual-in_err-key.ensures.1 in
    rw (p.1, p.2)
    (no_key_left c.args.count c.loop-step._step c.args.stack.now.items c.loop-step.stack.items c.popped.new.stack.items
    c.in_ok-value.value _ (omega arith) c.loop-step.invariant.others c.in_ok-value.ensures c.in_err-key.ensures)

pub loop-step-preserved : goal.loop-step-preserved
loop-step-preserved c = record {
  taken = grind (arith, common_steps);
  count = grind (arith, common_steps);
  others =
      λ p. pair_off c.args.count c.loop-step._step c.loop-step.stack.items c.popped.new.stack.items
      c.popped_text.new.stack.items c.in_ok-value.value _ (omega arith) c.in_ok-value.ensures c.in_ok-key.ensures
      (c.loop-step.invariant.others p);
}
