use Rattle.std.proofs.Common.{◌∙◌, ◌++◌, ◌∷◌, [], sym, ap, refl}
use Rattle.std.specs.List.{list_all}
use Rattle.std.proofs.lemmas.List.{append_assoc}
use Rattle.cedar_policy_set.specs.SetTexts.{is_known_policy, policy_line}
use Rattle.cedar_policy_set.proofs.Written.{both, line_more, nothing_written}
use Rattle.cedar_policy_set.proofs.text.write_policy_lines.Goals as goal

pub loop-policy-init : goal.loop-policy-init
loop-policy-init g c = record {
  done = [];
  is_part = c.into_iter-policy-iterator.ensures.into_iter_gives;
  known = λ k. ap (list_all is_known_policy) c.into_iter-policy-iterator.ensures.into_iter_gives ∙ k;
  written = λ k plain. nothing_written g.W.Write.write_str_gives c.args.f.now plain;
}

pub loop-policy-preserved : goal.loop-policy-preserved
loop-policy-preserved g c =
    let x = c.in-Some.policy.now in
    let before = c.loop-policy.invariant in
    let steps = c.in-Some.ensures.steps in
    record {
      done = before.done ++ x ∷ [];
      is_part = append_assoc before.done (x ∷ []) c.next.new.self
          ∙ ap (λ xs. before.done ++ xs) (sym steps) ∙ before.is_part;
      known = λ k. (both (is_known_policy x) (list_all is_known_policy c.next.new.self)
          (ap (list_all is_known_policy) (sym steps) ∙ before.known k)).1;
      written = λ k plain. (
          let now = before.written k plain in
          line_more g.W.Write.write_str_gives policy_line before.done x c.args.f.now c.loop-policy.f c.write_policy_line.new.f
          now
          (c.in_ok-write_policy_line.ensures
          (both (is_known_policy x) (list_all is_known_policy c.next.new.self) (ap (list_all is_known_policy) (sym steps) ∙ before.known k)).0
          now.plain refl)
          );
    }
