use Rattle.std.proofs.Common.{◌∙◌, ◌++◌, ◌∷◌, [], sym, ap, refl}
use Rattle.std.specs.List.{list_all}
use Rattle.std.proofs.lemmas.List.{append_assoc}
use Rattle.cedar_policy_set.specs.SetTexts.{is_known_body, body_line}
use Rattle.cedar_policy_set.proofs.Written.{both, line_more, nothing_written}
use Rattle.cedar_policy_set.proofs.text.write_body_lines.Goals as goal

pub loop-body-init : goal.loop-body-init
loop-body-init g c = record {
  done = [];
  is_part = c.into_iter-body-iterator.ensures.into_iter_gives;
  known = λ k. ap (list_all is_known_body) c.into_iter-body-iterator.ensures.into_iter_gives ∙ k;
  written = λ k plain. nothing_written g.W.Write.write_str_gives c.args.f.now plain;
}

pub loop-body-preserved : goal.loop-body-preserved
loop-body-preserved g c =
    let x = c.in-Some.body.now in
    let before = c.loop-body.invariant in
    let steps = c.in-Some.ensures.steps in
    record {
      done = before.done ++ x ∷ [];
      is_part = append_assoc before.done (x ∷ []) c.next.new.self
          ∙ ap (λ xs. before.done ++ xs) (sym steps) ∙ before.is_part;
      known = λ k. (both (is_known_body x) (list_all is_known_body c.next.new.self)
          (ap (list_all is_known_body) (sym steps) ∙ before.known k)).1;
      written = λ k plain. (
          let now = before.written k plain in
          line_more g.W.Write.write_str_gives body_line before.done x c.args.f.now c.loop-body.f c.write_body_line.new.f
          now
          (c.in_ok-write_body_line.ensures
          (both (is_known_body x) (list_all is_known_body c.next.new.self) (ap (list_all is_known_body) (sym steps) ∙ before.known k)).0
          now.plain refl)
          );
    }
