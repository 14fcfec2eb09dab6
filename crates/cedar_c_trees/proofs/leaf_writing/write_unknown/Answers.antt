use Rattle.std.proofs.lemmas.Result.{on_ok_weaker}
use Rattle.std.proofs.Common.{string_bytes}
use Rattle.cedar_terms.specs.TypeViews.{entity_name}
use Rattle.cedar_c_trees.proofs.Drafting.{unknown_added, typed_added}
use Rattle.cedar_c_trees.proofs.leaf_writing.write_unknown.Goals as goal

pub returns-in-None : goal.returns-in-None
returns-in-None c =
    rw (← c.unknown.view_is, c.in-None.is) (record {
      adds =
          on_ok_weaker c.push_text.result
          (unknown_added (string_bytes c.unknown.inside.name) 0 c.args.draft.now c.push_text.new.self)
          (rw c.as_str.ensures.value at c.push_text.ensures);
      typed = on_ok_weaker c.push_text.result (λ _. tt) c.push_text.ensures;
    })

pub returns-in_ok-push_text-in-Some : goal.returns-in_ok-push_text-in-Some
returns-in_ok-push_text-in-Some c =
    rw (← c.unknown.view_is, c.in-Some.is) (record {
      adds =
          on_ok_weaker c.push_text-in-Some-2.result
          (typed_added (string_bytes c.unknown.inside.name) (string_bytes c.in_ok-text-in-Some.text)
          (entity_name c.in-Some.ty) c.args.draft.now c.push_text-in-Some.new.self c.push_text-in-Some-2.new.self
          c.in_ok-text-in-Some.ensures.1
          (rw c.as_str-in-Some.ensures.value at c.in_ok-push_text-in-Some.ensures))
          (rw c.as_str-in-Some-2.ensures.value at c.push_text-in-Some-2.ensures);
      typed =
          on_ok_weaker c.push_text-in-Some-2.result (λ _. c.in_ok-text-in-Some.ensures.0)
          c.push_text-in-Some-2.ensures;
    })
