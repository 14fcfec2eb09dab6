use Rattle.std.proofs.Common.{◌∙◌, ap, ◌++◌, ◌∷◌, [], List, ℕ}
use Rattle.cedar_c_stores.proofs.Showing.{shown_of}
use Rattle.cedar_c_stores.proofs.values.encode_value.Goals as goal

pub returns : goal.returns
returns c =
    shown_of c.args.value.now c.in_ok-written.written c.bytes.result.now c.in_ok-answer.answer c.into_nodes-nodes.result.items
    c.in_ok-written.ensures c.bytes.ensures
    (c.in_ok-answer.ensures ∙ ap (λ (l : List (List ℕ)). l ++ c.bytes.result.now ∷ []) c.new.ensures)
    c.into_nodes-nodes.ensures
