use Rattle.std.proofs.Common.{◌∙◌, sym}
use Rattle.std.proofs.lemmas.Bool.{false≢true}
use Rattle.cedar_entity_diff.proofs.Ancestry.{no_change, some_change}
use Rattle.cedar_entity_diff.proofs.store_diff.ancestry_change.Goals as goal

pub returns-then-are_empty : goal.returns-then-are_empty
returns-then-are_empty c =
    no_change c.args.before.now c.args.after.now c.in_ok-gained.gained c.in_ok-lost.lost c.in_ok-gained.ensures
    c.in_ok-lost.ensures (c.are_empty.ensures.0 c.if-are_empty.true)

pub returns : goal.returns
returns c =
    some_change c.args.before.now c.args.after.now c.in_ok-gained.gained c.in_ok-lost.lost c.in_ok-gained.ensures
    c.in_ok-lost.ensures c.in_ok-uid.uid (c.in_ok-uid.ensures ∙ c.uid.ensures)
    (λ e. false≢true (sym c.if-are_empty.false ∙ c.are_empty.ensures.1 e))
