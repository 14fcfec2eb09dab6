use Rattle.std.proofs.Common.{◌≡◌, ◌∙◌, ◌<◌, List, ◌∷◌, length, sym, subst, arith}
use Rattle.cedar_linked_map.proofs.Taken.{walk_step}
use Rattle.cedar_linked_map.proofs.iter.IterIterator.next.Goals as goal

shorter : {X : Type 0} (s t : List X) (x : X) → s ≡ x ∷ t → length t < length s
shorter s t x e = subst (λ l. length t < length l) (sym e) (omega arith)

pub returns-in-Some-clause-steps : goal.returns-in-Some-clause-steps
returns-in-Some-clause-steps g c =
    sym c.self.view_is
    ∙ walk_step c.self.inside.left c.self.inside.nodes c.self.inside.at c.in-Some.key.now c.in-Some.node.now
    c.if-self-eq0.false c.in-Some.ensures.entry

pub returns-in-Some-clause-goes : goal.returns-in-Some-clause-goes
returns-in-Some-clause-goes g c =
    let steps = sym c.self.view_is
    ∙ walk_step c.self.inside.left c.self.inside.nodes c.self.inside.at c.in-Some.key.now c.in-Some.node.now
    c.if-self-eq0.false c.in-Some.ensures.entry in
    record { on = λ _. (tt, tt, shorter _ _ _ steps); keeps = tt; rests = λ _. tt }
