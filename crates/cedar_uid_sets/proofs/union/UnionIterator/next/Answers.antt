use Rattle.std.proofs.Common.{ap, sym, ◌∙◌, ◌∷◌}
use Rattle.cedar_uid_sets.specs.laws.Unions.{union_of, first_alone, shorter}
use Rattle.cedar_uid_sets.proofs.union.UnionIterator.next.Goals as goal

pub returns-in_default-split_first-clause-steps : goal.returns-in_default-split_first-clause-steps
returns-in_default-split_first-clause-steps c =
    first_alone c.self.inside.one.now c.self.inside.other.now c.in-Some.xs.now c.args.self.now c.in-Some.x.now
    c.self.view_is c.in-Some.ensures.cases.0 c.in_default-split_first.ensures.cases
    ∙ ap (λ u. u ∷ union_of c.in-Some.xs.now c.self.inside.other.now) (sym c.uid-in_default-split_first.ensures)

pub returns-in_default-split_first-clause-goes : goal.returns-in_default-split_first-clause-goes
returns-in_default-split_first-clause-goes c =
    let first =
    first_alone c.self.inside.one.now c.self.inside.other.now c.in-Some.xs.now c.args.self.now c.in-Some.x.now
    c.self.view_is c.in-Some.ensures.cases.0 c.in_default-split_first.ensures.cases in
    record { on = λ _. (tt, tt, shorter _ _ _ first); keeps = tt; rests = λ _. tt }
