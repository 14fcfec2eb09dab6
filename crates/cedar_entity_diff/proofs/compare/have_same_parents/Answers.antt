use Rattle.std.proofs.Common.{◌∙◌, ◌&&◌, ap, sym}
use Rattle.std.specs.List.{list_all}
use Rattle.cedar_entity_diff.specs.laws.Listed.{agree_on}
use Rattle.cedar_entity_diff.proofs.Comparing.{parents_agree}
use Rattle.cedar_entity_diff.proofs.compare.have_same_parents.Goals as goal

pub returns-then-agree_on_all : goal.returns-then-agree_on_all
returns-then-agree_on_all c =
    let a = c.args.one.now in
    let b = c.args.other.now in
    let back = list_all (agree_on b a) c.parents-others.result in
    c.agree_on_all-then-agree_on_all.ensures
    ∙ ap (λ x. x && back) (sym c.if-agree_on_all.true ∙ c.agree_on_all.ensures)
    ∙ parents_agree a b c.parents-parents.result c.parents-others.result c.parents-parents.ensures.lists
    c.parents-others.ensures.lists

pub returns-else-agree_on_all : goal.returns-else-agree_on_all
returns-else-agree_on_all c =
    let a = c.args.one.now in
    let b = c.args.other.now in
    let back = list_all (agree_on b a) c.parents-others.result in
    c.if-agree_on_all.false
    ∙ ap (λ x. x && back) (sym c.if-agree_on_all.false ∙ c.agree_on_all.ensures)
    ∙ parents_agree a b c.parents-parents.result c.parents-others.result c.parents-parents.ensures.lists
    c.parents-others.ensures.lists
