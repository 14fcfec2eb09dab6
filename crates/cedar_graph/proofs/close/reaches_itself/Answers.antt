use Rattle.std.proofs.Common.{◌≡◌, true, nat_eq, refl, sym, subst, ◌∙◌}
use Rattle.std.proofs.lemmas.Bool.{false≢true}
use Rattle.std.specs.List.{list_any}
use Rattle.cedar_graph.specs.laws.Readings.{IsArc}
use Rattle.cedar_graph.proofs.Rows.{part_has, part_only}
use Rattle.cedar_graph.proofs.close.reaches_itself.Goals as goal

pub returns-clause-none : goal.returns-clause-none
returns-clause-none g c =
    let read = c.args.read.now in
    let reached = c.args.reached.now in
    let x = c.args.x in
    λ no goes.
    let has = part_has g.K.PartialEq.eq read.keys.keys (IsArc read) reached.component.items reached.start.items
    reached.lists.items c.requires.reach x c.requires.within _ _ refl refl x goes in
    false≢true (sym no ∙ c.contains.ensures.value
    ∙ subst (λ v. list_any (λ w. nat_eq w x) v ≡ true) (sym c.listed_for.ensures.listed) has)

pub returns-clause-some : goal.returns-clause-some
returns-clause-some g c =
    let read = c.args.read.now in
    let reached = c.args.reached.now in
    let x = c.args.x in
    λ yes.
    part_only g.K.PartialEq.eq read.keys.keys (IsArc read) reached.component.items reached.start.items
    reached.lists.items c.requires.reach x c.requires.within _ _ refl refl x
    (subst (λ v. list_any (λ w. nat_eq w x) v ≡ true) c.listed_for.ensures.listed
    (sym c.contains.ensures.value ∙ yes))
