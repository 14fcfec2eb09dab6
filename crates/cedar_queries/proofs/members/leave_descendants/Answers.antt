use Rattle.std.proofs.Common.{◌≡◌, ◌∙◌, ◌↔◌, subst, sym, true}
use Rattle.std.proofs.lemmas.Bool.{false≢true}
use Rattle.std.specs.HashSet.{contains}
use Rattle.cedar_graph.specs.Graph.{Reach}
use Rattle.cedar_ids.specs.UidOf.{same_uid}
use Rattle.cedar_queries.specs.Queries.{parent_graph}
use Rattle.cedar_queries.proofs.Cycles.{with_itself, without_itself}
use Rattle.cedar_queries.proofs.UidLists.{removed}
use Rattle.cedar_queries.proofs.members.leave_descendants.Goals as goal

pub returns-then-has_parent_in : goal.returns-then-has_parent_in
returns-then-has_parent_in g c =
    with_itself (parent_graph c.args.store.now.entities) c.args.uid.now (contains same_uid c.args.uids.now) c.requires
    (c.has_parent_in.ensures.0 c.if-has_parent_in.true)

pub returns : goal.returns
returns g c q =
    let u = c.args.uid.now in
    let G = parent_graph c.args.store.now.entities in
    let d = without_itself G u (contains same_uid c.args.uids.now) c.requires
    (λ e. false≢true (sym c.if-has_parent_in.false ∙ c.has_parent_in.ensures.1 e)) q in
    subst (λ b. (b ≡ true) ↔ Reach G q u) (sym (removed c.args.uids.now c.remove.new.self u c.remove.ensures.updates q)) d
