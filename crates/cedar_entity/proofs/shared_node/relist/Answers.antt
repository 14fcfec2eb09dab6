use Rattle.std.proofs.Common.{◌∙◌, ◌++◌, ap, map, refl}
use Rattle.std.proofs.lemmas.Iterator.Adapters.{fact_from_extend}
use Rattle.std.proofs.lemmas.Iterator.Consumers.{YieldsList-at, YieldsList-from_first}
use Rattle.cedar_entity.proofs.shared_node.relist.Goals as goal

pub returns : goal.returns
returns c = fact_from_extend (λ x. x.now) c.extend.result c.extend.ensures.ran
    (λ it b. YieldsList-at b (YieldsList-from_first (λ x. x.now) (λ l. l) {s = c.args.uids} c.args.uids refl))
    (λ xs e p. ap (map (λ x. x.now)) (p.0 ∙ ap (λ z. z ++ xs) c.clear.ensures.items) ∙ e)
