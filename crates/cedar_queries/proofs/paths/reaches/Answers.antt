use Rattle.std.proofs.Common.{◌∙◌, false, refl, sym}
use Rattle.std.proofs.lemmas.Bool.{false≢true}
use Rattle.std.specs.HashMap.{get}
use Rattle.cedar_ids.specs.UidOf.{same_uid}
use Rattle.cedar_queries.proofs.FoundPaths.{found_reached, held_reached}
use Rattle.cedar_queries.proofs.paths.reaches.Goals as goal

pub returns-then-is_known_plain : goal.returns-then-is_known_plain
returns-then-is_known_plain g c =
    let reached = held_reached c.args.store.now.entities (c.if-is_known_plain.ensures.plain refl) c.args.from.now
    c.args.to.now in
    (λ t. reached.1 (sym c.has_ancestor_at.ensures ∙ t), λ r. c.has_ancestor_at.ensures ∙ reached.0 r)

pub returns : goal.returns
returns g c =
    found_reached c.args.store.now.entities false (λ t. absurd (false≢true t)) c.args.from.now c.in_ok-first.first
    c.args.to.now c.in_ok-first.ensures (get same_uid c.search.new.reached) c.in_ok-found.found c.in_ok-found.ensures
    c.is_some.result c.is_some.ensures
