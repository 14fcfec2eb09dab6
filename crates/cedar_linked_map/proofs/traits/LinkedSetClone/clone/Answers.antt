use Rattle.std.proofs.Common.{ap, subst, ◌≡◌}
use Rattle.std.specs.List.{AllZip}
use Rattle.std.specs.Map.{keys_of}
use Rattle.cedar_linked_map.proofs.Sets.{clones_seen}
use Rattle.cedar_linked_map.proofs.traits.LinkedSetClone.clone.Goals as goal

pub returns : goal.returns
returns g c =
    let es = c.self.inside.map.entries in
    let fs = c.in_ok-map.map.entries in
    record {
      cases = subst (λ l. AllZip g.T.Clone.is_clone l (keys_of fs)) (ap (λ s. s.keys) c.self.view_is)
          (clones_seen g.T.Clone.is_clone (λ x y. y ≡ x) es fs c.in_ok-map.ensures.cases);
    }
