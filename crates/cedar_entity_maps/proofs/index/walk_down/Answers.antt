use Rattle.std.proofs.Common.{subst}
use Rattle.std.specs.FinMap as finmap
use Rattle.std.specs.HashSet.{contains}
use Rattle.std.specs.Option.{IfSome}
use Rattle.cedar_ids.specs.UidOf.{same_uid}
use Rattle.cedar_children.specs.Children.{is_child}
use Rattle.cedar_entity_maps.specs.laws.Indexes.{HasChildren, parentage}
use Rattle.cedar_entity_maps.proofs.Indexes.{below_touched}
use Rattle.cedar_entity_maps.proofs.index.walk_down.Goals as goal

pub returns-in_ok-below-in-Some : goal.returns-in_ok-below-in-Some
returns-in_ok-below-in-Some g c D ix =
    let has = subst (λ o. IfSome o (HasChildren (parentage (finmap.get D)))) c.in-Some.is ix.children in
    below_touched D (ix.plain c.if-not-index.false) (is_child c.in-Some.children) has c.args.uids.now.keys
    (contains same_uid c.in_ok-below-in-Some.field-0) c.in_ok-below-in-Some.ensures
