use Rattle.std.proofs.Common.{◌≡◌, map, drop}
use Rattle.std.specs.List.{list_any}
use Rattle.cedar_ids.specs.UidOf.{uid_parts}
use Rattle.cedar_naming.specs.Naming.{is_uid_node}
use Rattle.cedar_naming.proofs.naming.any_is_uid.Given as goal

abbrev pub invariant-loop-expr : goal.invariant-loop-expr
invariant-loop-expr l =
    list_any (is_uid_node (uid_parts l.uid)) (map (λ e. e.now) (drop l.expr-index l.exprs))
    ≡ list_any (is_uid_node (uid_parts l.uid)) (map (λ e. e.now) l.exprs)
