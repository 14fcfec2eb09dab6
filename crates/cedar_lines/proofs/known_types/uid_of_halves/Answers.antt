use Rattle.std.proofs.Common.{◌++◌, codes, subst}
use Rattle.cedar_ids.specs.TextOf.{IsPrinted}
use Rattle.cedar_ids.specs.UidOf.{uid_parts}
use Rattle.cedar_lines.proofs.known_types.uid_of_halves.Goals as goal

pub returns : goal.returns
returns c =
    subst (λ e. IsPrinted (uid_parts c.uid_of_escaped.result) (c.args.name.now ++ (codes "::\"" ++ (e ++ codes "\""))))
    (rw c.in-Some.is at c.in_ok-eid.ensures.escaped)
    (c.uid_of_escaped.ensures c.args.name.now (rw c.in-Some-2.is at c.in_ok-ty.ensures))
