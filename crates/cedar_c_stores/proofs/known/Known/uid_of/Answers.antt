use Rattle.std.proofs.Common.{subst, List, ℕ}
use Rattle.cedar_ids.specs.TextOf.{IsPrinted}
use Rattle.cedar_ids.specs.UidOf.{uid_parts}
use Rattle.cedar_ids.specs.declared.entity.EntityUID.{EntityUID}
use Rattle.cedar_lines.specs.Reads.{ReadsAs}
use Rattle.cedar_c_stores.proofs.ReadUids.{read_of_printed}
use Rattle.cedar_c_stores.proofs.known.Known.uid_of.Goals as goal

pub returns-in-Some : goal.returns-in-Some
returns-in-Some c =
    let text = c.in-Ok.line.now in
    read_of_printed c.in-Some.uid c.args.text.now
    (subst (λ (t : List ℕ). IsPrinted (uid_parts c.in-Some.uid) t) c.in-Ok.ensures.cases.0
    (subst (ReadsAs (λ (u : EntityUID). IsPrinted (uid_parts u) text) (λ u. u)) c.in-Some.is c.in_ok-uid.ensures))
