use Rattle.std.proofs.Common.{sym, ap}
use Rattle.std.specs.Option.{option_map}
use Rattle.cedar_ids.specs.Uid.{UidParts}
use Rattle.cedar_terms.specs.declared.slot.SlotId.{SlotId}
use Rattle.cedar_ids.specs.UidOf.{uid_parts}
use Rattle.cedar_policy_lines.specs.laws.ReadCommands.{uid_is}
use Rattle.cedar_policy_lines.proofs.Fields.{no_uid}
use Rattle.cedar_policy_lines.proofs.field.bound_as.Goals as goal

pub returns-in-None : goal.returns-in-None
returns-in-None c =
    ap (option_map {T = UidParts} {U = SlotId × UidParts} (λ u. (c.args.slot, u)))
    (sym (no_uid c.args.text.now (rw c.in-None.is at c.in_ok-uid_in.ensures)))

pub returns-in-Some : goal.returns-in-Some
returns-in-Some c =
    ap (option_map {T = UidParts} {U = SlotId × UidParts} (λ u. (c.args.slot, u)))
    (sym (uid_is c.args.text.now (uid_parts c.in-Some.uid) (rw c.in-Some.is at c.in_ok-uid_in.ensures)))
