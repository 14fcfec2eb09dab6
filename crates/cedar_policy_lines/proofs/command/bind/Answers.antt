use Rattle.std.proofs.Common.{rules, ◌≡◌}
use Rattle.cedar_ids.specs.UidOf.{uid_parts}
use Rattle.cedar_terms.specs.declared.slot.SlotId.{SlotId}
use Rattle.cedar_binding.specs.Views.{env_of}
use Rattle.cedar_policy_lines.specs.PolicyCommand.{bound_more}
use Rattle.cedar_policy_lines.proofs.command.bind.Goals as goal

pub returns-in-None : goal.returns-in-None
returns-in-None c =
    let at : (s : SlotId) → env_of c.insert.new.self s
    ≡ bound_more (env_of c.args.values.now) c.args.slot (uid_parts c.args.uid) s = λ s. search rules in
    λ i s. at s i

pub returns-in-Some : goal.returns-in-Some
returns-in-Some c =
    let at : (s : SlotId) → env_of c.insert.new.self s
    ≡ bound_more (env_of c.args.values.now) c.args.slot (uid_parts c.args.uid) s = λ s. search rules in
    λ i s. at s i
