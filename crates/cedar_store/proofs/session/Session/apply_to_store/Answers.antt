use Rattle.std.proofs.Common.{refl, sym, subst}
use Rattle.cedar_entity_lines.specs.CommandOf.{entity_command_of}
use Rattle.cedar_entity_lines.specs.laws.ReadCommands.{command_ascii}
use Rattle.cedar_store.specs.Sessions.{SessionView, IsInState}
use Rattle.cedar_store.proofs.Joined.{entity_takes}
use Rattle.cedar_store.proofs.session.Session.apply_to_store.Goals as goal

pub returns-in_ok-take-in-Some : goal.returns-in_ok-take-in-Some
returns-in_ok-take-in-Some g c s h =
    let i = c.self.inside in
    let old : SessionView = record { entities = i.entities; policy_sets = i.sets; is_lost = i.is_lost } in
    let new : SessionView = record { entities = c.take.new.self; policy_sets = i.sets; is_lost = i.is_lost } in
    let command = entity_command_of c.in-Some.command in
    let is = subst (λ v. IsInState v s) (sym c.self.view_is) h in
    let known = rw c.in-Some.is at c.in_ok-read_entity_command.ensures in (
      command,
      known,
      entity_takes old new s command c.args.out.now.items c.take.new.out.items is refl refl
          (c.in_ok-take-in-Some.ensures s.entities is.entities (command_ascii command _ known)),
    )
