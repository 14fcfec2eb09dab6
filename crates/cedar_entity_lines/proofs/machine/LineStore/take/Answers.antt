use Rattle.std.proofs.Common.{sym, subst}
use Rattle.std.proofs.lemmas.Result.{on_ok_weaker}
use Rattle.cedar_entity_lines.specs.declared.command.EntityCommand.{EntityCommand}
use Rattle.cedar_entity_lines.specs.CommandOf.{entity_command_of}
use Rattle.cedar_entity_lines.specs.Holding.{HasAsciiUids, EntityWrites}
use Rattle.cedar_entity_lines.proofs.Steps.{anc_takes}
use Rattle.cedar_entity_lines.proofs.machine.LineStore.take.Goals as goal

pub returns-in-Ent : goal.returns-in-Ent
returns-in-Ent g c = on_ok_weaker c.ent.result
    (λ k s h. subst (λ (d : EntityCommand). HasAsciiUids (entity_command_of d)
    → EntityWrites (entity_command_of d) s c.ent.new.self c.args.out.now.items c.args.out.now.items)
    (sym c.in-Ent.is)
    (λ a. k s h a c.args.out.now.items))
    c.ent.ensures

pub returns-in-Build : goal.returns-in-Build
returns-in-Build g c = on_ok_weaker c.build.result
    (λ k s h. subst (λ (d : EntityCommand). HasAsciiUids (entity_command_of d)
    → EntityWrites (entity_command_of d) s c.build.new.self c.args.out.now.items c.build.new.out.items)
    (sym c.in-Build.is)
    (λ a. k s h))
    c.build.ensures

pub returns-in-Add : goal.returns-in-Add
returns-in-Add g c = on_ok_weaker c.add.result
    (λ k s h. subst (λ (d : EntityCommand). HasAsciiUids (entity_command_of d)
    → EntityWrites (entity_command_of d) s c.add.new.self c.args.out.now.items c.add.new.out.items)
    (sym c.in-Add.is)
    (λ a. k s h))
    c.add.ensures

pub returns-in-Upsert : goal.returns-in-Upsert
returns-in-Upsert g c = on_ok_weaker c.upsert.result
    (λ k s h. subst (λ (d : EntityCommand). HasAsciiUids (entity_command_of d)
    → EntityWrites (entity_command_of d) s c.upsert.new.self c.args.out.now.items c.upsert.new.out.items)
    (sym c.in-Upsert.is)
    (λ a. k s h))
    c.upsert.ensures

pub returns-in-Remove : goal.returns-in-Remove
returns-in-Remove g c = on_ok_weaker c.remove.result
    (λ k s h. subst (λ (d : EntityCommand). HasAsciiUids (entity_command_of d)
    → EntityWrites (entity_command_of d) s c.remove.new.self c.args.out.now.items c.remove.new.out.items)
    (sym c.in-Remove.is)
    (λ a. k s h))
    c.remove.ensures

pub returns-in-Slice : goal.returns-in-Slice
returns-in-Slice g c = on_ok_weaker c.slice.result
    (λ k s h. subst (λ (d : EntityCommand). HasAsciiUids (entity_command_of d)
    → EntityWrites (entity_command_of d) s c.slice.new.self c.args.out.now.items c.slice.new.out.items)
    (sym c.in-Slice.is)
    (λ a. k s h))
    c.slice.ensures

pub returns-in-Anc : goal.returns-in-Anc
returns-in-Anc g c = on_ok_weaker c.anc.result
    (λ k s h. subst (λ (d : EntityCommand). HasAsciiUids (entity_command_of d)
    → EntityWrites (entity_command_of d) s c.args.self.now c.args.out.now.items c.anc.new.out.items)
    (sym c.in-Anc.is)
    (λ a. anc_takes c.args.self.now s c.in-Anc.uid c.args.out.now.items c.anc.new.out.items h (k s h)))
    c.anc.ensures
