-- A command that was read, as contracts see it.
use Rattle.cedar_entity_lines.specs.EntityCommand.{EntityCommand, Ent, Build, Add, Upsert, Remove, Slice, Anc}
use Rattle.cedar_entity_lines.specs.declared.command.EntityCommand as code
use Rattle.cedar_entity_lines.specs.declared.command.EntityCommand.TheVariants as read

-- The command of the definitions for a command of the code.
abbrev pub entity_command_of : code.EntityCommand → EntityCommand
entity_command_of (read.Ent u ps) = Ent u ps.items
entity_command_of read.Build = Build
entity_command_of read.Add = Add
entity_command_of read.Upsert = Upsert
entity_command_of (read.Remove us) = Remove us.items
entity_command_of (read.Slice us) = Slice us.items
entity_command_of (read.Anc u) = Anc u
