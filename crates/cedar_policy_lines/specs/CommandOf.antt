-- A command that was read, as contracts see it.
use Rattle.cedar_binding.specs.Views.{env_of}
use Rattle.cedar_policy_lines.specs.PolicyCommand.{PolicyCommand, Static, Template, Link, Unlink, Other, Merge, Ids}
use Rattle.cedar_policy_lines.specs.declared.command.PolicyCommand as code
use Rattle.cedar_policy_lines.specs.declared.command.PolicyCommand.TheVariants as read

-- The command of the definitions for a command of the code.
abbrev pub policy_command_of : code.PolicyCommand → PolicyCommand
policy_command_of (read.Static i e) = Static i e
policy_command_of (read.Template i w) = Template i w
policy_command_of (read.Link t l e) = Link t l (env_of e)
policy_command_of (read.Unlink i) = Unlink i
policy_command_of read.Other = Other
policy_command_of (read.Merge b) = Merge b
policy_command_of read.Ids = Ids
