use Rattle.std.proofs.Common.{refl}
use Rattle.cedar_repl.proofs.Hearing.{begins}
use Rattle.cedar_repl.proofs.conversation.Conversation.new.Goals as goal

pub returns-clause-has : goal.returns-clause-has
returns-clause-has g c = begins _ c.with_hasher.ensures c.new.ensures.items refl
