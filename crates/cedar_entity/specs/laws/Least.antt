-- The least uid of a set that passes a test.
use Rattle.std.specs.Prelude.{Bool, Option, MatchOption}
use Rattle.cedar_ids.specs.declared.entity.EntityUID.{EntityUID}
use Rattle.cedar_entity.specs.Least.{IsLeast, NonePasses}

-- The result is the least uid that passes the test, or `None` if no uid passes.
abbrev pub LeastOf : (EntityUID → Bool) → Option EntityUID → Type 0
LeastOf passes o = MatchOption o (NonePasses passes) (IsLeast passes)
