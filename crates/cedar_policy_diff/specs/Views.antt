-- References as callers see them.
use Rattle.std.specs.Borrow.{Bor}

-- The values behind two references.
abbrev pub pair_of : {A : Type 0} → Bor A × Bor A → A × A
pair_of c = (c.0.now, c.1.now)
