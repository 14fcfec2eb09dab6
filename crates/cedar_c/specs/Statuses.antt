-- The statuses that the calls on handles return themselves. The others are in `cedar_c_lists`.
use Rattle.std.specs.Prelude.{ℕ}

-- The status of success.
abbrev pub ok : ℕ
ok = 0

-- The status of an allocation failure.
abbrev pub no_memory : ℕ
no_memory = 1

-- The status of a closed handle.
abbrev pub closed : ℕ
closed = 2
