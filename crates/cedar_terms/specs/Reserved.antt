-- The reserved keys of records.
use Rattle.std.specs.Prelude.{ℕ, List, Bool, ◌||◌, codes}
use Rattle.std.specs.Str.{bytes_eq}

-- Whether a key is reserved. Cedar's JSON format uses or once used such keys as escapes.
abbrev pub is_reserved_key : List ℕ → Bool
is_reserved_key key = bytes_eq key (codes "__extn") || bytes_eq key (codes "__expr") || bytes_eq key (codes "__entity")
