-- The version of the library as one number.
use Rattle.std.specs.Prelude.{ℕ, ◌+◌, ◌*◌}

-- The number of the version with a major, a minor and a patch number. For example, version 0 1 0 is 256.
abbrev pub version : ℕ → ℕ → ℕ → ℕ
version major minor patch = 65536 * major + 256 * minor + patch
