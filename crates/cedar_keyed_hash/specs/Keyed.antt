-- The values that a keyed hasher computes. No contract of a store or a policy set uses them.
use Rattle.std.specs.Prelude.{ℕ, zero, suc, ◌+◌, ◌-◌, ◌*◌, ◌/◌, ◌%◌, ◌^◌, List, [], ◌∷◌, length, if◌then◌else◌, nat_le}
use Rattle.std.specs.Prelude.{nat_lt, slice_index, bit_and, bit_or, bit_xor}
use Rattle.std.specs.Int.{w32, from_le_bytes}
use Rattle.cedar_keyed_hash.specs.declared.KeyedHasher.{KeyedHasher}
use Rattle.cedar_keyed_hash.specs.declared.KeyedState.{KeyedState}

-- The hasher whose state is the seed and whose key is `key`.
abbrev pub hasher_with : ℕ → ℕ → KeyedHasher
hasher_with seed key = record { state = seed; key = key }

-- The initial hasher of a builder.
abbrev pub first_hasher : KeyedState → KeyedHasher
first_hasher s = record { state = s.seed; key = s.key }

-- The exclusive or of the two 64-bit halves of `a * b`.
unfoldable pub mixed : ℕ → ℕ → ℕ
mixed a b = bit_xor (bit_and (a * b) (2 ^ 64 - 1)) (a * b / 2 ^ 64)

-- Four bytes from position `i` on as a number, lowest byte first.
unfoldable pub half_at : List ℕ → ℕ → ℕ
half_at bytes i = from_le_bytes w32 (slice_index bytes i ∷ slice_index bytes (i + 1) ∷ slice_index bytes
    (i + 2) ∷ slice_index bytes (i + 3) ∷ [])

-- A number shifted left by `by` bits, modulo 2^64.
abbrev pub shifted : ℕ → ℕ → ℕ
shifted x by = (x * 2 ^ by) % 2 ^ 64

-- Eight bytes from position `i` on as a number, lowest byte first.
unfoldable pub word_at : List ℕ → ℕ → ℕ
word_at bytes i = bit_or (half_at bytes i) (shifted (half_at bytes (i + 4)) 32)

-- Fewer than eight bytes as a number.
unfoldable pub short : List ℕ → ℕ
short bytes =
    let n = length bytes in
    if nat_le 4 n then bit_or (half_at bytes 0) (shifted (half_at bytes (n - 4)) 32)
    else (if nat_lt 0 n then bit_or (bit_or (slice_index bytes 0) (shifted (slice_index bytes (n - 1)) 8))
    (shifted (slice_index bytes (n / 2)) 16) else 0)

-- The state after the first n words of eight bytes.
unfoldable pub after_words : List ℕ → ℕ → ℕ → ℕ → ℕ
after_words bytes key state zero = state
after_words bytes key state (suc n) = mixed (bit_xor (after_words bytes key state n) (word_at bytes (8 * n))) key

-- The hasher after these bytes. From eight bytes on, it processes words of eight bytes from the start while further
-- bytes follow, and then the last eight bytes, which can overlap the word before. Fewer bytes are processed as one
-- number (see `short`).
unfoldable pub keyed : KeyedHasher → List ℕ → KeyedHasher
keyed h bytes =
    let n = length bytes in
    let start = bit_xor h.state n in
    let few = mixed (bit_xor start (short bytes)) h.key in
    let many = mixed (bit_xor (after_words bytes h.key start ((n - 1) / 8)) (word_at bytes (n - 8))) h.key in
    record { state = if nat_lt n 8 then few else many; key = h.key }

-- The hash value of a hasher: its state.
abbrev pub finished : KeyedHasher → ℕ
finished h = h.state
