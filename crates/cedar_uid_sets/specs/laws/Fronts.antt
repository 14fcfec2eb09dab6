-- The numbers that abbreviate names and eids.
use Rattle.std.specs.Prelude.{◌≡◌, ℕ, zero, suc, ◌+◌, ◌*◌, ◌^◌, ◌<◌, Bool, ◌&&◌, cond, List}
use Rattle.std.specs.Prelude.{length, nat_le, nat_eq, slice_index, ⊤}
use Rattle.cedar_ids.specs.Name.{NameParts, is_unqualified}
use Rattle.cedar_ids.specs.TextOf.{IsName}
use Rattle.cedar_ids.specs.UidOf.{uid_parts}
use Rattle.cedar_ids.specs.declared.entity.EntityUID.{EntityUID}

-- The number with these n digits to base 256, highest digit first.
abbrev pub number : ℕ → (ℕ → ℕ) → ℕ
number zero digit = 0
number (suc n) digit = digit 0 * 256 ^ n + number n (λ i. digit (suc i))

-- Holds if the first n values are digits to base 256.
abbrev pub AreDigits : ℕ → (ℕ → ℕ) → Type 0
AreDigits zero digit = ⊤
AreDigits (suc n) digit = (digit 0 < 256) × AreDigits n (λ i. digit (suc i))

-- The first eight bytes of a text as a number, highest byte first. Missing bytes count as zero.
abbrev pub front : List ℕ → ℕ
front text = number 8 (slice_index text)

-- Holds if the first eight values of a text are bytes.
abbrev pub BeginsWithBytes : List ℕ → Type 0
BeginsWithBytes text = AreDigits 8 (slice_index text)

-- Whether a name has no path and at most eight bytes.
abbrev pub is_short : NameParts → Bool
is_short n = is_unqualified n && nat_le (length n.basename) 8

-- The front of a short name, and 0 for any other name.
abbrev pub kind : NameParts → ℕ
kind n = cond (is_short n) (front n.basename) 0

-- Holds if the two numbers are the numbers of the uid.
pub record Abbreviate (k f : ℕ) (u : EntityUID) : Type 0 where
  pub of_name : k ≡ kind (uid_parts u).name
  pub of_eid : f ≡ front (uid_parts u).eid
  pub name : IsName (uid_parts u).name
  pub bytes : BeginsWithBytes (uid_parts u).eid

-- Whether two uids have the same numbers. Equal uids do.
abbrev pub same_numbers : EntityUID → EntityUID → Bool
same_numbers u v = nat_eq (front (uid_parts u).eid) (front (uid_parts v).eid)
    && nat_eq (kind (uid_parts u).name) (kind (uid_parts v).name)
