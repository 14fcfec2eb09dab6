-- Laws of the keys of names and uids, and decoding from these keys.
use Rattle.std.specs.Prelude.{◌≡◌}
use Rattle.std.specs.Ordering.{nat_cmp, ordering_then}
use Rattle.std.specs.Cmp.Lexicographic.{slice_cmp}
use Rattle.cedar_ids.specs.Name.{NameParts, name_cmp}
use Rattle.cedar_ids.specs.Uid.{UidParts, uid_cmp}
use Rattle.cedar_terms.specs.laws.KeyLaws.{left_at, right_at, read_back, list_at, list_at-list_key, list_key-cmp}
use Rattle.cedar_terms.specs.laws.KeyLaws.{text_at, text_at-text_key, text_key-cmp}
use Rattle.cedar_terms.specs.Keys.{Key, key_cmp, text_key, name_key, uid_key}

-- The name with this key.
abbrev pub name_at : Key → NameParts
name_at k = record { path = list_at text_at (right_at k); basename = text_at (left_at k) }

-- Decoding the key of a name gives the name.
pub name_at-name_key : (n : NameParts) → name_at (name_key n) ≡ n
name_at-name_key n = λ i. record {
  path = list_at-list_key text_key text_at text_at-text_key n.path i;
  basename =
      text_at-text_key n.basename i;
}

-- Names with equal keys are equal.
pub name_key-inj : (n m : NameParts) → name_key n ≡ name_key m → n ≡ m
name_key-inj n m e = read_back name_key name_at name_at-name_key n m e

-- Names are ordered as their keys.
pub name_key-cmp : (n m : NameParts) → key_cmp (name_key n) (name_key m) ≡ name_cmp n m
name_key-cmp n m =
    λ i. ordering_then (text_key-cmp n.basename m.basename i)
    (list_key-cmp text_key (slice_cmp nat_cmp) text_key-cmp n.path m.path i)

-- The uid with this key.
abbrev pub uid_at : Key → UidParts
uid_at k = record { name = name_at (left_at k); eid = text_at (right_at k) }

-- Decoding the key of a uid gives the uid.
pub uid_at-uid_key : (u : UidParts) → uid_at (uid_key u) ≡ u
uid_at-uid_key u = λ i. record { name = name_at-name_key u.name i; eid = text_at-text_key u.eid i }

-- Uids with equal keys are equal.
pub uid_key-inj : (u v : UidParts) → uid_key u ≡ uid_key v → u ≡ v
uid_key-inj u v e = read_back uid_key uid_at uid_at-uid_key u v e

-- Uids are ordered as their keys.
pub uid_key-cmp : (u v : UidParts) → key_cmp (uid_key u) (uid_key v) ≡ uid_cmp u v
uid_key-cmp u v = λ i. ordering_then (name_key-cmp u.name v.name i) (text_key-cmp u.eid v.eid i)
