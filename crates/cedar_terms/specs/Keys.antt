-- Keys: binary trees of numbers, which distinguish and order values and expressions.
use Rattle.std.specs.Prelude.{ℕ, ℤ, pos, List, [], ◌∷◌}
use Rattle.std.specs.declared.cmp.Ordering.{Ordering}
use Rattle.std.specs.declared.cmp.Ordering.TheVariants.{Less, Greater}
use Rattle.std.specs.Ordering.{ordering_then, int_cmp}
use Rattle.cedar_ids.specs.Name.{NameParts}
use Rattle.cedar_ids.specs.Uid.{UidParts}

-- A key: a number, or a pair of keys.
pub data Key : Type 0 where
  tip : ℤ → Key
  fork : Key → Key → Key

-- The order of keys. Numbers are ordered by size and come before pairs. Pairs are ordered by the first part, then by
-- the second.
abbrev pub key_cmp : Key → Key → Ordering
key_cmp (tip a) (tip b) = int_cmp a b
key_cmp (tip a) (fork c d) = Less
key_cmp (fork a b) (tip c) = Greater
key_cmp (fork a b) (fork c d) = ordering_then (key_cmp a c) (key_cmp b d)

-- The key of a natural number.
abbrev pub nat_key : ℕ → Key
nat_key n = tip (pos n)

-- The key of a list: the key of its first element, paired with the key of the rest.
abbrev pub list_key : {A : Type 0} → (A → Key) → List A → Key
list_key f [] = nat_key 0
list_key f (x ∷ xs) = fork (f x) (list_key f xs)

-- The key of a text.
abbrev pub text_key : List ℕ → Key
text_key s = list_key nat_key s

-- The key of a path.
abbrev pub path_key : List (List ℕ) → Key
path_key p = list_key text_key p

-- The key of a name: its last component, then its path.
abbrev pub name_key : NameParts → Key
name_key n = fork (text_key n.basename) (path_key n.path)

-- The key of a uid: its type, then its eid.
abbrev pub uid_key : UidParts → Key
uid_key u = fork (name_key u.name) (text_key u.eid)
