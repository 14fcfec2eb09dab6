-- Which texts belong to which ids, names and uids.
use Rattle.std.specs.Prelude.{◌≡◌, ℕ, List, [], IsTrue}
use Rattle.std.specs.List.{list_all}
use Rattle.cedar_ids.specs.Name.{NameParts}
use Rattle.cedar_ids.specs.Uid.{UidParts}
use Rattle.cedar_ids.specs.Escape.{is_ascii}
use Rattle.cedar_ids.specs.Printed.{printed_name, printed_uid}
use Rattle.cedar_ids.specs.Reading.{is_identifier, is_id}

-- Whether every component of a name is an identifier that is not reserved.
abbrev pub IsName : NameParts → Type 0
IsName n = IsTrue (list_all is_id n.path) × IsTrue (is_id n.basename)

-- Whether `id` is an identifier and `text` is its text.
abbrev pub IsIdentifierText : List ℕ → List ℕ → Type 0
IsIdentifierText id text = IsTrue (is_identifier id) × (text ≡ id)

-- Whether `id` is an identifier that is not reserved and `text` is its text.
abbrev pub IsIdText : List ℕ → List ℕ → Type 0
IsIdText id text = IsTrue (is_id id) × (text ≡ id)

-- Whether `n` is a valid name and `text` is its printed text.
abbrev pub IsNameText : NameParts → List ℕ → Type 0
IsNameText n text = IsName n × (text ≡ printed_name n)

-- Whether `n` is a valid name without a path and `text` is its text.
abbrev pub IsUnqualifiedText : NameParts → List ℕ → Type 0
IsUnqualifiedText n text = (n.path ≡ []) × IsIdText n.basename text

-- Whether `u` is a valid uid with an ASCII eid and `text` is its printed text.
abbrev pub IsPrinted : UidParts → List ℕ → Type 0
IsPrinted u text = IsName u.name × IsTrue (is_ascii u.eid) × (text ≡ printed_uid u)
