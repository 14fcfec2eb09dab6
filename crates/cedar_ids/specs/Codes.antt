-- Codes by which a proof distinguishes texts, names and uids.
use Rattle.std.specs.Prelude.{◌≡◌, ℕ, List, refl}
use Rattle.std.specs.Coded.{Coded, code_by, coded×, coded_ℕ, coded_list}
use Rattle.cedar_ids.specs.Name.{NameParts}
use Rattle.cedar_ids.specs.Uid.{UidParts}
use Rattle.cedar_ids.specs.UidOf.{uid_parts}
use Rattle.cedar_ids.specs.declared.entity.EntityUID.{EntityUID}
use Rattle.cedar_ids.specs.declared.entity.EntityUID.TheVariants as uids

-- The code of a text.
abbrev pub text_code : Coded (List ℕ)
text_code = coded_list coded_ℕ

-- The code of a name: its path and its basename.
abbrev pub name_code : Coded NameParts
name_code =
    code_by (List (List ℕ) × List ℕ) (coded× (coded_list text_code) text_code)
    (λ n. (n.path, n.basename)) (λ p. record { path = p.0; basename = p.1 }) (λ _. refl)

-- The code of the parts of a uid: the name and the eid.
abbrev pub uid_parts_code : Coded UidParts
uid_parts_code =
    code_by (NameParts × List ℕ) (coded× name_code text_code)
    (λ u. (u.name, u.eid)) (λ p. record { name = p.0; eid = p.1 }) (λ _. refl)

-- A uid is the uid with its parts.
pub uid_parts-back : (u : EntityUID) → uids.EntityUID (uid_parts u) ≡ u
uid_parts-back (uids.EntityUID u) = refl

-- The code of a uid: its parts.
abbrev pub uid_code : Coded EntityUID
uid_code = code_by UidParts uid_parts_code uid_parts uids.EntityUID uid_parts-back
