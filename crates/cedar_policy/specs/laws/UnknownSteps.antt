-- The results of parsing the name of one unknown.
use Rattle.std.specs.Prelude.{◌≡◌, ℕ, List, Bool, true, false, ◌&&◌, Option, Some, None}
use Rattle.cedar_ids.specs.Escape.{is_ascii}
use Rattle.cedar_ids.specs.Printed.{printed_uid}
use Rattle.cedar_ids.specs.Texts.{same_text}
use Rattle.cedar_ids.specs.Uid.{UidParts}
use Rattle.cedar_ids.specs.UidOf.{uid_parts, same_uid}
use Rattle.cedar_ids.specs.declared.entity.EntityUID.{EntityUID}
use Rattle.cedar_terms.specs.UnknownParts.{UnknownParts}
use Rattle.cedar_policy.specs.Unknowns.{is_name, names_uid}

-- Whether a text is the printed form of a uid with an ASCII eid.
abbrev pub is_printed_uid : UidParts → List ℕ → Bool
is_printed_uid u text = (is_name u.name && is_ascii u.eid) && same_text text (printed_uid u)

-- Whether an optional uid is this uid.
abbrev pub is_this : Option EntityUID → EntityUID → Bool
is_this None u = false
is_this (Some v) u = same_uid v u

-- Whether, among the uids with an ASCII eid, the text is the printed form of the parsed uid and of no other.
abbrev pub ReadsOnly : Option EntityUID → List ℕ → Type 0
ReadsOnly o text = (u : EntityUID) → is_ascii (uid_parts u).eid ≡ true → is_this o u ≡ is_printed_uid (uid_parts u) text

-- Whether, among the uids with an ASCII eid, the unknown represents the parsed uid and no other.
abbrev pub NamesOnly : Option EntityUID → UnknownParts → Type 0
NamesOnly o x = (u : EntityUID) → is_ascii (uid_parts u).eid ≡ true → is_this o u ≡ names_uid (uid_parts u) x
