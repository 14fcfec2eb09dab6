-- The code by which a proof distinguishes sets of uids.
use Rattle.std.specs.Coded.{Coded}
use Rattle.std.specs.FinSet as set
use Rattle.cedar_ids.specs.Codes.{uid_code}
use Rattle.cedar_uid_sets.specs.UidSets.{UidValues}

-- The code of a set of uids.
abbrev pub uid_set_code : Coded UidValues
uid_set_code = set.code uid_code
