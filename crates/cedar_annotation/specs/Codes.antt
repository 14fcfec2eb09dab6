-- The code by which a proof distinguishes annotations.
use Rattle.std.specs.Prelude.{ℕ, List}
use Rattle.std.specs.Coded.{Coded, coded×, coded_list}
use Rattle.cedar_ids.specs.Codes.{text_code}

-- The code of annotations: their keys and values.
abbrev pub annotations_code : Coded (List (List ℕ × List ℕ))
annotations_code = coded_list (coded× text_code text_code)
