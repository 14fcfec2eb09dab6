-- Parsing of a uid, as in the code. `Reads.antt` and `ReadsUid.antt` specify the results.
use Rattle.std.specs.Prelude.{ℕ, List, [], ◌∷◌, length, drop, Option, Some, None, Result, Ok, Err, if◌then◌else◌, ◌==◌}
use Rattle.std.specs.Prelude.{nat_eq, codes, option_and_then}
use Rattle.std.specs.Option.{option_map}
use Rattle.std.specs.List.{starts_with}
use Rattle.cedar_ids.specs.Name.{NameParts}
use Rattle.cedar_ids.specs.Uid.{UidParts}
use Rattle.cedar_ids.specs.Escape.{is_ascii}
use Rattle.cedar_ids.specs.laws.Decode.{eid_of}
use Rattle.cedar_ids.specs.laws.NameReading.{name_of}
use Rattle.cedar_ids.specs.declared.err.ParseErrors.{ParseErrors}
use Rattle.cedar_ids.specs.declared.err.ParseErrors.TheVariants.{NotNormalized, InvalidName}

abbrev pub onto_front : ℕ → List ℕ × List ℕ → List ℕ × List ℕ
onto_front b p = (b ∷ p.0, p.1)

-- The texts before and after the first occurrence of the non-empty text `p`, if there is one.
unfoldable pub first_text : List ℕ → List ℕ → Option (List ℕ × List ℕ)
first_text p [] = None
first_text p (b ∷ bs) = if starts_with nat_eq (b ∷ bs) p then Some ([], drop (length p) (b ∷ bs)) else option_map
    (onto_front b) (first_text p bs)

abbrev pub onto_text : ℕ → List ℕ → List ℕ
onto_text b bs = b ∷ bs

-- The text before a final `"`, if there is one.
unfoldable pub before_quote : List ℕ → Option (List ℕ)
before_quote [] = None
before_quote (b ∷ []) = if b == 34 then Some [] else None
before_quote (b ∷ c ∷ bs) = option_map (onto_text b) (before_quote (c ∷ bs))

-- The text before the first `::"`, and the text between that mark and a final `"`.
unfoldable pub uid_halves : List ℕ → Option (List ℕ × List ℕ)
uid_halves text = option_and_then (first_text (codes "::\"")) (before_quote text)

-- The uid, if its eid is ASCII.
abbrev pub ascii_uid : UidParts → Option UidParts
ascii_uid u = if is_ascii u.eid then Some u else None

abbrev pub uid_with : NameParts → List ℕ → UidParts
uid_with n e = record { name = n; eid = e }

abbrev pub reading_of_parts : Option NameParts → Option (List ℕ) → Result (Option UidParts) ParseErrors
reading_of_parts None e = Err InvalidName
reading_of_parts (Some n) e = Ok (option_map (uid_with n) e)

abbrev pub reading_of_halves : Option (List ℕ × List ℕ) → Result (Option UidParts) ParseErrors
reading_of_halves None = Err NotNormalized
reading_of_halves (Some p) = reading_of_parts (name_of p.0) (eid_of p.1)

-- The result of parsing a uid: the first error in the order of the checks, or the uid with an ASCII eid. `Ok None`
-- means that the eid is invalid or not ASCII, and that all other checks passed.
unfoldable pub uid_reading : List ℕ → Result (Option UidParts) ParseErrors
uid_reading text = reading_of_halves (uid_halves text)
