-- A known text is the text of its option.
use Rattle.std.specs.Prelude.{◌≡◌, ℕ, List, [], true, Option, Some, None, is_some, refl}
use Rattle.std.specs.Option.{unwrap_or}

pub known_text : (o : Option (List ℕ)) → is_some o ≡ true → o ≡ Some (unwrap_or o [])
known_text None h = absurd (cc)
known_text (Some x) h = refl
