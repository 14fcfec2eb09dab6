-- The end of the text of a uid, byte by byte. `Named` states the result.
use Rattle.std.specs.Prelude.{ℕ, zero, suc, List, [], ◌∷◌, Bool, false, not, ◌&&◌, ◌==◌, if◌then◌else◌}

-- The text after the first quote that no backslash precedes, or an empty text. The Boolean states whether a backslash
-- precedes the text.
unfoldable pub after : Bool → List ℕ → List ℕ
after e [] = []
after e (c ∷ cs) = if not e && (c == 34) then cs else after (not e && (c == 92)) cs

-- The same for a text that no backslash precedes.
abbrev pub after_quote : List ℕ → List ℕ
after_quote text = after false text

-- The text after two such quotes, which are the quotes of a uid.
abbrev pub after_uid : List ℕ → List ℕ
after_uid text = after_quote (after_quote text)

-- The text after that many uids.
unfoldable pub after_uids : ℕ → List ℕ → List ℕ
after_uids zero text = text
after_uids (suc k) text = after_uid (after_uids k text)
