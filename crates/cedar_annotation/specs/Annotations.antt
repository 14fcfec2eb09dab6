-- Annotations as callers see them: keys and values by their bytes, without locations.
use Rattle.std.specs.Prelude.{◌≡◌, ℕ, List, [], ◌∷◌, ◌++◌, map, Bool, Option, Some, None, if◌then◌else◌, codes, String}
use Rattle.std.specs.Prelude.{string_bytes}
use Rattle.std.specs.Option.{option_or}
use Rattle.std.specs.Str.{bytes_eq}
use Rattle.std.specs.List.{flat_map, list_all}
use Rattle.std.specs.List.Sorted.{IsStrictlySortedBy}
use Rattle.std.specs.declared.alloc.Global.{Global}
use Rattle.cedar_ids.specs.Escape.{is_ascii}
use Rattle.cedar_ids.specs.Texts.{text_order}
use Rattle.cedar_terms.specs.ValueTexts.{quoted}

-- A list of keys with their values.
abbrev pub AnnotationsView : Type 0
AnnotationsView = List (List ℕ × List ℕ)

-- The value of the first pair with this key, if there is one.
abbrev pub value_at : List ℕ → AnnotationsView → Option (List ℕ)
value_at key [] = None
value_at key (p ∷ ps) = if bytes_eq p.0 key then Some p.1 else value_at key ps

-- The value of the last pair with this key, if there is one.
abbrev pub last_value_at : List ℕ → AnnotationsView → Option (List ℕ)
last_value_at key [] = None
last_value_at key (p ∷ ps) = option_or (last_value_at key ps) (if bytes_eq p.0 key then Some p.1 else None)

-- The keys, in order.
abbrev pub annotation_keys : AnnotationsView → List (List ℕ)
annotation_keys ps = map (λ p. p.0) ps

-- Whether the keys ascend strictly by bytes, so that each occurs once.
abbrev pub KeysAscend : AnnotationsView → Type 0
KeysAscend ps = IsStrictlySortedBy text_order (annotation_keys ps)

-- Whether `annotations` are the annotations of some pairs. Their keys ascend. Each key has the value of the last pair
-- with that key.
pub record AreAnnotationsOf (pairs annotations : AnnotationsView) : Type 0 where
  pub ascending : KeysAscend annotations
  pub last : (key : List ℕ) → value_at key annotations ≡ last_value_at key pairs

-- The value, or the empty text if there is none.
abbrev pub value_or_empty : Option (String Global) → List ℕ
value_or_empty None = []
value_or_empty (Some s) = string_bytes s

-- The specified output of printing one annotation: the quoted value if it is ASCII, else unspecified.
abbrev pub annotation_output : List ℕ → Option (List ℕ)
annotation_output value = if is_ascii value then Some (quoted value) else None

-- The printed line of a pair. For example, `@id("first")` and a newline.
abbrev pub annotation_line : List ℕ × List ℕ → List ℕ
annotation_line p = codes "@" ++ (p.0 ++ (codes "(" ++ (quoted p.1 ++ codes ")\n")))

-- The printed text of annotations: the line of each pair, in order.
abbrev pub annotations_text : AnnotationsView → List ℕ
annotations_text ps = flat_map annotation_line ps

-- Whether the value of a pair is ASCII.
abbrev pub is_ascii_pair : List ℕ × List ℕ → Bool
is_ascii_pair p = is_ascii p.1

-- Whether all values are ASCII.
abbrev pub are_ascii_annotations : AnnotationsView → Bool
are_ascii_annotations ps = list_all is_ascii_pair ps

-- The specified output of printing annotations: their text if all values are ASCII, else unspecified.
abbrev pub annotations_output : AnnotationsView → Option (List ℕ)
annotations_output ps = if are_ascii_annotations ps then Some (annotations_text ps) else None
