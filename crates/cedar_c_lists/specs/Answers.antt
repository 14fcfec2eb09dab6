-- Lists of texts that a caller receives.
use Rattle.std.specs.Prelude.{◌≡◌, ℕ, ◌+◌, List, [], ◌∷◌, length, map, slice_range}
use Rattle.std.specs.List.{concat}
use Rattle.cedar_c_lists.specs.declared.layout.Span.{Span}

-- The bytes of a span.
abbrev pub part : List ℕ → Span → List ℕ
part bytes s = slice_range bytes s.start s.end

-- The bytes of each span.
abbrev pub texts_in : List ℕ → List Span → List (List ℕ)
texts_in bytes spans = map (part bytes) spans

-- The spans of texts that are written one after another from position k on.
abbrev pub spans_from : ℕ → List (List ℕ) → List Span
spans_from k [] = []
spans_from k (t ∷ ts) = record { start = k; end = k + length t } ∷ spans_from (k + length t) ts

-- Holds if the bytes are the bytes of the texts, one after another, and the spans are the spans of the texts.
abbrev pub AreConcatenated : List ℕ → List Span → List (List ℕ) → Type 0
AreConcatenated bytes spans ts = (bytes ≡ concat ts) × (spans ≡ spans_from 0 ts)
