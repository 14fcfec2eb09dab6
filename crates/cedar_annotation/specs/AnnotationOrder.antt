-- The equality, order and hash of annotations: those of their list of pairs.
use Rattle.std.specs.Prelude.{ℕ, List, ◌++◌, Bool, ◌&&◌}
use Rattle.std.specs.declared.cmp.Ordering.{Ordering}
use Rattle.std.specs.Ordering.{ordering_then}
use Rattle.std.specs.Cmp.Lexicographic.{pointwise, slice_cmp}
use Rattle.std.specs.Hash as fed
use Rattle.cedar_ids.specs.Texts.{same_text, text_order}
use Rattle.cedar_annotation.specs.Annotations.{AnnotationsView}

-- Whether two pairs have equal keys and equal values.
abbrev pub same_pair : List ℕ × List ℕ → List ℕ × List ℕ → Bool
same_pair p q = same_text p.0 q.0 && same_text p.1 q.1

-- The order of pairs: by the key, then by the value.
abbrev pub pair_cmp : List ℕ × List ℕ → List ℕ × List ℕ → Ordering
pair_cmp p q = ordering_then (text_order p.0 q.0) (text_order p.1 q.1)

-- The input that a pair feeds to a hasher: the key, then the value.
abbrev pub pair_hash : List ℕ × List ℕ → List (List ℕ)
pair_hash p = fed.str p.0 ++ fed.str p.1

-- The result of `==`: whether the lists have equal pairs at each index.
abbrev pub same_annotations : AnnotationsView → AnnotationsView → Bool
same_annotations = pointwise same_pair

-- The result of `cmp`: the first different pairs decide.
abbrev pub annotations_cmp : AnnotationsView → AnnotationsView → Ordering
annotations_cmp = slice_cmp pair_cmp

-- The input that annotations feed to a hasher.
abbrev pub annotations_hash : AnnotationsView → List (List ℕ)
annotations_hash ps = fed.slice pair_hash ps
