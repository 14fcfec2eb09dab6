-- Annotations from parts of a text.
use Rattle.std.specs.Prelude.{◌≡◌, ◌⊎◌, ℕ, List, Some, slice_get}
use Rattle.std.specs.List.{AllZip}
use Rattle.std.specs.Str.{IsUtf8}
use Rattle.cedar_ids.specs.TextOf.{IsIdentifierText}
use Rattle.cedar_annotation.specs.Annotations.{AnnotationsView, AreAnnotationsOf}
use Rattle.cedar_c_lists.specs.Answers.{part}
use Rattle.cedar_c_lists.specs.Texts.{IsInside}
use Rattle.cedar_c_lists.specs.declared.layout.Span.{Span}
use Rattle.cedar_c_lists.specs.declared.reason.Reason.{Reason}
use Rattle.cedar_c_lists.specs.declared.reason.Reason.TheVariants as reasons
use Rattle.cedar_c_trees.specs.Reads.{IsTextAt}
use Rattle.cedar_c_bodies.specs.declared.layout.AnnotationAt.{AnnotationAt}

-- Holds if w is the reason why the bytes are not the key of an annotation: an allocation failure, or they are not an
-- identifier.
abbrev pub IsNoKey : List ℕ → Reason → Type 0
IsNoKey key w =
    (w ≡ reasons.NoMemory)
    ⊎ ((w ≡ reasons.NotAName) × (IsUtf8 key → (k : List ℕ) → IsIdentifierText k key → ⊥))

-- Holds if k is the key in a part of a text.
abbrev pub IsKeyAt : List ℕ → Span → List ℕ → Type 0
IsKeyAt text at k = IsInside text at × IsIdentifierText k (part text at)

-- Holds if w is the reason why a part is not a key.
abbrev pub IsNoKeyAt : List ℕ → Span → Reason → Type 0
IsNoKeyAt text at w =
    ((w ≡ reasons.BadArgument) × (IsInside text at → ⊥)) ⊎ (IsInside text at × IsNoKey (part text at) w)

-- Holds if w is the reason why a part is not a value. A value is any UTF-8 text.
abbrev pub IsNoValueAt : List ℕ → Span → Reason → Type 0
IsNoValueAt text at w =
    (w ≡ reasons.NoMemory) ⊎ (((w ≡ reasons.BadArgument) × (IsInside text at → ⊥))
    ⊎ ((w ≡ reasons.NotUtf8) × IsInside text at × (IsUtf8 (part text at) → ⊥)))

-- Holds if p is the key and the value in two parts of a text.
abbrev pub IsPairAt : List ℕ → List ℕ × List ℕ → AnnotationAt → Type 0
IsPairAt text p at = IsKeyAt text at.key p.0 × IsTextAt text at.value p.1

-- Holds if w is the reason why there is no key or no value.
abbrev pub IsNoPairAt : List ℕ → AnnotationAt → Reason → Type 0
IsNoPairAt text at w = IsNoKeyAt text at.key w ⊎ IsNoValueAt text at.value w

-- Holds if these are the keys and values in the parts, one pair for each annotation.
abbrev pub ArePairsAt : List ℕ → List (List ℕ × List ℕ) → List AnnotationAt → Type 0
ArePairsAt text ps list = AllZip (IsPairAt text) ps list

-- Holds if a has the annotations of the pairs in the parts. For a repeated key the last one is used.
abbrev pub AreAnnotationsAt : List ℕ → List AnnotationAt → AnnotationsView → Type 0
AreAnnotationsAt text list a = (ps : AnnotationsView) × ArePairsAt text ps list × AreAnnotationsOf ps a

-- Holds if w is the reason why the annotations are not read.
abbrev pub AreNoAnnotationsAt : List ℕ → List AnnotationAt → Reason → Type 0
AreNoAnnotationsAt text list w =
    (w ≡ reasons.NoMemory)
    ⊎ ((k : ℕ) × (at : AnnotationAt) × (slice_get list k ≡ Some at) × IsNoPairAt text at w)
