-- Laws of the order, equality and hash of annotations.
use Rattle.std.specs.Prelude.{◌≡◌, ℕ, List, true, ◌&&◌}
use Rattle.std.proofs.Common.{ap, sym, ◌∙◌}
use Rattle.std.specs.Bool.{Decides}
use Rattle.std.specs.Ordering.{eq_by_cmp}
use Rattle.std.specs.Cmp.{IsTotalOrder, IsEquivalence, on_equiv, on_total, and_equiv, then_total, both_tied, first_so}
use Rattle.std.specs.Cmp.{second_so}
use Rattle.std.specs.Cmp.Lexicographic.{pointwise_decides, lists_equiv, lists_total, lists_ties, texts_ties}
use Rattle.cedar_ids.specs.Texts.{same_text, text_order}
use Rattle.cedar_ids.specs.laws.TextLaws.{same_text_equiv, same_text_decides, text_order_total}
use Rattle.cedar_annotation.specs.Annotations.{AnnotationsView}
use Rattle.cedar_annotation.specs.AnnotationOrder.{same_pair, pair_cmp, same_annotations, annotations_cmp}
use Rattle.cedar_annotation.specs.AnnotationOrder.{annotations_hash}

-- `==` is an equivalence.
pub same_annotations_equiv : IsEquivalence same_annotations
same_annotations_equiv = lists_equiv (and_equiv (on_equiv (λ (p : List ℕ × List ℕ). p.0) same_text_equiv)
    (on_equiv (λ (p : List ℕ × List ℕ). p.1) same_text_equiv))

-- The order is total.
pub annotations_cmp_total : IsTotalOrder annotations_cmp
annotations_cmp_total = lists_total (then_total (on_total (λ (p : List ℕ × List ℕ). p.0) text_order_total)
    (on_total (λ (p : List ℕ × List ℕ). p.1) text_order_total))

-- Two annotations are equal if the order reports `Equal`, and only then.
pub annotations_ties : (x y : AnnotationsView) → same_annotations x y ≡ eq_by_cmp annotations_cmp x y
annotations_ties x y =
    lists_ties pair_cmp (λ p q. both_tied _ _ (text_order p.0 q.0) (text_order p.1 q.1) (texts_ties p.0 q.0)
    (texts_ties p.1 q.1)) x y

pair_decides : (p q : List ℕ × List ℕ) → Decides (same_pair p q) (p ≡ q)
pair_decides p q = (
  λ e i. (
    (same_text_decides p.0 q.0).0 (first_so _ _ e) i,
    (same_text_decides p.1 q.1).0
        (second_so (same_text p.0 q.0) _ e) i,
  ),
  λ e. ap (λ r. same_pair p r) (sym e) ∙ ap (λ b. b && same_text p.1 p.1) (same_text_equiv.refl p.0)
      ∙ same_text_equiv.refl p.1,
)

-- `==` decides whether two annotations are identical.
pub same_annotations_decides : (x y : AnnotationsView) → Decides (same_annotations x y) (x ≡ y)
same_annotations_decides x y = pointwise_decides pair_decides x y

-- Equal annotations have equal hashes.
pub annotations_hash_respects : (x y : AnnotationsView) → same_annotations x y ≡ true
    → annotations_hash x ≡ annotations_hash y
annotations_hash_respects x y e = ap annotations_hash ((same_annotations_decides x y).0 e)
