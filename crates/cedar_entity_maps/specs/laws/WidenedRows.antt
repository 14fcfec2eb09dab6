-- An entity with more ancestors.
use Rattle.std.specs.Prelude.{◌≡◌, Bool, true, false, not, ◌&&◌, ◌||◌}
use Rattle.std.proofs.Common.{ap, sym, refl, ◌∙◌}
use Rattle.std.specs.FinSet as set
use Rattle.cedar_ids.specs.laws.UidOfLaws.{uid_order_total}
use Rattle.cedar_ids.specs.declared.entity.EntityUID.{EntityUID}
use Rattle.cedar_uid_sets.specs.UidSets.{UidValues}
use Rattle.cedar_uid_sets.specs.laws.Sets.{one_equal}
use Rattle.cedar_entity.specs.View.{EntityView, has_ancestor, overlap, rest, unchanged_parts}

-- The entity with the uids of a row as indirect ancestors, except its parents.
abbrev pub widened : UidValues → EntityView → EntityView
widened row e = record e { indirect = set.union e.indirect (set.difference row e.parents) }

left_out : (p i k : Bool) → (p || (i || (k && not p))) ≡ ((p || i) || k)
left_out true i k = refl
left_out false true k = refl
left_out false false true = refl
left_out false false false = refl

-- The ancestors of the entity with the uids of a row.
pub widened_leads : (row : UidValues) (e : EntityView) (b : EntityUID)
    → has_ancestor (widened row e) b ≡ (has_ancestor e b || set.contains row b)
widened_leads row e b =
    ap (λ x. set.contains e.parents b || x) (set.contains-union uid_order_total e.indirect (set.difference row e.parents) b
    ∙ ap (λ x. set.contains e.indirect b || x) (set.contains-difference uid_order_total row e.parents b))
    ∙ left_out (set.contains e.parents b) (set.contains e.indirect b) (set.contains row b)

none_common : (p i k : Bool) → (p && (i || (k && not p))) ≡ (p && i)
none_common true true k = refl
none_common true false true = refl
none_common true false false = refl
none_common false i k = refl

-- A row does not change the overlap.
pub widened_overlap : (row : UidValues) (e : EntityView) → overlap (widened row e) ≡ overlap e
widened_overlap row e = set.same_set uid_order_total one_equal _ _ (λ q.
    set.contains-intersection uid_order_total e.parents (set.union e.indirect (set.difference row e.parents)) q
    ∙ ap (λ x. set.contains e.parents q && x) (set.contains-union uid_order_total e.indirect (set.difference row e.parents) q
    ∙ ap (λ x. set.contains e.indirect q || x) (set.contains-difference uid_order_total row e.parents q))
    ∙ none_common (set.contains e.parents q) (set.contains e.indirect q) (set.contains row q)
    ∙ sym (set.contains-intersection uid_order_total e.parents e.indirect q))

-- A row changes only the ancestors.
pub widened_parts : (row : UidValues) (e : EntityView) → unchanged_parts (widened row e) ≡ unchanged_parts e
widened_parts row e = ap (λ s. (e.uid, (rest e, s))) (widened_overlap row e)
