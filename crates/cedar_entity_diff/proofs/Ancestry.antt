-- The ancestors gained and lost between two entities.
use Rattle.std.specs.Prelude.{◌≡◌, Bool, true, false, cond, not, ◌&&◌, Some, None}
use Rattle.std.proofs.Common.{ap, sym, refl, ◌∙◌}
use Rattle.std.specs.FinSet as set
use Rattle.cedar_ids.specs.UidOf.{uid_order}
use Rattle.cedar_ids.specs.laws.UidOfLaws.{uid_order_total}
use Rattle.cedar_ids.specs.declared.entity.EntityUID.{EntityUID}
use Rattle.cedar_uid_sets.specs.UidSets.{UidValues, same_uids}
use Rattle.cedar_uid_sets.specs.laws.Sets.{same_members, same_uids_decides}
use Rattle.cedar_entity.specs.View.{EntityView}
use Rattle.cedar_entity_diff.specs.Diffs.{AncestryView, ancestors, ancestry_from}

neither : (i j : Bool) → (i && not j) ≡ false → (j && not i) ≡ false → i ≡ j
neither true true h g = refl
neither true false h g = h
neither false true h g = sym g
neither false false h g = refl

nothing : (s t : UidValues) → set.difference s t ≡ set.empty → (q : EntityUID)
    → (set.contains s q && not (set.contains t q)) ≡ false
nothing s t e q =
    sym (set.contains-difference uid_order_total s t q) ∙ ap (λ (r : UidValues). set.contains r q) e
    ∙ set.contains-empty uid_order q

same_if_none : (s t : UidValues) → set.difference t s ≡ set.empty → set.difference s t ≡ set.empty → s ≡ t
same_if_none s t g l =
    same_members s t (λ q. neither (set.contains s q) (set.contains t q) (nothing s t l q) (nothing t s g q))

off_itself : (b : Bool) → (b && not b) ≡ false
off_itself true = refl
off_itself false = refl

none_itself : (s : UidValues) → set.difference s s ≡ set.empty
none_itself s = same_members (set.difference s s) set.empty (λ q.
    set.contains-difference uid_order_total s s q ∙ off_itself (set.contains s q)
    ∙ sym (set.contains-empty uid_order q))

abbrev pub view_of : EntityUID → UidValues → UidValues → AncestryView
view_of u g l = record { uid = u; gained = g; lost = l }

module _ (a b : EntityView) (g l : UidValues) (gained : g ≡ set.difference (ancestors b) (ancestors a))
    (lost : l ≡ set.difference (ancestors a) (ancestors b)) where
  -- If no ancestor was gained or lost, nothing is listed.
  pub no_change : (g ≡ set.empty) × (l ≡ set.empty) → None ≡ ancestry_from (Some a) (Some b)
  no_change e =
      ap (λ t. cond t None (Some (view_of b.uid (set.difference (ancestors b) (ancestors a))
      (set.difference (ancestors a) (ancestors b))))) (sym ((same_uids_decides (ancestors a) (ancestors b)).1
      (same_if_none (ancestors a) (ancestors b) (sym gained ∙ e.0) (sym lost ∙ e.1))))

  both_none : ancestors a ≡ ancestors b → (g ≡ set.empty) × (l ≡ set.empty)
  both_none e = (
    gained ∙ ap (λ s. set.difference s (ancestors a)) (sym e) ∙ none_itself (ancestors a),
    lost ∙ ap (λ s. set.difference s (ancestors b)) e ∙ none_itself (ancestors b),
  )

  listed : (u : EntityUID) → u ≡ b.uid → (t : Bool) → same_uids (ancestors a) (ancestors b) ≡ t
      → ((g ≡ set.empty) × (l ≡ set.empty) → ⊥)
      → Some (view_of u g l)
      ≡ cond t None (Some (view_of b.uid (set.difference (ancestors b) (ancestors a))
      (set.difference (ancestors a) (ancestors b))))
  listed u is true same none = absurd (none (both_none ((same_uids_decides (ancestors a) (ancestors b)).0 same)))
  listed u is false same none = λ i. Some (view_of (is i) (gained i) (lost i))

  -- Otherwise the ancestors gained and lost are listed.
  pub some_change : (u : EntityUID) → u ≡ b.uid → ((g ≡ set.empty) × (l ≡ set.empty) → ⊥)
      → Some (view_of u g l) ≡ ancestry_from (Some a) (Some b)
  some_change u is none = listed u is (same_uids (ancestors a) (ancestors b)) refl none
