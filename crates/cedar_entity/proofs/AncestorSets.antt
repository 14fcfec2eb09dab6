-- The ancestors of an entity, and the ancestors after a change.
use Rattle.std.specs.Prelude.{◌≡◌, Bool, true, false, cond, List, not, ◌||◌, ◌&&◌, Result, Ok, Err, OnOk, OnErr}
use Rattle.std.proofs.Common.{ap, sym, refl, ◌∙◌}
use Rattle.std.specs.FinSet as set
use Rattle.std.specs.Ordering.{eq_by_cmp}
use Rattle.std.specs.Set.{is_member}
use Rattle.cedar_ids.specs.UidOf.{same_uid, uid_order}
use Rattle.cedar_ids.specs.laws.UidOfLaws.{uid_order_total, same_uid_decides, same_uid_equiv}
use Rattle.cedar_ids.specs.declared.entity.EntityUID.{EntityUID}
use Rattle.cedar_uid_sets.specs.UidSets.{UidValues}
use Rattle.cedar_uid_sets.specs.laws.Sets.{contains_listed, same_tests, one_equal}
use Rattle.cedar_graph.specs.Graph.{Grows}
use Rattle.cedar_entity.specs.View.{EntityView, has_ancestor, overlap}
use Rattle.cedar_entity.specs.laws.Views.{AreNewTo}

-- The entity with one more indirect ancestor, unless the uid is a parent.
abbrev pub with_ancestor : EntityView → EntityUID → EntityView
with_ancestor e k = record e { indirect = cond (set.contains e.parents k) e.indirect (set.insert e.indirect k) }

or_true : (x : Bool) → (x || true) ≡ true
or_true true = refl
or_true false = refl

pub or_false : (x : Bool) → x ≡ (x || false)
or_false true = refl
or_false false = refl

or_turn : (p i k : Bool) → (p || (k || i)) ≡ ((p || i) || k)
or_turn true i k = refl
or_turn false true true = refl
or_turn false true false = refl
or_turn false false true = refl
or_turn false false false = refl

already : (e : EntityView) (k q : EntityUID) (b : Bool) → same_uid k q ≡ b → set.contains e.parents k ≡ true
    → has_ancestor e q ≡ (has_ancestor e q || b)
already e k q true s h =
    ap (λ x. set.contains e.parents x || set.contains e.indirect q) (sym ((same_uid_decides k q).0 s))
    ∙ ap (λ b. b || set.contains e.indirect q) h ∙ sym (or_true (has_ancestor e q))
already e k q false s h = or_false (has_ancestor e q)

more : (e : EntityView) (k q : EntityUID) (b : Bool) → set.contains e.parents k ≡ b
    → (set.contains e.parents q || set.contains (cond b e.indirect (set.insert e.indirect k)) q)
    ≡ (has_ancestor e q || same_uid k q)
more e k q true h = already e k q (same_uid k q) refl h
more e k q false h =
    ap (λ b. set.contains e.parents q || b) (set.contains-insert uid_order_total e.indirect k q)
    ∙ ap (λ b. set.contains e.parents q || (b || set.contains e.indirect q)) (ap (λ f. f q k) same_tests
    ∙ sym (same_uid_equiv.symm k q))
    ∙ or_turn (set.contains e.parents q) (set.contains e.indirect q) (same_uid k q)

-- The ancestors after one is added.
pub ancestors_with : (e : EntityView) (k q : EntityUID)
    → has_ancestor (with_ancestor e k) q ≡ (has_ancestor e q || same_uid k q)
ancestors_with e k q = more e k q (set.contains e.parents k) refl

-- The ancestors if there are only parents.
pub ancestors_reset : (e : EntityView) (q : EntityUID)
    → (set.contains e.parents q || set.contains (set.empty {R = uid_order}) q) ≡ set.contains e.parents q
ancestors_reset e q = ap (λ b. set.contains e.parents q || b) (set.contains-empty uid_order q)
    ∙ sym (or_false (set.contains e.parents q))

overlap_new : (e : EntityView) (k q : EntityUID) (t : Bool) → eq_by_cmp uid_order q k ≡ t
    → set.contains e.parents k ≡ false → (set.contains e.parents q && (t || set.contains e.indirect q))
    ≡ (set.contains e.parents q && set.contains e.indirect q)
overlap_new e k q true t h =
    let out : set.contains e.parents q ≡ false =
    ap (set.contains e.parents) ((same_uid_decides q k).0 (ap (λ f. f q k) (sym same_tests) ∙ t)) ∙ h in
    ap (λ b. b && true) out ∙ ap (λ b. b && set.contains e.indirect q) (sym out)
overlap_new e k q false t h = refl

overlap_at : (e : EntityView) (k q : EntityUID) (b : Bool) → set.contains e.parents k ≡ b
    → (set.contains e.parents q && set.contains (cond b e.indirect (set.insert e.indirect k)) q)
    ≡ (set.contains e.parents q && set.contains e.indirect q)
overlap_at e k q true h = refl
overlap_at e k q false h = ap (λ b. set.contains e.parents q && b) (set.contains-insert uid_order_total e.indirect k q)
    ∙ overlap_new e k q (eq_by_cmp uid_order q k) refl h

-- Adding an ancestor does not change the overlap.
pub overlap_with : (e : EntityView) (k : EntityUID) → overlap (with_ancestor e k) ≡ overlap e
overlap_with e k = set.same_set uid_order_total one_equal _ _ (λ q.
    set.contains-intersection uid_order_total e.parents
    (cond (set.contains e.parents k) e.indirect (set.insert e.indirect k)) q
    ∙ overlap_at e k q (set.contains e.parents k) refl
    ∙ sym (set.contains-intersection uid_order_total e.parents e.indirect q))

-- A property that adding an ancestor does not change is the same after a call that adds one or fails.
pub same_after : {T E X : Type 0} (f : EntityView → X)
    → ((e : EntityView) (k : EntityUID) → f (with_ancestor e k) ≡ f e)
    → (r : Result T E) (old new : EntityView) (k : EntityUID)
    → OnOk r (new ≡ with_ancestor old k) → OnErr r (new ≡ old) → f new ≡ f old
same_after f same (Ok x) old new k h g = ap f h ∙ same old k
same_after f same (Err x) old new k h g = ap f g

-- Two Booleans that imply each other are equal.
pub same_bool : (x y : Bool) → (x ≡ true → y ≡ true) → (y ≡ true → x ≡ true) → x ≡ y
same_bool true y f g = sym (f refl)
same_bool false true f g = g refl
same_bool false false f g = refl

left_out : (p i k : Bool) → (p || (i || (k && not p))) ≡ ((p || i) || k)
left_out true i k = refl
left_out false true k = refl
left_out false false true = refl
left_out false false false = refl

none_common : (p i k : Bool) → (p && (i || (k && not p))) ≡ (p && i)
none_common true true k = refl
none_common true false true = refl
none_common true false false = refl
none_common false i k = refl

-- The entity with the uids of a set as indirect ancestors, except parents.
abbrev pub with_set : EntityView → UidValues → EntityView
with_set e s = record e { indirect = set.union e.indirect (set.difference s e.parents) }

-- The entity with several more indirect ancestors, except parents.
abbrev pub with_row : EntityView → List EntityUID → EntityView
with_row e ks = with_set e (set.from_list ks)

none_left : (k p i : Bool) → (k ≡ true → (p || i) ≡ false) → (k && not p) ≡ k
none_left false p i f = refl
none_left true true i f = sym (f refl)
none_left true false i f = refl

-- Uids that are not ancestors contain no parent.
pub no_parent_in_row : (e : EntityView) (ks : List EntityUID) → AreNewTo e ks
    → set.from_list ks ≡ set.difference (set.from_list ks) e.parents
no_parent_in_row e ks new = set.same_set uid_order_total one_equal _ _ (λ q.
    contains_listed ks q
    ∙ sym (none_left (is_member same_uid ks q) (set.contains e.parents q) (set.contains e.indirect q) (new q))
    ∙ ap (λ b. b && not (set.contains e.parents q)) (sym (contains_listed ks q))
    ∙ sym (set.contains-difference uid_order_total (set.from_list ks) e.parents q))

in_set : (e : EntityView) (s : UidValues) (q : EntityUID)
    → set.contains (set.union e.indirect (set.difference s e.parents)) q
    ≡ (set.contains e.indirect q || (set.contains s q && not (set.contains e.parents q)))
in_set e s q =
    set.contains-union uid_order_total e.indirect (set.difference s e.parents) q
    ∙ ap (λ b. set.contains e.indirect q || b) (set.contains-difference uid_order_total s e.parents q)

-- The ancestors after those of a set are added.
pub ancestors_with_set : (e : EntityView) (s : UidValues) (q : EntityUID)
    → has_ancestor (with_set e s) q ≡ (has_ancestor e q || set.contains s q)
ancestors_with_set e s q = ap (λ b. set.contains e.parents q || b) (in_set e s q)
    ∙ left_out (set.contains e.parents q) (set.contains e.indirect q) (set.contains s q)

-- Adding the uids of a set does not change the overlap.
pub overlap_with_set : (e : EntityView) (s : UidValues) → overlap (with_set e s) ≡ overlap e
overlap_with_set e s = set.same_set uid_order_total one_equal _ _ (λ q.
    set.contains-intersection uid_order_total e.parents (set.union e.indirect (set.difference s e.parents)) q
    ∙ ap (λ b. set.contains e.parents q && b) (in_set e s q)
    ∙ none_common (set.contains e.parents q) (set.contains e.indirect q) (set.contains s q)
    ∙ sym (set.contains-intersection uid_order_total e.parents e.indirect q))

-- The ancestors after several are added.
pub ancestors_with_row : (e : EntityView) (ks : List EntityUID) (q : EntityUID)
    → has_ancestor (with_row e ks) q ≡ (has_ancestor e q || is_member same_uid ks q)
ancestors_with_row e ks q =
    ancestors_with_set e (set.from_list ks) q ∙ ap (λ b. has_ancestor e q || b) (contains_listed ks q)

-- Adding several ancestors does not change the overlap.
pub overlap_with_row : (e : EntityView) (ks : List EntityUID) → overlap (with_row e ks) ≡ overlap e
overlap_with_row e ks = overlap_with_set e (set.from_list ks)

held_of : (x y : Bool) → x ≡ true → (x || y) ≡ true
held_of x y h = ap (λ b. b || y) h

-- The ancestors grow by the uids that a call adds, also if it fails.
pub grows_by_row : {T E : Type 0} (r : Result T E) (old new : EntityView) (ks : List EntityUID)
    → OnOk r (new ≡ with_row old ks) → OnErr r (new ≡ old)
    → Grows (has_ancestor old) (has_ancestor new) (is_member same_uid ks)
grows_by_row (Ok x) old new ks h g =
    let more = λ (q : EntityUID). ap (λ (e : EntityView). has_ancestor e q) h ∙ ancestors_with_row old ks q in
    record {
      stays = λ q e. more q ∙ held_of (has_ancestor old q) (is_member same_uid ks q) e;
      only = λ q e. sym (more q) ∙ e;
    }
grows_by_row (Err x) old new ks h g =
    record {
      stays = λ q e. ap (λ (e : EntityView). has_ancestor e q) g ∙ e;
      only = λ q e. held_of (has_ancestor old q) (is_member same_uid ks q)
          (sym (ap (λ (e : EntityView). has_ancestor e q) g) ∙ e);
    }

-- A property that adding several ancestors does not change is the same after a call that adds them or fails.
pub same_after_row : {T E X : Type 0} (f : EntityView → X)
    → ((e : EntityView) (ks : List EntityUID) → f (with_row e ks) ≡ f e)
    → (r : Result T E) (old new : EntityView) (ks : List EntityUID)
    → OnOk r (new ≡ with_row old ks) → OnErr r (new ≡ old) → f new ≡ f old
same_after_row f same (Ok x) old new ks h g = ap f h ∙ same old ks
same_after_row f same (Err x) old new ks h g = ap f g

-- An entity without parents and without indirect ancestors has no ancestors.
pub none_above : (parents indirect : set.FinSet uid_order) (i : Bool) → parents ≡ set.empty
    → (i ≡ true → indirect ≡ set.empty) → not i ≡ false
    → (q : EntityUID) → (set.contains parents q || set.contains indirect q) ≡ false
none_above parents indirect true f g k q =
    ap (λ s. set.contains s q || set.contains indirect q) f
    ∙ ap (λ s. set.contains (set.empty {R = uid_order}) q || set.contains s q) (g refl)
    ∙ ap (λ b. b || set.contains (set.empty {R = uid_order}) q) (set.contains-empty uid_order q)
    ∙ set.contains-empty uid_order q
none_above parents indirect false f g k q = absurd (cc)

or_turned : (s i p : Bool) → ((s || i) || p) ≡ (s || (p || i))
or_turned true i p = refl
or_turned false true true = refl
or_turned false true false = refl
or_turned false false true = refl
or_turned false false false = refl

-- A set with the ancestors of an entity: first the indirect ones, then the parents.
pub ancestors_inserted : (p i s : UidValues) (q : EntityUID) → set.contains (set.union (set.union s i) p) q
    ≡ (set.contains s q || (set.contains p q || set.contains i q))
ancestors_inserted p i s q =
    set.contains-union uid_order_total (set.union s i) p q
    ∙ ap (λ b. b || set.contains p q) (set.contains-union uid_order_total s i q)
    ∙ or_turned (set.contains s q) (set.contains i q) (set.contains p q)
