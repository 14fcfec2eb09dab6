-- The parents that are collected edge by edge are the parents in all edges.
use Rattle.std.proofs.Common.{◌≡◌, ap, sym, refl, ◌∙◌, ◌++◌, ◌+◌, ◌<◌, ◌≤◌, ℕ, suc, zero, List, [], ◌∷◌, Some, None}
use Rattle.std.proofs.Common.{length, map, if◌then◌else◌, take, Bool, subst, arith, ◌⊎◌, inl, inr}
use Rattle.std.proofs.lemmas.Bool.{cases_lt, eq-eqb, ne_eqb}
use Rattle.std.proofs.Math.ListN.{get_or, set}
use Rattle.std.proofs.lemmas.List.{append-nil, take_more}
use Rattle.std.proofs.lemmas.List.Elements.{filter_map-append}
use Rattle.std.proofs.lemmas.Option.{slice_get-get_or, slice_get_within}
use Rattle.std.specs.FinSet.{contains-empty}
use Rattle.std.specs.List.{cons_option, slice_get}
use Rattle.cedar_ids.specs.UidOf.{uid_order}
use Rattle.cedar_ids.specs.declared.entity.EntityUID.{EntityUID}
use Rattle.cedar_entity.specs.View.{EntityView}
use Rattle.cedar_entity_maps.specs.Plain.{HaveNoIndirect}
use Rattle.cedar_c_lists.specs.Texts.{AreReadAt, IsInside}
use Rattle.cedar_c_lists.specs.declared.layout.Span.{Span}
use Rattle.cedar_c_stores.specs.Lists.{AreEdgesOf, AreListed, IsEdgeOf, IsUnlisted, entities_by, entities_from}
use Rattle.cedar_c_stores.specs.Lists.{parent_by, parents_at, with_parents}
use Rattle.cedar_c_lists.specs.declared.layout.Edge.{Edge}
use Rattle.cedar_c_stores.specs.laws.Listed.{Gathered, IsGathered, IsSomeEdgeOut, IsUngathered, listed_from}
use Rattle.cedar_c_stores.specs.laws.Listed.{with_edge}
use Rattle.cedar_c_lists.specs.declared.reason.Reason.{Reason}
use Rattle.cedar_c_lists.specs.declared.reason.Reason.TheVariants.{NoMemory, BadArgument}

-- An edge from another position adds no parent.
pub none_more : (us : List EntityUID) (es : List Edge) (e : Edge) (i : ℕ) → (e.from ≡ i → ⊥)
    → parents_at us (es ++ e ∷ []) i ≡ parents_at us es i
none_more us es e i other =
    filter_map-append (parent_by us i) es (e ∷ [])
    ∙ ap (λ (b : Bool). parents_at us es i ++ cons_option (if b then slice_get us e.to else None) [])
    (ne_eqb e.from i other)
    ∙ append-nil (parents_at us es i)

-- An edge from the position adds its target.
pub one_more : (us : List EntityUID) (es : List Edge) (e : Edge) (i : ℕ) (p : EntityUID) → e.from ≡ i
    → slice_get us e.to ≡ Some p → parents_at us (es ++ e ∷ []) i ≡ parents_at us es i ++ p ∷ []
one_more us es e i p same found =
    filter_map-append (parent_by us i) es (e ∷ [])
    ∙ ap (λ (b : Bool). parents_at us es i ++ cons_option (if b then slice_get us e.to else None) [])
    (eq-eqb e.from i same)
    ∙ ap (λ o. parents_at us es i ++ cons_option o []) found

-- An edge from an earlier position changes no later items.
later_same : (us : List EntityUID) (es : List Edge) (e : Edge) (i : ℕ) (xs : List EntityUID) → e.from < i
    → listed_from us (es ++ e ∷ []) i xs ≡ listed_from us es i xs
later_same us es e i [] h = refl
later_same us es e i (x ∷ xs) h =
    ap (λ ps. (x, ps) ∷ listed_from us (es ++ e ∷ []) (i + 1) xs)
    (none_more us es e i (λ q. absurd (omega (arith, h, q))))
    ∙ ap (λ l. (x, parents_at us es i) ∷ l) (later_same us es e (i + 1) xs (omega (arith, h)))

-- An edge appends its target to the item at its source.
gather_at : (us : List EntityUID) (es : List Edge) (e : Edge) (p : EntityUID) (k i : ℕ) (xs : List EntityUID)
    → e.from ≡ i + k → slice_get us e.to ≡ Some p → k < length xs →
    with_edge k p (listed_from us es i xs) ≡ listed_from us (es ++ e ∷ []) i xs
gather_at us es e p k i [] at found h = absurd (omega (arith, h))
gather_at us es e p zero i (x ∷ xs) at found h =
    ap (λ ps. (x, ps) ∷ listed_from us es (i + 1) xs) (sym (one_more us es e i p (omega (arith, at)) found))
    ∙ ap (λ l. (x, parents_at us (es ++ e ∷ []) i) ∷ l) (sym (later_same us es e (i + 1) xs (omega (arith, at))))
gather_at us es e p (suc k) i (x ∷ xs) at found h =
    ap (λ ps. (x, ps) ∷ with_edge k p (listed_from us es (i + 1) xs))
    (sym (none_more us es e i (λ q. absurd (omega (arith, at, q)))))
    ∙ ap (λ l. (x, parents_at us (es ++ e ∷ []) i) ∷ l)
    (gather_at us es e p k (i + 1) xs (omega (arith, at)) found (omega (arith, h)))

pub length_listed : (us : List EntityUID) (es : List Edge) (i : ℕ) (xs : List EntityUID)
    → length (listed_from us es i xs) ≡ length xs
length_listed us es i [] = refl
length_listed us es i (x ∷ xs) = ap suc (length_listed us es (i + 1) xs)

-- The same for the list from the first position on.
pub gather : (us : List EntityUID) (es : List Edge) (e : Edge) (p : EntityUID) (xs : List EntityUID)
    → slice_get us e.to ≡ Some p → e.from < length (listed_from us es 0 xs) →
    with_edge e.from p (listed_from us es 0 xs) ≡ listed_from us (es ++ e ∷ []) 0 xs
gather us es e p xs found h =
    gather_at us es e p e.from 0 xs (omega arith) found (subst (λ n. e.from < n) (length_listed us es 0 xs) h)

-- Without edges there are no parents.
pub listed_bare : (us : List EntityUID) (i : ℕ) (xs : List EntityUID) → map (λ u. (u, [])) xs ≡ listed_from us [] i xs
listed_bare us i [] = refl
listed_bare us i (x ∷ xs) = ap (λ l. (x, []) ∷ l) (listed_bare us (i + 1) xs)

-- The collected uids and parents form the entities.
pub made_of_listed : (us : List EntityUID) (es : List Edge) (i : ℕ) (xs : List EntityUID)
    → map (λ p. with_parents p.0 p.1) (listed_from us es i xs) ≡ entities_from us es i xs
made_of_listed us es i [] = refl
made_of_listed us es i (x ∷ xs) = ap (λ l. with_parents x (parents_at us es i) ∷ l) (made_of_listed us es (i + 1) xs)

-- The entities have no indirect ancestors.
pub made_bare : (us : List EntityUID) (es : List Edge) (i : ℕ) (xs : List EntityUID)
    → HaveNoIndirect (entities_from us es i xs)
made_bare us es i [] = tt
made_bare us es i (x ∷ xs) = (λ q. contains-empty uid_order q, made_bare us es (i + 1) xs)

length_with_edge : (k : ℕ) (p : EntityUID) (gs : List Gathered) → length (with_edge k p gs) ≡ length gs
length_with_edge k p [] = refl
length_with_edge zero p (g ∷ gs) = refl
length_with_edge (suc k) p (g ∷ gs) = ap suc (length_with_edge k p gs)

-- The next edge extends the collected parents.
pub gather_next : (us : List EntityUID) (es : List Edge) (k : ℕ) (d : Edge) (p : EntityUID) (gs hs : List Gathered)
    (xs : List EntityUID) → k < length es →
    gs ≡ listed_from us (take k es) 0 xs → slice_get us (get_or es k d).to ≡ Some p → (get_or es k d).from < length gs
    → hs ≡ with_edge (get_or es k d).from p gs →
    hs ≡ listed_from us (take (k + 1) es) 0 xs
gather_next us es k d p gs hs xs l so found within step =
    step ∙ ap (with_edge (get_or es k d).from p) so
    ∙ gather us (take k es) (get_or es k d) p xs found (subst (λ l. (get_or es k d).from < length l) so within)
    ∙ ap (λ l. listed_from us l 0 xs) (sym (take_more es k d l))

pub length_next : (k : ℕ) (p : EntityUID) (gs hs : List Gathered) (n : ℕ) → length gs ≡ n → hs ≡ with_edge k p gs
    → length hs ≡ n
length_next k p gs hs n so step = ap length step ∙ length_with_edge k p gs ∙ so

-- The next edge is in range.
pub within_next : (us : List EntityUID) (es : List Edge) (k : ℕ) (d : Edge) (p : EntityUID) (n : ℕ) → k < length es
    → ((j : ℕ) (e : Edge) → j < k → slice_get es j ≡ Some e → IsEdgeOf n (length us) e)
    → slice_get us (get_or es k d).to ≡ Some p → (get_or es k d).from < n
    → (j : ℕ) (e : Edge) → j < k + 1 → slice_get es j ≡ Some e → IsEdgeOf n (length us) e
within_next us es k d p n l before found within j e below at =
    elim (cases_lt j k) [
      | inl lt ↦ before j e lt at
      | inr ge ↦
          let here : j ≡ k = omega arith in
          let same : Some (get_or es k d) ≡ Some e =
          sym (slice_get-get_or es k d l) ∙ ap (slice_get es) (sym here) ∙ at in
          let one : get_or es k d ≡ e = cc in
          subst (IsEdgeOf n (length us)) one (within, slice_get_within us (get_or es k d).to p found)
    ]

-- An edge is out of range.
pub edge_out : (n m : ℕ) (es : List Edge) (k : ℕ) (d : Edge) (w : Reason) → k < length es
    → (IsEdgeOf n m (get_or es k d) → ⊥) → (w ≡ NoMemory) ⊎ (w ≡ BadArgument) → IsSomeEdgeOut n m es w
edge_out n m es k d w l out (inl e) = inl e
edge_out n m es k d w l out (inr e) = inr (e, (k, get_or es k d, slice_get-get_or es k d l, out))

-- Setting the item at a position to the item with one more parent is `with_edge`.
pub push_new : (gs : List Gathered) (k : ℕ) (g h : Gathered) (p : EntityUID) → k < length gs → get_or gs k g ≡ g
    → h ≡ (g.0, g.1 ++ p ∷ []) → set gs k h ≡ with_edge k p gs
push_new [] k g h p l e s = absurd (omega (arith, l))
push_new (x ∷ gs) zero g h p l e s = ap (λ y. y ∷ gs) (s ∙ ap (λ (y : Gathered). (y.0, y.1 ++ p ∷ [])) (sym e))
push_new (x ∷ gs) (suc k) g h p l e s = ap (λ l. x ∷ l) (push_new gs k g h p (omega (arith, l)) e s)

pub length_first : (us : List EntityUID) (n : ℕ) → n ≤ length us → length (take n us) ≡ n
length_first us zero l = refl
length_first [] (suc n) l = absurd (omega (arith, l))
length_first (u ∷ us) (suc n) l = ap suc (length_first us n (omega (arith, l)))

length_bare : (us : List EntityUID) → length {A = Gathered} (map (λ u. (u, [])) us) ≡ length us
length_bare [] = refl
length_bare (u ∷ us) = ap suc (length_bare us)

pub length_gathered : (us : List EntityUID) (n : ℕ) (first : List EntityUID) (gs : List Gathered) → n ≤ length us
    → first ≡ take n us → gs ≡ map (λ u. (u, [])) first → length gs ≡ n
length_gathered us n first gs few front bare =
    ap length bare ∙ length_bare first ∙ ap length front ∙ length_first us n few

-- The entities with the first uids and the parents in the edges.
made_of_edges : (us : List EntityUID) (es : List Edge) (n : ℕ) (first : List EntityUID) (gs hs : List Gathered)
    (L : List EntityView) → first ≡ take n us → gs ≡ map (λ u. (u, [])) first →
    ((xs : List EntityUID) → gs ≡ listed_from us [] 0 xs → hs ≡ listed_from us es 0 xs)
    → L ≡ map (λ p. with_parents p.0 p.1) hs → L ≡ entities_by us es n
made_of_edges us es n first gs hs L front bare put made =
    made ∙ ap (map (λ p. with_parents p.0 p.1))
    (put (take n us) (bare ∙ ap (map (λ u. (u, []))) front ∙ listed_bare us 0 (take n us)))
    ∙ made_of_listed us es 0 (take n us)

-- The first uids are collected if there are enough uids and the edges are in range.
pub gathered_by : (us : List EntityUID) (es : List Edge) (n : ℕ) (first : List EntityUID) (gs hs : List Gathered)
    (L : List EntityView) → n ≤ length us → first ≡ take n us → gs ≡ map (λ u. (u, [])) first →
    ((xs : List EntityUID) → gs ≡ listed_from us [] 0 xs → hs ≡ listed_from us es 0 xs)
    → AreEdgesOf (length gs) (length us) es → L ≡ map (λ p. with_parents p.0 p.1) hs → IsGathered us n es L
gathered_by us es n first gs hs L few front bare put range made = record {
  enough = few;
  leading = subst (λ k. AreEdgesOf k (length us) es) (length_gathered us n first gs few front bare) range;
  entities = made_of_edges us es n first gs hs L front bare put made;
}

-- An edge is out of range of the first uids.
pub out_of_first : (us : List EntityUID) (es : List Edge) (n : ℕ) (first : List EntityUID) (gs : List Gathered)
    (w : Reason) → n ≤ length us → first ≡ take n us → gs ≡ map (λ u. (u, [])) first →
    IsSomeEdgeOut (length gs) (length us) es w → IsUngathered (length us) n es w
out_of_first us es n first gs w few front bare out =
    inr (subst (λ k. IsSomeEdgeOut k (length us) es w) (length_gathered us n first gs few front bare) out)

-- There are as many uids as spans from which they are parsed.
pub length_read : (text : List ℕ) (us : List EntityUID) (spans : List Span) → AreReadAt text us spans
    → length us ≡ length spans
length_read text [] [] r = refl
length_read text [] (s ∷ spans) r = absurd r
length_read text (u ∷ us) [] r = absurd r
length_read text (u ∷ us) (s ∷ spans) r = ap suc (length_read text us spans r.1)

-- Each span from which a uid is parsed is within the text.
pub inside_read : (text : List ℕ) (us : List EntityUID) (spans : List Span) → AreReadAt text us spans
    → (k : ℕ) (s : Span) → slice_get spans k ≡ Some s → IsInside text s
inside_read text us [] r k s at = absurd (cc)
inside_read text [] (x ∷ spans) r k s at = absurd r
inside_read text (u ∷ us) (x ∷ spans) r zero s at = let same : x ≡ s = cc in subst (IsInside text) same r.0.0
inside_read text (u ∷ us) (x ∷ spans) r (suc k) s at = inside_read text us spans r.1 k s at

-- The list has the entities of the input, which is in range.
pub listed_of : (text : List ℕ) (spans : List Span) (n : ℕ) (es : List Edge) (us shared : List EntityUID)
    (L : List EntityView) → AreReadAt text us spans → shared ≡ us → IsGathered shared n es L
    → AreListed text spans n es L
listed_of text spans n es us shared L read same made =
    let many : length shared ≡ length spans = ap length same ∙ length_read text us spans read in
    let entities : L ≡ entities_by us es n = made.entities ∙ ap (λ l. entities_by l es n) same in
    record {
      in_range = record {
        inside = inside_read text us spans read;
        enough = omega (arith, made.enough, many);
        leading = subst (λ m. AreEdgesOf n m es) many made.leading;
      };
      uids = us;
      read = read;
      entities = entities;
      bare = subst HaveNoIndirect (sym entities) (made_bare us es 0 (take n us));
    }

-- The list is not created because something is out of range.
pub unlisted_by : (text : List ℕ) (spans : List Span) (n : ℕ) (es : List Edge) (us shared : List EntityUID) (w : Reason)
    → AreReadAt text us spans → shared ≡ us → IsUngathered (length shared) n es w → IsUnlisted text spans n es w
unlisted_by text spans n es us shared w read same (inl p) =
    inr (
      p.0,
      λ r. let many : length shared ≡ length spans = ap length same ∙ length_read text us spans read in
          absurd (omega (arith, p.1, many, r.enough)),
    )
unlisted_by text spans n es us shared w read same (inr (inl e)) = inl (inl e)
unlisted_by text spans n es us shared w read same (inr (inr p)) =
    inr (
      p.0,
      λ r. p.1.3 (subst (λ m. IsEdgeOf n m p.1.1) (sym (ap length same ∙ length_read text us spans read))
          (r.leading p.1.0 p.1.1 p.1.2)),
    )
