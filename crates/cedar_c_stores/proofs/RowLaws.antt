-- The parts that are collected edge by edge and term by term are the parts in the whole input.
use Rattle.std.specs.Prelude.{◌==◌, Err, MatchResult, Ok, Result}
use Rattle.std.proofs.Common.{◌≡◌, ap, sym, refl, ◌∙◌, ◌++◌, ◌+◌, ◌<◌, ◌≤◌, ℕ, suc, zero, List, [], ◌∷◌, Some, None}
use Rattle.std.proofs.Common.{length, map, if◌then◌else◌, take, Bool, subst, arith, ◌⊎◌, inl, inr}
use Rattle.std.proofs.lemmas.Bool.{eq-eqb, ne_eqb}
use Rattle.std.proofs.Math.ListN.{get_or, set}
use Rattle.std.proofs.lemmas.List.{append-nil, take_all, take_more}
use Rattle.std.proofs.lemmas.List.Elements.{filter_map-append}
use Rattle.std.proofs.lemmas.Option.{slice_get-get_or}
use Rattle.std.proofs.lemmas.Slice.Zip.{all_zipped_more}
use Rattle.std.specs.List.{AllByRecursion, AllZip, cons_option, slice_get}
use Rattle.std.specs.declared.alloc.Global.{Global}
use Rattle.std.specs.declared.rc.Rc.{Rc}
use Rattle.cedar_entity_maps.specs.Plain.{entities_in}
use Rattle.cedar_ids.specs.declared.entity.EntityUID.{EntityUID}
use Rattle.cedar_terms.specs.declared.partial_value.PartialValue.{PartialValue}
use Rattle.cedar_entity.specs.Fields.{Fields}
use Rattle.cedar_entity.specs.View.{EntityView}
use Rattle.cedar_c_lists.specs.Texts.{AreReadAt, IsInside}
use Rattle.cedar_c_lists.specs.declared.layout.Edge.{Edge}
use Rattle.cedar_c_lists.specs.declared.layout.Span.{Span}
use Rattle.cedar_c_lists.specs.declared.reason.Reason.{Reason}
use Rattle.cedar_c_lists.specs.declared.reason.Reason.TheVariants.{BadArgument, NoMemory, NotUtf8}
use Rattle.cedar_c_trees.specs.Partials.{IsPartialReadAs, IsPartialRefused}
use Rattle.cedar_c_trees.specs.Reads.{IsTextAt}
use Rattle.cedar_c_trees.specs.declared.node.Node.{Node}
use Rattle.cedar_c_stores.specs.Contents.{AreFromLists, Field, IsEntityOf, IsFieldOf, IsInputInRange, IsTermIn, IsTermUnread}
use Rattle.cedar_c_stores.specs.Contents.{IsNotFromLists, ListInput, EntityParts, field_by, fields_at, nodes_of, placed, entity_parts_at}
use Rattle.cedar_c_stores.specs.Lists.{AreEdgesOf, IsEdgeOf, parents_at}
use Rattle.cedar_c_stores.specs.declared.content.Term.{Term}
use Rattle.cedar_c_stores.specs.laws.Listed.{Gathered, IsSomeEdgeOut, IsUngathered, listed_from}
use Rattle.cedar_c_stores.specs.laws.Rows.{AreFirst, AreSaid, HasNodes, IsNoKeyAt, IsNoValueOf, IsSomeTermOut, IsTermOut}
use Rattle.cedar_c_stores.specs.laws.Rows.{IsUnsaid, IsValueOf, PutsAbove, PutsTerm, PutsTerms, changed_at, in_part}
use Rattle.cedar_c_stores.specs.laws.Rows.{said_of, with_above, with_field}
use Rattle.cedar_c_stores.proofs.Gathering.{inside_read, length_first, length_gathered, length_read, listed_bare}
use Rattle.cedar_c_stores.proofs.Gathering.{none_more, one_more}

-- ---- positions

placed_same : {A B : Type 0} (F G : ℕ → A → B) (i : ℕ) (xs : List A)
    → ((j : ℕ) (x : A) → i ≤ j → G j x ≡ F j x) → placed F i xs ≡ placed G i xs
placed_same F G i [] same = refl
placed_same F G i (x ∷ xs) same =
    ap (λ b. b ∷ placed F (i + 1) xs) (sym (same i x (omega arith)))
    ∙ ap (λ l. G i x ∷ l) (placed_same F G (i + 1) xs (λ j y h. same j y (omega (arith, h))))

-- Changing the item at position m, which is the k-th from position i on.
placed_changed : {A B : Type 0} (F G : ℕ → A → B) (f : B → B) (k m i : ℕ) (xs : List A) → m ≡ i + k → k < length xs
    → ((x : A) → G m x ≡ f (F m x)) → ((j : ℕ) (x : A) → (m ≡ j → ⊥) → G j x ≡ F j x)
    → changed_at k f (placed F i xs) ≡ placed G i xs
placed_changed F G f k m i [] at h here other = absurd (omega (arith, h))
placed_changed F G f zero m i (x ∷ xs) at h here other =
    let same : m ≡ i = omega (arith, at) in
    ap (λ b. b ∷ placed F (i + 1) xs) (sym (subst (λ n. G n x ≡ f (F n x)) same (here x)))
    ∙ ap (λ l. G i x ∷ l) (placed_same F G (i + 1) xs (λ j y g. other j y (λ q. absurd (omega (arith, at, g, q)))))
placed_changed F G f (suc k) m i (x ∷ xs) at h here other =
    ap (λ b. b ∷ changed_at k f (placed F (i + 1) xs)) (sym (other i x (λ q. absurd (omega (arith, at, q)))))
    ∙ ap (λ l. G i x ∷ l) (placed_changed F G f k m (i + 1) xs (omega (arith, at)) (omega (arith, h)) here other)

length_placed : {A B : Type 0} (F : ℕ → A → B) (i : ℕ) (xs : List A) → length (placed F i xs) ≡ length xs
length_placed F i [] = refl
length_placed F i (x ∷ xs) = ap suc (length_placed F (i + 1) xs)

length_changed : {A : Type 0} (k : ℕ) (f : A → A) (xs : List A) → length (changed_at k f xs) ≡ length xs
length_changed k f [] = refl
length_changed zero f (x ∷ xs) = refl
length_changed (suc k) f (x ∷ xs) = ap suc (length_changed k f xs)

-- Setting the item at a position to f of the old item is `changed_at`.
pub put_changed : {A : Type 0} (xs : List A) (k : ℕ) (x y : A) (f : A → A) → k < length xs → get_or xs k x ≡ x
    → y ≡ f x → set xs k y ≡ changed_at k f xs
put_changed [] k x y f l e s = absurd (omega (arith, l))
put_changed (z ∷ xs) zero x y f l e s = ap (λ w. w ∷ xs) (s ∙ ap f (sym e))
put_changed (z ∷ xs) (suc k) x y f l e s = ap (λ l. z ∷ l) (put_changed xs k x y f (omega (arith, l)) e s)

-- ---- each item of a list

all_more : {A : Type 0} (P : A → Type 0) (xs : List A) (x : A) → AllByRecursion P xs → P x
    → AllByRecursion P (xs ++ x ∷ [])
all_more P [] x all one = (one, tt)
all_more P (y ∷ xs) x all one = (all.0, all_more P xs x all.1 one)

all_at : {A : Type 0} (P : A → Type 0) (xs : List A) → AllByRecursion P xs → (k : ℕ) (x : A)
    → slice_get xs k ≡ Some x → P x
all_at P [] all k x at = absurd (cc)
all_at P (y ∷ xs) all zero x at = let same : y ≡ x = cc in subst P same all.0
all_at P (y ∷ xs) all (suc k) x at = all_at P xs all.1 k x at

-- ---- indirect ancestors

-- An edge appends its target to the row of its source.
gather_above : (us : List EntityUID) (es far : List Edge) (e : Edge) (u : EntityUID) (xs : List EntityUID)
    → slice_get us e.to ≡ Some u → e.from < length xs
    → changed_at e.from (with_above u) (placed (entity_parts_at us es far []) 0 xs)
    ≡ placed (entity_parts_at us es (far ++ e ∷ []) []) 0 xs
gather_above us es far e u xs found h =
    placed_changed (entity_parts_at us es far []) (entity_parts_at us es (far ++ e ∷ []) []) (with_above u) e.from e.from 0 xs
    (omega arith) h
    (λ x i. record {
      uid = x;
      parents = parents_at us es e.from;
      above = one_more us far e e.from u refl found i;
      attrs = [];
      tags = [];
    })
    (λ j x other i. record {
      uid = x;
      parents = parents_at us es j;
      above = none_more us far e j other i;
      attrs = [];
      tags = [];
    })

above_more : (us : List EntityUID) (far : List Edge) (e : Edge) (u : EntityUID) (old mid new : List EntityParts)
    → PutsAbove us far old mid → slice_get us e.to ≡ Some u → e.to < length us → e.from < length mid
    → new ≡ changed_at e.from (with_above u) mid → PutsAbove us (far ++ e ∷ []) old new
above_more us far e u old mid new p found led within put = record {
  rows = λ es xs so.
      let now = p.rows es xs so in
      put ∙ ap (changed_at e.from (with_above u)) now
      ∙ gather_above us es far e u xs found
      (subst (λ n. e.from < n) (ap length now ∙ length_placed (entity_parts_at us es far []) 0 xs) within);
  many = ap length put ∙ length_changed e.from (with_above u) mid ∙ p.many;
  range = all_more (IsEdgeOf (length old) (length us)) far e p.range
      (subst (λ n. e.from < n) p.many within, led);
}

-- Without edges nothing is added.
pub none_above : (us : List EntityUID) (rows : List EntityParts) → PutsAbove us [] rows rows
none_above us rows = record { rows = λ es xs so. so; many = refl; range = tt }

-- The next edge is added.
pub above_next : (us : List EntityUID) (far : List Edge) (k : ℕ) (d : Edge) (u : EntityUID) (old mid new : List EntityParts)
    → k < length far → PutsAbove us (take k far) old mid → slice_get us (get_or far k d).to ≡ Some u
    → (get_or far k d).to < length us → (get_or far k d).from < length mid
    → new ≡ changed_at (get_or far k d).from (with_above u) mid → PutsAbove us (take (k + 1) far) old new
above_next us far k d u old mid new l p found led within put =
    rw (take_more far k d l) (above_more us (take k far) (get_or far k d) u old mid new p found led within put)

-- All edges are added.
pub above_done : (us : List EntityUID) (far : List Edge) (k : ℕ) (old new : List EntityParts) → length far ≤ k
    → PutsAbove us (take k far) old new → PutsAbove us far old new
above_done us far k old new l p = subst (λ es. PutsAbove us es old new) (take_all k far l) p

-- ---- attributes and tags

field_here : (fs : List Field) (p : ℕ) (f : Field)
    → fields_at (fs ++ f ∷ []) p f.of ≡ fields_at fs p f.of ++ cons_option (in_part p f.part f.key f.value) []
field_here fs p f =
    filter_map-append (field_by p f.of) fs (f ∷ [])
    ∙ ap (λ (b : Bool). fields_at fs p f.of
    ++ cons_option (if b then (if f.part == p then Some (f.key, f.value) else None) else None) [])
    (eq-eqb f.of f.of refl)

field_elsewhere : (fs : List Field) (p j : ℕ) (f : Field) → (f.of ≡ j → ⊥)
    → fields_at (fs ++ f ∷ []) p j ≡ fields_at fs p j
field_elsewhere fs p j f other =
    filter_map-append (field_by p j) fs (f ∷ [])
    ∙ ap (λ (b : Bool). fields_at fs p j
    ++ cons_option (if b then (if f.part == p then Some (f.key, f.value) else None) else None) [])
    (ne_eqb f.of j other)
    ∙ append-nil (fields_at fs p j)

gather_field : (us : List EntityUID) (es far : List Edge) (fs : List Field) (f : Field) (xs : List EntityUID)
    → f.of < length xs
    → changed_at f.of (with_field f.part f.key f.value) (placed (entity_parts_at us es far fs) 0 xs)
    ≡ placed (entity_parts_at us es far (fs ++ f ∷ [])) 0 xs
gather_field us es far fs f xs h =
    placed_changed (entity_parts_at us es far fs) (entity_parts_at us es far (fs ++ f ∷ [])) (with_field f.part f.key f.value) f.of f.of
    0 xs (omega arith) h
    (λ x i. record {
      uid = x;
      parents = parents_at us es f.of;
      above = parents_at us far f.of;
      attrs = field_here fs 0 f i;
      tags = field_here fs 1 f i;
    })
    (λ j x other i. record {
      uid = x;
      parents = parents_at us es j;
      above = parents_at us far j;
      attrs = field_elsewhere fs 0 j f other i;
      tags = field_elsewhere fs 1 j f other i;
    })

terms_more : (text : List ℕ) (ns : List Node) (ts : List Term) (t : Term) (old mid new : List EntityParts)
    → PutsTerms text ns ts old mid → PutsTerm text ns t mid new → PutsTerms text ns (ts ++ t ∷ []) old new
terms_more text ns ts t old mid new p s =
    let f = s.field in
    let within : f.of < length mid = subst (λ n. n < length mid) (sym s.read.of) s.range.of in
    record {
      fields = p.fields ++ f ∷ [];
      read = all_zipped_more (IsFieldOf text ns) ts p.fields t f p.read s.read;
      rows = λ us es far xs so.
          let now = p.rows us es far xs so in
          s.put ∙ ap (changed_at f.of (with_field f.part f.key f.value)) now
          ∙ gather_field us es far p.fields f xs
          (subst (λ n. f.of < n) (ap length now ∙ length_placed (entity_parts_at us es far p.fields) 0 xs) within);
      many = ap length s.put ∙ length_changed f.of (with_field f.part f.key f.value) mid ∙ p.many;
      range = all_more (IsTermIn text ns (length old)) ts t p.range
          (subst (λ n. IsTermIn text ns n t) p.many s.range);
    }

-- Without terms nothing is added.
pub no_terms : (text : List ℕ) (ns : List Node) (rows : List EntityParts) → PutsTerms text ns [] rows rows
no_terms text ns rows = record { fields = []; read = tt; rows = λ us es far xs so. so; many = refl; range = tt }

-- The next term is added.
pub terms_next : (text : List ℕ) (ns : List Node) (ts : List Term) (k : ℕ) (d : Term) (old mid new : List EntityParts)
    → k < length ts → PutsTerms text ns (take k ts) old mid → PutsTerm text ns (get_or ts k d) mid new
    → PutsTerms text ns (take (k + 1) ts) old new
terms_next text ns ts k d old mid new l p s =
    rw (take_more ts k d l) (terms_more text ns (take k ts) (get_or ts k d) old mid new p s)

-- All terms are added.
pub terms_done : (text : List ℕ) (ns : List Node) (ts : List Term) (k : ℕ) (old new : List EntityParts) → length ts ≤ k
    → PutsTerms text ns (take k ts) old new → PutsTerms text ns ts old new
terms_done text ns ts k old new l p = subst (λ us. PutsTerms text ns us old new) (take_all k ts l) p

-- A term adds no field.
pub term_out : (text : List ℕ) (ns : List Node) (ts : List Term) (k : ℕ) (d : Term) (old mid : List EntityParts) (w : Reason)
    → k < length ts → PutsTerms text ns (take k ts) old mid → IsTermOut text ns (length mid) (get_or ts k d) w
    → IsSomeTermOut text ns (length old) ts w
term_out text ns ts k d old mid w l p out =
    (k, get_or ts k d, slice_get-get_or ts k d l, subst (λ n. IsTermOut text ns n (get_or ts k d) w) p.many out)

-- An edge is out of range.
pub above_out : (us : List EntityUID) (far : List Edge) (k : ℕ) (d : Edge) (old mid : List EntityParts) (w : Reason)
    → k < length far → PutsAbove us (take k far) old mid → (IsEdgeOf (length mid) (length us) (get_or far k d) → ⊥)
    → w ≡ BadArgument → IsSomeEdgeOut (length old) (length us) far w
above_out us far k d old mid w l p out is =
    inr (
      is,
      (
        k,
        get_or far k d,
        slice_get-get_or far k d l,
        subst (λ n. IsEdgeOf n (length us) (get_or far k d) → ⊥) p.many out,
      ),
    )

-- ---- one term

-- The key, the value and the position of a term are correct.
pub term_put : (text : List ℕ) (ns : List Node) (t : Term) (key : List ℕ) (value : PartialValue) (old new : List EntityParts)
    → IsTextAt text t.key key → IsValueOf text ns t value → t.of < length old → t.part ≤ 1
    → new ≡ changed_at t.of (with_field t.part key value) old → PutsTerm text ns t old new
term_put text ns t key value old new is has within part put = record {
  field = record { of = t.of; part = t.part; key = key; value = value };
  read = record { of = refl; part = refl; key = is; value = has.1 };
  range = record { of = within; part = part; key = is.0; from = has.0.0; to = has.0.1 };
  put = put;
}

-- The nodes of a term are the nodes that are decoded.
pub value_read : (text : List ℕ) (ns : List Node) (t : Term) (found : List Node) (r : Result PartialValue Reason)
    → HasNodes ns t → found ≡ nodes_of ns t
    → MatchResult r (IsPartialReadAs text found) (IsPartialRefused text found)
    → MatchResult r (IsValueOf text ns t) (IsNoValueOf text ns t)
value_read text ns t found (Ok v) has same is = (has, subst (λ (l : List Node). IsPartialReadAs text l v) same is)
value_read text ns t found (Err w) has same is =
    inr (has, subst (λ (l : List Node). IsPartialRefused text l w) same is)

pub key_out : (text : List ℕ) (ns : List Node) (n : ℕ) (t : Term) (w : Reason) → IsNoKeyAt text t.key w
    → IsTermOut text ns n t w
key_out text ns n t w (inl e) = inl e
key_out text ns n t w (inr (inl p)) = inr (inl (p.0, λ r. p.1 r.key))
key_out text ns n t w (inr (inr p)) = inr (inr (inl p))

pub value_out : (text : List ℕ) (ns : List Node) (n : ℕ) (t : Term) (w : Reason) → IsNoValueOf text ns t w
    → IsTermOut text ns n t w
value_out text ns n t w (inl p) = inr (inl (p.0, λ r. p.1 (r.from, r.to)))
value_out text ns n t w (inr p) = inr (inr (inr (p.0.0, p.0.1, p.1)))

pub place_out : (text : List ℕ) (ns : List Node) (n : ℕ) (t : Term) (w : Reason)
    → (w ≡ NoMemory) ⊎ ((w ≡ BadArgument) × ((n ≤ t.of) ⊎ (1 < t.part))) → IsTermOut text ns n t w
place_out text ns n t w (inl e) = inl e
place_out text ns n t w (inr (e, inl h)) = inr (inl (e, λ r. absurd (omega (arith, h, r.of))))
place_out text ns n t w (inr (e, inr h)) = inr (inl (e, λ r. absurd (omega (arith, h, r.part))))

-- ---- the first uids

said_of_listed : (us : List EntityUID) (es : List Edge) (i : ℕ) (xs : List EntityUID)
    → map said_of (listed_from us es i xs) ≡ placed (entity_parts_at us es [] []) i xs
said_of_listed us es i [] = refl
said_of_listed us es i (x ∷ xs) = ap (λ l. entity_parts_at us es [] [] i x ∷ l) (said_of_listed us es (i + 1) xs)

-- The parts from edges to parents.
pub first_by : (us : List EntityUID) (es : List Edge) (n : ℕ) (first : List EntityUID) (gs hs : List Gathered)
    (rows : List EntityParts) → n ≤ length us → first ≡ take n us → gs ≡ map (λ u. (u, [])) first
    → ((xs : List EntityUID) → gs ≡ listed_from us [] 0 xs → hs ≡ listed_from us es 0 xs)
    → AreEdgesOf (length gs) (length us) es → rows ≡ map said_of hs → AreFirst us n es rows
first_by us es n first gs hs rows few front bare put range made = record {
  enough = few;
  leading = subst (λ k. AreEdgesOf k (length us) es) (length_gathered us n first gs few front bare) range;
  said = made ∙ ap (map said_of)
      (put (take n us) (bare ∙ ap (map (λ u. (u, []))) front ∙ listed_bare us 0 (take n us)))
      ∙ said_of_listed us es 0 (take n us);
}

length_of_first : (us : List EntityUID) (n : ℕ) (es : List Edge) (rows : List EntityParts) → AreFirst us n es rows
    → length rows ≡ n
length_of_first us n es rows f =
    ap length f.said ∙ length_placed (entity_parts_at us es [] []) 0 (take n us) ∙ length_first us n f.enough

-- ---- the whole input

-- The rows are the parts of the entities of the input.
pub said_by : (us : List EntityUID) (L : ListInput) (first mid rows : List EntityParts) → AreFirst us L.count L.edges first
    → PutsAbove us L.above first mid → PutsTerms L.text L.nodes L.terms mid rows → AreSaid us L rows
said_by us L first mid rows f a t =
    let many : length first ≡ L.count = length_of_first us L.count L.edges first f in record {
      enough = f.enough;
      leading = f.leading;
      above = λ k e at. subst (λ n. IsEdgeOf n (length us) e) many
          (all_at (IsEdgeOf (length first) (length us)) L.above a.range k e at);
      terms = subst (λ n. AllByRecursion (IsTermIn L.text L.nodes n) L.terms) (a.many ∙ many) t.range;
      fields = t.fields;
      read = t.read;
      said = t.rows us L.edges L.above (take L.count us) (a.rows L.edges (take L.count us) f.said);
    }

pub unsaid_above : (us : List EntityUID) (L : ListInput) (first : List EntityParts) (w : Reason) → AreFirst us L.count L.edges first
    → IsSomeEdgeOut (length first) (length us) L.above w → IsUnsaid us L w
unsaid_above us L first w f out =
    inr (inl (subst (λ n. IsSomeEdgeOut n (length us) L.above w) (length_of_first us L.count L.edges first f) out))

pub unsaid_terms : (us : List EntityUID) (L : ListInput) (first mid : List EntityParts) (w : Reason)
    → AreFirst us L.count L.edges first → PutsAbove us L.above first mid
    → IsSomeTermOut L.text L.nodes (length mid) L.terms w → IsUnsaid us L w
unsaid_terms us L first mid w f a out =
    inr (inr (subst (λ n. IsSomeTermOut L.text L.nodes n L.terms w)
    (a.many ∙ length_of_first us L.count L.edges first f) out))

made_more : (rows : List EntityParts) (list : List (Rc EntityView Global)) (s : EntityParts) (r : Rc EntityView Global)
    → AllZip IsEntityOf rows (entities_in list) → IsEntityOf s r.value
    → AllZip IsEntityOf (rows ++ s ∷ []) (entities_in (list ++ r ∷ []))
made_more [] [] s r z m = (m, tt)
made_more [] (x ∷ list) s r z m = absurd z
made_more (y ∷ rows) [] s r z m = absurd z
made_more (y ∷ rows) (x ∷ list) s r z m = (z.0, made_more rows list s r z.1 m)

-- The next row becomes an entity.
pub made_next : (rows : List EntityParts) (list new : List (Rc EntityView Global)) (s : EntityParts) (r : Rc EntityView Global)
    → AllZip IsEntityOf rows (entities_in list) → IsEntityOf s r.value → new ≡ list ++ r ∷ []
    → AllZip IsEntityOf (rows ++ s ∷ []) (entities_in new)
made_next rows list new s r z m step =
    subst (λ (l : List (Rc EntityView Global)). AllZip IsEntityOf (rows ++ s ∷ []) (entities_in l)) (sym step)
    (made_more rows list s r z m)

-- The entities with these parts are the entities of the input.
pub laid_of : (L : ListInput) (us shared : List EntityUID) (rows : List EntityParts) (list : List EntityView)
    → AreReadAt L.text us L.uids → shared ≡ us → AreSaid shared L rows → AllZip IsEntityOf rows list → AreFromLists L list
laid_of L us shared rows list read same said made =
    let many : length shared ≡ length L.uids = ap length same ∙ length_read L.text us L.uids read in record {
      in_range = record {
        lists = record {
          inside = inside_read L.text us L.uids read;
          enough = omega (arith, said.enough, many);
          leading = subst (λ m. AreEdgesOf L.count m L.edges) many said.leading;
        };
        above = subst (λ m. AreEdgesOf L.count m L.above) many said.above;
        terms = said.terms;
      };
      uids = us;
      read = read;
      fields = said.fields;
      terms = said.read;
      entities = subst (λ l. AllZip IsEntityOf l list)
          (said.said ∙ ap (λ l. placed (entity_parts_at l L.edges L.above said.fields) 0 (take L.count l)) same) made;
    }

-- The entities are not created because something is out of range or cannot be read.
pub unlaid_by : (L : ListInput) (us shared : List EntityUID) (w : Reason) → AreReadAt L.text us L.uids → shared ≡ us
    → IsUnsaid shared L w → IsNotFromLists L w
unlaid_by L us shared w read same (inl (inl p)) =
    inr (inl (
      p.0,
      λ r.
          let many : length shared ≡ length L.uids = ap length same ∙ length_read L.text us L.uids read in
          absurd (omega (arith, p.1, many, r.lists.enough)),
    ))
unlaid_by L us shared w read same (inl (inr (inl e))) = inl (inl e)
unlaid_by L us shared w read same (inl (inr (inr p))) =
    inr (inl (
      p.0,
      λ r. p.1.3 (subst (λ m. IsEdgeOf L.count m p.1.1)
          (sym (ap length same ∙ length_read L.text us L.uids read)) (r.lists.leading p.1.0 p.1.1 p.1.2)),
    ))
unlaid_by L us shared w read same (inr (inl (inl e))) = inl (inl e)
unlaid_by L us shared w read same (inr (inl (inr p))) =
    inr (inl (
      p.0,
      λ r. p.1.3 (subst (λ m. IsEdgeOf L.count m p.1.1)
          (sym (ap length same ∙ length_read L.text us L.uids read)) (r.above p.1.0 p.1.1 p.1.2)),
    ))
unlaid_by L us shared w read same (inr (inr (k, t, at, inl e))) = inl (inl e)
unlaid_by L us shared w read same (inr (inr (k, t, at, inr (inl p)))) =
    inr (inl (p.0, λ r. p.1 (all_at (IsTermIn L.text L.nodes L.count) L.terms r.terms k t at)))
unlaid_by L us shared w read same (inr (inr (k, t, at, inr (inr p)))) = inr (inr (k, t, at, p))
