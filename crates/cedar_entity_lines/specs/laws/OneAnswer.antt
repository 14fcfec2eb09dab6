-- Each command on the store has exactly one effect and one output.
use Rattle.std.specs.Prelude.{◌≡◌, ℕ, List, [], ◌∷◌, ◌++◌, codes, Bool, true, false, ◌||◌}
use Rattle.std.proofs.Common.{ap, sym, refl, subst, ◌∙◌, inl, inr}
use Rattle.std.proofs.lemmas.Bool.{false≢true, or_cases, or_right}
use Rattle.std.specs.Cmp.{tied_itself}
use Rattle.std.specs.Fmt.{decimal}
use Rattle.std.specs.Bool.{MatchBool}
use Rattle.std.specs.List.{AllByRecursion, flat_map}
use Rattle.std.specs.List.Sorted.{IsStrictlySortedBy}
use Rattle.std.specs.Set.{is_member}
use Rattle.std.specs.FinMap as finmap
use Rattle.std.specs.Ordering.{is_eq}
use Rattle.std.specs.declared.cmp.Ordering.TheVariants.{Less}
use Rattle.cedar_graph.specs.laws.Deciding.{has_cycle}
use Rattle.cedar_ids.specs.UidOf.{uid_order, same_uid}
use Rattle.cedar_ids.specs.laws.UidOfLaws.{same_uid_decides, same_uid_equiv, uid_order_total}
use Rattle.cedar_ids.specs.declared.entity.EntityUID.{EntityUID}
use Rattle.cedar_lines.specs.Lines.{written_line}
use Rattle.cedar_entity_maps.specs.InputStore.{InputStore, InputEntity, input_entity, graph, IsCyclic, added, overwritten, deleted, empty_input}
use Rattle.cedar_entity_maps.specs.InputStore.{AllAgree, Agrees, FirstDiffers}
use Rattle.cedar_entities.specs.laws.Finalized.{Settled, settled_by, world_keys, decides_world_cycle, reached_list}
use Rattle.cedar_entities.specs.laws.Finalized.{reached_ascend, reached_members, agree_or_differs}
use Rattle.cedar_slice.specs.laws.OneSlice.{one_slice, slice_there}
use Rattle.cedar_entity_lines.specs.EntityCommand.{EntityCommand, Ent, Build, Add, Upsert, Remove, Slice, Anc}
use Rattle.cedar_entity_lines.specs.EntityOutput.{EntityState, Adds, Overwrites, Deletes, Slices, AreAncestors}
use Rattle.cedar_entity_lines.specs.EntityOutput.{WritesAncestors, RunsEntityCommand, count_line, uid_text, field_of}

cycle_settled : (W : InputStore) → Settled (IsCyclic W)
cycle_settled W = settled_by (has_cycle (graph W) (world_keys W)) (decides_world_cycle W)

adds : (base : InputStore) (L : List InputEntity) → (W : InputStore) × (out : List ℕ) × Adds base L W out
adds base L = elim (agree_or_differs base L) [
  | inr f ↦ (empty_input, written_line (codes "refused: duplicate " ++ uid_text f.0), inl (f.0, f.1, refl, refl))
  | inl agree ↦ elim (cycle_settled (added base L)) [
    | inl c ↦ (empty_input, written_line (codes "refused: cycle"), inr (inl (agree, c, refl, refl)))
    | inr none ↦ (added base L, count_line (added base L), inr (inr ((agree, none), refl, refl)))
  ]
]

overwrites : (base : InputStore) (L : List InputEntity) → (W : InputStore) × (out : List ℕ) × Overwrites base L W out
overwrites base L = elim (cycle_settled (overwritten base L)) [
  | inl c ↦ (empty_input, written_line (codes "refused: cycle"), inl (c, refl, refl))
  | inr none ↦ (overwritten base L, count_line (overwritten base L), inr (none, refl, refl))
]

are_ancestors : (W : InputStore) (u : EntityUID) → AreAncestors W u (reached_list W u)
are_ancestors W u = record { ascend = reached_ascend W u; reached = reached_members W u }

shows_so : (W : InputStore) (u : EntityUID) (b : Bool)
    → (out : List ℕ) × MatchBool b ((uids : List EntityUID) × AreAncestors W u uids
    × (out ≡ written_line (codes "anc" ++ flat_map field_of uids))) (out ≡ written_line (codes "no entity"))
shows_so W u true =
    (written_line (codes "anc" ++ flat_map field_of (reached_list W u)), (reached_list W u, are_ancestors W u, refl))
shows_so W u false = (written_line (codes "no entity"), refl)

shows : (W : InputStore) (u : EntityUID) → (out : List ℕ) × WritesAncestors W u out
shows W u = shows_so W u (finmap.contains_key W.entities u)

-- Each command has an effect and an output.
pub entity_gives : (c : EntityCommand) (s : EntityState) → (t : EntityState) × (out : List ℕ) × RunsEntityCommand c s t out
entity_gives (Ent u ps) s = (record { waiting = s.waiting ++ input_entity u ps ∷ []; input_store = s.input_store }, [], (refl, refl))
entity_gives Build s = let a = adds empty_input s.waiting in (record { waiting = []; input_store = a.0 }, a.1, (refl, a.2))
entity_gives Add s = let a = adds s.input_store s.waiting in (record { waiting = []; input_store = a.0 }, a.1, (refl, a.2))
entity_gives Upsert s = let a = overwrites s.input_store s.waiting in (record { waiting = []; input_store = a.0 }, a.1, (refl, a.2))
entity_gives (Remove us) s = (
  record {
    waiting = s.waiting;
    input_store =
        deleted s.input_store us;
  },
  count_line (deleted s.input_store us),
  (refl, (refl, refl)),
)
entity_gives (Slice us) s = let p = slice_there s.input_store us in
    (record { waiting = s.waiting; input_store = p.0 }, count_line p.0, (refl, (p.1, refl)))
entity_gives (Anc u) s = let a = shows s.input_store u in (s, a.0, (refl, a.1))

-- A property of all elements is a property of one.
pub all_at : {X : Type 0} (P : X → Type 0) (before : List X) (at : X) (after : List X)
    → AllByRecursion P (before ++ at ∷ after) → P at
all_at P [] at after h = h.0
all_at P (b ∷ bs) at after h = all_at P bs at after h.1

-- The first place that differs is unique.
split_agrees : {X : Type 0} (P : X → Type 0) (before before' : List X) (at at' : X) (after after' : List X)
    → before ++ at ∷ after ≡ before' ++ at' ∷ after'
    → AllByRecursion P before → AllByRecursion P before' → (P at → ⊥) → (P at' → ⊥) → at ≡ at'
split_agrees P [] [] at at' after after' e h k d d' = cc
split_agrees P [] (b ∷ bs) at at' after after' e h k d d' = absurd (d (subst P (sym (heads e)) k.0))
  where
    heads : {X : Type 0} {x y : X} {xs ys : List X} → x ∷ xs ≡ y ∷ ys → x ≡ y
    heads p = cc
split_agrees P (a ∷ rest) [] at at' after after' e h k d d' = absurd (d' (subst P (heads e) h.0))
  where
    heads : {X : Type 0} {x y : X} {xs ys : List X} → x ∷ xs ≡ y ∷ ys → x ≡ y
    heads p = cc
split_agrees P (a ∷ rest) (b ∷ bs) at at' after after' e h k d d' =
    split_agrees P rest bs at at' after after' (tails e) h.1 k.1 d d'
  where
    tails : {X : Type 0} {x y : X} {xs ys : List X} → x ∷ xs ≡ y ∷ ys → xs ≡ ys
    tails p = cc

one_differs : (W : InputStore) (L : List InputEntity) (u v : EntityUID) → FirstDiffers W L u → FirstDiffers W L v → u ≡ v
one_differs W L u v f g =
    sym f.uid ∙ ap (λ (x : InputEntity). x.uid) (split_agrees (Agrees W L) f.before g.before f.at g.at f.after g.after
    (sym f.place ∙ g.place) f.agree g.agree f.differs g.differs) ∙ g.uid

agree_apart : (W : InputStore) (L : List InputEntity) (u : EntityUID) → FirstDiffers W L u → AllAgree W L → ⊥
agree_apart W L u f h = f.differs (all_at (Agrees W L) f.before f.at f.after
    (subst (AllByRecursion (Agrees W L)) f.place h))

one_adds : (base : InputStore) (L : List InputEntity) (V W : InputStore) (out out' : List ℕ) → Adds base L V out → Adds base L W out'
    → (V ≡ W) × (out ≡ out')
one_adds base L V W out out' (inl a) (inl b) = (
  a.2 ∙ sym b.2,
  a.3
      ∙ ap (λ u. written_line (codes "refused: duplicate " ++ uid_text u)) (one_differs base L a.0 b.0 a.1 b.1)
      ∙ sym b.3,
)
one_adds base L V W out out' (inl a) (inr (inl b)) = absurd (agree_apart base L a.0 a.1 b.0)
one_adds base L V W out out' (inl a) (inr (inr b)) = absurd (agree_apart base L a.0 a.1 b.0.0)
one_adds base L V W out out' (inr (inl a)) (inl b) = absurd (agree_apart base L b.0 b.1 a.0)
one_adds base L V W out out' (inr (inl a)) (inr (inl b)) = (a.2 ∙ sym b.2, a.3 ∙ sym b.3)
one_adds base L V W out out' (inr (inl a)) (inr (inr b)) = absurd (b.0.1 a.1)
one_adds base L V W out out' (inr (inr a)) (inl b) = absurd (agree_apart base L b.0 b.1 a.0.0)
one_adds base L V W out out' (inr (inr a)) (inr (inl b)) = absurd (a.0.1 b.1)
one_adds base L V W out out' (inr (inr a)) (inr (inr b)) =
    let same : V ≡ W = a.1 ∙ sym b.1 in
    (same, a.2 ∙ ap (λ X. written_line (codes "ok " ++ decimal (finmap.len X.entities))) same ∙ sym b.2)

one_overwrites : (base : InputStore) (L : List InputEntity) (V W : InputStore) (out out' : List ℕ) → Overwrites base L V out
    → Overwrites base L W out' → (V ≡ W) × (out ≡ out')
one_overwrites base L V W out out' (inl a) (inl b) = (a.1 ∙ sym b.1, a.2 ∙ sym b.2)
one_overwrites base L V W out out' (inl a) (inr b) = absurd (b.0 a.0)
one_overwrites base L V W out out' (inr a) (inl b) = absurd (a.0 b.0)
one_overwrites base L V W out out' (inr a) (inr b) =
    let same : V ≡ W = a.1 ∙ sym b.1 in
    (same, a.2 ∙ ap (λ X. written_line (codes "ok " ++ decimal (finmap.len X.entities))) same ∙ sym b.2)

one_deletes : (base : InputStore) (U : List EntityUID) (V W : InputStore) (out out' : List ℕ) → Deletes base U V out
    → Deletes base U W out' → (V ≡ W) × (out ≡ out')
one_deletes base U V W out out' a b =
    let same : V ≡ W = a.0 ∙ sym b.0 in
    (same, a.1 ∙ ap (λ X. written_line (codes "ok " ++ decimal (finmap.len X.entities))) same ∙ sym b.1)

one_slices : (base : InputStore) (U : List EntityUID) (V W : InputStore) (out out' : List ℕ) → Slices base U V out
    → Slices base U W out' → (V ≡ W) × (out ≡ out')
one_slices base U V W out out' a b =
    let same : V ≡ W = one_slice base U V W a.0 b.0 in
    (same, a.1 ∙ ap (λ X. written_line (codes "ok " ++ decimal (finmap.len X.entities))) same ∙ sym b.1)

-- No uid is less than itself. So a strictly ascending list is determined by its elements.
not_itself : (u : EntityUID) → uid_order u u ≡ Less → ⊥
not_itself u h = false≢true (ap is_eq (sym h ∙ tied_itself uid_order_total u))

above_all : (u : EntityUID) (us : List EntityUID) → AllByRecursion (λ y. uid_order u y ≡ Less) us → (q : EntityUID)
    → is_member same_uid us q ≡ true → uid_order u q ≡ Less
above_all u [] h q m = absurd (false≢true m)
above_all u (x ∷ us) h q m = elim (or_cases (same_uid q x) (is_member same_uid us q) m) [
  | inl e ↦ ap (uid_order u) ((same_uid_decides q x).0 e) ∙ h.0
  | inr r ↦ above_all u us h.1 q r
]

here : (u : EntityUID) (us : List EntityUID) → is_member same_uid (u ∷ us) u ≡ true
here u us = ap (λ b. b || is_member same_uid us u) (same_uid_equiv.refl u)

heads_agree : (u v : EntityUID) (us vs : List EntityUID) → AllByRecursion (λ y. uid_order u y ≡ Less) us
    → AllByRecursion (λ y. uid_order v y ≡ Less) vs
    → is_member same_uid (v ∷ vs) u ≡ true → is_member same_uid (u ∷ us) v ≡ true → u ≡ v
heads_agree u v us vs h k a b = elim (or_cases (same_uid u v) (is_member same_uid vs u) a) [
  | inl e ↦ (same_uid_decides u v).0 e
  | inr r ↦ elim (or_cases (same_uid v u) (is_member same_uid us v) b) [
    | inl e ↦ sym ((same_uid_decides v u).0 e)
    | inr t ↦ absurd (not_itself u (uid_order_total.trans u v u (above_all u us h v t) (above_all v vs k u r)))
  ]
]

in_tail : (u q : EntityUID) (us vs : List EntityUID) → AllByRecursion (λ y. uid_order u y ≡ Less) us
    → is_member same_uid us q ≡ true → is_member same_uid (u ∷ vs) q ≡ true → is_member same_uid vs q ≡ true
in_tail u q us vs h m a = elim (or_cases (same_uid q u) (is_member same_uid vs q) a) [
  | inl e ↦ absurd (not_itself u (ap (uid_order u) (sym ((same_uid_decides q u).0 e)) ∙ above_all u us h q m))
  | inr r ↦ r
]

abbrev pub Members : List EntityUID → List EntityUID → Type 0
Members us vs = (q : EntityUID) → is_member same_uid us q ≡ true → is_member same_uid vs q ≡ true

pub same_ascending : (us vs : List EntityUID) → IsStrictlySortedBy uid_order us → IsStrictlySortedBy uid_order vs
    → Members us vs → Members vs us → us ≡ vs
unfolding IsStrictlySortedBy
same_ascending [] [] h k f g = refl
same_ascending [] (v ∷ vs) h k f g = absurd (false≢true (g v (here v vs)))
same_ascending (u ∷ us) [] h k f g = absurd (false≢true (f u (here u us)))
same_ascending (u ∷ us) (v ∷ vs) h k f g =
    let same : u ≡ v = heads_agree u v us vs h.0 k.0 (f u (here u us)) (g v (here v vs)) in
    let forth = λ (q : EntityUID) (m : is_member same_uid us q ≡ true).
    in_tail u q us vs h.0 m
    (subst (λ x. is_member same_uid (x ∷ vs) q ≡ true) (sym same) (f q (or_right (same_uid q u) _ m))) in
    let back = λ (q : EntityUID) (m : is_member same_uid vs q ≡ true).
    in_tail v q vs us k.0 m
    (subst (λ x. is_member same_uid (x ∷ us) q ≡ true) same (g q (or_right (same_uid q v) _ m))) in
    λ i. same i ∷ same_ascending us vs h.1 k.1 forth back i

one_ancestors : (W : InputStore) (u : EntityUID) (us vs : List EntityUID) → AreAncestors W u us → AreAncestors W u vs
    → us ≡ vs
one_ancestors W u us vs a b = same_ascending us vs a.ascend b.ascend (λ q m. (b.reached q).1 ((a.reached q).0 m))
    (λ q m. (a.reached q).1 ((b.reached q).0 m))

one_shown : (W : InputStore) (u : EntityUID) (out out' : List ℕ) (b : Bool)
    → MatchBool b ((uids : List EntityUID) × AreAncestors W u uids
    × (out ≡ written_line (codes "anc" ++ flat_map field_of uids))) (out ≡ written_line (codes "no entity"))
    → MatchBool b ((uids : List EntityUID) × AreAncestors W u uids
    × (out' ≡ written_line (codes "anc" ++ flat_map field_of uids))) (out' ≡ written_line (codes "no entity"))
    → out ≡ out'
one_shown W u out out' true h k =
    h.2 ∙ ap (λ l. written_line (codes "anc" ++ flat_map field_of l)) (one_ancestors W u h.0 k.0 h.1 k.1) ∙ sym k.2
one_shown W u out out' false h k = h ∙ sym k

-- States with the same queue and the same input store are equal.
joined : (t t' : EntityState) (out out' : List ℕ) → t.waiting ≡ t'.waiting → (t.input_store ≡ t'.input_store) × (out ≡ out')
    → (t ≡ t') × (out ≡ out')
joined t t' out out' w a = (λ i. record { waiting = w i; input_store = a.0 i }, a.1)

-- No command has two effects or outputs.
pub one_entity_gives : (c : EntityCommand) (s t t' : EntityState) (out out' : List ℕ) → RunsEntityCommand c s t out
    → RunsEntityCommand c s t' out' → (t ≡ t') × (out ≡ out')
one_entity_gives (Ent u ps) s t t' out out' h k = (h.0 ∙ sym k.0, h.1 ∙ sym k.1)
one_entity_gives Build s t t' out out' h k = joined t t' _ _ (h.0
    ∙ sym k.0) (one_adds empty_input s.waiting t.input_store t'.input_store out out' h.1 k.1)
one_entity_gives Add s t t' out out' h k = joined t t' _ _ (h.0
    ∙ sym k.0) (one_adds s.input_store s.waiting t.input_store t'.input_store out out' h.1 k.1)
one_entity_gives Upsert s t t' out out' h k = joined t t' _ _ (h.0
    ∙ sym k.0) (one_overwrites s.input_store s.waiting t.input_store t'.input_store out out' h.1 k.1)
one_entity_gives (Remove us) s t t' out out' h k = joined t t' _ _ (h.0
    ∙ sym k.0) (one_deletes s.input_store us t.input_store t'.input_store out out' h.1 k.1)
one_entity_gives (Slice us) s t t' out out' h k = joined t t' _ _ (h.0
    ∙ sym k.0) (one_slices s.input_store us t.input_store t'.input_store out out' h.1 k.1)
one_entity_gives (Anc u) s t t' out out' h k = (
  h.0 ∙ sym k.0,
  one_shown s.input_store u out out'
      (finmap.contains_key s.input_store.entities u) h.1 k.1,
)
