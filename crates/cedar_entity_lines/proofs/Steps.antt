-- The effect of the commands on the store.
use Rattle.std.specs.Prelude.{◌≡◌, ◌↔◌, ℕ, List, [], ◌∷◌, ◌++◌, codes, Bool, true, false, ◌||◌, Option, Some, None, map}
use Rattle.std.specs.Prelude.{not, Result, Ok, Err, IfOk, IfErr}
use Rattle.std.proofs.Common.{ap, sym, refl, subst, ◌∙◌, inl, inr}
use Rattle.std.specs.Prelude.{cond, if◌then◌else◌}
use Rattle.std.specs.Cmp.Lexicographic.{bytes_decides}
use Rattle.std.proofs.lemmas.Bool.{false≢true, or_cases, or_right}
use Rattle.std.specs.Bool.{MatchBool}
use Rattle.std.specs.Option.{option_map, option_or, is_some, IfSome}
use Rattle.std.specs.List.{AllByRecursion, flat_map}
use Rattle.std.specs.List.Sorted.{IsStrictlySortedBy}
use Rattle.std.specs.Set.{is_member}
use Rattle.std.specs.FinSet as set
use Rattle.std.specs.FinMap as finmap
use Rattle.std.specs.Ordering.{eq_by_cmp}
use Rattle.std.specs.Cmp.{first_so}
use Rattle.cedar_graph.specs.Graph.{Reach, Path}
use Rattle.cedar_graph.specs.declared.err.TcError.TheVariants as tc
use Rattle.cedar_ids.specs.UidOf.{uid_order, same_uid}
use Rattle.cedar_ids.specs.laws.UidOfLaws.{same_uid_equiv, same_uid_decides}
use Rattle.cedar_ids.specs.declared.entity.EntityUID.{EntityUID}
use Rattle.cedar_entity.specs.Fields.{Fields, AreFieldsOf, field_at}
use Rattle.cedar_uid_sets.specs.laws.Sets.{contains_listed}
use Rattle.cedar_entities.specs.Changes.{AddsPlain, RemovesPlain, UpsertsPlain}
use Rattle.cedar_entity_maps.specs.Plain.{StoreView, IsPlainStore, parts_of, input_of, HasNoIndirect, HaveNoIndirect}
use Rattle.cedar_entity.specs.View.{EntityView, has_ancestor}
use Rattle.cedar_entity_maps.specs.EditErrors.{IsAddError, IsOverwriteError}
use Rattle.cedar_entity_maps.specs.InputStore.{InputStore, Parts, InputEntity, input_entity, graph, is_parent_in, entry_of, reversed, is_removed}
use Rattle.cedar_entity_maps.specs.InputStore.{without, added, overwritten, deleted, empty_input}
use Rattle.cedar_entity.specs.declared.err.EntitiesError.{EntitiesError}
use Rattle.cedar_entity.specs.declared.err.EntitiesError.TheVariants as errors
use Rattle.cedar_entity_maps.specs.declared.modes.TCComputation.TheVariants.{ComputeNow}
use Rattle.cedar_entity_maps.specs.laws.InputStores.{get_added, get_overwritten, get_deleted}
use Rattle.cedar_lines.specs.Lines.{written_line}
use Rattle.cedar_slice.specs.Slices.{IsPlainSlice}
use Rattle.cedar_slice.specs.laws.OneSlice.{slice_edges}
use Rattle.cedar_entity_lines.specs.EntityCommand.{Ent, Build, Add, Upsert, Remove, Slice, Anc}
use Rattle.cedar_entity_lines.specs.EntityOutput.{EntityState, Adds, Overwrites, AreAncestors, WritesAncestors}
use Rattle.cedar_entity_lines.specs.EntityOutput.{count_line, uid_text, field_of}
use Rattle.cedar_entity_lines.specs.Holding.{StoreAndWaiting, IsAsciiUid, IsAsciiInputEntity, IsAsciiInput, AreAsciiUids}
use Rattle.cedar_entity_lines.specs.Holding.{Holds, EntityWrites}
use Rattle.cedar_entity_lines.specs.laws.Machines.{Refused, KeepsAndTells}
use Rattle.cedar_entity_lines.specs.laws.OneAnswer.{all_at}
use mathlib.Core.List.{append-nil}
use Rattle.std.proofs.lemmas.List.{map-append}
use Rattle.std.proofs.Common.{append_assoc}
use Rattle.cedar_entity.specs.laws.UidSets.{kept_in}
use Rattle.cedar_entity_maps.specs.laws.Lists.{all_push}

-- The output of an error of adding.
pub refused_adds : (base : InputStore) (L : List InputEntity) (e : EntitiesError) (old new : List ℕ)
    → AllByRecursion IsAsciiInputEntity L → IsAddError base L e → Refused e old new
    → (text : List ℕ) × Adds base L empty_input text × (new ≡ old ++ text)
refused_adds base L (errors.Duplicate u) old new ascii h r =
    let g = all_at IsAsciiInputEntity h.before h.at h.after (subst (AllByRecursion IsAsciiInputEntity) h.place ascii) in
    (written_line (codes "refused: duplicate " ++ uid_text u), inl (u, h, refl, refl), r (subst IsAsciiUid h.uid g.0))
refused_adds base L (errors.TransitiveClosureError (tc.MissingTcEdge x)) old new ascii h r = absurd r
refused_adds base L (errors.TransitiveClosureError (tc.HasCycle x)) old new ascii h r =
    (written_line (codes "refused: cycle"), inr (inl (h.0, (_, h.1), refl, refl)), r)
refused_adds base L (errors.TransitiveClosureError tc.Memory) old new ascii h r = absurd r
refused_adds base L (errors.SelfAncestor u) old new ascii h r = absurd r
refused_adds base L (errors.DuplicateAncestor u x) old new ascii h r = absurd r
refused_adds base L (errors.ActionParentIsNotAction u p) old new ascii h r = absurd r
refused_adds base L (errors.ReservedKey k) old new ascii h r = absurd r
refused_adds base L errors.Memory old new ascii h r = absurd r

-- The output of an error of upserting.
pub refused_overwrites : (base : InputStore) (L : List InputEntity) (e : EntitiesError) (old new : List ℕ)
    → IsOverwriteError base L e → Refused e old new
    → (text : List ℕ) × Overwrites base L empty_input text × (new ≡ old ++ text)
refused_overwrites base L (errors.Duplicate u) old new h r = absurd h
refused_overwrites base L (errors.TransitiveClosureError (tc.MissingTcEdge x)) old new h r = absurd r
refused_overwrites base L (errors.TransitiveClosureError (tc.HasCycle x)) old new h r =
    (written_line (codes "refused: cycle"), inl ((_, h), refl, refl), r)
refused_overwrites base L (errors.TransitiveClosureError tc.Memory) old new h r = absurd r
refused_overwrites base L (errors.SelfAncestor u) old new h r = absurd r
refused_overwrites base L (errors.DuplicateAncestor u x) old new h r = absurd r
refused_overwrites base L (errors.ActionParentIsNotAction u p) old new h r = absurd r
refused_overwrites base L (errors.ReservedKey k) old new h r = absurd r
refused_overwrites base L errors.Memory old new h r = absurd r

-- Whether the parents that are found have ASCII eids.
abbrev pub ascii_parts : Option Parts → Type 0
ascii_parts o = IfSome o (λ p. (q : EntityUID) → set.contains p.parents q ≡ true → IsAsciiUid q)

pick_ascii : (b : Bool) (p : Parts) (o : Option Parts)
    → ((q : EntityUID) → set.contains p.parents q ≡ true → IsAsciiUid q) → ascii_parts o
    → ascii_parts (cond b (Some p) o)
pick_ascii true p o h k = h
pick_ascii false p o h k = k

abbrev pub ascii_entry : EntityUID × Parts → Type 0
ascii_entry e = (q : EntityUID) → set.contains e.1.parents q ≡ true → IsAsciiUid q

find_ascii : (es : List (EntityUID × Parts)) (a : EntityUID) → AllByRecursion ascii_entry es
    → ascii_parts (finmap.find uid_order a es)
find_ascii [] a h = tt
find_ascii (e ∷ es) a h =
    pick_ascii (eq_by_cmp uid_order a e.0) e.1 (finmap.find uid_order a es) h.0 (find_ascii es a h.1)

entries_ascii : (L : List InputEntity) → AllByRecursion IsAsciiInputEntity L → AllByRecursion ascii_entry (map entry_of L)
entries_ascii [] h = tt
entries_ascii (g ∷ L) h = (h.0.1, entries_ascii L h.1)

all_reversed : {X : Type 0} (P : X → Type 0) (xs : List X) → AllByRecursion P xs → AllByRecursion P (reversed xs)
all_reversed P [] h = tt
all_reversed P (x ∷ xs) h = all_push P (reversed xs) x (all_reversed P xs h.1) h.0

parent_ascii : (o : Option Parts) (b : EntityUID) → ascii_parts o → is_parent_in o b ≡ true → IsAsciiUid b
parent_ascii None b h e = absurd (false≢true e)
parent_ascii (Some p) b h e = h b e

found_parts : (o : Option Parts) → ((b : EntityUID) → is_parent_in o b ≡ true → IsAsciiUid b) → ascii_parts o
found_parts None h = tt
found_parts (Some p) h = h

parts_or : (o p : Option Parts) → ascii_parts o → ascii_parts p → ascii_parts (option_or o p)
parts_or None p h k = k
parts_or (Some x) p h k = h

-- If the parents of all entries have ASCII eids, the input store satisfies `IsAsciiInput`.
from_parts : (W : InputStore) → ((a : EntityUID) → ascii_parts (finmap.get W.entities a)) → IsAsciiInput W
from_parts W h a b e = parent_ascii (finmap.get W.entities a) b (h a) e

parts_in : (W : InputStore) → IsAsciiInput W → (a : EntityUID) → ascii_parts (finmap.get W.entities a)
parts_in W h a = found_parts (finmap.get W.entities a) (h a)

pub added_ascii : (W : InputStore) (L : List InputEntity) → IsAsciiInput W → AllByRecursion IsAsciiInputEntity L
    → IsAsciiInput (added W L)
added_ascii W L h k =
    from_parts (added W L)
    (λ a. subst ascii_parts (sym (get_added W L a))
    (parts_or _ _ (parts_in W h a) (find_ascii (map entry_of L) a (entries_ascii L k))))

pub overwritten_ascii : (W : InputStore) (L : List InputEntity) → IsAsciiInput W → AllByRecursion IsAsciiInputEntity L
    → IsAsciiInput (overwritten W L)
overwritten_ascii W L h k =
    from_parts (overwritten W L)
    (λ a. subst ascii_parts (sym (get_overwritten W L a))
    (parts_or _ _ (find_ascii (reversed (map entry_of L)) a
    (all_reversed ascii_entry (map entry_of L) (entries_ascii L k))) (parts_in W h a)))

left_ascii : (gone : EntityUID → Bool) (a : EntityUID) (b : Bool) (o : Option Parts) → ascii_parts o
    → ascii_parts (option_map (λ p. (without gone (a, p)).1) (cond b o None))
left_ascii gone a false o h = tt
left_ascii gone a true None h = tt
left_ascii gone a true (Some p) h =
    λ q e. h q (first_so (set.contains p.parents q) (not (gone q)) (sym (kept_in p.parents gone q) ∙ e))

pub deleted_ascii : (W : InputStore) (U : List EntityUID) → IsAsciiInput W → IsAsciiInput (deleted W U)
deleted_ascii W U h =
    from_parts (deleted W U)
    (λ a. subst ascii_parts (sym (get_deleted W U a))
    (left_ascii (is_removed W U) a (not (is_removed W U a)) (finmap.get W.entities a) (parts_in W h a)))

pub empty_ascii : IsAsciiInput empty_input
empty_ascii a b e = absurd (false≢true (sym (ap (λ o. is_parent_in o b) (finmap.get-empty uid_order a)) ∙ e))

-- The parents of a queued entity have ASCII eids.
listed_ascii : (ps : List EntityUID) → AreAsciiUids ps → (q : EntityUID) → is_member same_uid ps q ≡ true → IsAsciiUid q
listed_ascii [] h q m = absurd (false≢true m)
listed_ascii (p ∷ ps) h q m = elim (or_cases (same_uid q p) (is_member same_uid ps q) m) [
  | inl e ↦ subst IsAsciiUid (sym ((same_uid_decides q p).0 e)) h.0
  | inr r ↦ listed_ascii ps h.1 q r
]

pub given_ascii : (u : EntityUID) (ps : List EntityUID) → AreAsciiUids (u ∷ ps) → IsAsciiInputEntity (input_entity u ps)
given_ascii u ps h = (h.0, λ q m. listed_ascii ps h.1 q (sym (contains_listed ps q) ∙ m))

-- The last uid of a path is a parent of some uid.
last_step : (G : EntityUID → EntityUID → Bool) (a b : EntityUID) (xs : List EntityUID) → Path G a xs b
    → (c : EntityUID) × (G c b ≡ true)
last_step G a b [] p = (a, p)
last_step G a b (x ∷ xs) p = last_step G x b xs p.1

all_members : (P : EntityUID → Type 0) (us : List EntityUID) → ((q : EntityUID) → is_member same_uid us q ≡ true → P q)
    → AllByRecursion P us
all_members P [] h = tt
all_members P (u ∷ us) h = (
  h u (ap (λ b. b || is_member same_uid us u) (same_uid_equiv.refl u)),
  all_members P us (λ q m. h q (or_right (same_uid q u) _ m)),
)

-- Whether an entity of a plain store has the ancestors that the input store implies.
abbrev pub FoundAt : InputStore → EntityUID → EntityView → Type 0
FoundAt W u e = (x : EntityUID) → (has_ancestor e x ≡ true) ↔ Reach (graph W) u x

pub found_reach : (W : InputStore) (S : StoreView) (u : EntityUID) (e : EntityView) → IsPlainStore W S
    → Some e ≡ finmap.get S.entities u → FoundAt W u e
found_reach W S u e plain at = subst (λ o. IfSome o (FoundAt W u)) (sym at) (plain.reached u)

pub found_ascii : (W : InputStore) (u : EntityUID) (e : EntityView) (us : List EntityUID) → FoundAt W u e → IsAsciiInput W
    → ((q : EntityUID) → is_member same_uid us q ≡ has_ancestor e q) → AreAsciiUids us
found_ascii W u e us found ascii members = all_members IsAsciiUid us (λ q m.
    let r = (found q).0 (sym (members q) ∙ m) in
    let s = last_step (graph W) u q r.0 r.1 in
    ascii s.0 q s.1)

holds_key : (W : InputStore) (S : StoreView) (u : EntityUID) (o : Option EntityView) → IsPlainStore W S
    → o ≡ finmap.get S.entities u → finmap.contains_key W.entities u ≡ is_some (option_map parts_of o)
holds_key W S u o plain at = ap is_some (sym (plain.holds u)) ∙ ap (λ r. is_some (option_map parts_of r)) (sym at)

pub shows_some : (W : InputStore) (S : StoreView) (u : EntityUID) (e : EntityView) (us : List EntityUID) → IsPlainStore W S
    → Some e ≡ finmap.get S.entities u
    → IsStrictlySortedBy uid_order us → ((q : EntityUID) → is_member same_uid us q ≡ has_ancestor e q)
    → WritesAncestors W u (written_line (codes "anc" ++ flat_map field_of us))
shows_some W S u e us plain at ascend members =
    let found = found_reach W S u e plain at in
    let text = written_line (codes "anc" ++ flat_map field_of us) in
    subst (λ b. MatchBool b ((uids : List EntityUID) × AreAncestors W u uids
    × (text ≡ written_line (codes "anc" ++ flat_map field_of uids))) (text ≡ written_line (codes "no entity")))
    (sym (holds_key W S u (Some e) plain at)) (
      us,
      record {
        ascend = ascend;
        reached =
            λ q. (λ m. (found q).0 (sym (members q) ∙ m), λ r. members q ∙ (found q).1 r);
      },
      refl,
    )

pub shows_none : (W : InputStore) (S : StoreView) (u : EntityUID) → IsPlainStore W S → None ≡ finmap.get S.entities u
    → WritesAncestors W u (written_line (codes "no entity"))
shows_none W S u plain at =
    let text = written_line (codes "no entity") in
    subst (λ b. MatchBool b ((uids : List EntityUID) × AreAncestors W u uids
    × (text ≡ written_line (codes "anc" ++ flat_map field_of uids))) (text ≡ written_line (codes "no entity")))
    (sym (holds_key W S u None plain at)) refl

-- A list without pairs has no fields.
pub no_fields : (fs : Fields) → AreFieldsOf [] fs → fs ≡ []
no_fields [] h = refl
no_fields (f ∷ fs) h =
    absurd (false≢true (ap is_some (sym (h.last f.0))
    ∙ ap (λ b. is_some (if b then Some f.1 else field_at f.0 fs)) ((bytes_decides f.0 f.0).1 refl)))

-- The command `ent`.
pub ent_takes : (m n : StoreAndWaiting) (s : EntityState) (u : EntityUID) (ps : List EntityUID) (e : EntityView)
    (out : List ℕ) → Holds m s → n.waiting ≡ m.waiting ++ e ∷ [] → n.store ≡ m.store
    → input_of e ≡ input_entity u ps → HasNoIndirect e → AreAsciiUids (u ∷ ps) → EntityWrites (Ent u ps) s n out out
ent_takes m n s u ps e out h items store is bare ascii = (
  record { waiting = s.waiting ++ input_entity u ps ∷ []; input_store = s.input_store },
  [],
  (refl, refl),
  record {
    waiting = ap (map input_of) items ∙ map-append input_of m.waiting (e ∷ []) ∙ (λ i. h.waiting i ++ is i ∷ []);
    bare = subst HaveNoIndirect (sym items) (all_push HasNoIndirect m.waiting e h.bare bare);
    plain = subst (IsPlainStore s.input_store) (sym store) h.plain;
    ascii_waiting = all_push IsAsciiInputEntity s.waiting (input_entity u ps) h.ascii_waiting (given_ascii u ps ascii);
    ascii_input = h.ascii_input;
  },
  sym (append-nil out),
)

-- A plain store with an empty queue is in the state of its input store.
pub settled : (n : StoreAndWaiting) (W : InputStore) → n.waiting ≡ [] → IsPlainStore W n.store → IsAsciiInput W
    → Holds n (record { waiting = []; input_store = W })
settled n W none plain ascii = record {
  waiting = ap (map input_of) none;
  bare = subst HaveNoIndirect (sym none) tt;
  plain = plain;
  ascii_waiting = tt;
  ascii_input = ascii;
}

-- The command `add`.
pub add_takes : (m n : StoreAndWaiting) (s : EntityState) (list : List EntityView) (store : StoreView)
    (r : Result StoreView EntitiesError) (old new : List ℕ) → Holds m s → list ≡ m.waiting → store ≡ m.store
    → n.waiting ≡ []
    → ((W : InputStore) → IsPlainStore W store → HaveNoIndirect list → AddsPlain ComputeNow W (map input_of list) r)
    → KeepsAndTells r n old new → EntityWrites Add s n old new
add_takes m n s list store (Ok S) old new h same at none adds tells =
    let L : map input_of list ≡ s.waiting = ap (map input_of) same ∙ h.waiting in
    let bare = subst HaveNoIndirect (sym same) h.bare in
    let before = subst (IsPlainStore s.input_store) (sym at) h.plain in
    let input_entity = subst (λ l. AddsPlain ComputeNow s.input_store l (Ok S)) L (adds s.input_store before bare) in
    let plain : IsPlainStore (added s.input_store s.waiting) S = input_entity.ok in
    let k = tells (added s.input_store s.waiting) plain in (
      record { waiting = []; input_store = added s.input_store s.waiting },
      count_line (added s.input_store s.waiting),
      (refl, inr (inr ((input_entity.agree, (λ c. plain.acyclic c.0 c.1)), refl, refl))),
      settled n (added s.input_store s.waiting) none k.0 (added_ascii s.input_store s.waiting h.ascii_input h.ascii_waiting),
      k.1,
    )
add_takes m n s list store (Err e) old new h same at none adds tells =
    let L : map input_of list ≡ s.waiting = ap (map input_of) same ∙ h.waiting in
    let bare = subst HaveNoIndirect (sym same) h.bare in
    let before = subst (IsPlainStore s.input_store) (sym at) h.plain in
    let input_entity = subst (λ l. AddsPlain ComputeNow s.input_store l (Err e)) L (adds s.input_store before bare) in
    let r = refused_adds s.input_store s.waiting e old new h.ascii_waiting input_entity.err tells.1 in (
      record { waiting = []; input_store = empty_input },
      r.0,
      (refl, r.1),
      settled n empty_input none tells.0 empty_ascii,
      r.2,
    )

-- The command `build`: adding to an empty store.
pub build_takes : (m n : StoreAndWaiting) (s : EntityState) (old new : List ℕ) → Holds m s → n.waiting ≡ m.waiting
    → IsPlainStore empty_input n.store
    → (o : StoreAndWaiting) → ((t : EntityState) → Holds n t → EntityWrites Add t o old new)
    → EntityWrites Build s o old new
build_takes m n s old new h same plain o takes =
    takes (record { waiting = s.waiting; input_store = empty_input })
    (record {
      waiting = ap (map input_of) same ∙ h.waiting;
      bare = subst HaveNoIndirect (sym same) h.bare;
      plain = plain;
      ascii_waiting = h.ascii_waiting;
      ascii_input = empty_ascii;
    })

-- The command `upsert`.
pub upsert_takes : (m n : StoreAndWaiting) (s : EntityState) (list : List EntityView) (store : StoreView)
    (r : Result StoreView EntitiesError) (old new : List ℕ) → Holds m s → list ≡ m.waiting → store ≡ m.store
    → n.waiting ≡ []
    → ((W : InputStore) → IsPlainStore W store → HaveNoIndirect list → UpsertsPlain ComputeNow W (map input_of list) r)
    → KeepsAndTells r n old new → EntityWrites Upsert s n old new
upsert_takes m n s list store (Ok S) old new h same at none upserts tells =
    let L : map input_of list ≡ s.waiting = ap (map input_of) same ∙ h.waiting in
    let bare = subst HaveNoIndirect (sym same) h.bare in
    let before = subst (IsPlainStore s.input_store) (sym at) h.plain in
    let input_entity = subst (λ l. UpsertsPlain ComputeNow s.input_store l (Ok S)) L (upserts s.input_store before bare) in
    let plain : IsPlainStore (overwritten s.input_store s.waiting) S = input_entity.ok in
    let k = tells (overwritten s.input_store s.waiting) plain in (
      record { waiting = []; input_store = overwritten s.input_store s.waiting },
      count_line (overwritten s.input_store s.waiting),
      (refl, inr ((λ c. plain.acyclic c.0 c.1), refl, refl)),
      settled n (overwritten s.input_store s.waiting) none k.0
          (overwritten_ascii s.input_store s.waiting h.ascii_input h.ascii_waiting),
      k.1,
    )
upsert_takes m n s list store (Err e) old new h same at none upserts tells =
    let L : map input_of list ≡ s.waiting = ap (map input_of) same ∙ h.waiting in
    let bare = subst HaveNoIndirect (sym same) h.bare in
    let before = subst (IsPlainStore s.input_store) (sym at) h.plain in
    let input_entity = subst (λ l. UpsertsPlain ComputeNow s.input_store l (Err e)) L (upserts s.input_store before bare) in
    let r = refused_overwrites s.input_store s.waiting e old new input_entity.err tells.1 in (
      record { waiting = []; input_store = empty_input },
      r.0,
      (refl, r.1),
      settled n empty_input none tells.0 empty_ascii,
      r.2,
    )

-- The command `remove`.
pub remove_takes : (m n : StoreAndWaiting) (s : EntityState) (us : List EntityUID) (store : StoreView)
    (r : Result StoreView EntitiesError) (old new : List ℕ) → Holds m s → store ≡ m.store → n.waiting ≡ m.waiting
    → ((W : InputStore) → IsPlainStore W store → RemovesPlain W us r)
    → KeepsAndTells r n old new → EntityWrites (Remove us) s n old new
remove_takes m n s us store (Ok S) old new h at same removes tells =
    let k = tells (deleted s.input_store us) (removes s.input_store (subst (IsPlainStore s.input_store) (sym at) h.plain)).ok in (
      record { waiting = s.waiting; input_store = deleted s.input_store us },
      count_line (deleted s.input_store us),
      (refl, (refl, refl)),
      record {
        waiting = ap (map input_of) same ∙ h.waiting;
        bare = subst HaveNoIndirect (sym same) h.bare;
        plain = k.0;
        ascii_waiting = h.ascii_waiting;
        ascii_input = deleted_ascii s.input_store us h.ascii_input;
      },
      k.1,
    )
remove_takes m n s us store (Err e) old new h at same removes tells =
    let input_entity = removes s.input_store (subst (IsPlainStore s.input_store) (sym at) h.plain) in
    absurd (subst (λ x. Refused x old new) input_entity.err tells.1)

-- The command `slice`.
pub slice_takes : (m n : StoreAndWaiting) (s : EntityState) (us : List EntityUID) (r : Result StoreView EntitiesError)
    (old new : List ℕ) → Holds m s → n.waiting ≡ m.waiting
    → IfOk r (λ S. (W : InputStore) → IsPlainStore W m.store → IsPlainSlice W us S)
    → IfErr r (λ e. e ≡ errors.Memory)
    → KeepsAndTells r n old new → EntityWrites (Slice us) s n old new
slice_takes m n s us (Ok S) old new h same ok err tells =
    let p = ok s.input_store h.plain in
    let k = tells p.input_store p.is_plain in (
      record { waiting = s.waiting; input_store = p.input_store },
      count_line p.input_store,
      (refl, (p.is_slice, refl)),
      record {
        waiting = ap (map input_of) same ∙ h.waiting;
        bare = subst HaveNoIndirect (sym same) h.bare;
        plain = k.0;
        ascii_waiting = h.ascii_waiting;
        ascii_input = λ a b e. h.ascii_input a b (slice_edges s.input_store us p.input_store p.is_slice a b e);
      },
      k.1,
    )
slice_takes m n s us (Err e) old new h same ok err tells = absurd (subst (λ x. Refused x old new) err tells.1)

-- The command `anc`.
pub anc_takes : (m : StoreAndWaiting) (s : EntityState) (u : EntityUID) (old new : List ℕ) → Holds m s
    → (text : List ℕ) × WritesAncestors s.input_store u text × (new ≡ old ++ text) → EntityWrites (Anc u) s m old new
anc_takes m s u old new h k = (s, k.0, (refl, k.1), h, k.2)

-- The step of one written field.
pub fields_left : (x : EntityUID) (left all : List EntityUID) (start now new : List ℕ)
    → AreAsciiUids (x ∷ left) × (now ++ flat_map field_of (x ∷ left) ≡ start ++ flat_map field_of all) →
    (IsAsciiUid x → new ≡ now ++ field_of x)
    → AreAsciiUids left × (new ++ flat_map field_of left ≡ start ++ flat_map field_of all)
fields_left x left all start now new h step = (
  h.0.1,
  ap (λ l. l ++ flat_map field_of left) (step h.0.0) ∙ append_assoc now (field_of x) (flat_map field_of left)
      ∙ h.1,
)
