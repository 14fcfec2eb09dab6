-- The store after an edit, and what a dry run of the edit shows.
use Rattle.std.specs.Prelude.{◌≡◌, ◌↔◌, ◌⊎◌, Bool, true, List, [], ◌∷◌, map, Result, Ok, Err, IfErr, OnOk, IsTrue}
use Rattle.std.proofs.Common.{ℕ, ap, sym, refl, subst, ◌∙◌, inl, inr}
use Rattle.std.proofs.lemmas.Bool.{false≢true}
use Rattle.std.specs.Global.{Vec}
use Rattle.std.specs.declared.alloc.Global.{Global}
use Rattle.std.specs.declared.rc.Rc.{Rc}
use Rattle.std.specs.Option.{IfSome, option_map}
use Rattle.std.specs.Result.{IsErrAnd}
use Rattle.std.specs.FinMap as finmap
use Rattle.cedar_graph.specs.Graph.{Path, Reach}
use Rattle.cedar_ids.specs.UidOf.{uid_order}
use Rattle.cedar_ids.specs.declared.entity.EntityUID.{EntityUID}
use Rattle.cedar_entity.specs.View.{EntityView, has_ancestor}
use Rattle.cedar_entity.specs.declared.err.EntitiesError.{EntitiesError}
use Rattle.cedar_entity.specs.declared.err.EntitiesError.TheVariants as errors
use Rattle.cedar_entities.specs.Calls as calls
use Rattle.cedar_entity_maps.specs.Plain.{StoreView, IsPlainStore, HasDisjointParents, HaveNoIndirect, entities_in, input_of, parts_of}
use Rattle.cedar_entity_maps.specs.InputStore.{InputStore, graph, is_parent_in, empty_input, added, overwritten, deleted}
use Rattle.cedar_entity_maps.specs.declared.modes.TCComputation.{TCComputation}
use Rattle.cedar_entity_maps.specs.declared.modes.TCComputation.TheVariants as modes
use Rattle.cedar_dry_run.specs.Trials.{IsDryAddError, IsDryUpsertError, Tries}
use Rattle.cedar_dry_run.specs.laws.OnlyMemory.{adding_passes, overwriting_passes}
use Rattle.cedar_c_lists.specs.declared.reason.Reason.{Reason}
use Rattle.cedar_c_stores.specs.Edits.{IsEditResult, Edits, IsSure, StaysPlain, RemainsOrEmpties, RemainsOrStays}
use Rattle.cedar_c_stores.specs.SomePlain.{IsSomePlain}
use Rattle.cedar_c_stores.specs.Stores.{IsAddResult, IsUpsertResult, IsRemoveResult, IsErrorTextBy, StaysOrEmpties, emptied}
use Rattle.cedar_c_stores.specs.Stores.{reason_of}
use Rattle.cedar_c_stores.specs.declared.edits.Edit.{Edit}
use Rattle.cedar_c_stores.specs.declared.edits.Edit.TheVariants as edits

-- After a successful dry run, adding entities can fail only because an allocation fails.
pub add_sure : (m : TCComputation) (L : List EntityView) (S : StoreView) → m ≡ modes.ComputeNow
    → HaveNoIndirect L → IsSomePlain S
    → ((W : InputStore) → IsPlainStore W S → HaveNoIndirect L → calls.Passes W (calls.Add (map input_of L)))
    → (e : EntitiesError) → IsAddResult m L S (Err e) → e ≡ errors.Memory
add_sure m L S now bare plain tries e g =
    let h : IsAddResult modes.ComputeNow L S (Err e) = subst (λ k. IsAddResult k L S (Err e)) now g in
    adding_passes plain.0 (map input_of L) e (tries plain.0 plain.1 bare) (h.plain plain.0 plain.1 bare).err

-- After a successful dry run, upserting entities can fail only because an allocation fails.
pub upsert_sure : (m : TCComputation) (L : List EntityView) (S : StoreView) → m ≡ modes.ComputeNow
    → HaveNoIndirect L → IsSomePlain S
    → ((W : InputStore) → IsPlainStore W S → HaveNoIndirect L → calls.Passes W (calls.Upsert (map input_of L)))
    → (e : EntitiesError) → IsUpsertResult m L S (Err e) → e ≡ errors.Memory
upsert_sure m L S now bare plain tries e g =
    let h : IsUpsertResult modes.ComputeNow L S (Err e) = subst (λ k. IsUpsertResult k L S (Err e)) now g in
    overwriting_passes plain.0 (map input_of L) e (tries plain.0 plain.1 bare) (h.plain plain.0 plain.1 bare).err

-- An error of a dry run is a possible error of adding the entities.
pub add_so : (m : TCComputation) (L : List EntityView) (S : StoreView) (e : EntitiesError) → m ≡ modes.ComputeNow
    → IsDryAddError S.entities L e
    → ((W : InputStore) → IsPlainStore W S → HaveNoIndirect L → calls.IsErrorAs W (calls.Add (map input_of L)) e)
    → IsAddResult m L S (Err e)
add_so m L S e now h tries = subst (λ k. IsAddResult k L S (Err e)) (sym now) (record {
  partial = tt;
  adds = h;
  plain = λ W p b. record { agree = tt; ok = tt; err = tries W p b };
})

-- An error of a dry run is a possible error of upserting the entities.
pub upsert_so : (m : TCComputation) (L : List EntityView) (S : StoreView) (e : EntitiesError) → m ≡ modes.ComputeNow
    → IsDryUpsertError S.entities L e
    → ((W : InputStore) → IsPlainStore W S → HaveNoIndirect L → calls.IsErrorAs W (calls.Upsert (map input_of L)) e)
    → IsUpsertResult m L S (Err e)
upsert_so m L S e now h tries = subst (λ k. IsUpsertResult k L S (Err e)) (sym now) (record {
  partial = tt;
  upserts = h;
  plain = λ W p b. record { ok = tt; err = tries W p b };
})

-- An error of a dry run of adding is a possible error of the edit.
pub adding_refused : {A : Type 0} (m : TCComputation) (x : Edit) (v : Vec (Rc EntityView Global)) (M : List EntityView)
    (S : StoreView) → x ≡ edits.Add v → M ≡ entities_in v.items → StaysPlain m x → (r : Result A EntitiesError)
    → IfErr r (IsDryAddError S.entities M)
    → ((W : InputStore) → IsPlainStore W S → HaveNoIndirect M → Tries W (calls.Add (map input_of M)) r)
    → IfErr r (λ e. IsEditResult m x S (Err e))
adding_refused m x v M S is same keeps (Ok a) h t = tt
adding_refused m x v M S is same keeps (Err e) h t = subst (λ y. IsEditResult m y S (Err e)) (sym is)
    (subst (λ L. IsAddResult m L S (Err e)) same (add_so m M S e (subst (StaysPlain m) is keeps).0 h t))

-- After a successful dry run of adding, the edit can fail only because an allocation fails.
pub adding_passed : {A : Type 0} (m : TCComputation) (x : Edit) (v : Vec (Rc EntityView Global)) (M : List EntityView)
    (S : StoreView) → x ≡ edits.Add v → M ≡ entities_in v.items → StaysPlain m x → IsSomePlain S
    → (r : Result A EntitiesError)
    → ((W : InputStore) → IsPlainStore W S → HaveNoIndirect M → Tries W (calls.Add (map input_of M)) r)
    → OnOk r (IsSure m x S)
adding_passed m x v M S is same keeps plain (Ok a) t = λ e g.
    let k = subst (StaysPlain m) is keeps in
    add_sure m M S k.0 (subst HaveNoIndirect (sym same) k.1) plain t e
    (subst (λ L. IsAddResult m L S (Err e)) (sym same) (subst (λ y. IsEditResult m y S (Err e)) is g))
adding_passed m x v M S is same keeps plain (Err e) t = tt

-- An error of a dry run of upserting is a possible error of the edit.
pub upserting_refused : {A : Type 0} (m : TCComputation) (x : Edit) (v : Vec (Rc EntityView Global)) (M : List EntityView)
    (S : StoreView) → x ≡ edits.Upsert v → M ≡ entities_in v.items → StaysPlain m x → (r : Result A EntitiesError)
    → IfErr r (IsDryUpsertError S.entities M)
    → ((W : InputStore) → IsPlainStore W S → HaveNoIndirect M → Tries W (calls.Upsert (map input_of M)) r)
    → IfErr r (λ e. IsEditResult m x S (Err e))
upserting_refused m x v M S is same keeps (Ok a) h t = tt
upserting_refused m x v M S is same keeps (Err e) h t = subst (λ y. IsEditResult m y S (Err e)) (sym is)
    (subst (λ L. IsUpsertResult m L S (Err e)) same (upsert_so m M S e (subst (StaysPlain m) is keeps).0 h t))

-- After a successful dry run of upserting, the edit can fail only because an allocation fails.
pub upserting_passed : {A : Type 0} (m : TCComputation) (x : Edit) (v : Vec (Rc EntityView Global)) (M : List EntityView)
    (S : StoreView) → x ≡ edits.Upsert v → M ≡ entities_in v.items → StaysPlain m x → IsSomePlain S
    → (r : Result A EntitiesError)
    → ((W : InputStore) → IsPlainStore W S → HaveNoIndirect M → Tries W (calls.Upsert (map input_of M)) r)
    → OnOk r (IsSure m x S)
upserting_passed m x v M S is same keeps plain (Ok a) t = λ e g.
    let k = subst (StaysPlain m) is keeps in
    upsert_sure m M S k.0 (subst HaveNoIndirect (sym same) k.1) plain t e
    (subst (λ L. IsUpsertResult m L S (Err e)) (sym same) (subst (λ y. IsEditResult m y S (Err e)) is g))
upserting_passed m x v M S is same keeps plain (Err e) t = tt

-- A removal from a plain store can fail only because an allocation fails.
pub removing_passed : (m : TCComputation) (x : Edit) (v : Vec EntityUID) (S : StoreView) → x ≡ edits.Remove v
    → IsSomePlain S → IsSure m x S
removing_passed m x v S is plain = λ e g.
    let h : IsRemoveResult m v.items S (Err e) = subst (λ y. IsEditResult m y S (Err e)) is g in (h.plain plain.0 plain.1).err

-- An allocation failure is a possible result of each edit.
pub memory_gives : (m : TCComputation) (x : Edit) (S : StoreView) → IsEditResult m x S (Err errors.Memory)
memory_gives modes.AssumeAlreadyComputed (edits.Add v) S = record {
  partial = tt;
  adds = record { agree = tt; ok = tt; untouched = tt; err = tt; named = tt };
  plain = λ W p b. record { agree = tt; ok = tt; err = tt };
}
memory_gives modes.EnforceAlreadyComputed (edits.Add v) S = record {
  partial = tt;
  adds = record { agree = tt; ok = tt; untouched = tt; err = tt; named = tt };
  plain = λ W p b. record { agree = tt; ok = tt; err = tt };
}
memory_gives modes.ComputeNow (edits.Add v) S = record {
  partial = tt;
  adds = record { agree = tt; ok = tt; untouched = tt; err = tt; named = tt };
  plain = λ W p b. record { agree = tt; ok = tt; err = tt };
}
memory_gives modes.AssumeAlreadyComputed (edits.Upsert v) S = record {
  partial = tt;
  upserts = record { ok = tt; untouched = tt; err = tt; named = tt };
  plain = λ W p b. record { ok = tt; err = tt };
}
memory_gives modes.EnforceAlreadyComputed (edits.Upsert v) S = record {
  partial = tt;
  upserts = record { ok = tt; untouched = tt; err = tt; named = tt };
  plain = λ W p b. record { ok = tt; err = tt };
}
memory_gives modes.ComputeNow (edits.Upsert v) S = record {
  partial = tt;
  upserts = record { ok = tt; untouched = tt; err = tt; named = tt };
  plain = λ W p b. record { ok = tt; err = tt };
}
memory_gives modes.AssumeAlreadyComputed (edits.Remove v) S = record {
  partial = tt;
  removes = record { ok = tt; untouched = tt; err = tt; named = tt };
  plain = λ W p. record { ok = tt; err = refl };
}
memory_gives modes.EnforceAlreadyComputed (edits.Remove v) S = record {
  partial = tt;
  removes = record { ok = tt; untouched = tt; err = tt; named = tt };
  plain = λ W p. record { ok = tt; err = refl };
}
memory_gives modes.ComputeNow (edits.Remove v) S = record {
  partial = tt;
  removes = record { ok = tt; untouched = tt; err = tt; named = tt };
  plain = λ W p. record { ok = tt; err = refl };
}

-- The result of an edit that keeps a plain store plain is plain.
pub plain_given : (m : TCComputation) (x : Edit) (S N : StoreView) → StaysPlain m x → IsEditResult m x S (Ok N) → IsSomePlain S
    → IsSomePlain N
plain_given m (edits.Add v) S N k g p =
    let L = entities_in v.items in
    let h : IsAddResult modes.ComputeNow L S (Ok N) = subst (λ t. IsAddResult t L S (Ok N)) k.0 g in
    (added p.0 (map input_of L), (h.plain p.0 p.1 k.1).ok)
plain_given m (edits.Upsert v) S N k g p =
    let L = entities_in v.items in
    let h : IsUpsertResult modes.ComputeNow L S (Ok N) = subst (λ t. IsUpsertResult t L S (Ok N)) k.0 g in
    (overwritten p.0 (map input_of L), (h.plain p.0 p.1 k.1).ok)
plain_given m (edits.Remove v) S N k g p = (deleted p.0 v.items, (g.plain p.0 p.1).ok)

module _ (A : Type 0) (m : TCComputation) (x : Edit) (O N : StoreView) where
  plain_stood : (a : A) (given : Result StoreView EntitiesError) → StaysPlain m x → IsEditResult m x O given
      → RemainsOrStays O given (Ok a) N → IsSomePlain O → IsSomePlain N
  plain_stood a (Ok S) k g s p = subst IsSomePlain (sym s) (plain_given m x O S k g p)
  plain_stood a (Err e) k g s p = absurd s

  -- The store after such an edit is plain.
  pub plain_edited : (a : A) → StaysPlain m x → Edits m x O (Ok a) N → IsSomePlain O → IsSomePlain N
  plain_edited a k h p = plain_stood a h.0 k h.1 h.2 p

  stands_sure : (given : Result StoreView EntitiesError) (r : Result A EntitiesError) → IsSure m x O
      → IsEditResult m x O given → RemainsOrEmpties O given r N → RemainsOrStays O given r N
  stands_sure (Ok S) (Ok a) sure g s = s
  stands_sure (Err e) (Err f) sure g s = (s.0, inr (sure e g, s.1))
  stands_sure (Ok S) (Err f) sure g s = absurd s
  stands_sure (Err e) (Ok a) sure g s = absurd s

  -- An edit that can fail only because an allocation fails.
  pub edited_sure : (r : Result A EntitiesError) → IsSure m x O
      → (given : Result StoreView EntitiesError) × IsEditResult m x O given × RemainsOrEmpties O given r N → Edits m x O r N
  edited_sure r sure h = (h.0, h.1, stands_sure h.0 r sure h.1 h.2)

  stood : (a : A) (given : Result StoreView EntitiesError) → RemainsOrEmpties O given (Ok a) N
      → RemainsOrStays O given (Ok a) N
  stood a (Ok S) s = s
  stood a (Err e) s = absurd s

  -- An edit that succeeds.
  pub edited_made : (a : A)
      → (given : Result StoreView EntitiesError) × IsEditResult m x O given × RemainsOrEmpties O given (Ok a) N
      → Edits m x O (Ok a) N
  edited_made a h = (h.0, h.1, stood a h.0 h.2)

  put_back : (B : StoreView) (f : EntitiesError) (given : Result StoreView EntitiesError)
      → RemainsOrEmpties {A = A} O given (Err f) B → N ≡ O → RemainsOrStays {A = A} O given (Err f) N
  put_back B f (Ok S) s is = absurd s
  put_back B f (Err e) s is = (s.0, inl is)

  -- An edit that fails, after which the copy is restored.
  pub edited_back : (B : StoreView) (f : EntitiesError)
      → (given : Result StoreView EntitiesError) × IsEditResult m x O given × RemainsOrEmpties {A = A} O given (Err f) B
      → N ≡ O
      → Edits {A = A} m x O (Err f) N
  edited_back B f h is = (h.0, h.1, put_back B f h.0 h.2 is)

-- The store after an error, by the reason of the error.
pub left_told : (O N : StoreView) (e : EntitiesError) (w : Reason) (text : List ℕ)
    → (N ≡ O) ⊎ ((e ≡ errors.Memory) × (N ≡ emptied O)) → IsErrorTextBy e w text → StaysOrEmpties O w N
left_told O N e w text (inl is) told = inl is
left_told O N e w text (inr h) told = inr (elim told [ inl n ↦ n | inr t ↦ t.0 ∙ ap reason_of h.0 ], h.1)

no_edge : (a b : EntityUID) → graph empty_input a b ≡ true → ⊥
no_edge a b h = false≢true (sym (ap (λ o. is_parent_in o b) (finmap.get-empty uid_order a)) ∙ h)

no_path : (a b : EntityUID) (xs : List EntityUID) → Path (graph empty_input) a xs b → ⊥
no_path a b [] p = no_edge a b p
no_path a b (x ∷ xs) p = no_edge a x p.0

-- The empty store is plain, whether partial or not.
pub emptied_plain : (O : StoreView) → IsSomePlain (emptied O)
emptied_plain O = (
  record empty_input { partial = O.partial },
  record {
    partial = refl;
    holds = λ q. ap (option_map parts_of) (finmap.get-empty uid_order q) ∙ sym (finmap.get-empty uid_order q);
    keyed = λ q. subst (λ o. IfSome o (λ e. e.uid ≡ q)) (sym (finmap.get-empty uid_order q)) tt;
    reached =
        λ q. subst (λ o. IfSome o (λ e. (x : EntityUID) → (has_ancestor e x ≡ true) ↔ Reach (graph empty_input) q x))
        (sym (finmap.get-empty uid_order q)) tt;
    apart = λ q. subst (λ o. IfSome o HasDisjointParents) (sym (finmap.get-empty uid_order q)) tt;
    acyclic = λ q r. no_path q q r.0 r.1;
  },
)

-- A plain store is plain after an edit that fails.
pub plain_left : (plain : Bool) (O N : StoreView) (e : EntitiesError)
    → (N ≡ O) ⊎ ((e ≡ errors.Memory) × (N ≡ emptied O)) → (IsTrue plain → IsSomePlain O) → IsTrue plain
    → IsSomePlain N
plain_left plain O N e (inl is) known t = subst IsSomePlain (sym is) (known t)
plain_left plain O N e (inr h) known t = subst IsSomePlain (sym h.1) (emptied_plain O)

-- A plain store is plain after an edit that keeps it plain.
pub plain_after : {A : Type 0} (m : TCComputation) (x : Edit) (O N : StoreView) (plain : Bool) → StaysPlain m x
    → IsSomePlain O → (r : Result A EntitiesError) → Edits m x O r N → OnOk r (IsTrue plain → IsSomePlain N)
plain_after {A} m x O N plain keeps p (Ok a) h = λ t. plain_edited A m x O N a keeps h p
plain_after m x O N plain keeps p (Err e) h = tt

refused_left : (A : Type 0) (O N : StoreView) (f : EntitiesError) (plain : Bool) (given : Result StoreView EntitiesError)
    → RemainsOrStays {A = A} O given (Err f) N → (IsTrue plain → IsSomePlain O) → IsTrue plain → IsSomePlain N
refused_left A O N f plain (Ok S) s known t = absurd s
refused_left A O N f plain (Err e) s known t = plain_left plain O N e s.1 known t

-- After an edit that fails, a store that is known to be plain is still plain.
pub plain_refused : {A : Type 0} (m : TCComputation) (x : Edit) (O N : StoreView) (f : EntitiesError) (plain : Bool)
    → Edits {A = A} m x O (Err f) N → (IsTrue plain → IsSomePlain O) → IsTrue plain → IsSomePlain N
plain_refused {A} m x O N f plain h known t = refused_left A O N f plain h.0 h.2 known t

-- An edit that is not made because an allocation fails.
pub edited_for_memory : {A : Type 0} (m : TCComputation) (x : Edit) (O : StoreView) (r : Result A EntitiesError)
    → IsErrAnd r (λ e. e ≡ errors.Memory) → Edits m x O r O
edited_for_memory m x O (Ok a) h = absurd h
edited_for_memory m x O (Err e) h = (Err errors.Memory, memory_gives m x O, (h, inl refl))
