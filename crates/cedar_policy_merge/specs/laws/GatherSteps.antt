-- The steps of the two scans for ids in conflict. Each body and each policy is found under its own id.
use Rattle.std.specs.Prelude.{◌≡◌, ℕ, ◌<◌, length, List, [], ◌∷◌, ◌++◌, Bool, false, not, ◌&&◌, Some}
use Rattle.std.specs.Prelude.{map, suc, zero}
use Rattle.std.proofs.Common.{sym, ap, ◌∙◌, get_or, arith, subst, cond}
use Rattle.std.specs.declared.rc.Rc.{Rc}
use Rattle.std.specs.declared.alloc.Global.{Global}
use Rattle.std.specs.List.{find, list_any}
use Rattle.std.proofs.lemmas.Bool.{or_parts}
use Rattle.std.proofs.lemmas.List.{map-append, append_assoc, length-map}
use Rattle.std.proofs.lemmas.List.Elements.{filter-append}
use Rattle.indexmap.specs.IndexSet.{insert_all}
use Rattle.cedar_ids.specs.Texts.{same_text}
use Rattle.cedar_ids.specs.laws.TextLaws.{same_text_equiv}
use Rattle.cedar_body.specs.Bodies.{BodyParts}
use Rattle.cedar_policy.specs.Policies.{PolicyParts, policy_id}
use Rattle.cedar_policy_maps.specs.PolicySets.{SetParts, AreOnce, is_body_at, is_policy_at}
use Rattle.cedar_policy_maps.specs.Views.{bodies_of}
use Rattle.cedar_policy_maps.specs.laws.OnceLaws.{is_at}
use Rattle.cedar_policy_merge.specs.Merge.{conflicting, is_same_at}
use Rattle.cedar_policy_merge.specs.laws.GatherLaws.{Group, looked_at, conflicting_bodies, conflicting_policies}
use Rattle.cedar_policy_merge.specs.laws.MergeSteps.{gathered-append}
use Rattle.cedar_policy_merge.specs.laws.RenamingLaws.{itself}

-- ---- One step

more_conflict : (h o : SetParts) (stands : List ℕ → Bool) (xs : List (List ℕ)) (x : List ℕ) →
    conflicting h o stands (xs ++ x ∷ []) ≡ conflicting h o stands xs ++ conflicting h o stands (x ∷ [])
more_conflict h o stands xs x = filter-append (λ i. stands i && not (is_same_at h o i)) xs (x ∷ [])

more_bodies_conflict : (g : Group) (h o : SetParts) (ts : List BodyParts) (t : BodyParts)
    → conflicting_bodies g h o (ts ++ t ∷ []) ≡ conflicting_bodies g h o ts ++ conflicting_bodies g h o (t ∷ [])
more_bodies_conflict g h o ts t =
    ap (conflicting h o (looked_at g h o)) (map-append (λ (b : BodyParts). b.id) ts (t ∷ []))
    ∙ more_conflict h o (looked_at g h o) (map (λ (b : BodyParts). b.id) ts) t.id

more_policies_conflict : (g : Group) (h o : SetParts) (ps : List PolicyParts) (p : PolicyParts)
    → conflicting_policies g h o (ps ++ p ∷ []) ≡ conflicting_policies g h o ps ++ conflicting_policies g h o (p ∷ [])
more_policies_conflict g h o ps p =
    ap (conflicting h o (looked_at g h o)) (map-append policy_id ps (p ∷ []))
    ∙ more_conflict h o (looked_at g h o) (map policy_id ps) (policy_id p)

gathered_more : (old now new xs ys zs : List (List ℕ)) → now ≡ insert_all same_text old xs → new ≡ insert_all same_text now ys → zs ≡ xs ++ ys
    → new ≡ insert_all same_text old zs
gathered_more old now new xs ys zs n m e =
    m ∙ ap (λ seen. insert_all same_text seen ys) n ∙ sym (gathered-append old xs ys) ∙ ap (insert_all same_text old) (sym e)

listed_more : (old now new xs ys zs : List (List ℕ)) → now ≡ old ++ xs → new ≡ now ++ ys → zs ≡ xs ++ ys
    → new ≡ old ++ zs
listed_more old now new xs ys zs n m e =
    m ∙ ap (λ is. is ++ ys) n ∙ append_assoc old xs ys ∙ ap (λ is. old ++ is) (sym e)

-- The step of one body.
pub gathered_body_step : (g : Group) (h o : SetParts) (ts : List BodyParts) (t : BodyParts)
    (old now new : List (List ℕ))
    → now ≡ insert_all same_text old (conflicting_bodies g h o ts)
    → new ≡ insert_all same_text now (conflicting_bodies g h o (t ∷ []))
    → new ≡ insert_all same_text old (conflicting_bodies g h o (ts ++ t ∷ []))
gathered_body_step g h o ts t old now new n m =
    gathered_more old now new (conflicting_bodies g h o ts) (conflicting_bodies g h o (t ∷ []))
    (conflicting_bodies g h o (ts ++ t ∷ [])) n m (more_bodies_conflict g h o ts t)

pub listed_body_step : (g : Group) (h o : SetParts) (ts : List BodyParts) (t : BodyParts)
    (old now new : List (List ℕ)) → now ≡ old ++ conflicting_bodies g h o ts
    → new ≡ now ++ conflicting_bodies g h o (t ∷ []) → new ≡ old ++ conflicting_bodies g h o (ts ++ t ∷ [])
listed_body_step g h o ts t old now new n m =
    listed_more old now new (conflicting_bodies g h o ts) (conflicting_bodies g h o (t ∷ []))
    (conflicting_bodies g h o (ts ++ t ∷ [])) n m (more_bodies_conflict g h o ts t)

-- The step of one policy.
pub gathered_policy_step : (g : Group) (h o : SetParts) (ps : List PolicyParts) (p : PolicyParts)
    (old now new : List (List ℕ))
    → now ≡ insert_all same_text old (conflicting_policies g h o ps)
    → new ≡ insert_all same_text now (conflicting_policies g h o (p ∷ []))
    → new ≡ insert_all same_text old (conflicting_policies g h o (ps ++ p ∷ []))
gathered_policy_step g h o ps p old now new n m =
    gathered_more old now new (conflicting_policies g h o ps) (conflicting_policies g h o (p ∷ []))
    (conflicting_policies g h o (ps ++ p ∷ [])) n m (more_policies_conflict g h o ps p)

pub listed_policy_step : (g : Group) (h o : SetParts) (ps : List PolicyParts) (p : PolicyParts)
    (old now new : List (List ℕ)) → now ≡ old ++ conflicting_policies g h o ps
    → new ≡ now ++ conflicting_policies g h o (p ∷ []) → new ≡ old ++ conflicting_policies g h o (ps ++ p ∷ [])
listed_policy_step g h o ps p old now new n m =
    listed_more old now new (conflicting_policies g h o ps) (conflicting_policies g h o (p ∷ []))
    (conflicting_policies g h o (ps ++ p ∷ [])) n m (more_policies_conflict g h o ps p)

-- ---- Lookups by id

fails_at : {A : Type 0} (t : A → Bool) (xs : List A) (k : ℕ) (x : A) → list_any t xs ≡ false → k < length xs
    → x ≡ get_or xs k x → t x ≡ false
fails_at t [] k x h l e = absurd (omega arith)
fails_at t (y ∷ ys) zero x h l e = ap t e ∙ (or_parts _ _ h).0
fails_at t (y ∷ ys) (suc k) x h l e = fails_at t ys k x (or_parts _ _ h).1 (omega arith) e

found_own : {A : Type 0} (id : A → List ℕ) (xs : List A) (k : ℕ) (x : A) → AreOnce id xs → k < length xs
    → x ≡ get_or xs k x → find (is_at id (id x)) xs ≡ Some x
found_own id [] k x h l e = absurd (omega arith)
found_own id (y ∷ ys) zero x h l e =
    ap (λ v. cond v (Some y) (find (is_at id (id x)) ys)) (ap (λ z. same_text (id z) (id y)) e ∙ itself (id y))
    ∙ ap Some (sym e)
found_own id (y ∷ ys) (suc k) x h l e =
    ap (λ v. cond v (Some y) (find (is_at id (id x)) ys))
    (same_text_equiv.symm (id x) (id y) ∙ fails_at (λ z. same_text (id y) (id z)) ys k x h.0 (omega arith) e)
    ∙ found_own id ys k x h.1 (omega arith) e

value_at : (ts : List (Rc BodyParts Global)) (k : ℕ) (t : Rc BodyParts Global) → k < length ts → t ≡ get_or ts k t
    → t.value ≡ get_or (bodies_of ts) k t.value
value_at [] k t l e = absurd (omega arith)
value_at (u ∷ us) zero t l e = ap (λ (r : Rc BodyParts Global). r.value) e
value_at (u ∷ us) (suc k) t l e = value_at us k t (omega arith) e

pub body_found : (o : SetParts) (ts : List (Rc BodyParts Global)) (k : ℕ) (t : Rc BodyParts Global)
    → bodies_of ts ≡ o.bodies → AreOnce (λ (b : BodyParts). b.id) o.bodies → k < length ts → t ≡ get_or ts k t
    → find (is_body_at t.value.id) o.bodies ≡ Some t.value
body_found o ts k t s h l e =
    ap (find (is_body_at t.value.id)) (sym s)
    ∙ found_own (λ (b : BodyParts). b.id) (bodies_of ts) k t.value
    (subst (AreOnce (λ (b : BodyParts). b.id)) (sym s) h)
    (omega (arith, length-map ts (λ (r : Rc BodyParts Global). r.value))) (value_at ts k t l e)

-- An element of a list is found under its own id.
passes_none : {A : Type 0} (t : A → Bool) (xs : List A) (x : A) (ys : List A) → list_any t (xs ++ x ∷ ys) ≡ false → t x ≡ false
passes_none t [] x ys h = (or_parts _ _ h).0
passes_none t (y ∷ xs) x ys h = passes_none t xs x ys (or_parts _ _ h).1

found_within : {A : Type 0} (id : A → List ℕ) (xs : List A) (x : A) (ys : List A) → AreOnce id (xs ++ x ∷ ys)
    → find (is_at id (id x)) (xs ++ x ∷ ys) ≡ Some x
found_within id [] x ys h = ap (λ v. cond v (Some x) (find (is_at id (id x)) ys)) (itself (id x))
found_within id (y ∷ xs) x ys h =
    ap (λ v. cond v (Some y) (find (is_at id (id x)) (xs ++ x ∷ ys)))
    (same_text_equiv.symm (id x) (id y) ∙ passes_none (λ z. same_text (id y) (id z)) xs x ys h.0)
    ∙ found_within id xs x ys h.1

pub body_within : (o : SetParts) (ts : List BodyParts) (t : BodyParts) (us : List BodyParts)
    → ts ++ t ∷ us ≡ o.bodies → AreOnce (λ (b : BodyParts). b.id) o.bodies
    → find (is_body_at t.id) o.bodies ≡ Some t
body_within o ts t us e h =
    ap (find (is_body_at t.id)) (sym e)
    ∙ found_within (λ (b : BodyParts). b.id) ts t us (subst (AreOnce (λ (b : BodyParts). b.id)) (sym e) h)

pub policy_within : (o : SetParts) (ps : List PolicyParts) (p : PolicyParts) (qs : List PolicyParts)
    → ps ++ p ∷ qs ≡ o.policies → AreOnce policy_id o.policies
    → find (is_policy_at (policy_id p)) o.policies ≡ Some p
policy_within o ps p qs e h =
    ap (find (is_policy_at (policy_id p))) (sym e)
    ∙ found_within policy_id ps p qs (subst (AreOnce policy_id) (sym e) h)
