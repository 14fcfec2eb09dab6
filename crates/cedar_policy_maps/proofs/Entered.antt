-- The maps of a set after a merge has appended its entries.
use Rattle.std.specs.Prelude.{◌≡◌, ℕ, List, [], ◌∷◌, ◌++◌, not, map}
use Rattle.std.proofs.Common.{sym, ap, ◌∙◌, subst}
use Rattle.std.specs.List.{list_any}
use Rattle.std.specs.Map.{keys_of, values_of}
use Rattle.std.specs.declared.rc.Rc.{Rc}
use Rattle.std.specs.declared.alloc.Global.{Global}
use Rattle.std.proofs.lemmas.List.{map-append}
use Rattle.indexmap.specs.IndexSet.{IndexSet}
use Rattle.cedar_body.specs.Bodies.{BodyParts}
use Rattle.cedar_policy.specs.Policies.{PolicyParts, policy_id}
use Rattle.cedar_policy_maps.specs.PolicySets.{SetParts, AreOnce, is_policy_at}
use Rattle.cedar_policy_maps.specs.Maps.{Maps, shared_of, lists_of, maps_of, set_in, ids_by_body, templates_in}
use Rattle.cedar_policy_maps.specs.Maps.{DoAgree}
use Rattle.cedar_policy_maps.specs.Views.{bodies_of}
use Rattle.cedar_policy_maps.specs.laws.GatherLaws.{gathered, gathered_own, elsewhere_in, under_keys}
use Rattle.cedar_policy_maps.specs.laws.BulkInsertSteps.{grown_by, HaveOwnKeys, own_keys, listed_keys, grown_keys}
use Rattle.cedar_policy_maps.specs.laws.ListedLaws.{IsKeyed}
use Rattle.cedar_policy_maps.specs.laws.RawMaps.{shared_keys}
use Rattle.cedar_policy_maps.specs.laws.OnceLaws.{once-filter}
use Rattle.cedar_policy_maps.specs.BulkInsert.{bulk_inserted, CanBulkInsert}
use Rattle.cedar_policy_maps.specs.laws.BulkInsertLaws.{taken_in_kept}
use Rattle.cedar_policy_maps.specs.laws.TemplateLaws.{templates_joined}
use Rattle.cedar_policy_maps.proofs.Entries.{shared_id, shared_values, shared_keyed}

abbrev body_id : BodyParts → List ℕ
body_id t = t.id

-- If no two elements of a list have the same id, so is it for the end of the list.
pub once_after : {A : Type 0} (id : A → List ℕ) (xs ys : List A) → AreOnce id (xs ++ ys) → AreOnce id ys
once_after id [] ys h = h
once_after id (x ∷ xs) ys h = once_after id xs ys h.1

abbrev Becomes : Maps → SetParts → Type 0
Becomes m b = DoAgree m × (set_in m ≡ b)

-- The keys of the entries to append are new in each map.
pub bodies_new : (m : Maps) (stand : List BodyParts) (ts es : List (List ℕ × Rc BodyParts Global))
    (fs : List (List ℕ × PolicyParts)) → DoAgree m → m.bodies ≡ shared_of ts →
    CanBulkInsert (set_in m) stand (bodies_of (values_of es)) (values_of fs) → IsKeyed shared_id es
    → HaveOwnKeys (ts ++ es)
bodies_new m stand ts es fs h q k f =
    own_keys body_id ts es (values_of m.bodies) (bodies_of (values_of es)) (shared_keys ts ∙ ap keys_of (sym q)
    ∙ h.bodies_by_id)
    (shared_keys es ∙ shared_keyed es f ∙ ap (map body_id) (sym (shared_values es))) k.policy_set.bodies_once

pub policies_new : (m : Maps) (stand bs : List BodyParts) (fs : List (List ℕ × PolicyParts)) → DoAgree m
    → CanBulkInsert (set_in m) stand bs (values_of fs) → IsKeyed policy_id fs → HaveOwnKeys (m.policies ++ fs)
policies_new m stand bs fs h k g =
    own_keys policy_id m.policies fs (values_of m.policies) (values_of fs) h.policies_by_id g k.policy_set.policies_once

module _ {S : Type 0} where
  pub grown_once : (ps : List PolicyParts) (gs : List (List ℕ × IndexSet (List ℕ) S)) → lists_of gs ≡ gathered [] ps
      → HaveOwnKeys gs
  grown_once ps gs g =
      subst (AreOnce (λ (k : List ℕ). k)) (sym (ap keys_of g) ∙ listed_keys gs) (gathered_own [] ps tt)

  pub lists_new : (m : Maps) (stand bs : List BodyParts) (ps : List PolicyParts)
      (hs ns : List (List ℕ × IndexSet (List ℕ) S)) (more : List (List ℕ × List (List ℕ))) → DoAgree m
      → CanBulkInsert (set_in m) stand bs ps →
      lists_of hs ≡ grown_by m.listed more → lists_of ns ≡ ids_by_body (templates_in ps bs) ps → HaveOwnKeys (hs ++ ns)
  lists_new m stand bs ps hs ns more h k g n =
      let b = set_in m in
      own_keys body_id hs ns (templates_in b.policies b.bodies) (templates_in ps bs)
      (sym (listed_keys hs) ∙ ap keys_of g ∙ grown_keys m.listed more ∙ ap keys_of h.all_listed
      ∙ under_keys (templates_in b.policies b.bodies) b.policies)
      (sym (listed_keys ns) ∙ ap keys_of n ∙ under_keys (templates_in ps bs) ps)
      (subst (AreOnce body_id) (templates_joined b.bodies bs b.policies ps k.beside k.behind)
      (once-filter body_id (λ (t : BodyParts). not (list_any (is_policy_at t.id) (b.policies ++ ps)))
      (b.bodies ++ bs) k.policy_set.bodies_once))

  -- The three maps after the entries are appended.
  pub entered : (ts es us : List (List ℕ × Rc BodyParts Global)) (ps fs qs : List (List ℕ × PolicyParts))
      (ls gs hs ns ms : List (List ℕ × IndexSet (List ℕ) S)) (stand : List BodyParts) →
      DoAgree (maps_of ts ps ls)
      → CanBulkInsert (set_in (maps_of ts ps ls)) stand (bodies_of (values_of es)) (values_of fs)
      → IsKeyed shared_id es → IsKeyed policy_id fs →
      lists_of ns ≡ ids_by_body (templates_in (values_of fs) (bodies_of (values_of es))) (values_of fs)
      → lists_of gs ≡ gathered [] (elsewhere_in (keys_of ns) (values_of fs)) →
      shared_of us ≡ shared_of (ts ++ es) → qs ≡ ps ++ fs → lists_of hs ≡ grown_by (lists_of ls) (lists_of gs)
      → ms ≡ hs ++ ns →
      Becomes (maps_of us qs ms) (bulk_inserted (set_in (maps_of ts ps ls)) (bodies_of (values_of es)) (values_of fs))
  entered ts es us ps fs qs ls gs hs ns ms stand h k f g n w a q p l =
      let m : Maps = maps_of ts ps ls in
      let vs : values_of (shared_of es) ≡ bodies_of (values_of es) = sym (shared_values es) in
      let keys : keys_of ns ≡ map body_id (templates_in (values_of fs) (values_of (shared_of es))) =
      sym (listed_keys ns) ∙ ap keys_of n
      ∙ under_keys (templates_in (values_of fs) (bodies_of (values_of es))) (values_of fs)
      ∙ ap (λ bs. map body_id (templates_in (values_of fs) bs)) (sym vs) in
      let lists : lists_of ms ≡ grown_by (lists_of ls) (gathered []
      (elsewhere_in (map body_id (templates_in (values_of fs) (values_of (shared_of es)))) (values_of fs)))
      ++ ids_by_body (templates_in (values_of fs) (values_of (shared_of es))) (values_of fs) =
      ap lists_of l ∙ map-append (λ (e : List ℕ × IndexSet (List ℕ) S). (e.0, e.1.keys)) hs ns
      ∙ (λ j. (p ∙ ap (grown_by (lists_of ls)) (w ∙ ap (λ ks. gathered [] (elsewhere_in ks (values_of fs))) keys)) j
      ++ (n ∙ ap (λ bs. ids_by_body (templates_in (values_of fs) bs) (values_of fs)) (sym vs)) j) in
      subst (λ bs. Becomes (maps_of us qs ms) (bulk_inserted (set_in m) bs (values_of fs))) vs
      (taken_in_kept m stand (shared_of es) (shared_of us) fs qs (lists_of ms) h
      (subst (λ bs. CanBulkInsert (set_in m) stand bs (values_of fs)) (sym vs) k) (shared_keyed es f) g
      (a ∙ map-append (λ (e : List ℕ × Rc BodyParts Global). (e.0, e.1.value)) ts es) q lists)
