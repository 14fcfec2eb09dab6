-- The three maps agree after bodies and policies are appended.
use Rattle.std.specs.Prelude.{◌≡◌, ℕ, List, [], ◌∷◌, ◌++◌, Bool, true, false, not, map}
use Rattle.std.proofs.Common.{cond, sym, ap, ◌∙◌, subst}
use Rattle.std.specs.List.{filter, list_any}
use Rattle.std.specs.Map.{values_of}
use Rattle.std.proofs.lemmas.List.{map-append}
use Rattle.cedar_body.specs.Bodies.{BodyParts}
use Rattle.cedar_policy.specs.Policies.{PolicyParts, policy_id}
use Rattle.cedar_policy_maps.specs.PolicySets.{SetParts, AreOnce, is_policy_at, IsPolicySet}
use Rattle.cedar_policy_maps.specs.Lists.{is_on}
use Rattle.cedar_policy_maps.specs.Maps.{Maps, set_in, ids_by_body, templates_in, DoAgree}
use Rattle.cedar_policy_maps.specs.BulkInsert.{bulk_inserted, AreUnused, CanBulkInsert}
use Rattle.cedar_policy_maps.specs.laws.GatherLaws.{gathered, elsewhere_in, elsewhere_listed, free_templates}
use Rattle.cedar_policy_maps.specs.laws.BulkInsertSteps.{grown_by, all_new}
use Rattle.cedar_policy_maps.specs.laws.BulkInsertSteps as each
use Rattle.cedar_policy_maps.specs.laws.ListedLaws.{IsKeyed}
use Rattle.cedar_policy_maps.specs.laws.MapLaws.{templates_once}
use Rattle.cedar_policy_maps.specs.laws.TemplateLaws.{templates_joined}

abbrev body_id : BodyParts → List ℕ
body_id t = t.id

abbrev own_body : PolicyParts → List ℕ
own_body p = p.template.id

keyed-append : {V : Type 0} (id : V → List ℕ) (es fs : List (List ℕ × V)) → IsKeyed id es → IsKeyed id fs
    → IsKeyed id (es ++ fs)
keyed-append id [] fs h g = g
keyed-append id (e ∷ es) fs h g =
    let a : e.0 ≡ id e.1 = cc in
    let r : IsKeyed id es = cc in
    let l = keyed-append id es fs r g in cc

values-append : {V : Type 0} (es fs : List (List ℕ × V)) → values_of (es ++ fs) ≡ values_of es ++ values_of fs
values-append es fs = map-append (λ e. e.1) es fs

bare_kept : (v : Bool) (t : BodyParts) (us : List BodyParts) (ps : List PolicyParts) → list_any (is_on t.id) ps ≡ false
    → AreUnused us ps → AreUnused (cond v (t ∷ us) us) ps
bare_kept true t us ps n r = (n, r)
bare_kept false t us ps n r = r

bare_templates : (ts : List BodyParts) (qs ps : List PolicyParts) → AreUnused ts ps → AreUnused (templates_in qs ts) ps
bare_templates [] qs ps h = tt
bare_templates (t ∷ ts) qs ps h = bare_kept (not (list_any (is_policy_at t.id) qs)) t (templates_in qs ts) ps h.0
    (bare_templates ts qs ps h.1)

-- `AreUnused` for bodies is the general `AreUnused` for values with ids.
each_bare : (ts : List BodyParts) (ps : List PolicyParts) → AreUnused ts ps
    → each.AreBare body_id policy_id own_body ts ps
each_bare [] ps h = tt
each_bare (t ∷ ts) ps h = (h.0, each_bare ts ps h.1)

-- The lists of all templates are the lists that grew, followed by the new ones.
lists_agree : (b : SetParts) (stand ts : List BodyParts) (ps : List PolicyParts) → CanBulkInsert b stand ts ps
    → grown_by (ids_by_body (templates_in b.policies b.bodies) b.policies)
    (gathered [] (elsewhere_in (map body_id (templates_in ps ts)) ps)) ++ ids_by_body (templates_in ps ts) ps
    ≡ ids_by_body (templates_in (b.policies ++ ps) (b.bodies ++ ts)) (b.policies ++ ps)
lists_agree b stand ts ps k =
    let old = templates_in b.policies b.bodies in
    let new = templates_in ps ts in
    let once : AreOnce body_id (old ++ new) =
    subst (AreOnce body_id) (templates_joined b.bodies ts b.policies ps k.beside k.behind)
    (templates_once (b.bodies ++ ts) (b.policies ++ ps) k.policy_set.bodies_once) in
    (λ j. elsewhere_listed old new b.policies ps once k.policy_set.policies_once
    (free_templates b.bodies b.policies ps k.beside) j
    ++ sym (all_new body_id policy_id own_body new b.policies ps
    (each_bare new b.policies (bare_templates ts ps b.policies k.bare))) j)
    ∙ sym (map-append (λ (t : BodyParts). (t.id, map policy_id (filter (is_on t.id) (b.policies ++ ps)))) old new)
    ∙ ap (λ us. ids_by_body us (b.policies ++ ps)) (sym (templates_joined b.bodies ts b.policies ps k.beside k.behind))

abbrev Becomes : Maps → SetParts → Type 0
Becomes m b = DoAgree m × (set_in m ≡ b)

taken_in_agrees : (m : Maps) (stand : List BodyParts) (bs : List (List ℕ × BodyParts)) (qs : List (List ℕ
    × PolicyParts)) → DoAgree m → CanBulkInsert (set_in m) stand (values_of bs) (values_of qs) →
    IsKeyed body_id bs → IsKeyed policy_id qs →
    Becomes (record {
      bodies = m.bodies ++ bs;
      policies = m.policies ++ qs;
      listed =
          grown_by m.listed (gathered [] (elsewhere_in (map body_id (templates_in (values_of qs) (values_of bs))) (values_of qs)))
          ++ ids_by_body (templates_in (values_of qs) (values_of bs)) (values_of qs);
    })
    (bulk_inserted (set_in m) (values_of bs) (values_of qs))
taken_in_agrees m stand bs qs h k f g =
    let b = set_in m in
    let ts = values-append m.bodies bs in
    let ps = values-append m.policies qs in
    let now : set_in
    (record {
      bodies = m.bodies ++ bs;
      policies = m.policies ++ qs;
      listed = grown_by m.listed (gathered [] (elsewhere_in (map body_id (templates_in (values_of qs) (values_of bs))) (values_of qs)))
          ++ ids_by_body (templates_in (values_of qs) (values_of bs)) (values_of qs);
    })
    ≡ bulk_inserted b (values_of bs) (values_of qs) = λ j. record { bodies = ts j; policies = ps j } in (
      record {
        policy_set = subst IsPolicySet (sym now) k.policy_set;
        bodies_by_id = keyed-append body_id m.bodies bs h.bodies_by_id f;
        policies_by_id = keyed-append policy_id m.policies qs h.policies_by_id g;
        all_listed =
            ap (λ ls. grown_by ls (gathered [] (elsewhere_in (map body_id (templates_in (values_of qs) (values_of bs))) (values_of qs)))
            ++ ids_by_body (templates_in (values_of qs) (values_of bs)) (values_of qs)) h.all_listed
            ∙ lists_agree b stand (values_of bs) (values_of qs) k
            ∙ (λ j. ids_by_body (templates_in (sym ps j) (sym ts j)) (sym ps j));
      },
      now,
    )

pub taken_in_kept : (m : Maps) (stand : List BodyParts) (bs bodies : List (List ℕ
    × BodyParts)) (qs policies : List (List ℕ × PolicyParts)) (listed : List (List ℕ × List (List ℕ))) → DoAgree m →
    CanBulkInsert (set_in m) stand (values_of bs) (values_of qs) → IsKeyed body_id bs → IsKeyed policy_id qs →
    bodies ≡ m.bodies ++ bs → policies ≡ m.policies ++ qs
    → listed ≡ grown_by m.listed (gathered [] (elsewhere_in (map body_id (templates_in (values_of qs) (values_of bs))) (values_of qs)))
    ++ ids_by_body (templates_in (values_of qs) (values_of bs)) (values_of qs) →
    Becomes (record {
      bodies = bodies;
      policies = policies;
      listed =
          listed;
    }) (bulk_inserted (set_in m) (values_of bs) (values_of qs))
taken_in_kept m stand bs bodies qs policies listed h k f g p q l = rw (p, q, l) (taken_in_agrees m stand bs qs h k f g)
