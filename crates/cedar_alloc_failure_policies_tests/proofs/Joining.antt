-- Conditions for inserting a policy with its template into maps, as a merge inserts them.
use Rattle.std.specs.Prelude.{◌≡◌, List, [], ◌∷◌, refl}
use Rattle.std.proofs.Common.{subst, sym}
use Rattle.std.specs.declared.rc.Rc.{Rc}
use Rattle.std.specs.declared.alloc.Global.{Global}
use Rattle.cedar_body.specs.Bodies.{BodyParts}
use Rattle.cedar_policy.specs.Policies.{PolicyParts}
use Rattle.cedar_policy_maps.specs.PolicySets.{empty_set}
use Rattle.cedar_policy_maps.specs.Insertions.{CanInsertWithBody}
use Rattle.cedar_policy_maps.specs.BulkInsert.{CanBulkInsert}
use Rattle.cedar_policy_maps.specs.Views.{bodies_of}
use Rattle.cedar_policy_maps.specs.laws.SetLaws.{both_join}

one_taken : (p : PolicyParts) → CanInsertWithBody empty_set p → CanBulkInsert empty_set [] (p.template ∷ []) (p ∷ [])
one_taken p c = record {
  policy_set = both_join empty_set p (record { bodies_once = tt; policies_once = tt; held = tt }) c;
  beside = tt;
  behind = (refl, tt);
  once = tt;
  only = tt;
  bare = (refl, tt);
}

-- A policy that can be inserted into empty maps with its template can be bulk inserted with it.
pub both_taken : (ss ts : List (Rc BodyParts Global)) (ps : List PolicyParts) (t : Rc BodyParts Global)
    (p : PolicyParts) → CanInsertWithBody empty_set p → ss ≡ [] → ts ≡ t ∷ [] → t.value ≡ p.template → ps ≡ p ∷ [] →
    CanBulkInsert empty_set (bodies_of ss) (bodies_of ts) ps
both_taken ss ts ps t p c a b d e =
    rw (a, b, e) (subst (λ u. CanBulkInsert empty_set [] (u ∷ []) (p ∷ [])) (sym d) (one_taken p c))
