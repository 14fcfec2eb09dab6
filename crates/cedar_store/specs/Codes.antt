-- A code for the value of a session, which determines the value.
use Rattle.std.specs.Prelude.{Bool, refl}
use Rattle.std.specs.Coded.{Coded, code_by, coded×, coded_bool}
use Rattle.cedar_entity_lines.specs.Codes.{waiting_code}
use Rattle.cedar_entity_lines.specs.Holding.{StoreAndWaiting}
use Rattle.cedar_policy_lines.specs.TwoSets.{TwoSets}
use Rattle.cedar_policy_lines.specs.Codes.{sets_code}
use Rattle.cedar_store.specs.Sessions.{SessionView}

-- The code of a session: the store with its queue, the policy sets, and whether the session is lost.
abbrev pub session_code : Coded SessionView
session_code =
    code_by (StoreAndWaiting × (TwoSets × Bool)) (coded× waiting_code (coded× sets_code coded_bool))
    (λ v. (v.entities, (v.policy_sets, v.is_lost)))
    (λ r. record { entities = r.0; policy_sets = r.1.0; is_lost = r.1.1 }) (λ _. refl)
