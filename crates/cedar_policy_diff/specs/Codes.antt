-- The code by which a proof distinguishes differences.
use Rattle.std.specs.Prelude.{List, refl}
use Rattle.std.specs.Coded.{Coded, code_by, coded×, coded_list}
use Rattle.cedar_body.specs.Bodies.{BodyParts}
use Rattle.cedar_body.specs.Codes.{body_code}
use Rattle.cedar_policy.specs.Policies.{PolicyParts}
use Rattle.cedar_policy.specs.Codes.{policy_code}
use Rattle.cedar_policy_diff.specs.Diff.{SetDiff}

-- The code of two lists of values and of a list of changes.
abbrev parts_code : {A : Type 0} → Coded A → Coded (List A × (List A × List (A × A)))
parts_code c = coded× (coded_list c) (coded× (coded_list c) (coded_list (coded× c c)))

-- The code of a difference: its lists of templates, its lists of policies, and the relinked policies.
abbrev pub diff_code : Coded SetDiff
diff_code =
    code_by
    ((List BodyParts × (List BodyParts × List (BodyParts × BodyParts)))
    × ((List PolicyParts × (List PolicyParts × List (PolicyParts × PolicyParts))) × List (PolicyParts × PolicyParts)))
    (coded× (parts_code body_code) (coded× (parts_code policy_code) (coded_list (coded× policy_code policy_code))))
    (λ d. (
      (d.removed_templates, (d.added_templates, d.changed_templates)),
      ((d.removed, (d.added, d.changed)), d.relinked),
    ))
    (λ r. record {
      removed_templates = r.0.0;
      added_templates = r.0.1.0;
      changed_templates = r.0.1.1;
      removed = r.1.0.0;
      added = r.1.0.1.0;
      changed = r.1.0.1.1;
      relinked = r.1.1;
    })
    (λ _. refl)
