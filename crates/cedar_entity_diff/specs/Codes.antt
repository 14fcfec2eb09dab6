-- The codes by which a proof distinguishes differences.
use Rattle.std.specs.Prelude.{Bool, List, Option}
use Rattle.std.proofs.Common.{refl}
use Rattle.std.specs.Coded.{Coded, code_by, coded×, coded_bool, coded_list, coded_option}
use Rattle.cedar_ids.specs.Codes.{uid_code}
use Rattle.cedar_ids.specs.declared.entity.EntityUID.{EntityUID}
use Rattle.cedar_uid_sets.specs.Codes.{uid_set_code}
use Rattle.cedar_uid_sets.specs.UidSets.{UidValues}
use Rattle.cedar_entity.specs.Codes.{view_code}
use Rattle.cedar_entity.specs.View.{EntityView}
use Rattle.cedar_entity_diff.specs.Diffs.{AncestryView, ChangeView, DiffView}

-- The code of a changed entity.
abbrev pub change_code : Coded ChangeView
change_code = code_by (EntityView × EntityView) (coded× view_code view_code) (λ c. (c.before, c.after))
    (λ p. record { before = p.0; after = p.1 }) (λ _. refl)

-- The code of the ancestors gained and lost.
abbrev pub ancestry_code : Coded AncestryView
ancestry_code = code_by (EntityUID × (UidValues × UidValues)) (coded× uid_code (coded× uid_set_code uid_set_code))
    (λ c. (c.uid, (c.gained, c.lost))) (λ p. record { uid = p.0; gained = p.1.0; lost = p.1.1 }) (λ _. refl)

-- The parts of a difference, in pairs.
abbrev pub Flat : Type 0
Flat = (List EntityView × List EntityView) × ((List ChangeView × List AncestryView) × Option Bool)

-- The code of a difference: its parts.
abbrev pub diff_code : Coded DiffView
diff_code =
    code_by Flat (coded× (coded× (coded_list view_code) (coded_list view_code))
    (coded× (coded× (coded_list change_code) (coded_list ancestry_code)) (coded_option coded_bool)))
    (λ d. ((d.removed, d.added), ((d.changed, d.ancestry), d.partial)))
    (λ p. record { removed = p.0.0; added = p.0.1; changed = p.1.0.0; ancestry = p.1.0.1; partial = p.1.1 }) (λ _. refl)
