-- Lists of uids, read from the back.
use Rattle.std.proofs.Common.{◌≡◌, List, [], ◌∷◌, ◌++◌, map, ap, ◌∙◌, Bor}
use Rattle.std.specs.Prelude.{reverse}
use Rattle.std.proofs.lemmas.List.{reverse-append, map-append}
use Rattle.cedar_ids.specs.UidOf.{uid_parts}
use Rattle.cedar_ids.specs.declared.entity.EntityUID.{EntityUID}
use Rattle.cedar_action.specs.Views.{from_the_back}

-- The last uid of a list is the first from the back.
pub last_comes_first : (us : List (Bor EntityUID)) (u : Bor EntityUID)
    → from_the_back (us ++ u ∷ []) ≡ uid_parts u.now ∷ from_the_back us
last_comes_first us u = ap (λ vs. reverse vs) (map-append (λ v. uid_parts v.now) us (u ∷ []))
    ∙ reverse-append (map (λ v. uid_parts v.now) us) (uid_parts u.now ∷ [])
