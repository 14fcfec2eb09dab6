-- A copy of a list of shared uids contains the same uids.
use Rattle.std.proofs.Common.{◌≡◌, List, [], ◌∷◌, map, refl, Global}
use Rattle.std.specs.List.{AllZip}
use Rattle.std.specs.declared.rc.Rc.{Rc}
use Rattle.cedar_ids.specs.Uid.{UidParts}
use Rattle.cedar_ids.specs.UidOf.{uid_parts}
use Rattle.cedar_ids.specs.declared.entity.EntityUID.{EntityUID}

abbrev pub Shared : Type 0
Shared = Rc EntityUID Global

abbrev pub parts : Shared → UidParts
parts u = uid_parts u.value

-- The copy contains the same uids.
pub copied_parts : (us vs : List Shared) → AllZip (λ (u v : Shared). v.value ≡ u.value) us vs
    → map parts vs ≡ map parts us
copied_parts [] [] h = refl
copied_parts [] (v ∷ vs) h = absurd h
copied_parts (u ∷ us) [] h = absurd h
copied_parts (u ∷ us) (v ∷ vs) h = λ i. uid_parts (h.0 i) ∷ copied_parts us vs h.1 i
