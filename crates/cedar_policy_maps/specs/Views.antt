-- The parts of a policy set as callers see them.
use Rattle.std.specs.Prelude.{ℕ, List, ◌∷◌, map, Option, Some, None}
use Rattle.std.specs.Borrow.{Bor}
use Rattle.std.specs.declared.rc.Rc.{Rc}
use Rattle.std.specs.declared.alloc.Global.{Global}
use Rattle.cedar_body.specs.Bodies.{BodyParts}

-- The bodies of shared templates.
abbrev pub bodies_of : List (Rc BodyParts Global) → List BodyParts
bodies_of ts = map (λ t. t.value) ts

-- The remaining ids of an iterator: an optional first id, and the others.
abbrev pub ids_left : Option (Bor (List ℕ)) → List (List ℕ) → List (List ℕ)
ids_left None is = is
ids_left (Some i) is = i.now ∷ is
