-- One more body among the existing or the new ones.
use Rattle.std.specs.Prelude.{◌≡◌, List, [], ◌∷◌, ◌++◌, Bool, true, false}
use Rattle.std.proofs.Common.{cond, ap, ◌∙◌}
use Rattle.std.specs.declared.rc.Rc.{Rc}
use Rattle.std.specs.declared.alloc.Global.{Global}
use Rattle.std.proofs.lemmas.List.{map-append}
use Rattle.cedar_body.specs.Bodies.{BodyParts}
use Rattle.cedar_policy_maps.specs.Views.{bodies_of}

body_parted_at : (v : Bool) (olds news : List (Rc BodyParts Global)) (x : Rc BodyParts Global) (t : BodyParts)
    → news ≡ olds ++ cond v (x ∷ []) [] → x.value ≡ t → bodies_of news ≡ bodies_of olds ++ cond v (t ∷ []) []
body_parted_at true olds news x t e q = ap bodies_of e ∙ map-append (λ (t : Rc BodyParts Global). t.value) olds (x ∷ [])
    ∙ ap (λ b. bodies_of olds ++ b ∷ []) q
body_parted_at false olds news x t e q = ap bodies_of e ∙ map-append (λ (t : Rc BodyParts Global). t.value) olds []

pub body_parted : (v w : Bool) (olds news : List (Rc BodyParts Global)) (x : Rc BodyParts Global) (t : BodyParts)
    → v ≡ w → news ≡ olds ++ cond v (x ∷ []) [] → x.value ≡ t → bodies_of news ≡ bodies_of olds ++ cond w (t ∷ []) []
body_parted v w olds news x t b e q = body_parted_at w olds news x t (e ∙ ap (λ a. olds ++ cond a (x ∷ []) []) b) q
