-- Scans of lists of bodies and policies. Equal bodies and equal policies are identical.
use Rattle.std.specs.Prelude.{◌≡◌, ℕ, ◌+◌, ◌<◌, length, List, [], ◌∷◌, ◌++◌, true, suc, zero}
use Rattle.std.proofs.Common.{sym, ap, ◌∙◌, take, get_or, arith, drop}
use Rattle.std.specs.declared.rc.Rc.{Rc}
use Rattle.std.specs.declared.alloc.Global.{Global}
use Rattle.std.proofs.lemmas.List.{map-append, take_more}
use Rattle.cedar_body.specs.Bodies.{BodyParts}
use Rattle.cedar_body.specs.BodyEquality.{same_body}
use Rattle.cedar_body.specs.laws.BodyLaws.{same_body_decides}
use Rattle.cedar_policy.specs.Policies.{PolicyParts}
use Rattle.cedar_policy.specs.PolicyEquality.{same_policy}
use Rattle.cedar_policy.specs.laws.PolicyLaws.{same_policy_decides}
use Rattle.cedar_policy_maps.specs.Views.{bodies_of}

pub bodies_more : (ts : List (Rc BodyParts Global)) (k : ℕ) (t : Rc BodyParts Global) → k < length ts
    → t ≡ get_or ts k t → bodies_of (take (k + 1) ts) ≡ bodies_of (take k ts) ++ t.value ∷ []
bodies_more ts k t l e =
    ap bodies_of (take_more ts k t l ∙ ap (λ x. take k ts ++ x ∷ []) (sym e))
    ∙ map-append (λ (t : Rc BodyParts Global). t.value) (take k ts) (t ∷ [])

pub policies_more : (ps : List PolicyParts) (k : ℕ) (p : PolicyParts) → k < length ps → p ≡ get_or ps k p
    → take (k + 1) ps ≡ take k ps ++ p ∷ []
policies_more ps k p l e = take_more ps k p l ∙ ap (λ x. take k ps ++ x ∷ []) (sym e)

pub parted : (ts : List (Rc BodyParts Global)) (k : ℕ) (t : Rc BodyParts Global) → k < length ts → t ≡ get_or ts k t →
    bodies_of ts ≡ bodies_of (take k ts) ++ t.value ∷ bodies_of (drop (suc k) ts)
parted [] k t l e = absurd (omega arith)
parted (u ∷ us) zero t l e = λ i. (sym e i).value ∷ bodies_of us
parted (u ∷ us) (suc k) t l e = ap (λ xs. u.value ∷ xs) (parted us k t (omega arith) e)

-- Equal bodies are identical.
pub same_body_is : (t u : BodyParts) → same_body t u ≡ true → t ≡ u
same_body_is t u e = (same_body_decides t u).0 e

pub same_policy_is : (p q : PolicyParts) → same_policy p q ≡ true → p ≡ q
same_policy_is p q e = (same_policy_decides p q).0 e
