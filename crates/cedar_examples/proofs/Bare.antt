-- Entities without indirect ancestors, one after another.
use Rattle.std.specs.Prelude.{◌≡◌, List, [], ◌∷◌, ◌++◌, map, refl}
use Rattle.std.proofs.Common.{ap, sym, subst, ◌∙◌}
use Rattle.std.specs.FinSet as set
use Rattle.cedar_ids.specs.UidOf.{uid_order}
use Rattle.cedar_ids.specs.declared.entity.EntityUID.{EntityUID}
use Rattle.cedar_entity.specs.View.{EntityView}
use Rattle.cedar_entity_maps.specs.Plain.{HaveNoIndirect, HasNoIndirect, input_of}
use Rattle.cedar_entity_maps.specs.InputStore.{InputEntity, input_entity}
use Rattle.cedar_entity_maps.specs.laws.Lists.{all_push}

-- The entity with these parents and nothing else.
abbrev pub child_of : EntityUID → List EntityUID → EntityView
child_of u ps = record { uid = u; attrs = []; tags = []; parents = set.from_list ps; indirect = set.empty }

map_push : {A B : Type 0} (f : A → B) (xs : List A) (x : A) → map f (xs ++ x ∷ []) ≡ map f xs ++ f x ∷ []
map_push f [] x = refl
map_push f (y ∷ ys) x = ap (λ r. f y ∷ r) (map_push f ys x)

pub map_same : {A : Type 0} (xs : List A) → map (λ x. x) xs ≡ xs
map_same [] = refl
map_same (x ∷ xs) = ap (λ r. x ∷ r) (map_same xs)

pub has_no_indirect : (e : EntityView) (u : EntityUID) (ps : List EntityUID) → e ≡ child_of u ps → HasNoIndirect e
has_no_indirect e u ps h = subst HasNoIndirect (sym h) (λ q. set.contains-empty uid_order q)

-- A list with one more input entity.
pub listed_more : {M : Type 0} (f : M → InputEntity) (es ds : List EntityView) (ms : List M) (e : EntityView) (m : M) →
    map input_of es ≡ map f ms → HaveNoIndirect es → ds ≡ es ++ e ∷ [] → input_of e ≡ f m → HasNoIndirect e →
    (map input_of ds ≡ map f (ms ++ m ∷ [])) × HaveNoIndirect ds
listed_more f es ds ms e m g b h k bare = (
  ap (map input_of) h ∙ map_push input_of es e ∙ ap (λ gs. gs ++ input_of e ∷ []) g ∙ ap (λ x. map f ms ++ x ∷ []) k
      ∙ sym (map_push f ms m),
  subst HaveNoIndirect (sym h) (all_push HasNoIndirect es e b bare),
)

-- A list with one entity.
pub one_bare : (es : List EntityView) (e : EntityView) (u : EntityUID) (ps : List EntityUID) → es ≡ e ∷ []
    → e ≡ child_of u ps →
    HaveNoIndirect es × (map input_of es ≡ input_entity u ps ∷ [])
one_bare es e u ps h k = (
  subst HaveNoIndirect (sym h) (has_no_indirect e u ps k, tt),
  ap (map input_of) h ∙ ap (λ x. input_of x ∷ []) k,
)
