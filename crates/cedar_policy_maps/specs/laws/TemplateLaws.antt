-- The bodies that are templates, after additions and removals: those whose id no policy has.
use Rattle.std.specs.Prelude.{◌≡◌, ℕ, List, [], ◌∷◌, ◌++◌, Bool, true, false, not, ◌||◌, None, refl, map}
use Rattle.std.proofs.Common.{cond, sym, ap, ◌∙◌, arith}
use Rattle.std.specs.List.{filter, find, list_any}
use Rattle.std.proofs.lemmas.Bool.{or_parts}
use Rattle.std.proofs.lemmas.Grind.{common_steps}
use Rattle.std.proofs.lemmas.List.{append-nil}
use Rattle.std.proofs.lemmas.List.Folds.{list_any-append}
use Rattle.std.proofs.lemmas.List.Elements.{filter-append}
use Rattle.cedar_ids.specs.Texts.{same_text}
use Rattle.cedar_ids.specs.laws.TextLaws.{same_text_equiv, same_text_decides}
use Rattle.cedar_body.specs.Bodies.{BodyParts}
use Rattle.cedar_policy.specs.Policies.{PolicyParts, policy_id}
use Rattle.cedar_policy_maps.specs.PolicySets.{is_body_at, is_policy_at}
use Rattle.cedar_policy_maps.specs.Maps.{ids_by_body, templates_in}
use Rattle.cedar_policy_maps.specs.BulkInsert.{HaveIdsFreeOf}
use Rattle.cedar_policy_maps.specs.laws.OnceLaws.{find-filter, find-unless}

neither : (a c : Bool) → a ≡ false → c ≡ false → (a || c) ≡ false
neither a c p q = cc

or_first : (a c : Bool) → c ≡ false → (a || c) ≡ a
or_first true c h = refl
or_first false c h = h

or_second : (a c : Bool) → a ≡ false → (a || c) ≡ c
or_second true c h = absurd (cc)
or_second false c h = refl

-- Filtering does not affect a search if all elements that pass its test pass the filter.
pub any-filter : {X : Type 0} (p t : X → Bool) (xs : List X) → ((x : X) → t x ≡ true → p x ≡ true)
    → list_any t (filter p xs) ≡ list_any t xs
any-filter p t [] h = refl
any-filter p t (x ∷ xs) h = grind (arith, common_steps, h x, any-filter p t xs h)

pub none-filter : {X : Type 0} (p t : X → Bool) (xs : List X) → ((x : X) → t x ≡ true → p x ≡ false)
    → list_any t (filter p xs) ≡ false
none-filter p t [] h = refl
none-filter p t (x ∷ xs) h = grind (arith, common_steps, h x, none-filter p t xs h)

-- ---- Additions

-- Adding policies with other ids does not change which of these bodies are templates.
pub templates_beside : (ts : List BodyParts) (ps qs : List PolicyParts) → HaveIdsFreeOf ts qs
    → templates_in (ps ++ qs) ts ≡ templates_in ps ts
templates_beside [] ps qs h = refl
templates_beside (t ∷ ts) ps qs h =
    let e : list_any (is_policy_at t.id) (ps ++ qs) ≡ list_any (is_policy_at t.id) ps =
    list_any-append (is_policy_at t.id) ps qs ∙ or_first _ _ h.0 in
    λ j. cond (not (e j)) (t ∷ templates_beside ts ps qs h.1 j) (templates_beside ts ps qs h.1 j)

-- For bodies whose ids the first policies do not have, only the other policies matter.
pub templates_behind : (ts : List BodyParts) (ps qs : List PolicyParts) → HaveIdsFreeOf ts ps
    → templates_in (ps ++ qs) ts ≡ templates_in qs ts
templates_behind [] ps qs h = refl
templates_behind (t ∷ ts) ps qs h =
    let e : list_any (is_policy_at t.id) (ps ++ qs) ≡ list_any (is_policy_at t.id) qs =
    list_any-append (is_policy_at t.id) ps qs ∙ or_second _ _ h.0 in
    λ j. cond (not (e j)) (t ∷ templates_behind ts ps qs h.1 j) (templates_behind ts ps qs h.1 j)

-- The templates of the existing and the new bodies.
pub templates_joined : (ts us : List BodyParts) (ps qs : List PolicyParts) → HaveIdsFreeOf ts qs → HaveIdsFreeOf us ps →
    templates_in (ps ++ qs) (ts ++ us) ≡ templates_in ps ts ++ templates_in qs us
templates_joined ts us ps qs h g =
    filter-append (λ (t : BodyParts). not (list_any (is_policy_at t.id) (ps ++ qs))) ts us
    ∙ (λ j. templates_beside ts ps qs h j ++ templates_behind us ps qs g j)

-- The ids of bodies are not the id of one policy.
pub free_of_one : (ts : List BodyParts) (p : PolicyParts) → list_any (is_body_at (policy_id p)) ts ≡ false
    → HaveIdsFreeOf ts (p ∷ [])
free_of_one [] p h = tt
free_of_one (t ∷ ts) p h =
    let n = or_parts _ _ h in
    (neither _ _ (same_text_equiv.symm t.id (policy_id p) ∙ n.0) refl, free_of_one ts p n.1)

pub templates_stay : (ts : List BodyParts) (ps : List PolicyParts) (p : PolicyParts)
    → list_any (is_body_at (policy_id p)) ts ≡ false → templates_in (ps ++ p ∷ []) ts ≡ templates_in ps ts
templates_stay ts ps p h = templates_beside ts ps (p ∷ []) (free_of_one ts p h)

-- An appended body whose id no policy has is the last template.
pub template_last : (ts : List BodyParts) (ps : List PolicyParts) (t : BodyParts)
    → list_any (is_policy_at t.id) ps ≡ false → templates_in ps (ts ++ t ∷ []) ≡ templates_in ps ts ++ t ∷ []
template_last ts ps t n =
    filter-append (λ (t : BodyParts). not (list_any (is_policy_at t.id) ps)) ts (t ∷ [])
    ∙ (λ j. templates_in ps ts ++ cond (not (n j)) (t ∷ []) [])

-- An appended body whose id a policy has is not a template.
pub static_last : (ts : List BodyParts) (ps : List PolicyParts) (t : BodyParts) → list_any (is_policy_at t.id) ps ≡ true
    → templates_in ps (ts ++ t ∷ []) ≡ templates_in ps ts
static_last ts ps t n =
    filter-append (λ (t : BodyParts). not (list_any (is_policy_at t.id) ps)) ts (t ∷ [])
    ∙ (λ j. templates_in ps ts ++ cond (not (n j)) (t ∷ []) []) ∙ append-nil (templates_in ps ts)

-- ---- Removals

apart_from : (i k : List ℕ) (p : PolicyParts) → same_text i k ≡ false → is_policy_at k p ≡ true
    → not (is_policy_at i p) ≡ true
apart_from i k p n e = ap not (ap (same_text i) (sym ((same_text_decides k (policy_id p)).0 e)) ∙ n)

removed_at : (v w : Bool) (i : List ℕ) (t : BodyParts) (ts us : List BodyParts) (ps qs : List PolicyParts)
    → is_body_at i t ≡ v → list_any (is_policy_at t.id) ps ≡ w
    → (v ≡ false → list_any (is_policy_at t.id) qs ≡ w)
    → templates_in qs us ≡ filter (λ t. not (is_body_at i t)) (templates_in ps ts)
    → templates_in qs (cond (not v) (t ∷ us) us) ≡ filter (λ t. not (is_body_at i t))
    (cond (not w) (t ∷ templates_in ps ts) (templates_in ps ts))
removed_at true true i t ts us ps qs e f g h = h
removed_at true false i t ts us ps qs e f g h = h ∙ ap
    (λ v. cond (not v) (t ∷ filter (λ t. not (is_body_at i t)) (templates_in ps ts))
    (filter (λ t. not (is_body_at i t)) (templates_in ps ts))) (sym e)
removed_at false true i t ts us ps qs e f g h = ap (λ v. cond (not v) (t ∷ templates_in qs us) (templates_in qs us))
    (g refl) ∙ h
removed_at false false i t ts us ps qs e f g h =
    ap (λ v. cond (not v) (t ∷ templates_in qs us) (templates_in qs us)) (g refl) ∙ ap (λ us. t ∷ us) h
    ∙ ap (λ v. cond (not v) (t ∷ filter (λ t. not (is_body_at i t)) (templates_in ps ts))
    (filter (λ t. not (is_body_at i t)) (templates_in ps ts))) (sym e)

pub templates_removed : (i : List ℕ) (ts : List BodyParts) (ps : List PolicyParts) →
    templates_in (filter (λ p. not (is_policy_at i p)) ps) (filter (λ t. not (is_body_at i t)) ts)
    ≡ filter (λ t. not (is_body_at i t)) (templates_in ps ts)
templates_removed i [] ps = refl
templates_removed i (t ∷ ts) ps =
    removed_at (is_body_at i t) (list_any (is_policy_at t.id) ps) i t ts (filter (λ t. not (is_body_at i t)) ts) ps
    (filter (λ p. not (is_policy_at i p)) ps) refl refl
    (λ n. any-filter (λ p. not (is_policy_at i p)) (is_policy_at t.id) ps (λ p e. apart_from i t.id p n e))
    (templates_removed i ts ps)

-- ---- Lookups

found_at : (v : Bool) (i : List ℕ) (ts : List BodyParts) (ps : List PolicyParts) → list_any (is_policy_at i) ps ≡ v
    → find (is_body_at i) (templates_in ps ts) ≡ cond v None (find (is_body_at i) ts)
found_at true i ts ps e =
    find-unless (is_body_at i) (templates_in ps ts)
    (none-filter (λ (t : BodyParts). not (list_any (is_policy_at t.id) ps)) (is_body_at i) ts
    (λ t f. ap (λ k. not (list_any (is_policy_at k) ps)) (sym ((same_text_decides i t.id).0 f)) ∙ ap not e))
found_at false i ts ps e =
    find-filter (λ (t : BodyParts). not (list_any (is_policy_at t.id) ps)) (is_body_at i) ts
    (λ t f. ap (λ k. not (list_any (is_policy_at k) ps)) (sym ((same_text_decides i t.id).0 f)) ∙ ap not e)

-- The template with an id is the body with the id, if no policy has the id.
pub template_found : (i : List ℕ) (ts : List BodyParts) (ps : List PolicyParts)
    → find (is_body_at i) (templates_in ps ts) ≡ cond (list_any (is_policy_at i) ps) None (find (is_body_at i) ts)
template_found i ts ps = found_at (list_any (is_policy_at i) ps) i ts ps refl

-- ---- Lists of ids

listed_at : (v : Bool) (t : BodyParts) (ts : List BodyParts) (ps qs : List PolicyParts) (ls : List (List ℕ
    × List (List ℕ))) → ls ≡ ids_by_body (templates_in ps ts) qs
    → cond (not v) ((t.id, map policy_id (filter (λ p. same_text t.id p.template.id) qs)) ∷ ls) ls
    ≡ ids_by_body (cond (not v) (t ∷ templates_in ps ts) (templates_in ps ts)) qs
listed_at true t ts ps qs ls h = h
listed_at false t ts ps qs ls h = ap (λ ls. (
  t.id,
  map policy_id
      (filter (λ p. same_text t.id p.template.id) qs),
) ∷ ls) h

-- The lists of all bodies, without those under ids of policies, are the lists of the templates.
pub templates_listed : (ts : List BodyParts) (ps qs : List PolicyParts)
    → filter (λ e. not (list_any (is_policy_at e.0) ps)) (ids_by_body ts qs) ≡ ids_by_body (templates_in ps ts) qs
templates_listed [] ps qs = refl
templates_listed (t ∷ ts) ps qs =
    listed_at (list_any (is_policy_at t.id) ps) t ts ps qs
    (filter (λ e. not (list_any (is_policy_at e.0) ps)) (ids_by_body ts qs)) (templates_listed ts ps qs)
