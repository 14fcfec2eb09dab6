-- The steps of a merge: one id, one body, one policy.
use Rattle.std.specs.Prelude.{◌≡◌, ℕ, List, [], ◌∷◌, ◌++◌, Bool, true, false, not, Option, Some}
use Rattle.std.specs.Prelude.{None, refl, map, if◌then◌else◌}
use Rattle.std.proofs.Common.{sym, ap, ◌∙◌}
use Rattle.std.specs.List.{filter, list_any}
use Rattle.std.specs.Option.{option_map, unwrap_or}
use Rattle.std.proofs.lemmas.List.{map-append, append_assoc}
use Rattle.std.proofs.lemmas.List.Elements.{filter-append}
use Rattle.indexmap.specs.IndexSet.{insert_all}
use Rattle.cedar_ids.specs.Texts.{same_text}
use Rattle.cedar_body.specs.Bodies.{BodyParts, with_id}
use Rattle.cedar_policy.specs.Policies.{PolicyParts, policy_id, renamed, with_policy_id}
use Rattle.cedar_policy_maps.specs.PolicySets.{SetParts, AreOnce, is_bound}
use Rattle.cedar_policy_merge.specs.Merge.{has_body, has_policy, body_ids, policy_ids, conflicting, conflicts}
use Rattle.cedar_policy_merge.specs.Merge.{renamed_body, renamed_policy, merged_bodies, merged_policies}
use Rattle.cedar_policy_maps.specs.laws.OnceLaws.{once-push}

-- Whether the first of some ids is reported exactly if renaming is not allowed.
abbrev pub Refuses : Option (List ℕ) → List (List ℕ) → Bool → Type 0
Refuses None ids rename = rename ≡ false → ids ≡ []
Refuses (Some i) ids rename = (rename ≡ false) × (rest : List (List ℕ)) × (ids ≡ i ∷ rest)

-- A link with its template under the template's new id. A static policy does not change.
abbrev pub template_renamed_by : Option (List ℕ) → (List ℕ → List ℕ) → PolicyParts → PolicyParts
template_renamed_by None c p = p
template_renamed_by (Some l) c p = record { template = renamed_body c p.template; link = Some l; env = p.env }

abbrev pub with_template_renamed : (List ℕ → List ℕ) → PolicyParts → PolicyParts
with_template_renamed c p = template_renamed_by p.link c p

-- To insert two lists one after another inserts their concatenation.
pub gathered-append : (seen xs ys : List (List ℕ)) → insert_all same_text seen (xs ++ ys) ≡ insert_all same_text (insert_all same_text seen xs) ys
gathered-append seen [] ys = refl
gathered-append seen (x ∷ xs) ys = gathered-append (if list_any (same_text x) seen then seen else seen ++ x ∷ []) xs ys

once_step : (x : List ℕ) (seen : List (List ℕ)) (v : Bool) → list_any (same_text x) seen ≡ v
    → AreOnce (λ (i : List ℕ). i) seen → AreOnce (λ (i : List ℕ). i) (if v then seen else seen ++ x ∷ [])
once_step x seen true e h = h
once_step x seen false e h = once-push (λ (i : List ℕ). i) seen x h e

-- Inserted ids are different.
pub once_gathered : (seen xs : List (List ℕ)) → AreOnce (λ (i : List ℕ). i) seen
    → AreOnce (λ (i : List ℕ). i) (insert_all same_text seen xs)
once_gathered seen [] h = h
once_gathered seen (x ∷ xs) h =
    once_gathered (if list_any (same_text x) seen then seen else seen
    ++ x ∷ []) xs (once_step x seen (list_any (same_text x) seen) refl h)

-- The new bodies and policies of a list with one more element.
pub joined_body_more : (h : SetParts) (c : List ℕ → List ℕ) (xs : List BodyParts) (x : BodyParts)
    → merged_bodies h c (xs ++ x ∷ []) ≡ merged_bodies h c xs ++ merged_bodies h c (x ∷ [])
joined_body_more h c xs x =
    ap (filter (λ (t : BodyParts). not (is_bound h t.id))) (map-append (renamed_body c) xs (x ∷ []))
    ∙ filter-append (λ (t : BodyParts). not (is_bound h t.id)) (map (renamed_body c) xs) (map (renamed_body c) (x ∷ []))

pub joined_policy_more : (h : SetParts) (c : List ℕ → List ℕ) (xs : List PolicyParts) (x : PolicyParts)
    → merged_policies h c (xs ++ x ∷ []) ≡ merged_policies h c xs ++ merged_policies h c (x ∷ [])
joined_policy_more h c xs x =
    ap (filter (λ p. not (is_bound h (policy_id p)))) (map-append (renamed_policy c) xs (x ∷ []))
    ∙ filter-append (λ p. not (is_bound h (policy_id p))) (map (renamed_policy c) xs) (map (renamed_policy c) (x ∷ []))

-- To insert the four groups one after another inserts their concatenation.
pub gathered_all : (a b c d : List (List ℕ)) → insert_all same_text (insert_all same_text (insert_all same_text (insert_all same_text [] a) b) c) d
    ≡ insert_all same_text [] (a ++ (b ++ (c ++ d)))
gathered_all a b c d =
    sym (gathered-append [] a (b ++ (c ++ d)) ∙ gathered-append (insert_all same_text [] a) b (c ++ d)
    ∙ gathered-append (insert_all same_text (insert_all same_text [] a) b) c d)

renamed_by : (o : Option (List ℕ)) (c : List ℕ → List ℕ) (p : PolicyParts) (i : List ℕ) → o ≡ p.link
    → i ≡ c (unwrap_or o p.template.id) →
    with_policy_id i (template_renamed_by o c p) ≡ renamed_policy c p
renamed_by None c p i e q =
    ap (λ l. renamed i l p) (sym e) ∙ (λ j. record {
      template = with_id (q j) p.template;
      link =
          option_map c (e j);
      env = p.env;
    })
renamed_by (Some l) c p i e q =
    (λ j. record { template = renamed_body c p.template; link = Some (q j); env = p.env })
    ∙ (λ j. record { template = renamed_body c p.template; link = option_map c (e j); env = p.env })

renamed_twice_by : (o : Option (List ℕ)) (c : List ℕ → List ℕ) (p : PolicyParts) (i : List ℕ) → o ≡ p.link
    → i ≡ c (policy_id p) → with_policy_id i (template_renamed_by o c p) ≡ renamed_policy c p
renamed_twice_by o c p i e q = renamed_by o c p i e (q ∙ ap (λ l. c (unwrap_or l p.template.id)) (sym e))

same_id_by : (o : Option (List ℕ)) (c : List ℕ → List ℕ) (p : PolicyParts) → o ≡ p.link
    → policy_id (template_renamed_by o c p) ≡ policy_id p
same_id_by None c p e = refl
same_id_by (Some l) c p e = ap (λ l. unwrap_or l p.template.id) e

-- To rename a policy's template and then the policy renames both.
pub renamed_twice : (c : List ℕ → List ℕ) (p q : PolicyParts) (n : Option (List ℕ)) → q ≡ with_template_renamed c p
    → unwrap_or n (policy_id p) ≡ c (policy_id p) →
    with_policy_id (unwrap_or n (policy_id q)) q ≡ renamed_policy c p
renamed_twice c p q n s e =
    ap (λ q. with_policy_id (unwrap_or n (policy_id q)) q) s
    ∙ renamed_twice_by p.link c p (unwrap_or n (policy_id (with_template_renamed c p))) refl
    (ap (unwrap_or n) (same_id_by p.link c p refl) ∙ e)

own_id : (o : Option (List ℕ)) (p : PolicyParts) → o ≡ p.link → renamed (unwrap_or o p.template.id) o p ≡ p
own_id None p e = λ j. record { template = p.template; link = e j; env = p.env }
own_id (Some l) p e = λ j. record { template = p.template; link = e j; env = p.env }

-- Giving a policy the id that it has does not change it.
pub same_id_kept : (p : PolicyParts) → with_policy_id (policy_id p) p ≡ p
same_id_kept p = own_id p.link p refl

-- The step of one body in the list of new bodies.
pub joined_body_step : (h : SetParts) (c : List ℕ → List ℕ) (ts : List BodyParts) (t : BodyParts)
    (old now new : List BodyParts) → now ≡ old ++ merged_bodies h c ts → new ≡ now ++ merged_bodies h c (t ∷ [])
    → new ≡ old ++ merged_bodies h c (ts ++ t ∷ [])
joined_body_step h c ts t old now new n m =
    m ∙ ap (λ x. x ++ merged_bodies h c (t ∷ [])) n
    ∙ append_assoc old (merged_bodies h c ts) (merged_bodies h c (t ∷ []))
    ∙ ap (λ x. old ++ x) (sym (joined_body_more h c ts t))

pub joined_policy_step : (h : SetParts) (c : List ℕ → List ℕ) (ps : List PolicyParts) (p : PolicyParts)
    (old now new : List PolicyParts) → now ≡ old ++ merged_policies h c ps
    → new ≡ now ++ merged_policies h c (p ∷ []) → new ≡ old ++ merged_policies h c (ps ++ p ∷ [])
joined_policy_step h c ps p old now new n m =
    m ∙ ap (λ x. x ++ merged_policies h c (p ∷ [])) n ∙ append_assoc old (merged_policies h c ps)
    (merged_policies h c (p ∷ []))
    ∙ ap (λ x. old ++ x) (sym (joined_policy_more h c ps p))

-- The ids in conflict are different.
pub once_conflicts : (h o : SetParts) → AreOnce (λ (i : List ℕ). i) (conflicts h o)
once_conflicts h o =
    once_gathered []
    (conflicting h o (has_body h) (body_ids o)
    ++ (conflicting h o (has_policy h) (policy_ids o)
    ++ (conflicting h o (has_policy h) (body_ids o)
    ++ conflicting h o (has_body h) (policy_ids o)))) tt
