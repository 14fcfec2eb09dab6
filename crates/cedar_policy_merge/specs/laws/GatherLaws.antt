-- The ids in conflict are collected in four groups. A later group leaves out ids that an earlier group has checked.
use Rattle.std.specs.Prelude.{◌≡◌, ℕ, List, [], ◌∷◌, ◌++◌, Bool, true, false, not, ◌&&◌, refl, if◌then◌else◌, map}
use Rattle.std.proofs.Common.{sym, ap, ◌∙◌, cond}
use Rattle.std.specs.List.{filter}
use Rattle.std.proofs.lemmas.Bool.{false≢true}
use Rattle.indexmap.specs.IndexSet.{insert_all}
use Rattle.cedar_ids.specs.Texts.{same_text}
use Rattle.cedar_body.specs.Bodies.{BodyParts}
use Rattle.cedar_policy.specs.Policies.{PolicyParts, policy_id}
use Rattle.cedar_policy_maps.specs.PolicySets.{SetParts}
use Rattle.cedar_policy_merge.specs.Merge.{has_body, has_policy, body_ids, policy_ids, is_same_at, conflicting}
use Rattle.cedar_policy_merge.specs.Merge.{conflicts}
use Rattle.cedar_policy_merge.specs.laws.MergeSteps.{gathered_all}
use Rattle.cedar_policy_maps.specs.laws.OnceLaws.{any-map}
use Rattle.cedar_policy_merge.specs.laws.RenamingLaws.{itself, first_of, second_of, is_in, in_step, still_there}
use Rattle.cedar_policy_merge.specs.laws.RenamingLaws.{gathers}
use Rattle.cedar_policy_merge.specs.laws.RenamingLaws.{in_conflicting}

-- The groups: bodies of the other set that conflict with bodies, policies with policies, bodies with links of this set,
-- and policies with templates of this set.
pub data Group : Type 0 where
  Bodies : Group
  Policies : Group
  Links : Group
  Templates : Group

-- Whether a group checks an id:
--
-- - `Bodies`: a body of this set has it.
-- - `Policies`: a policy of this set has it, and not both sets have a body with it.
-- - `Links`: a policy of this set has it, and no body of this set.
-- - `Templates`: a body of this set has it, and no policy of this set.
abbrev pub looked_at : Group → SetParts → SetParts → List ℕ → Bool
looked_at Bodies here other i = has_body here i
looked_at Policies here other i = not (has_body here i && has_body other i) && has_policy here i
looked_at Links here other i = not (has_body here i) && has_policy here i
looked_at Templates here other i = not (has_policy here i) && has_body here i

-- The ids of some bodies of the other set that a group checks and that are in conflict.
abbrev pub conflicting_bodies : Group → SetParts → SetParts → List BodyParts → List (List ℕ)
conflicting_bodies g here other ts = conflicting here other (looked_at g here other) (map (λ (t : BodyParts). t.id) ts)

abbrev pub conflicting_policies : Group → SetParts → SetParts → List PolicyParts → List (List ℕ)
conflicting_policies g here other ps = conflicting here other (looked_at g here other) (map policy_id ps)

one_step : (v w : Bool) (p q : List ℕ → Bool) (x : List ℕ) (xs seen : List (List ℕ)) → (w ≡ true → v ≡ true)
    → (v ≡ true → w ≡ false → is_in x seen ≡ true) →
    ((more : List (List ℕ)) → ((i : List ℕ) → is_in i seen ≡ true → is_in i more ≡ true)
    → insert_all same_text more (filter q xs) ≡ insert_all same_text more (filter p xs)) →
    insert_all same_text seen (cond w (x ∷ filter q xs) (filter q xs)) ≡ insert_all same_text seen (cond v (x ∷ filter p xs) (filter p xs))
one_step true true p q x xs seen s k r = r (if is_in x seen then seen else seen
    ++ x ∷ []) (λ i h. in_step i x seen (is_in x seen) h)
one_step true false p q x xs seen s k r =
    r seen (λ i h. h) ∙ ap (λ v. insert_all same_text (if v then seen else seen ++ x ∷ []) (filter p xs)) (sym (k refl refl))
one_step false true p q x xs seen s k r = absurd (false≢true (s refl))
one_step false false p q x xs seen s k r = r seen (λ i h. h)

-- Ids that are already collected can be left out.
left_out : (p q : List ℕ → Bool) (seen xs : List (List ℕ)) → ((i : List ℕ) → q i ≡ true → p i ≡ true)
    → ((i : List ℕ) → is_in i xs ≡ true → p i ≡ true → q i ≡ false → is_in i seen ≡ true) →
    insert_all same_text seen (filter q xs) ≡ insert_all same_text seen (filter p xs)
left_out p q seen [] s k = refl
left_out p q seen (x ∷ xs) s k =
    one_step (p x) (q x) p q x xs seen (s x) (k x (first_of (same_text x x) (is_in x xs) (itself x)))
    (λ more m. left_out p q more xs s (λ i h a b. m i (k i (second_of (same_text i x) (is_in i xs) h) a b)))

kept_so : (a b c : Bool) → ((a && b) && c) ≡ true → (b && c) ≡ true
kept_so true b c h = h
kept_so false b c h = absurd (false≢true h)

only_so : (a b c : Bool) → (b && c) ≡ true → ((not a && b) && c) ≡ false → a ≡ true
only_so true b c h n = refl
only_so false b c h n = absurd (false≢true (sym n ∙ h))

differs : (b s : Bool) → (b && not s) ≡ true → s ≡ false
differs true true h = absurd (false≢true h)
differs true false h = refl
differs false s h = absurd (false≢true h)

both_so : (a b : Bool) → (a && b) ≡ true → (a ≡ true) × (b ≡ true)
both_so true b h = (refl, h)
both_so false b h = absurd (false≢true h)

-- A body of the other set that conflicts with a body of this set is in the first group.
among_bodies : (h o : SetParts) (i : List ℕ) → has_body h i ≡ true → is_in i (body_ids o) ≡ true
    → is_same_at h o i ≡ false → is_in i (insert_all same_text [] (conflicting h o (has_body h) (body_ids o))) ≡ true
among_bodies h o i b t d = gathers i [] (conflicting h o (has_body h) (body_ids o))
    (in_conflicting h o (has_body h) (body_ids o) i b d t)

-- The ids in conflict that the groups check, one group after another.
abbrev pub in_groups : List (List ℕ) → SetParts → SetParts → List (List ℕ)
in_groups seen h o =
    insert_all same_text (insert_all same_text (insert_all same_text (insert_all same_text seen (conflicting h o (looked_at Bodies h o) (body_ids o)))
    (conflicting h o (looked_at Policies h o) (policy_ids o))) (conflicting h o (looked_at Links h o) (body_ids o)))
    (conflicting h o (looked_at Templates h o) (policy_ids o))

-- The four groups give the ids in conflict.
pub conflicts_in_groups : (h o : SetParts) → in_groups [] h o ≡ conflicts h o
conflicts_in_groups h o =
    let a = conflicting h o (has_body h) (body_ids o) in
    let b = conflicting h o (has_policy h) (policy_ids o) in
    let c = conflicting h o (has_policy h) (body_ids o) in
    let d = conflicting h o (has_body h) (policy_ids o) in
    let one : List (List ℕ) = insert_all same_text [] a in
    let two : List (List ℕ) = insert_all same_text one b in
    let three : List (List ℕ) = insert_all same_text two c in
    let policies : insert_all same_text one (conflicting h o (looked_at Policies h o) (policy_ids o)) ≡ two =
    left_out (λ i. has_policy h i && not (is_same_at h o i)) (λ i. looked_at Policies h o i
    && not (is_same_at h o i)) one (policy_ids o)
    (λ i e. kept_so (not (has_body h i && has_body o i)) (has_policy h i) (not (is_same_at h o i)) e)
    (λ i t e n.
    let both = both_so (has_body h i) (has_body o i)
    (only_so (has_body h i && has_body o i) (has_policy h i) (not (is_same_at h o i)) e n) in
    among_bodies h o i both.0 (any-map (λ (t : BodyParts). t.id) (same_text i) o.bodies ∙ both.1)
    (differs (has_policy h i) (is_same_at h o i) e)) in
    let links : insert_all same_text two (conflicting h o (looked_at Links h o) (body_ids o)) ≡ three =
    left_out (λ i. has_policy h i && not (is_same_at h o i)) (λ i. looked_at Links h o i
    && not (is_same_at h o i)) two (body_ids o)
    (λ i e. kept_so (not (has_body h i)) (has_policy h i) (not (is_same_at h o i)) e)
    (λ i t e n.
    still_there i one b
    (among_bodies h o i (only_so (has_body h i) (has_policy h i) (not (is_same_at h o i)) e n) t
    (differs (has_policy h i) (is_same_at h o i) e))) in
    let templates : insert_all same_text three (conflicting h o (looked_at Templates h o) (policy_ids o)) ≡ insert_all same_text three d =
    left_out (λ i. has_body h i && not (is_same_at h o i)) (λ i. looked_at Templates h o i
    && not (is_same_at h o i)) three (policy_ids o)
    (λ i e. kept_so (not (has_policy h i)) (has_body h i) (not (is_same_at h o i)) e)
    (λ i t e n.
    still_there i two c
    (gathers i one b
    (in_conflicting h o (has_policy h) (policy_ids o) i
    (only_so (has_policy h i) (has_body h i) (not (is_same_at h o i)) e n)
    (differs (has_body h i) (is_same_at h o i) e) t))) in
    ap (λ z. insert_all same_text (insert_all same_text z (conflicting h o (looked_at Links h o) (body_ids o)))
    (conflicting h o (looked_at Templates h o) (policy_ids o))) policies
    ∙ ap (λ z. insert_all same_text z (conflicting h o (looked_at Templates h o) (policy_ids o))) links
    ∙ templates
    ∙ gathered_all a b c d
