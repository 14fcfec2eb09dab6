use Rattle.std.proofs.Common.{◌≡◌, ◌∙◌, ◌++◌, ◌∷◌, [], ◌||◌, cond, not, ap, sym, true, false, subst, List, ℕ, Option}
use Rattle.std.proofs.Common.{IfSome}
use Rattle.std.proofs.lemmas.List.{append-nil}
use Rattle.std.specs.Map.{lookup}
use Rattle.std.specs.Option.{unwrap_or, option_copied}
use Rattle.cedar_ids.specs.Texts.{same_text}
use Rattle.cedar_policy.specs.Policies.{PolicyParts, policy_id}
use Rattle.cedar_policy_maps.specs.PolicySets.{SetParts, is_bound}
use Rattle.cedar_policy_merge.specs.Merge.{has_body, has_policy, new_id, renamed_policy}
use Rattle.cedar_policy_merge.specs.laws.MergeLaws.{policy_new}
use Rattle.cedar_policy_merge.specs.laws.RenamingLaws.{AreFreeHere, first_of, second_of}
use Rattle.cedar_policy_merge.proofs.merge.part_policy.Goals as goal

-- This set does not use the new id of a policy.
free_here : (h : SetParts) (r : List (List ℕ × List ℕ)) (p : PolicyParts) (i : List ℕ) (o : Option (List ℕ))
    → AreFreeHere h r → i ≡ policy_id p → o ≡ lookup (same_text i) r → IfSome o (λ v. is_bound h v ≡ false)
free_here h r p i o a e l = subst (λ (o : Option (List ℕ)). IfSome o (λ v. is_bound h v ≡ false)) (sym l) (a i)

-- The id of a renamed policy.
got : (r : List (List ℕ × List ℕ)) (p : PolicyParts) (i j : List ℕ) (o : Option (List ℕ)) → i ≡ policy_id p
    → j ≡ policy_id p → o ≡ lookup (same_text i) r → unwrap_or o j ≡ policy_id (renamed_policy (new_id r) p)
got r p i j o e k l =
    ap (unwrap_or o) k ∙ ap (λ o. unwrap_or o (policy_id p)) (l ∙ ap (λ i. lookup (same_text i) r) e)
    ∙ sym (policy_new (new_id r) p)

pub policy_in_target-requires : goal.policy_in_target-requires
policy_in_target-requires g c =
    free_here c.args.here.now c.args.renaming.now.entries c.args.policy.now c.id.result.now
    (option_copied c.new_of-new.result) c.requires.free c.id.ensures c.new_of-new.ensures

pub contains_body-requires : goal.contains_body-requires
contains_body-requires g c =
    free_here c.args.here.now c.args.renaming.now.entries c.args.policy.now c.id.result.now
    (option_copied c.new_of-new.result) c.requires.free c.id.ensures c.new_of-new.ensures

pub joining-requires-clause-new : goal.joining-requires-clause-new
joining-requires-clause-new g c =
    ap (λ o. unwrap_or o (policy_id c.args.policy.now))
    (c.new_of-new.ensures ∙ ap (λ i. lookup (same_text i) c.args.renaming.now.entries) c.id.ensures)

pub returns-in-Some : goal.returns-in-Some
returns-in-Some g c =
    let h = c.args.here.now in
    let p = c.args.policy.now in
    let r = c.args.renaming.now.entries in
    let q = renamed_policy (new_id r) p in
    let stands : has_policy h (policy_id q) ≡ true =
    sym (c.in-Some.ensures ∙ ap (has_policy h) (got r p c.id.result.now c.id-2.result.now
    (option_copied c.new_of-new.result) c.id.ensures c.id-2.ensures c.new_of-new.ensures)) in
    let bound : is_bound h (policy_id q) ≡ true = first_of (has_policy h (policy_id q)) (has_body h (policy_id q)) stands in
    let old = c.args.parted.now.policies.join.items in
    c.in_ok-push_shared.ensures ∙ sym (append-nil old) ∙ (λ j. old ++ cond (not (sym bound j)) (q ∷ []) [])

pub returns-then-contains_body : goal.returns-then-contains_body
returns-then-contains_body g c =
    let h = c.args.here.now in
    let p = c.args.policy.now in
    let r = c.args.renaming.now.entries in
    let q = renamed_policy (new_id r) p in
    let stands : has_body h (policy_id q) ≡ true =
    sym (c.contains_body.ensures ∙ ap (has_body h) (got r p c.id.result.now c.id-3.result.now
    (option_copied c.new_of-new.result) c.id.ensures c.id-3.ensures c.new_of-new.ensures)) ∙ c.if-contains_body.true in
    let bound : is_bound h (policy_id q) ≡ true = second_of (has_policy h (policy_id q)) (has_body h (policy_id q)) stands in
    let old = c.args.parted.now.policies.join.items in
    sym (append-nil old) ∙ (λ j. old ++ cond (not (sym bound j)) (q ∷ []) [])

pub returns : goal.returns
returns g c =
    let h = c.args.here.now in
    let p = c.args.policy.now in
    let r = c.args.renaming.now.entries in
    let q = renamed_policy (new_id r) p in
    let no_policy : has_policy h (policy_id q) ≡ false =
    sym (c.in_default.ensures ∙ ap (has_policy h) (got r p c.id.result.now c.id-2.result.now
    (option_copied c.new_of-new.result) c.id.ensures c.id-2.ensures c.new_of-new.ensures)) in
    let no_body : has_body h (policy_id q) ≡ false =
    sym (c.contains_body.ensures ∙ ap (has_body h) (got r p c.id.result.now c.id-3.result.now
    (option_copied c.new_of-new.result) c.id.ensures c.id-3.ensures c.new_of-new.ensures)) ∙ c.if-contains_body.false in
    let bound : is_bound h (policy_id q) ≡ false = λ j. no_policy j || no_body j in
    let old = c.args.parted.now.policies.join.items in
    c.in_ok-push.ensures.items
    ∙ (λ j. old ++ cond (not (sym bound j)) (c.in_ok-renamed.ensures j ∷ []) [])
