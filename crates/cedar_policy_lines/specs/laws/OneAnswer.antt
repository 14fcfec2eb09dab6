-- Each command on policy sets has exactly one effect and one output.
use Rattle.std.specs.Prelude.{◌≡◌, ℕ, List, [], ◌∷◌, Bool, true, false, Result, Ok, Err}
use Rattle.std.proofs.Common.{ap, sym, refl, ◌∙◌, inl, inr}
use Rattle.std.proofs.lemmas.Bool.{false≢true}
use Rattle.cedar_policy_maps.specs.PolicySets.{SetParts, Binding, without_id}
use Rattle.cedar_policy_merge.specs.Merge.{conflicts, merged, new_id, IsRenaming}
use Rattle.cedar_policy_set.specs.Steps.{Refusal, occupied, add_static_step, add_template_step, link_step, unlink_step}
use Rattle.cedar_policy_lines.specs.TwoSets.{TwoSets, with_current, swapped}
use Rattle.cedar_policy_lines.specs.PolicyCommand.{PolicyCommand, Static, Template, Link, Unlink, Other, Merge, Ids}
use Rattle.cedar_policy_lines.specs.PolicyOutput.{RunsInsertion, RunsUnlink, RunsMerge, RunsPolicyCommand, static_body}
use Rattle.cedar_policy_lines.specs.PolicyOutput.{template_body, ok_line, refused_line, merged_line, ids_lines}
use Rattle.cedar_policy_lines.specs.laws.OneMerge.{one_renaming, renaming_of}

-- Some effect and some output with a property.
abbrev Given : (TwoSets → List ℕ → Type 0) → Type 0
Given P = (new : TwoSets) × (out : List ℕ) × P new out

abbrev Same : TwoSets → TwoSets → List ℕ → List ℕ → Type 0
Same m n o p = (m ≡ n) × (o ≡ p)

joins : (s : Result SetParts Refusal) (old : TwoSets) → Given (RunsInsertion s old)
joins (Ok b) old = (with_current old b, ok_line, (refl, refl))
joins (Err r) old = (old, refused_line r, (refl, refl))

takes_out : (s : Result Binding Refusal) (i : List ℕ) (old : TwoSets) → Given (RunsUnlink s i old)
takes_out (Ok b) i old = (with_current old (without_id old.current i), ok_line, (refl, refl))
takes_out (Err r) i old = (old, refused_line r, (refl, refl))

kept : (old : TwoSets) (c : List (List ℕ)) → conflicts old.current old.aside ≡ c → Given (RunsMerge false old)
kept old [] e = (
  with_current old (merged old.current old.aside (new_id [])),
  merged_line [],
  inr
      ([], (sym e, tt), (λ _. e), refl, refl),
)
kept old (i ∷ rest) e = (old, refused_line (occupied i), inl (i, rest, refl, e, refl, refl))

renamed : (old : TwoSets) → (r : List (List ℕ × List ℕ)) × IsRenaming old.current old.aside r
    → Given (RunsMerge true old)
renamed old r = (
  with_current old (merged old.current old.aside (new_id r.0)),
  merged_line r.0,
  inr
      (r.0, r.1, (λ e. absurd (false≢true (sym e))), refl, refl),
)

merges : (rename : Bool) (old : TwoSets) → Given (RunsMerge rename old)
merges false old = kept old (conflicts old.current old.aside) refl
merges true old = renamed old (renaming_of old.current old.aside)

-- Each command has an effect and an output.
pub policy_gives : (c : PolicyCommand) (old : TwoSets) → (new : TwoSets) × (out : List ℕ) × RunsPolicyCommand c old new out
policy_gives (Static i e) old = joins (add_static_step old.current (static_body i e)) old
policy_gives (Template i w) old = joins (add_template_step old.current (template_body i w)) old
policy_gives (Link t l e) old = joins (link_step old.current t l e) old
policy_gives (Unlink i) old = takes_out (unlink_step old.current i) i old
policy_gives Other old = (swapped old, ok_line, (refl, refl))
policy_gives (Merge rename) old = merges rename old
policy_gives Ids old = (old, ids_lines old.current, (refl, refl))

one_joins : (s : Result SetParts Refusal) (old m n : TwoSets) (o p : List ℕ) → RunsInsertion s old m o → RunsInsertion s old n p
    → Same m n o p
one_joins (Ok b) old m n o p h k = (h.0 ∙ sym k.0, h.1 ∙ sym k.1)
one_joins (Err r) old m n o p h k = (h.0 ∙ sym k.0, h.1 ∙ sym k.1)

one_takes_out : (s : Result Binding Refusal) (i : List ℕ) (old m n : TwoSets) (o p : List ℕ) → RunsUnlink s i old m o
    → RunsUnlink s i old n p → Same m n o p
one_takes_out (Ok b) i old m n o p h k = (h.0 ∙ sym k.0, h.1 ∙ sym k.1)
one_takes_out (Err r) i old m n o p h k = (h.0 ∙ sym k.0, h.1 ∙ sym k.1)

heads : {X : Type 0} {x y : X} {xs ys : List X} → x ∷ xs ≡ y ∷ ys → x ≡ y
heads p = cc

not_none : {X : Type 0} {x : X} {xs : List X} → x ∷ xs ≡ [] → ⊥
not_none p = cc

one_merges : (rename : Bool) (old m n : TwoSets) (o p : List ℕ) → RunsMerge rename old m o → RunsMerge rename old n p
    → Same m n o p
one_merges rename old m n o p (inl a) (inl b) = (
  a.4 ∙ sym b.4,
  a.5
      ∙ ap (λ i. refused_line (occupied i)) (heads (sym a.3 ∙ b.3)) ∙ sym b.5,
)
one_merges rename old m n o p (inl a) (inr b) = absurd (not_none (sym a.3 ∙ b.2 a.2))
one_merges rename old m n o p (inr a) (inl b) = absurd (not_none (sym b.3 ∙ a.2 b.2))
one_merges rename old m n o p (inr a) (inr b) =
    let same = one_renaming old.current old.aside a.0 b.0 a.1 b.1 in (
      a.3 ∙ ap (λ r. with_current old (merged old.current old.aside (new_id r))) same ∙ sym b.3,
      a.4
          ∙ ap merged_line same ∙ sym b.4,
    )

-- No command has two effects or outputs.
pub one_policy_gives : (c : PolicyCommand) (old m n : TwoSets) (o p : List ℕ) → RunsPolicyCommand c old m o
    → RunsPolicyCommand c old n p → (m ≡ n) × (o ≡ p)
one_policy_gives (Static i e) old m n o p h k = one_joins
    (add_static_step old.current (static_body i e)) old m n o p h k
one_policy_gives (Template i w) old m n o p h k = one_joins
    (add_template_step old.current (template_body i w)) old m n o p h k
one_policy_gives (Link t l e) old m n o p h k = one_joins (link_step old.current t l e) old m n o p h k
one_policy_gives (Unlink i) old m n o p h k = one_takes_out (unlink_step old.current i) i old m n o p h k
one_policy_gives Other old m n o p h k = (h.0 ∙ sym k.0, h.1 ∙ sym k.1)
one_policy_gives (Merge rename) old m n o p h k = one_merges rename old m n o p h k
one_policy_gives Ids old m n o p h k = (h.0 ∙ sym k.0, h.1 ∙ sym k.1)
