-- The difference of two policy sets, and its application. In the definitions, `a` is the set before, and `b` the set
-- after.
use Rattle.std.specs.Prelude.{ℕ, List, [], ◌++◌, Bool, not, ◌&&◌, is_some}
use Rattle.std.specs.List.{filter}
use Rattle.cedar_ids.specs.Texts.{same_text}
use Rattle.cedar_body.specs.Bodies.{BodyParts}
use Rattle.cedar_body.specs.BodyEquality.{same_body}
use Rattle.cedar_binding.specs.EnvEquality.{same_env}
use Rattle.cedar_policy.specs.Policies.{PolicyParts, policy_id}
use Rattle.cedar_policy.specs.PolicyEquality.{same_policy}
use Rattle.cedar_policy_maps.specs.PolicySets.{SetParts}
use Rattle.cedar_policy_maps.specs.Maps.{templates_in}
use Rattle.cedar_policy_diff.specs.ListDiff.{only_in_first, changes, values_after, patched, IsSameMap}

-- The id of a body.
abbrev pub body_id : BodyParts → List ℕ
body_id t = t.id

-- The templates of a set, with and without slots, in the order of its bodies. The body of a static policy is not a
-- template.
abbrev pub templates_of : SetParts → List BodyParts
templates_of b = templates_in b.policies b.bodies

-- The difference of two policy sets. A removed or added item is a whole template or policy. A change has the value before
-- and the value after. A relinked policy is a link of both sets with the same bindings, whose template has the same id and
-- another body.
pub record SetDiff : Type 0 where
  pub removed_templates : List BodyParts
  pub added_templates : List BodyParts
  pub changed_templates : List (BodyParts × BodyParts)
  pub removed : List PolicyParts
  pub added : List PolicyParts
  pub changed : List (PolicyParts × PolicyParts)
  pub relinked : List (PolicyParts × PolicyParts)

-- The difference of equal sets.
abbrev pub empty_diff : SetDiff
empty_diff = record {
  removed_templates = [];
  added_templates = [];
  changed_templates = [];
  removed = [];
  added = [];
  changed = [];
  relinked = [];
}

-- Whether two policies with the same id are links with equal bindings, of templates with the same id.
abbrev pub is_relinking : PolicyParts × PolicyParts → Bool
is_relinking c =
    is_some c.0.link
    && (is_some c.1.link && (same_text c.0.template.id c.1.template.id && same_env c.0.env c.1.env))

-- The policies of both sets that are not equal, in the order of the set after.
abbrev pub policy_changes : SetParts → SetParts → List (PolicyParts × PolicyParts)
policy_changes a b = changes policy_id same_policy a.policies b.policies

-- The difference of two sets. Removed policies and templates are in the order of the set before, all others in the
-- order of the set after.
abbrev pub diff_of : SetParts → SetParts → SetDiff
diff_of a b = record {
  removed_templates = only_in_first body_id (templates_of a) (templates_of b);
  added_templates = only_in_first body_id (templates_of b) (templates_of a);
  changed_templates = changes body_id same_body (templates_of a) (templates_of b);
  removed = only_in_first policy_id a.policies b.policies;
  added = only_in_first policy_id b.policies a.policies;
  changed = filter (λ c. not (is_relinking c)) (policy_changes a b);
  relinked = filter is_relinking (policy_changes a b);
}

-- ---- Application

-- The templates and the policies of a set. The bodies of static policies are in the policies.
pub record Content : Type 0 where
  pub templates : List BodyParts
  pub policies : List PolicyParts

-- The content of a set.
abbrev pub content_of : SetParts → Content
content_of b = record { templates = templates_of b; policies = b.policies }

-- Whether two contents have the same template and the same policy for each id.
pub record IsSameContent (c d : Content) : Type 0 where
  pub templates : IsSameMap body_id c.templates d.templates
  pub policies : IsSameMap policy_id c.policies d.policies

-- The content after a difference is applied. The removed items are gone. The added items are there, and the values after
-- the changes in the place of the values before.
abbrev pub apply_diff : Content → SetDiff → Content
apply_diff c d = record {
  templates = patched body_id c.templates d.removed_templates (d.added_templates ++ values_after d.changed_templates);
  policies = patched policy_id c.policies d.removed
      (d.added ++ (values_after d.changed ++ values_after d.relinked));
}
