-- The step of each call on a policy set: the policy set after the call, or the reason why it fails. A failed call
-- leaves the set unchanged (`Refusals.antt`). An id is free if `is_bound` is false for it.
use Rattle.std.specs.Prelude.{◌≡◌, ℕ, List, [], ◌∷◌, Bool, ◌||◌, Option, Some, None, Result, Ok, Err, if◌then◌else◌}
use Rattle.std.specs.List.{find}
use Rattle.cedar_ids.specs.Texts.{same_text}
use Rattle.cedar_ids.specs.Uid.{UidParts}
use Rattle.cedar_terms.specs.declared.slot.SlotId.{SlotId}
use Rattle.cedar_body.specs.Bodies.{BodyParts, body_slots}
use Rattle.cedar_body.specs.BodyEquality.{same_body}
use Rattle.cedar_binding.specs.Bindings.{EnvParts, unbound, extra, wrong_action}
use Rattle.cedar_policy.specs.Policies.{PolicyParts, static_policy}
use Rattle.cedar_policy_maps.specs.Lists.{ids_in}
use Rattle.cedar_policy_maps.specs.PolicySets.{SetParts, Binding, Static, Template, Link, bound_at, is_bound}
use Rattle.cedar_policy_maps.specs.PolicySets.{is_body_at}
use Rattle.cedar_policy_maps.specs.PolicySets.{has_links, with_template, with_policy, with_body_and_policy, without_id}

-- The reason why a call fails. Each contains the id in question, except where another content is named.
--
-- Insertion and listing:
--
-- - `occupied`: the id is in use.
-- - `no_body`: no body has the id.
--
-- Linking:
--
-- - `no_such_template`: no template has the id.
-- - `arity`: the bound slots are not the slots of the template. It contains the slots without a binding and the
--   bindings without a slot.
-- - `not_an_action`: the slot of the action is bound to this uid, which is not an action.
-- - `id_conflict`: the id of the new link is in use.
--
-- Removal of a link:
--
-- - `no_link`: the id is free.
-- - `not_a_link`: the id belongs to a static policy or a template.
--
-- Removal of a template:
--
-- - `no_template`: the id is free.
-- - `with_links`: the template has links.
-- - `not_a_template`: the id belongs to a static policy or a link.
--
-- Removal of a static policy:
--
-- - `no_static`: no policy has the id.
-- - `not_static`: the id belongs to a link.
pub data Refusal : Type 0 where
  occupied : List ℕ → Refusal
  no_body : List ℕ → Refusal
  no_such_template : List ℕ → Refusal
  arity : List SlotId → List SlotId → Refusal
  not_an_action : UidParts → Refusal
  id_conflict : List ℕ → Refusal
  no_link : List ℕ → Refusal
  not_a_link : List ℕ → Refusal
  no_template : List ℕ → Refusal
  with_links : List ℕ → Refusal
  not_a_template : List ℕ → Refusal
  no_static : List ℕ → Refusal
  not_static : List ℕ → Refusal

-- The step of adding a static policy with this body. The id has to be free. The body and the policy are appended.
abbrev pub add_static_step : SetParts → BodyParts → Result SetParts Refusal
add_static_step b s = if is_bound b s.id then Err (occupied s.id) else Ok (with_body_and_policy b s (static_policy s))

-- The step of adding a template. The id has to be free. The template is appended to the bodies.
abbrev pub add_template_step : SetParts → BodyParts → Result SetParts Refusal
add_template_step b t = if is_bound b t.id then Err (occupied t.id) else Ok (with_template b t)

-- The step of adding a link with id `l`, given the binding of its template's id:
--
-- - The template's id is free: `l` has to be free and different from the template's id. The template and the link are
--   appended.
-- - The id belongs to an equal template: `l` has to be free. The link is appended.
-- - The id belongs to anything else: the step fails, and reports the template's id.
abbrev pub add_link_at : Option Binding → SetParts → List ℕ → PolicyParts → Result SetParts Refusal
add_link_at None b l p = if same_text l p.template.id || is_bound b l then Err (occupied l) else Ok
    (with_body_and_policy b p.template p)
add_link_at (Some (Template u)) b l p =
    if same_body u p.template then (if is_bound b l then Err (occupied l) else Ok (with_policy b p)) else Err
    (occupied p.template.id)
add_link_at (Some x) b l p = Err (occupied p.template.id)

-- The step of adding a policy with this optional link id. Without one the policy is static.
abbrev pub add_by : Option (List ℕ) → SetParts → PolicyParts → Result SetParts Refusal
add_by None b p = add_static_step b p.template
add_by (Some l) b p = add_link_at (bound_at b p.template.id) b l p

-- The step of adding a policy, static or a link.
abbrev pub add_step : SetParts → PolicyParts → Result SetParts Refusal
add_step b p = add_by p.link b p

-- The step `r`, if the bindings of a link fit. The arguments before it are the slots without a binding, the bindings
-- without a slot, and the uid of the action's slot if it is not an action. If one of the two lists is not empty, the
-- step fails with `arity`. Otherwise, if there is such a uid, it fails with `not_an_action`.
abbrev pub fitting : List SlotId → List SlotId → Option UidParts → Result SetParts Refusal → Result SetParts Refusal
fitting [] [] None r = r
fitting [] [] (Some u) r = Err (not_an_action u)
fitting u x o r = Err (arity u x)

-- The step of linking template `t` under the id `l` with the bindings `e`. The bindings have to fit, and then the id
-- has to be free. The link is appended to the policies.
abbrev pub link_onto : BodyParts → SetParts → List ℕ → EnvParts → Result SetParts Refusal
link_onto t b l e =
    fitting (unbound (body_slots t) e) (extra (body_slots t) e) (wrong_action e)
    (if is_bound b l then Err (id_conflict l) else Ok (with_policy b (record { template = t; link = Some l; env = e })))

-- The step of linking the template with id `i`, given the binding of `i`. It fails if `i` is not bound to a template.
abbrev pub link_at : Option Binding → SetParts → List ℕ → List ℕ → EnvParts → Result SetParts Refusal
link_at (Some (Template t)) b i l e = link_onto t b l e
link_at x b i l e = Err (no_such_template i)

-- The step of linking the template with id `i` under the id `l` with the bindings `e`.
abbrev pub link_step : SetParts → List ℕ → List ℕ → EnvParts → Result SetParts Refusal
link_step b i l e = link_at (bound_at b i) b i l e

-- The step of unlinking, given the binding of the id. It removes a link, and fails for anything else.
abbrev pub unlinked_at : Option Binding → List ℕ → Result Binding Refusal
unlinked_at (Some (Link l t e)) i = Ok (Link l t e)
unlinked_at (Some x) i = Err (not_a_link i)
unlinked_at None i = Err (no_link i)

-- The step of removing a static policy, given the binding of the id. It removes a static policy, and fails for anything
-- else.
abbrev pub static_removed_at : Option Binding → List ℕ → Result Binding Refusal
static_removed_at (Some (Static t)) i = Ok (Static t)
static_removed_at (Some (Link l t e)) i = Err (not_static i)
static_removed_at x i = Err (no_static i)

-- The step of removing a template, given the binding of the id and whether the template has links. It removes a
-- template without links, and fails for anything else.
abbrev pub template_removed_at : Option Binding → Bool → List ℕ → Result Binding Refusal
template_removed_at (Some (Template t)) linked i = if linked then Err (with_links i) else Ok (Template t)
template_removed_at (Some x) linked i = Err (not_a_template i)
template_removed_at None linked i = Err (no_template i)

-- The step of unlinking an id: the removed link. The set after it is `without_id b i` (see `TakesFromSet`).
abbrev pub unlink_step : SetParts → List ℕ → Result Binding Refusal
unlink_step b i = unlinked_at (bound_at b i) i

-- The step of removing a static policy by id: the removed binding. The set after it is `without_id b i`.
abbrev pub remove_static_step : SetParts → List ℕ → Result Binding Refusal
remove_static_step b i = static_removed_at (bound_at b i) i

-- The step of removing a template by id: the removed binding. The set after it is `without_id b i`.
abbrev pub remove_template_step : SetParts → List ℕ → Result Binding Refusal
remove_template_step b i = template_removed_at (bound_at b i) (has_links b i) i

-- Whether unlinking undoes linking. In set `b` the id `i` belongs to a template. In set `c`, the set after linking,
-- unlinking `l` removes the link of that template with the bindings `e`. Without `l`, `c` is `b` again, including both
-- orders.
abbrev pub UnlinksTo : SetParts → List ℕ → List ℕ → EnvParts → SetParts → Type 0
UnlinksTo b i l e c =
    (t : BodyParts) × (bound_at b i ≡ Some (Template t)) × (unlink_step c l ≡ Ok (Link l t e)) × (without_id c l ≡ b)

-- The step of listing the policies that use the body with id `i`, given this body, if there is one. The result is their
-- ids, in the order of policies. For a template they are its links, and for a static policy the policy itself. The step
-- fails if there is no body.
abbrev pub linked_at : Option BodyParts → SetParts → List ℕ → Result (List (List ℕ)) Refusal
linked_at None b i = Err (no_body i)
linked_at (Some t) b i = Ok (ids_in i b.policies)

-- The step of listing the policies that use the body with this id.
abbrev pub get_linked_step : SetParts → List ℕ → Result (List (List ℕ)) Refusal
get_linked_step b i = linked_at (find (is_body_at i) b.bodies) b i

-- The step of adding policies one after another. It stops at the first failure.
abbrev pub add_then : Result SetParts Refusal → List PolicyParts → Result SetParts Refusal
add_then (Err r) ps = Err r
add_then (Ok b) [] = Ok b
add_then (Ok b) (p ∷ ps) = add_then (add_step b p) ps
