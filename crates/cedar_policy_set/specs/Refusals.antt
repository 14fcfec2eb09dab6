-- The relation between the result of a call and its step of `Steps.antt`. In this file an error that reports an
-- allocation failure fits every step.
use Rattle.std.specs.Prelude.{◌≡◌, ℕ, List, Option, Some, None, Result, Ok, Err}
use Rattle.cedar_ids.specs.UidOf.{uid_parts}
use Rattle.cedar_binding.specs.declared.err.LinkingError.{LinkingError}
use Rattle.cedar_binding.specs.declared.err.LinkingError.TheVariants as links
use Rattle.cedar_policy_set_errors.specs.declared.err.PolicySetError.{PolicySetError}
use Rattle.cedar_policy_set_errors.specs.declared.err.PolicySetError.TheVariants as sets
use Rattle.cedar_policy_set_errors.specs.declared.err.PolicySetGetLinksError.{PolicySetGetLinksError}
use Rattle.cedar_policy_set_errors.specs.declared.err.PolicySetGetLinksError.TheVariants as listings
use Rattle.cedar_policy_set_errors.specs.declared.err.PolicySetPolicyRemovalError.{PolicySetPolicyRemovalError}
use Rattle.cedar_policy_set_errors.specs.declared.err.PolicySetPolicyRemovalError.TheVariants as removals
use Rattle.cedar_policy_set_errors.specs.declared.err.PolicySetTemplateRemovalError.{PolicySetTemplateRemovalError}
use Rattle.cedar_policy_set_errors.specs.declared.err.PolicySetTemplateRemovalError.TheVariants as templates
use Rattle.cedar_policy_set_errors.specs.declared.err.PolicySetUnlinkError.{PolicySetUnlinkError}
use Rattle.cedar_policy_set_errors.specs.declared.err.PolicySetUnlinkError.TheVariants as unlinks
use Rattle.cedar_policy_maps.specs.PolicySets.{SetParts, Binding, without_id}
use Rattle.cedar_policy_set.specs.Steps.{Refusal, occupied, no_body, no_such_template, arity, not_an_action}
use Rattle.cedar_policy_set.specs.Steps.{id_conflict, no_link, not_a_link, no_template, with_links, not_a_template}
use Rattle.cedar_policy_set.specs.Steps.{no_static, not_static}

-- The reason that an error of an insertion reports. An allocation failure reports none.
abbrev pub set_error_of : PolicySetError → Option Refusal
set_error_of (sets.Occupied i) = Some (occupied i)
set_error_of sets.Memory = None

-- The reason that an error of listing links reports.
abbrev pub listing_error_of : PolicySetGetLinksError → Option Refusal
listing_error_of (listings.MissingTemplate i) = Some (no_body i)
listing_error_of listings.Memory = None

-- The reason that an error of linking reports.
abbrev pub linking_error_of : LinkingError → Option Refusal
linking_error_of (links.ArityError u x) = Some (arity u.items x.items)
linking_error_of (links.NotAnAction u) = Some (not_an_action (uid_parts u))
linking_error_of (links.NoSuchTemplate i) = Some (no_such_template i)
linking_error_of (links.PolicyIdConflict i) = Some (id_conflict i)
linking_error_of links.Memory = None

-- The reason that an error of unlinking reports.
abbrev pub unlinking_error_of : PolicySetUnlinkError → Option Refusal
unlinking_error_of (unlinks.UnlinkingError i) = Some (no_link i)
unlinking_error_of (unlinks.NotLinkError i) = Some (not_a_link i)
unlinking_error_of unlinks.Memory = None

-- The reason that an error of removing a template reports.
abbrev pub template_removal_error_of : PolicySetTemplateRemovalError → Option Refusal
template_removal_error_of (templates.RemovePolicyNoTemplateError i) = Some (no_template i)
template_removal_error_of (templates.RemoveTemplateWithLinksError i) = Some (with_links i)
template_removal_error_of (templates.NotTemplateError i) = Some (not_a_template i)
template_removal_error_of templates.Memory = None

-- The reason that an error of removing a static policy reports.
abbrev pub removal_error_of : PolicySetPolicyRemovalError → Option Refusal
removal_error_of (removals.RemovePolicyNoLinkError i) = Some (no_static i)
removal_error_of (removals.RemovePolicyNoTemplateError i) = Some (not_static i)
removal_error_of removals.Memory = None

-- Whether a step fails with the reported reason. Without a reported reason this holds for every step.
abbrev pub IsRefusal : {B : Type 0} → Option Refusal → Result B Refusal → Type 0
IsRefusal None step = Unit {0}
IsRefusal (Some r) step = step ≡ Err r

-- Whether a call that changes a policy set does what its step defines. After a success the new set is the set of the
-- step. After an error the set is unchanged, and the step fails with the reported reason.
abbrev pub Steps : {A E : Type 0} → (E → Option Refusal) → Result A E → SetParts → SetParts
    → Result SetParts Refusal → Type 0
Steps told (Ok a) old new step = step ≡ Ok new
Steps told (Err e) old new step = (new ≡ old) × IsRefusal (told e) step

-- Whether a call that removes an id does what its step defines. After a success the removed binding is the binding of
-- the step, and the new set is the old set without the id. After an error the set is unchanged, and the step fails with
-- the reported reason.
abbrev pub RemovesFromSet : {A E : Type 0} → (E → Option Refusal) → (A → Binding) → Result A E → SetParts → SetParts
    → List ℕ → Result Binding Refusal → Type 0
RemovesFromSet told binding (Ok a) old new i step = (step ≡ Ok (binding a)) × (new ≡ without_id old i)
RemovesFromSet told binding (Err e) old new i step = (new ≡ old) × IsRefusal (told e) step

-- Whether a call that creates a policy set does what its step defines. A returned set is the set of the step. After an
-- error the step fails with the reported reason.
abbrev pub BuildsSet : {E : Type 0} → (E → Option Refusal) → Result SetParts E → Result SetParts Refusal → Type 0
BuildsSet told (Ok b) step = step ≡ Ok b
BuildsSet told (Err e) step = IsRefusal (told e) step

-- Whether a call returns what its step defines. The value of a result is the result of the step. After an error the
-- step fails with the reported reason.
abbrev pub Answers : {A E B : Type 0} → (E → Option Refusal) → (A → B) → Result A E → Result B Refusal → Type 0
Answers told value (Ok a) step = step ≡ Ok (value a)
Answers told value (Err e) step = IsRefusal (told e) step
