-- The stale ancestors of each entity, read before anything changes.
use Rattle.std.specs.Prelude.{◌≡◌, Bool, true, false, ◌&&◌, ◌||◌, not, List, Option}
use Rattle.std.specs.Option.{is_some}
use Rattle.std.specs.List.{AllByRecursion, list_any}
use Rattle.std.specs.FinSet as set
use Rattle.std.specs.Set.{is_member}
use Rattle.cedar_ids.specs.UidOf.{same_uid}
use Rattle.cedar_ids.specs.declared.entity.EntityUID.{EntityUID}
use Rattle.cedar_uid_sets.specs.UidSets.{UidValues}
use Rattle.cedar_entity.specs.View.{EntityView}
use Rattle.cedar_entity_maps.specs.Modes.{is_ancestor_in}
use Rattle.cedar_entity_maps.specs.laws.Edits.{stripped}
use Rattle.cedar_entity_maps.specs.declared.affected.StaleAncestors.{StaleAncestors}
use Rattle.cedar_entity_maps.specs.declared.affected.Lost.{Lost}
use Rattle.cedar_entity_maps.specs.declared.affected.Lost.TheVariants as lost

-- Whether an edit of u makes w stale: u has an entity, and w is u or an ancestor of u.
abbrev pub takes : (EntityUID → Option EntityView) → EntityUID → EntityUID → Bool
takes f u w = is_some (f u) && (same_uid u w || is_ancestor_in (f u) w)

-- Whether an edit of the uids A gives q stale ancestors: q is not one of them, and has one of them as an ancestor, as f
-- states.
abbrev pub is_stripped : List EntityUID → EntityUID → (EntityUID → Bool) → Bool
is_stripped A q f = not (is_member same_uid A q) && list_any f A

-- Whether a uid is stale.
abbrev pub is_lost : Lost → EntityUID → Bool
is_lost lost.All w = true
is_lost (lost.These s) w = set.contains s w

-- Holds if all indirect ancestors are stale.
abbrev pub IsWhole : StaleAncestors → Type 0
IsWhole a = a.lost ≡ lost.All

-- Holds if the uid w is stale exactly if an edit of one of the uids A that are ancestors of the entity makes it stale.
abbrev pub IsLossOf : (EntityUID → Option EntityView) → List EntityUID → StaleAncestors → Type 0
IsLossOf f A a = (w : EntityUID) → is_lost a.lost w ≡ list_any (λ u. is_ancestor_in (f a.uid) u && takes f u w) A

-- Holds if all indirect ancestors of each listed entity are stale, if the Boolean is true. Otherwise the list has the
-- exact stale ancestors.
abbrev pub AreLossesOf : Bool → (EntityUID → Option EntityView) → List EntityUID → List StaleAncestors → Type 0
AreLossesOf true f A R = AllByRecursion IsWhole R
AreLossesOf false f A R = AllByRecursion (IsLossOf f A) R

-- Whether the list has stale ancestors of q.
abbrev pub loses : List StaleAncestors → EntityUID → Bool
loses R q = list_any (λ a. same_uid q a.uid) R

-- Whether the list has w as a stale ancestor of q.
abbrev pub loses_uid : List StaleAncestors → EntityUID → EntityUID → Bool
loses_uid R q w = list_any (λ a. same_uid q a.uid && is_lost a.lost w) R

-- The entity at q after the removal of its stale ancestors and of the removed parents.
abbrev pub left_by : UidValues → List StaleAncestors → EntityUID → EntityView → EntityView
left_by removed R q = stripped (λ p. loses R q && set.contains removed p) (loses_uid R q)
