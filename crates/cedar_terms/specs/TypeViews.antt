-- A static type as callers see it.
use Rattle.std.specs.Prelude.{Option, Some, None}
use Rattle.cedar_ids.specs.Name.{NameParts}
use Rattle.cedar_ids.specs.Views.{type_name}
use Rattle.cedar_terms.specs.declared.static_type.StaticType.{StaticType}
use Rattle.cedar_terms.specs.declared.static_type.StaticType.TheVariants as types

-- The name of the entity type of a static type.
abbrev pub entity_name : StaticType → NameParts
entity_name (types.Entity t) = type_name t

-- The name of the entity type of an optional static type.
abbrev pub annotation_name : Option StaticType → Option NameParts
annotation_name None = None
annotation_name (Some t) = Some (entity_name t)
