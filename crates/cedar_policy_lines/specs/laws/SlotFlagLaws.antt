-- The slots that the fields of a line have named, and the bindings of only these slots.
use Rattle.std.specs.Prelude.{◌≡◌, List, [], ◌∷◌, Bool, true, false, not, ◌||◌, ◌&&◌, Option, Some, None, is_some, refl}
use Rattle.std.specs.Prelude.{if◌then◌else◌}
use Rattle.std.specs.List.{list_all}
use Rattle.std.specs.Map.{keys_of, lookup}
use Rattle.std.specs.Option.{option_map}
use Rattle.std.proofs.Common.{ap, ◌∙◌, sym}
use Rattle.std.proofs.lemmas.Bool.{and_parts, false≢true}
use Rattle.cedar_ids.specs.Uid.{UidParts}
use Rattle.cedar_terms.specs.SlotTree.{same_slot}
use Rattle.cedar_terms.specs.laws.SlotIdLaws.{same_slot_decides}
use Rattle.cedar_terms.specs.declared.slot.SlotId.{SlotId}
use Rattle.cedar_terms.specs.declared.slot.SlotId.TheVariants.{Principal, Action, Resource}
use Rattle.cedar_binding.specs.Bindings.{EnvParts, binds}
use Rattle.cedar_policy_lines.specs.PolicyCommand.{bound_more}
use Rattle.cedar_policy_lines.specs.declared.slot_flags.SlotFlags.{SlotFlags}

-- Whether a slot is named.
abbrev pub is_named : SlotFlags → SlotId → Bool
is_named n Principal = n.principal
is_named n Action = n.action
is_named n Resource = n.resource

-- The bindings of the named slots.
abbrev pub named_alone : SlotFlags → EnvParts → EnvParts
named_alone n e s = if is_named n s then e s else None

-- The bindings without this slot, unless it is named.
abbrev pub bound_if : Bool → SlotId → EnvParts → EnvParts
bound_if v s e r = if same_slot r s && not v then None else e r

-- A slot that is named and bound is bound in the bindings of the named slots.
pub named_is_bound : (n : SlotFlags) (e : EnvParts) (s : SlotId) → is_named n s ≡ true → binds e s ≡ true
    → binds (named_alone n e) s ≡ true
named_is_bound n e s v b = ap (λ w. is_some (if w then e s else None)) v ∙ b

-- A slot that is not named is not bound in the bindings of the named slots.
pub unnamed_is_unbound : (n : SlotFlags) (e : EnvParts) (s : SlotId) → is_named n s ≡ false
    → binds (named_alone n e) s ≡ false
unnamed_is_unbound n e s v = ap (λ w. is_some (if w then e s else None)) v

-- If all named slots are bound, they stay bound when one more slot is named and bound.
pub still_bound : (a b : Bool) (x : Option UidParts) (u : UidParts) → (a || b) ≡ true → (b ≡ true → is_some x ≡ true)
    → is_some (if a then Some u else x) ≡ true
still_bound true b x u n h = refl
still_bound false b x u n h = h n

more_at : (a b : Bool) (x y : Option UidParts)
    → (if a || b then (if a then x else y) else None) ≡ (if a then x else if b then y else None)
more_at true b x y = refl
more_at false b x y = refl

-- To name and bind one more slot binds it in the bindings of the named slots.
pub named_more : (n m : SlotFlags) (e : EnvParts) (s : SlotId) (u : UidParts)
    → ((r : SlotId) → is_named m r ≡ (same_slot r s || is_named n r))
    → named_alone m (bound_more e s u) ≡ bound_more (named_alone n e) s u
named_more n m e s u h =
    λ i r. (ap (λ v. if v then bound_more e s u r else None) (h r)
    ∙ more_at (same_slot r s) (is_named n r) (Some u) (e r)) i

unless_at : (v : Bool) (x : Option UidParts) → (if not v then None else x) ≡ (if v then x else None)
unless_at true x = refl
unless_at false x = refl

others_at : (n : SlotFlags) (e : EnvParts) (s : SlotId)
    → bound_if n.resource Resource (bound_if n.action Action (bound_if n.principal Principal e)) s ≡ named_alone n e s
others_at n e Principal = unless_at n.principal (e Principal)
others_at n e Action = unless_at n.action (e Action)
others_at n e Resource = unless_at n.resource (e Resource)

-- Without the slots that are not named, the bindings are the bindings of the named slots.
pub others_unbound : (n : SlotFlags) (e : EnvParts)
    → bound_if n.resource Resource (bound_if n.action Action (bound_if n.principal Principal e)) ≡ named_alone n e
others_unbound n e = λ i s. others_at n e s i

differs : (n : SlotFlags) (s k : SlotId) (v : Bool) → same_slot s k ≡ v → is_named n k ≡ true → is_named n s ≡ false
    → v ≡ false
differs n s k true e h g = absurd (false≢true (sym g ∙ ap (is_named n) ((same_slot_decides s k).0 e) ∙ h))
differs n s k false e h g = refl

item_at : {W : Type 0} (v : Bool) (x : Option W) → (v ≡ false → x ≡ None) → x ≡ (if v then x else None)
item_at true x h = refl
item_at false x h = h refl

module _ {V : Type 0} where
  not_found : (n : SlotFlags) (es : List (SlotId × V)) (s : SlotId) → list_all (is_named n) (keys_of es) ≡ true
      → is_named n s ≡ false → lookup (same_slot s) es ≡ None
  not_found n [] s h g = refl
  not_found n (e ∷ es) s h g =
      let p = and_parts _ _ h in
      ap (λ v. if v then Some e.1 else lookup (same_slot s) es) (differs n s e.0 (same_slot s e.0) refl p.0 g)
      ∙ not_found n es s p.1 g

  -- If all keys are named, a lookup finds the same in the bindings of the named slots.
  pub all_named : {W : Type 0} (f : V → W) (n : SlotFlags) (es : List (SlotId × V))
      → list_all (is_named n) (keys_of es) ≡ true → (s : SlotId) → option_map f (lookup (same_slot s) es)
      ≡ (if is_named n s then option_map f (lookup (same_slot s) es) else None)
  all_named f n es h s =
      item_at (is_named n s) (option_map f (lookup (same_slot s) es)) (λ g. ap (option_map f) (not_found n es s h g))
