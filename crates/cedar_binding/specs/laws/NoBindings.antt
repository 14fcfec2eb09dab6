-- Empty bindings fit if there are no slots, and only then.
use Rattle.std.specs.Prelude.{◌≡◌, List, [], ◌∷◌, true, false, ◌||◌, Option, Some, None, is_some, refl}
use Rattle.std.proofs.Common.{sym, ap, ◌∙◌}
use Rattle.std.proofs.lemmas.Bool.{false≢true}
use Rattle.cedar_ids.specs.Uid.{UidParts}
use Rattle.cedar_terms.specs.laws.SlotIdLaws.{same_slot_decides}
use Rattle.cedar_terms.specs.declared.slot.SlotId.{SlotId}
use Rattle.cedar_binding.specs.Bindings.{EnvParts, no_env, binds, is_listed_id, BindsExactly, FitsSlots}

-- If there are no slots, empty bindings fit.
pub no_env-fits : (slots : List SlotId) → slots ≡ [] → BindsExactly slots no_env
no_env-fits slots h s = ap (λ xs. is_listed_id xs s) (sym h)

pub fits_nothing : (slots : List SlotId) → slots ≡ [] → FitsSlots slots no_env
fits_nothing slots h = record { exactly = no_env-fits slots h; action = refl }

not_bound : (s : SlotId) → binds no_env s ≡ true → ⊥
not_bound s h = false≢true h

-- If empty bindings fit, there are no slots.
pub no_slot_fits : (slots : List SlotId) → BindsExactly slots no_env → slots ≡ []
no_slot_fits [] f = refl
no_slot_fits (s ∷ ss) f = absurd (not_bound s (f s ∙ ap (λ b. b || is_listed_id ss s) ((same_slot_decides s s).1 refl)))

unbound_is_none : (o : Option UidParts) → is_some o ≡ false → o ≡ None
unbound_is_none None h = refl
unbound_is_none (Some u) h = absurd (false≢true (sym h))

-- Bindings that fit no slots are empty.
pub nothing_bound : (e : EnvParts) → BindsExactly [] e → e ≡ no_env
nothing_bound e f = λ i s. unbound_is_none (e s) (f s) i
