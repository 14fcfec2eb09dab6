-- The encoded value of a key, if there is one, and how it is stored.
use Rattle.std.specs.Prelude.{◌≡◌, Bool, true, false, Option, Some, None}
use Rattle.cedar_terms.specs.declared.partial_value.PartialValue.{PartialValue}
use Rattle.cedar_c_stores.specs.Values.{IsEncodedValue}
use Rattle.cedar_c_stores.specs.declared.store_state.StoreState.{StoreState}
use Rattle.cedar_c_stores.specs.declared.values.EncodedNodes.{EncodedNodes}

-- Holds if there is a value and its encoding, or neither.
abbrev pub IsShownIf : Option PartialValue → Option EncodedNodes → Type 0
IsShownIf None None = Unit {0}
IsShownIf (Some p) (Some s) = IsEncodedValue p s.answer s.nodes.items
IsShownIf p s = ⊥

-- Holds for a call that stores an encoded value, if there is one, and returns whether there is one.
abbrev pub KeepsShown : {B H : Type 0} → Option EncodedNodes → Bool → StoreState B H → StoreState B H → Type 0
KeepsShown None b i j = (b ≡ false) × (j ≡ i)
KeepsShown (Some s) b i j =
    (b ≡ true) × (j.store ≡ i.store) × (j.refusal.items ≡ i.refusal.items) × (j.answer ≡ s.answer)
    × (j.nodes.items ≡ s.nodes.items) × (j.numbers ≡ i.numbers)
