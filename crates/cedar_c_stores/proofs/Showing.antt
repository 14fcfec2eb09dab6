-- The result and the stored value of reading an attribute or a tag.
use Rattle.std.specs.Prelude.{◌≡◌, ℕ, List, [], ◌∷◌, Bool, true, false, Option, Some, None, Ok}
use Rattle.std.proofs.Common.{sym, subst, ◌∙◌}
use Rattle.std.specs.Str.{IsUtf8}
use Rattle.cedar_terms.specs.declared.partial_value.PartialValue.{PartialValue}
use Rattle.cedar_entity.specs.Fields.{Fields, field_at}
use Rattle.cedar_entity.specs.View.{EntityView}
use Rattle.cedar_c_trees.specs.Writes.{IsPartialWritten, WrittenParts}
use Rattle.cedar_c_trees.specs.declared.node.Node.{Node}
use Rattle.cedar_c_stores.specs.Reads.{IsStoredAt}
use Rattle.cedar_c_stores.specs.Values.{GetsAt, IsEncodedValue, Shows}
use Rattle.cedar_c_stores.specs.declared.store_state.StoreState.{StoreState}
use Rattle.cedar_c_stores.specs.declared.values.EncodedNodes.{EncodedNodes}
use Rattle.cedar_c_stores.specs.laws.EncodedNodes.{IsShownIf, KeepsShown}

-- An encoded value is shown.
pub shown_of : (p : PartialValue) (w : WrittenParts) (bytes : List ℕ) (answer : List (List ℕ)) (nodes : List Node)
    → IsPartialWritten p w → bytes ≡ w.bytes → answer ≡ bytes ∷ [] → nodes ≡ w.nodes → IsEncodedValue p answer nodes
shown_of p w bytes answer nodes written same one all = record {
  bytes = bytes;
  one = one;
  written = subst (λ (v : WrittenParts). IsPartialWritten p v)
      (λ i. record { bytes = sym same i; nodes = sym all i }) written;
}

-- Whether an entity has a value at a key is returned, and the value is stored if there is one.
pub gets : {B H : Type 0} (fields : EntityView → Fields) (text key : List ℕ) (i j : StoreState B H) (e : EntityView)
    (p : Option PartialValue) (s : Option EncodedNodes) (b : Bool) → IsStoredAt i.store text e → IsUtf8 key
    → p ≡ field_at key (fields e) → IsShownIf p s → KeepsShown s b i j → GetsAt fields text key (Ok b) i j
gets fields text key i j e None None b entity_at utf8 at is kept =
    subst (λ (t : Bool). GetsAt fields text key (Ok t) i j) (sym kept.0) (kept.1, utf8, (e, entity_at, sym at))
gets fields text key i j e (Some p) (Some s) b entity_at utf8 at is kept =
    subst (λ (t : Bool). GetsAt fields text key (Ok t) i j) (sym kept.0) (record {
      store = kept.1;
      refusal = kept.2;
      numbers = kept.5;
      utf8 = utf8;
      entity = e;
      entities = entity_at;
      value = p;
      found = sym at;
      shown = record {
        bytes = is.bytes;
        one = kept.3 ∙ is.one;
        written = subst (λ (ns : List Node). IsPartialWritten p (record { bytes = is.bytes; nodes = ns })) (sym kept.4)
            is.written;
      };
    })
gets fields text key i j e None (Some s) b entity_at utf8 at is kept = absurd is
gets fields text key i j e (Some p) None b entity_at utf8 at is kept = absurd is
