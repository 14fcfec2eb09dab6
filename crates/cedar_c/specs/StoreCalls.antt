-- The effects of the calls on handles of stores, by the effects of the calls in `cedar_c_stores` on their contents.
use Rattle.std.specs.Prelude.{◌≡◌, ◌↔◌, ◌⊎◌, ℕ, List, Bool, IsTrue, Option, Some, None, Result, Ok, Err}
use Rattle.std.specs.Global.{Box}
use Rattle.std.specs.List.{concat}
use Rattle.std.specs.Option.{IsSomeAnd}
use Rattle.std.specs.FinMap as finmap
use Rattle.cedar_entities.specs.Answers.{AreDeepEqual}
use Rattle.cedar_entity_maps.specs.Plain.{StoreView, IsPlainStore}
use Rattle.cedar_entity_maps.specs.InputStore.{InputStore}
use Rattle.cedar_c_lists.specs.Answers.{spans_from}
use Rattle.cedar_c_lists.specs.Reasons.{status_of, WritesBool}
use Rattle.cedar_c_stores.specs.Stores.{IsUntold}
use Rattle.cedar_c_stores.specs.declared.store_state.StoreState.{StoreState}
use Rattle.cedar_keyed_hash.specs.declared.KeyedHasher.{KeyedHasher}
use Rattle.cedar_keyed_hash.specs.declared.KeyedState.{KeyedState}
use Rattle.cedar_c_lists.specs.declared.layout.Span.{Span}
use Rattle.cedar_c_lists.specs.declared.reason.Reason.{Reason}
use Rattle.cedar_c_lists.specs.declared.reason.Reason.TheVariants.{NoMemory}
use Rattle.cedar_c.specs.Copying.{CopiesOut}
use Rattle.cedar_c.specs.Statuses.{ok, closed}
use Rattle.cedar_c.specs.declared.store_handle.Inner.{Inner}

-- The contents of an open handle: a store that hashes with a key, and its last results.
abbrev pub HandleState : Type 0
HandleState = StoreState KeyedState KeyedHasher

-- Holds if the handle is open and has the plain store of the input store W.
abbrev pub HasInputStore : InputStore → Option Inner → Type 0
HasInputStore W o = IsSomeAnd o (λ i. IsPlainStore W i.kept.store)

-- Holds if the handle is open, without an result, nodes or a last error.
abbrev pub HasNoTexts : Option Inner → Type 0
HasNoTexts o = IsSomeAnd o (λ i. IsUntold i.kept)

-- Holds if n is the number of entities of a handle. A closed handle has 0.
abbrev pub Counts : Option Inner → ℕ → Type 0
Counts None n = n ≡ 0
Counts (Some i) n = n ≡ finmap.len i.kept.store.entities

-- Holds for a call with the effect P on the contents of a handle. n is the status of its result. On a closed handle the
-- status is `closed`, and nothing changes.
abbrev pub Changes : (Result (Unit {0}) Reason → HandleState → HandleState → Type 0) → Option Inner → ℕ → Option Inner → Type 0
Changes P None n new = (n ≡ closed) × (new ≡ None)
Changes P (Some i) n new = (r : Result (Unit {0}) Reason) × (n ≡ status_of r)
    × ((j : Inner) × (new ≡ Some j) × P r i.kept j.kept)

-- Holds for a call that writes a Boolean about the store of a handle. On a closed handle the status is `closed`. After
-- an error nothing is written.
abbrev pub ReadsBoolOfStore : (StoreView → Result Bool Reason → Type 0) → Option Inner → ℕ → Bool → Bool → Type 0
ReadsBoolOfStore P None n old new = (n ≡ closed) × (new ≡ old)
ReadsBoolOfStore P (Some i) n old new = (r : Result Bool Reason) × WritesBool r n old new × P i.kept.store r

-- Holds if the handle has a new result, or if there was an error and the handle is unchanged.
abbrev pub IsFilled : Result HandleState Reason → Option Inner → Option Inner → Type 0
IsFilled (Ok k) old new = (j : Inner) × (new ≡ Some j) × (j.kept ≡ k)
IsFilled (Err w) old new = new ≡ old

-- Holds if a handle is filled with a result and n is the status. If an allocation fails, n is the status of that, and
-- the handle is unchanged.
abbrev pub FillsBy : Result HandleState Reason → Option Inner → ℕ → Option Inner → Type 0
FillsBy made old n new = (r : Result HandleState Reason) × (n ≡ status_of r) × IsFilled r old new
    × ((r ≡ made) ⊎ (r ≡ Err NoMemory))

-- Holds for a call that fills a handle with a result of the store of another handle. If the other handle is closed, the
-- status is `closed`, and nothing changes.
abbrev pub Fills : (StoreView → Result HandleState Reason → Type 0) → Option Inner → ℕ → Option Inner → Option Inner → Type 0
Fills P None n old new = (n ≡ closed) × (new ≡ old)
Fills P (Some i) n old new = (r : Result HandleState Reason) × (n ≡ status_of r) × IsFilled r old new × P i.kept.store r

-- Holds if a result was moved to a box. Otherwise w is the error of the result, or `NoMemory`.
abbrev pub Boxes : Result HandleState Reason → Result (Box Inner) Reason → Type 0
Boxes made (Ok b) = made ≡ Ok b.value.kept
Boxes made (Err w) = (made ≡ Err w) ⊎ (w ≡ NoMemory)

-- Holds for a call that writes whether the stores of two open handles are equal. If one of the handles is closed, the
-- status is `closed`, and nothing is written.
abbrev pub Compares : Option Inner → Option Inner → ℕ → Bool → Bool → Type 0
Compares None other n old new = (n ≡ closed) × (new ≡ old)
Compares (Some i) None n old new = (n ≡ closed) × (new ≡ old)
Compares (Some i) (Some j) n old new = (n ≡ ok) × (IsTrue new ↔ AreDeepEqual i.kept.store j.kept.store)

-- Holds for a call that copies the bytes of the result, from a position on. A closed handle has no bytes.
abbrev pub CopiesResult : Option Inner → ℕ → List ℕ → ℕ → List ℕ → Type 0
CopiesResult None from old told new = (told ≡ 0) × (new ≡ old)
CopiesResult (Some i) from old told new = CopiesOut (concat i.kept.answer) from old told new

-- Holds for a call that copies the spans of the texts of the result, from a position on. A closed handle has no texts.
abbrev pub CopiesSpans : Option Inner → ℕ → List Span → ℕ → List Span → Type 0
CopiesSpans None from old told new = (told ≡ 0) × (new ≡ old)
CopiesSpans (Some i) from old told new = CopiesOut (spans_from 0 i.kept.answer) from old told new

-- Holds for a call that copies the text of the last error. A closed handle has none.
abbrev pub CopiesErrorText : Option Inner → List ℕ → ℕ → List ℕ → Type 0
CopiesErrorText None old told new = (told ≡ 0) × (new ≡ old)
CopiesErrorText (Some i) old told new = CopiesOut i.kept.refusal.items 0 old told new
