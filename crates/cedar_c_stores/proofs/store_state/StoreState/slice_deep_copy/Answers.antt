use Rattle.std.proofs.Common.{inl, List, ℕ, subst, sym}
use Rattle.std.specs.Prelude.{Result, Ok, Err}
use Rattle.cedar_entity_maps.specs.Plain.{StoreView}
use Rattle.cedar_c_lists.specs.declared.layout.Span.{Span}
use Rattle.cedar_c_lists.specs.declared.reason.Reason.{Reason}
use Rattle.cedar_c_stores.specs.Stores.{Copies, IsSlice, SlicesAt}
use Rattle.cedar_c_stores.specs.declared.store_state.StoreState.{StoreState}
use Rattle.cedar_c_stores.proofs.store_state.StoreState.slice_deep_copy.Goals as goal

-- A copy of a slice is a slice.
copied_slice : {B H : Type 0} (text : List ℕ) (spans : List Span) (S : StoreView) (part : StoreState B H)
    → SlicesAt text spans S (Ok part) → (r : Result (StoreState B H) Reason) → Copies part.store r → SlicesAt text spans S r
copied_slice text spans S part (U, read, slice, untold) (Ok k) (same, new) =
    (U, read, subst (IsSlice U S) (sym same) slice, new)
copied_slice text spans S part slices (Err w) want = inl want

pub returns-clause-slices : goal.returns-clause-slices
returns-clause-slices g c =
    copied_slice c.args.text.now c.args.spans.now c.args.self.now.store c.in_ok-part.part c.in_ok-part.ensures.slices
    c.deep_copy.result c.deep_copy.ensures
