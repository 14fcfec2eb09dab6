use Rattle.std.proofs.Common.{subst, IfOk}
use Rattle.std.proofs.lemmas.Result.{on_ok_weaker}
use Rattle.cedar_entity_maps.specs.Plain.{StoreView, IsPlainStore}
use Rattle.cedar_entity_maps.specs.InputStore.{InputStore}
use Rattle.cedar_slice.specs.Slices.{IsPlainSlice}
use Rattle.cedar_entity_lines.specs.Holding.{StoreAndWaiting}
use Rattle.cedar_entity_lines.proofs.Steps.{slice_takes}
use Rattle.cedar_entity_lines.proofs.machine.LineStore.slice.Goals as goal

pub returns : goal.returns
returns g c =
    let plain =
    subst (λ (m : StoreAndWaiting). IfOk c.slice-given.result (λ (S : StoreView). (W : InputStore)
    → IsPlainStore W m.store → IsPlainSlice W c.deref.result.now S)) c.self.view_is
    c.slice-given.ensures.plain in
    on_ok_weaker c.store_and_report.result
    (λ k s h. slice_takes c.args.self.now c.store_and_report.new.self s c.args.uids.items c.slice-given.result
    c.args.out.now.items c.store_and_report.new.out.items h
    c.store_and_report.ensures.waiting
    (subst (λ us. IfOk c.slice-given.result (λ (S : StoreView). (W : InputStore) → IsPlainStore W c.args.self.now.store
    → IsPlainSlice W us S)) c.deref.ensures.value plain)
    c.slice-given.ensures.err k)
    c.store_and_report.ensures.tells
