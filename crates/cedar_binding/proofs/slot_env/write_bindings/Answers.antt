use Rattle.std.proofs.Common.{◌<◌, length, arith, refl, sym, subst, IsOk}
use Rattle.cedar_terms.specs.declared.slot.SlotId.TheVariants.{Principal}
use Rattle.cedar_binding.specs.Bindings.{bound_to}
use Rattle.cedar_binding.specs.BindingTexts.{bound_before, bound_text, is_ascii_bound}
use Rattle.cedar_binding.specs.Views.{env_of}
use Rattle.cedar_binding.proofs.Texts.{written_more}
use Rattle.cedar_binding.proofs.slot_env.write_bindings.Goals as goal

pub loop-id-preserved : goal.loop-id-preserved
loop-id-preserved g c all plain =
    let e = env_of c.args.values.now in
    let within : c.loop-id.id-index < length c.args.ids.now = omega arith in
    let before = c.loop-id.invariant all plain in
    written_more g.W.Write.write_str_gives (λ s. is_ascii_bound (bound_to e s))
    (λ s. bound_text s (bound_before e s) (bound_to e s)) c.args.ids.now c.loop-id.id-index Principal
    c.args.f.now c.loop-id.f c.write_bound.new.f within all before
    (λ ascii. c.write_bound.ensures ascii before.plain (subst IsOk (sym c.in_ok-write_bound.was) refl))
