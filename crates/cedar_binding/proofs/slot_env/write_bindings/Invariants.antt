use Rattle.std.proofs.Common.{◌≡◌, take, true}
use Rattle.std.specs.List.{list_all}
use Rattle.std.specs.Fmt.{HasWritten, IsPlainFormatter}
use Rattle.cedar_binding.specs.Bindings.{bound_to}
use Rattle.cedar_binding.specs.BindingTexts.{bindings_text, is_ascii_bound}
use Rattle.cedar_binding.specs.Views.{env_of}
use Rattle.cedar_binding.proofs.slot_env.write_bindings.Given as goal

abbrev pub invariant-loop-id : goal.invariant-loop-id
invariant-loop-id g l =
    list_all (λ s. is_ascii_bound (bound_to (env_of l.values) s)) l.ids ≡ true → IsPlainFormatter l.initial.f →
    HasWritten g.W.Write.write_str_gives l.initial.f (bindings_text (env_of l.values) (take l.id-index l.ids)) l.f
