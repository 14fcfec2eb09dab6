use Rattle.std.proofs.Common.{◌≡◌, ◌∙◌, ap, sym}
use Rattle.std.specs.Option.{option_map}
use Rattle.cedar_ids.specs.UidOf.{uid_parts}
use Rattle.cedar_terms.specs.SlotTree.{same_slot}
use Rattle.cedar_binding.specs.Bindings.{binds}
use Rattle.cedar_binding.specs.Views.{env_of}
use Rattle.cedar_policy_lines.specs.PolicyCommand.{bound_more}
use Rattle.cedar_policy_lines.specs.laws.SlotFlagLaws.{is_named, named_alone, named_is_bound, named_more, still_bound}
use Rattle.cedar_policy_lines.specs.laws.SlotFlagLaws.{unnamed_is_unbound}
use Rattle.cedar_policy_lines.specs.laws.PolicyReading.{with_binding}
use Rattle.cedar_policy_lines.proofs.Fields.{none_read, unread, bound_again, one_more_read}
use Rattle.cedar_policy_lines.proofs.command.read_bindings.Goals as goal

pub loop-field-preserved : goal.loop-field-preserved
loop-field-preserved c =
    let n = c.loop-field.named in
    let e = env_of c.loop-field.room.values in
    let s = c.in-Some.slot in
    let u = uid_parts c.in-Some.uid in
    let read = sym c.in_ok-slot.ensures ∙ ap (option_map (λ b. (b.0, uid_parts b.1))) c.in-Some.is in
    let new : env_of c.bind.new.values ≡ bound_more e s u = c.in_ok-bind.ensures in
    let more : named_alone c.with-named.result (env_of c.bind.new.values) ≡ bound_more (named_alone n e) s u =
    ap (named_alone c.with-named.result) new ∙ named_more n c.with-named.result e s u c.with-named.ensures in (
      one_more_read c.args.fields.now c.loop-field.field-index _ (named_alone n e) _ _ _ c.loop-field-test.true
          c.loop-field.invariant.0 read (unnamed_is_unbound n e s (sym c.has.ensures ∙ c.if-has.false)) more,
      λ r h. ap (λ x. binds x r) new ∙ still_bound (same_slot r s) (is_named n r) (e r) u
          (sym (c.with-named.ensures r) ∙ h) (c.loop-field.invariant.1 r),
    )

pub returns-in_default : goal.returns-in_default
returns-in_default c =
    let d = named_alone c.loop-field.named (env_of c.loop-field.room.values) in
    none_read c.args.fields.now c.loop-field.field-index _ d _ c.loop-field-test.true c.loop-field.invariant.0
    (ap (with_binding d) (unread _ c.in_ok-slot.field-0 _ c.in_ok-slot.ensures c.in_default.is))

pub returns-then-has : goal.returns-then-has
returns-then-has c =
    let n = c.loop-field.named in
    let e = env_of c.loop-field.room.values in
    let read = sym c.in_ok-slot.ensures ∙ ap (option_map (λ b. (b.0, uid_parts b.1))) c.in-Some.is in
    let named = sym c.has.ensures ∙ c.if-has.true in
    none_read c.args.fields.now c.loop-field.field-index _ (named_alone n e) _ c.loop-field-test.true
    c.loop-field.invariant.0
    (bound_again (named_alone n e) _ _ read
    (named_is_bound n e c.in-Some.slot named (c.loop-field.invariant.1 c.in-Some.slot named)))
