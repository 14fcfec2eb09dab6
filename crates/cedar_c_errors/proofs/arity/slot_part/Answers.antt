use Rattle.cedar_c_errors.proofs.Slots.{none_found, one_found}
use Rattle.cedar_c_errors.proofs.arity.slot_part.Goals as goal

pub returns-then-is_empty : goal.returns-then-is_empty
returns-then-is_empty c =
    none_found c.args.place c.args.from c.args.text.now c.in_ok-names.names.now c.after_slot_list.result.now
    c.from_mark-rest.result.now c.in_ok-names.ensures.lookup.0.2 c.after_slot_list.ensures.behind
    c.from_mark-rest.ensures.from c.if-is_empty.ensures

pub returns : goal.returns
returns c =
    one_found c.args.place c.args.from c.args.text.now c.in_ok-names.names.now c.after_slot_list.result.now
    c.from_mark-rest.result.now c.after_slot-behind.result.now c.in_ok-names.ensures.lookup.0.2
    c.after_slot_list.ensures.behind c.from_mark-rest.ensures.from c.if-is_empty.ensures
    c.after_slot_list.ensures.length c.from_mark-rest.ensures.length c.after_slot-behind.ensures.behind
    c.after_slot-behind.ensures.length
