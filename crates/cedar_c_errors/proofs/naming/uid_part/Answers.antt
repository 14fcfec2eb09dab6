use Rattle.cedar_c_errors.proofs.Finding.{none_found, one_found}
use Rattle.cedar_c_errors.proofs.naming.uid_part.Goals as goal

pub returns-then-is_empty : goal.returns-then-is_empty
returns-then-is_empty c =
    none_found c.args.place c.args.from c.args.text.now c.in_ok-names.names.now c.after_uid_list-rest.result.now
    c.in_ok-names.ensures.lookup.0.2 c.after_uid_list-rest.ensures.behind c.if-is_empty.ensures

pub returns : goal.returns
returns c =
    one_found c.args.place c.args.from c.args.text.now c.in_ok-names.names.now c.after_uid_list-rest.result.now
    c.after_uid_list-behind.result.now c.in_ok-names.ensures.lookup.0.2 c.after_uid_list-rest.ensures.behind
    c.if-is_empty.ensures c.after_uid_list-rest.ensures.length c.after_uid_list-behind.ensures.behind
    c.after_uid_list-behind.ensures.length
