use Rattle.std.proofs.Common.{◌+◌, ◌≤◌, ◌∙◌, sym, subst, ap, length, suc, arith}
use Rattle.std.specs.Option.{option_copied}
use Rattle.cedar_store.specs.laws.FirstLine.{lines_left}
use Rattle.cedar_store.specs.Output.{start, IsOutput}
use Rattle.cedar_store.proofs.EachLine.{Continues, line_taken, line_refused, lines_end, bytes_left, bytes_behind, none_left}
use Rattle.cedar_store.proofs.program.answer.Goals as goal

pub loop-left-init : goal.loop-left-init
loop-left-init g c = (start, c.with_hasher-session.ensures, λ w r. rw c.new-out.ensures.items r, omega arith)

pub returns-then-not-branch : goal.returns-then-not-branch
returns-then-not-branch g c =
    let i = c.loop-left.invariant in
    let Q = IsOutput c.args.input.now in
    let n = c.loop-left.number + 1 in
    let old = c.loop-left.out.items in
    let new = c.apply_fields_of.new.out.items in
    let line = c.first_line.result.0.now in
    let behind = lines_left (option_copied c.first_line.result.1) in
    let known = rw c.if-not-branch.true at c.in_ok-apply_fields_of.ensures in
    subst (λ o. Q (record { bytes = o; status = 2 })) (sym c.in_ok-push_not_command.ensures)
    (line_refused Q n i.0 c.apply_fields_of.new.self old new line behind (known i.0 i.1)
    (subst (λ ls. Continues Q n i.0 ls old)
    (ap (λ o. lines_left (option_copied o)) c.in-Some.is ∙ c.first_line.ensures.lines) i.2))

pub loop-left-preserved : goal.loop-left-preserved
loop-left-preserved g c =
    let i = c.loop-left.invariant in
    let Q = IsOutput c.args.input.now in
    let n = c.loop-left.number + 1 in
    let old = c.loop-left.out.items in
    let new = c.apply_fields_of.new.out.items in
    let line = c.first_line.result.0.now in
    let behind = lines_left (option_copied c.first_line.result.1) in
    let known = rw c.if-not-branch.false at c.in_ok-apply_fields_of.ensures in
    let taken = line_taken Q n i.0 c.apply_fields_of.new.self old new line behind (known i.0 i.1)
    (subst (λ ls. Continues Q n i.0 ls old)
    (ap (λ o. lines_left (option_copied o)) c.in-Some.is ∙ c.first_line.ensures.lines) i.2) in
    let left : bytes_left (option_copied c.first_line.result.1) ≤ length c.in-Some.rest.now =
    bytes_behind c.first_line.result.1 (length c.in-Some.rest.now) c.first_line.ensures.shorter in
    let bound : c.loop-left.number + suc (length c.in-Some.rest.now) ≤ suc (length c.args.input.now) =
    subst (λ o. c.loop-left.number + bytes_left (option_copied o) ≤ suc (length c.args.input.now)) c.in-Some.is i.3 in
    (taken.0, taken.1, taken.2, omega (arith, left, bound))

pub returns : goal.returns
returns g c =
    let i = c.loop-left.invariant in
    let Q = IsOutput c.args.input.now in
    lines_end Q (c.loop-left.number + 1) i.0 c.loop-left.out.items
    (subst (λ ls. Continues Q (c.loop-left.number + 1) i.0 ls c.loop-left.out.items)
    (none_left c.loop-left.left c.in_default.not-Some) i.2)
