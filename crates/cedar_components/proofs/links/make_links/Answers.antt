use Rattle.std.proofs.Common.{◌≡◌, ◌<◌, arith, length, get_or, ◌∙◌, refl}
use Rattle.std.proofs.lemmas.Grind.{get_or_default_zero}
use Rattle.cedar_components.proofs.Steps.{linked}
use Rattle.cedar_components.proofs.links.make_links.Goals as goal

pub loop-k-preserved : goal.loop-k-preserved
loop-k-preserved c =
    let i = c.loop-k.invariant in
    let ends = c.args.ends.now in
    let k = c.loop-k.k in
    let k_in : k < length ends = omega arith in
    let a = get_or ends k 0 in
    let a_in = c.requires k k_in in
    let head = c.loop-k.head.items in
    let last = c.index.result.now in
    let in_head : a < length head = omega (arith, i.head_len) in
    let read : last ≡ get_or head a 0 = c.index.ensures ∙ get_or_default_zero head a last in_head in
    rw (c.in_ok-push.ensures.items, read) (linked ends k head c.loop-k.link.items c.args.n i k_in a refl a_in)
