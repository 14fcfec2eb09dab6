use Rattle.std.proofs.Common.{cond, eqb, map, w8, ap, ◌∙◌, arith}
use Rattle.std.specs.Int.{bit_at}
use Rattle.std.proofs.lemmas.Simd.{bitmask_splat, bit_mask_l, length-chunk}
use Rattle.std.proofs.Math.ListN.{get_or-map}
use lib.Lanes.{chunk}
use Rattle.cedar_lines.proofs.Marks.{MarksTabs-from_bits}
use Rattle.cedar_lines.proofs.lanes.tabs_of_eight.Goals as goal

pub returns : goal.returns
returns c =
    let v = chunk c.args.at 8 c.args.line.now in
    let long = length-chunk c.args.at 8 c.args.line.now c.requires in
    let mask = bitmask_splat w8 eqb v 8 9 long (omega arith) in
    MarksTabs-from_bits c.args.line.now c.args.at 8 _ c.requires
    (λ k. ap (λ m. bit_at m k) mask ∙ bit_mask_l (map (λ x. eqb x 9) v) k ∙ ap (λ b. cond b 1 0) (get_or-map (λ x. eqb x 9) v k 0))
