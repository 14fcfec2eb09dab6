use Rattle.std.proofs.Common.{ℕ, ltb, cond, bit_and, refl, arith}
use Rattle.std.proofs.lemmas.Simd.{zip2_of_maps, zip2_splat, splat_is_map, length-chunk}
use lib.Lanes.{chunk}
use Rattle.cedar_lines.proofs.BlockBytes.{HasLineBytesIn-from_mask}
use Rattle.cedar_lines.proofs.lanes.has_eight_line_bytes.Goals as goal

pub returns : goal.returns
returns c none =
    let v = chunk c.args.at 8 c.args.line.now in
    let long = length-chunk c.args.at 8 c.args.line.now c.requires in
    HasLineBytesIn-from_mask c.args.line.now c.args.at 8 _ c.requires (omega arith) c.type_inv.line none _
    (zip2_of_maps bit_and _ _ v
    (zip2_of_maps (λ a b. cond (ltb a b) 255 0) _ _ v (splat_is_map v 8 94 long) (zip2_splat {Y = ℕ} _ v 8 32 long))
    (zip2_splat {Y = ℕ} _ v 8 9 long)) refl
