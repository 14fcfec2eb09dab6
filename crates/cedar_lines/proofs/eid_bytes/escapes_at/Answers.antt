use Rattle.std.proofs.Common.{ltb, cond, bit_or, refl, arith}
use Rattle.std.proofs.lemmas.Simd.{zip2_of_maps, zip2_splat, splat_is_map, length-chunk}
use lib.Lanes.{chunk}
use Rattle.std.proofs.Common.{ℕ}
use Rattle.cedar_lines.proofs.EscapeBytes.{own_escape-from_bit}
use Rattle.cedar_lines.proofs.eid_bytes.escapes_at.Goals as goal

pub returns : goal.returns
returns c =
    let v = chunk c.args.at 8 c.args.text.now in
    let long = length-chunk c.args.at 8 c.args.text.now c.requires in
    own_escape-from_bit c.args.text.now c.args.at 8 _ c.requires (omega arith) c.type_inv.text _
    (zip2_of_maps bit_or _ _ v
    (zip2_of_maps bit_or _ _ v
    (zip2_of_maps (λ a b. cond (ltb a b) 255 0) _ _ v (splat_is_map v 8 _ long) (zip2_splat {Y = ℕ} _ v 8 _ long))
    (zip2_of_maps bit_or _ _ v (zip2_splat {Y = ℕ} _ v 8 _ long) (zip2_splat {Y = ℕ} _ v 8 _ long)))
    (zip2_splat {Y = ℕ} _ v 8 _ long)) refl
