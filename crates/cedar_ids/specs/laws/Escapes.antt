-- An eid that is parsed from a text has that text as its escaped form.
use Rattle.std.proofs.Common.{◌≡◌, ℕ, List, Bool, true, false, ◌&&◌, cond, refl, sym, ap, ◌∙◌, Some, None}
use Rattle.std.specs.Cmp.{first_so, second_so}
use Rattle.std.specs.Str.{bytes_eq}
use Rattle.std.proofs.lemmas.Slice.Eq.{bytes_eq-Decides}
use Rattle.cedar_ids.specs.Escape.{escaped, is_ascii}
use Rattle.cedar_ids.specs.laws.Decode.{decode, eid_of}

chosen : (b : Bool) (d e : List ℕ) → cond b (Some d) None ≡ Some e → (b ≡ true) × (d ≡ e)
chosen true d e h = (refl, cc)
chosen false d e h = absurd (cc)

-- An eid that is parsed from a text is ASCII and has that text as its escaped form.
pub eid_found : (t e : List ℕ) → eid_of t ≡ Some e → (is_ascii e ≡ true) × (t ≡ escaped e)
unfolding eid_of
eid_found t e h =
    let p = chosen (is_ascii (decode t) && bytes_eq (escaped (decode t)) t) (decode t) e h in
    let a : is_ascii (decode t) ≡ true = first_so (is_ascii (decode t)) (bytes_eq (escaped (decode t)) t) p.0 in
    let s : escaped (decode t) ≡ t = (bytes_eq-Decides (escaped (decode t)) t).0
    (second_so (is_ascii (decode t)) (bytes_eq (escaped (decode t)) t) p.0) in
    (sym (ap is_ascii p.1) ∙ a, sym s ∙ ap escaped p.1)
