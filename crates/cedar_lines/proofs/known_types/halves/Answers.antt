use Rattle.std.proofs.Common.{◌≡◌, ◌∙◌, ◌++◌, ◌∷◌, [], ap, sym, lit<, take, Some, append_assoc}
use Rattle.std.proofs.lemmas.List.{take-append-drop}
use Rattle.std.proofs.lemmas.Str.Pattern.{strip_suffix_char}
use Rattle.cedar_lines.proofs.known_types.halves.Goals as goal

pub returns : goal.returns
returns c =
    let front = c.in_ok-strip_suffix.field-0.now in
    let whole : c.args.text.now ≡ front ++ 34 ∷ [] =
    strip_suffix_char 34 c.args.text.now (Some c.in_ok-strip_suffix.field-0) c.in_ok-strip_suffix.ensures.cases
    (lit< tt) in
    let h = c.in_ok-name.ensures.cases in
    let parts : front ≡ c.in_ok-name.name.now ++ 58 ∷ 58 ∷ 34 ∷ c.in_ok-name.eid.now =
    sym (take-append-drop h.0 front) ∙ ap (λ z. take h.0 front ++ z) h.2.1.split
    ∙ (λ i. sym h.3 i ++ 58 ∷ 58 ∷ 34 ∷ sym h.4 i) in
    whole ∙ ap (λ z. z ++ 34 ∷ []) parts
    ∙ append_assoc c.in_ok-name.name.now (58 ∷ 58 ∷ 34 ∷ c.in_ok-name.eid.now) (34 ∷ [])
