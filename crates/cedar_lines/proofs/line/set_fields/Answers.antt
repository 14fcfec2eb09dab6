use Rattle.std.proofs.Common.{ℕ, ◌++◌, ◌∷◌, [], List, length, map, ap, sym, ◌∙◌, arith, Bor}
use Rattle.std.proofs.lemmas.List.{map-append}
use Rattle.cedar_lines.specs.laws.Fields.{HasNoTabIn, last_field}
use Rattle.cedar_lines.proofs.line.set_fields.Goals as goal

pub returns : goal.returns
returns c =
    let line : List ℕ = c.args.line.now in
    let begun : HasNoTabIn line c.loop-seen.start (length line) =
    λ k low high. c.loop-seen.invariant.none k low (omega arith) in
    let field = last_field line c.loop-seen.start (omega arith) begun in
    let before = map {A = Bor (List ℕ)} {B = List ℕ} (λ f. f.now) c.loop-seen.fields.items in
    ap (map {A = Bor (List ℕ)} {B = List ℕ} (λ f. f.now)) c.in_ok-push.ensures.items
    ∙ map-append {A = Bor (List ℕ)} {B = List ℕ} (λ f. f.now) c.loop-seen.fields.items (c.range_from.result ∷ [])
    ∙ ap (λ f. before ++ f ∷ []) c.range_from.ensures.value
    ∙ ap (λ fs. before ++ fs) (sym field)
    ∙ c.loop-seen.invariant.cut
